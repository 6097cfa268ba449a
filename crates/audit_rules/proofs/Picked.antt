-- Accepted locks of a record by picked transactions: what a change of the pick does.
use mathlib.Core.Path.{◌≡◌, refl, sym, ap, ◌∙◌, fun_ext}
use mathlib.Core.Bool.{Bool, true, false, ◌&&◌, ◌||◌}
use mathlib.Core.List.{List, [], ◌∷◌}
use mathlib.Core.Logic.{◌≢◌}
use Prim.Native.Nat.{ℕ}
use Rattle.laws.specs.Tests.{same}
use Rattle.laws.proofs.Tests.{same_cases, Same, is, isnt}
use Rattle.rules.specs.State.{Mode}
use Rattle.rules.specs.Locks.{mode_for}
use Rattle.audit_rules.specs.Plain.{Grant, locks_of}

split_or : (q p s u v : Bool) → (((q || p) && s) || (u || v)) ≡ (((q && s) || u) || ((p && s) || v))
split_or true p true u v = refl
split_or true true false u v = refl
split_or true false false u v = refl
split_or false true true true v = refl
split_or false true true false v = refl
split_or false true false u v = refl
split_or false false s u v = refl

module _ (test : Mode → Bool) where
  pub locks_of-or : (q p : ℕ → Bool) (r : ℕ) (gs : List Grant) → locks_of test (λ i. q i || p i) r gs ≡ (locks_of test q r gs || locks_of test p r gs)
  unfolding locks_of
  locks_of-or q p r [] = refl
  locks_of-or q p r (g ∷ gs) = rw (locks_of-or q p r gs)
      (split_or (q g.transaction) (p g.transaction) (same g.rec r && test (mode_for g.access)) (locks_of test q r gs) (locks_of test p r gs))

  pub locks_of-none : (r : ℕ) (gs : List Grant) → locks_of test (λ i. false) r gs ≡ false
  unfolding locks_of
  locks_of-none r [] = refl
  locks_of-none r (g ∷ gs) = locks_of-none r gs

  -- a change of the pick, transaction by transaction
  pub locks_of-pick : {p q : ℕ → Bool} (r : ℕ) (gs : List Grant) → ((i : ℕ) → p i ≡ q i) → locks_of test p r gs ≡ locks_of test q r gs
  locks_of-pick r gs h = ap (λ f. locks_of test f r gs) (fun_ext h)

  at_fresh : (i k : ℕ) (p q : ℕ → Bool) → ((j : ℕ) → j ≢ i → p j ≡ q j) → (same k i || p k) ≡ (same k i || q k)
  at_fresh i k p q h = go (same_cases k i)
    where
      go : Same k i → (same k i || p k) ≡ (same k i || q k)
      go (is e s _) = rw s
      go (isnt e s _) = rw (s, h k e)

  -- a change of the pick at a transaction that locked nothing
  pub locks_of-fresh : (p q : ℕ → Bool) (i r : ℕ) (gs : List Grant) → locks_of test (λ k. same k i) r gs ≡ false → ((j : ℕ) → j ≢ i → p j ≡ q j)
      → locks_of test p r gs ≡ locks_of test q r gs
  locks_of-fresh p q i r gs e h =
      sym (locks_of-or (λ k. same k i) p r gs ∙ rw e) ∙ locks_of-pick r gs (λ k. at_fresh i k p q h) ∙ locks_of-or (λ k. same k i) q r gs ∙ rw e
