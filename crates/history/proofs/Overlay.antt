-- Writes laid over a page: what a change of the picked transactions does.
use mathlib.Core.Path.{◌≡◌, refl, sym, ap, ◌∙◌, fun_ext}
use mathlib.Core.Bool.{Bool, true, false, ◌&&◌, ◌||◌, true≢false}
use mathlib.Core.List.{List, [], ◌∷◌}
use mathlib.Core.Logic.{◌≢◌}
use Prim.Native.Nat.{ℕ}
use Rattle.laws.specs.Tests.{same}
use Rattle.laws.proofs.Tests.{same_cases, Same, is, isnt, or_false_left, or_false_right}
use Rattle.rules.specs.Store.{Page}
use Rattle.history.specs.History.{Write, writes_to, overlaid}

drop-or : (q p s : Bool) → (q && s) ≡ false → ((q || p) && s) ≡ (p && s)
drop-or true p true e = absurd (true≢false e)
drop-or true true false e = refl
drop-or true false false e = refl
drop-or false p s e = refl

split_or : (q p s u v : Bool) → (((q || p) && s) || (u || v)) ≡ (((q && s) || u) || ((p && s) || v))
split_or true p true u v = refl
split_or true true false u v = refl
split_or true false false u v = refl
split_or false true true true v = refl
split_or false true true false v = refl
split_or false true false u v = refl
split_or false false s u v = refl

pub overlaid-or : (q p : ℕ → Bool) (r : ℕ) (ws : List Write) (b : Page) → writes_to q r ws ≡ false → overlaid (λ i. q i || p i) r ws b ≡ overlaid p r ws b
unfolding writes_to overlaid
overlaid-or q p r [] b e = refl
overlaid-or q p r (w ∷ ws) b e =
    rw (
      overlaid-or q p r ws b (or_false_right (q w.transaction && same w.rec r) (writes_to q r ws) e),
      drop-or (q w.transaction) (p w.transaction) (same w.rec r) (or_false_left (q w.transaction && same w.rec r) (writes_to q r ws) e),
    )

pub writes_to-or : (q p : ℕ → Bool) (r : ℕ) (ws : List Write) → writes_to (λ i. q i || p i) r ws ≡ (writes_to q r ws || writes_to p r ws)
unfolding writes_to overlaid
writes_to-or q p r [] = refl
writes_to-or q p r (w ∷ ws) = rw (writes_to-or q p r ws) (split_or (q w.transaction) (p w.transaction) (same w.rec r) (writes_to q r ws) (writes_to p r ws))

pub writes_to-none : (r : ℕ) (ws : List Write) → writes_to (λ i. false) r ws ≡ false
unfolding writes_to overlaid
writes_to-none r [] = refl
writes_to-none r (w ∷ ws) = writes_to-none r ws

-- a change of the pick, transaction by transaction
pub overlaid_pick : {p q : ℕ → Bool} (r : ℕ) (ws : List Write) (b : Page) → ((i : ℕ) → p i ≡ q i) → overlaid p r ws b ≡ overlaid q r ws b
overlaid_pick r ws b h = ap (λ f. overlaid f r ws b) (fun_ext h)

pub writes_to-pick : {p q : ℕ → Bool} (r : ℕ) (ws : List Write) → ((i : ℕ) → p i ≡ q i) → writes_to p r ws ≡ writes_to q r ws
writes_to-pick r ws h = ap (λ f. writes_to f r ws) (fun_ext h)

-- a change of the pick at a transaction that wrote nothing
at_fresh : (i k : ℕ) (p q : ℕ → Bool) → ((j : ℕ) → j ≢ i → p j ≡ q j) → (same k i || p k) ≡ (same k i || q k)
at_fresh i k p q h = go (same_cases k i)
  where
    go : Same k i → (same k i || p k) ≡ (same k i || q k)
    go (is e s _) = rw s
    go (isnt e s _) = rw (s, h k e)

pub overlaid_fresh : (p q : ℕ → Bool) (i r : ℕ) (ws : List Write) (b : Page) → writes_to (λ k. same k i) r ws ≡ false → ((j : ℕ) → j ≢ i → p j ≡ q j)
    → overlaid p r ws b ≡ overlaid q r ws b
overlaid_fresh p q i r ws b e h =
    sym (overlaid-or (λ k. same k i) p r ws b e) ∙ overlaid_pick r ws b (λ k. at_fresh i k p q h) ∙ overlaid-or (λ k. same k i) q r ws b e

pub writes_to-fresh : (p q : ℕ → Bool) (i r : ℕ) (ws : List Write) → writes_to (λ k. same k i) r ws ≡ false → ((j : ℕ) → j ≢ i → p j ≡ q j)
    → writes_to p r ws ≡ writes_to q r ws
writes_to-fresh p q i r ws e h =
    sym (writes_to-or (λ k. same k i) p r ws ∙ rw e) ∙ writes_to-pick r ws (λ k. at_fresh i k p q h) ∙ writes_to-or (λ k. same k i) q r ws ∙ rw e
