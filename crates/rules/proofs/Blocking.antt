-- A lock is grantable exactly if nobody blocks it: who blocks whom is the rule by which locks are granted, told one by one. So who waits for a lock
-- that is grantable, or that it holds already as it asks, points to nobody.
use mathlib.Core.Path.{◌≡◌, refl, sym, ◌∙◌, ap}
use mathlib.Core.Bool.{Bool, true, false, not, ◌&&◌, ◌||◌, and-false}
use Prim.Native.Nat.{ℕ, zero, suc, ◌<◌}
use Rattle.laws.specs.Tests.{same}
use Rattle.laws.specs.Counting.{any, all}
use Rattle.laws.proofs.Booleans.{not-true}
use Rattle.laws.proofs.Counting.{any_false, any_of}
use Rattle.rules.specs.Geometry.{transactions}
use Rattle.rules.specs.Event.{Access}
use Rattle.rules.specs.State.{State, line_of, mem}
use Rattle.rules.specs.Locks.{bars, holders_allow, retainers_allow, grantable}
use Rattle.rules.specs.Form.{Form}
use Rattle.rules.specs.Step.{StateOf}
use Rattle.rules.specs.Sound.{Sound}
use Rattle.rules.specs.Waiting.{blocks, waits_for}
use Rattle.rules.proofs.Grades.{allows}
use Rattle.rules.proofs.Again.{grants_again}

both : (a b p q p' q' : Bool) → ((a && (not p || q)) && (b && (not p' || q'))) ≡ ((a && b) && not ((not q && p) || (not q' && p')))
both false b p q p' q' = refl
both true false p q p' q' = and-false (not p || q)
both true true true true true true = refl
both true true true true true false = refl
both true true true true false true = refl
both true true true true false false = refl
both true true true false p' q' = refl
both true true false true true true = refl
both true true false true true false = refl
both true true false true false true = refl
both true true false true false false = refl
both true true false false true true = refl
both true true false false true false = refl
both true true false false false true = refl
both true true false false false false = refl

not-or : (x y : Bool) → (not x && not y) ≡ not (x || y)
not-or true y = refl
not-or false y = refl

all_any : (n : ℕ) (p q p' q' : ℕ → Bool) → (all n (λ u. not (p u) || q u) && all n (λ u. not (p' u) || q' u)) ≡ not (any n (λ u. (not (q u) && p u) || (not (q' u) && p' u)))
unfolding all any
all_any zero p q p' q' = refl
all_any (suc n) p q p' q' =
    both (all n (λ u. not (p u) || q u)) (all n (λ u. not (p' u) || q' u)) (p n) (q n) (p' n) (q' n)
    ∙ ap (λ (x : Bool). x && not ((not (q n) && p n) || (not (q' n) && p' n))) (all_any n p q p' q')
    ∙ not-or (any n (λ u. (not (q u) && p u) || (not (q' u) && p' u))) ((not (q n) && p n) || (not (q' n) && p' n))

and_none : (a b : Bool) → a ≡ false → (a && b) ≡ false
and_none a b e = rw e

module _ {S : Type 0} (s : State S) (a : Access) (t r : ℕ) where
  pub not_blocked : grantable a s.held s.retained (line_of s.bearer t) t r ≡ not (any transactions (blocks s a t r))
  unfolding grantable holders_allow retainers_allow blocks
  not_blocked = all_any transactions (λ u. bars a (s.held r u)) (λ u. same u t) (λ u. bars a (s.retained r u)) (λ u. mem u (line_of s.bearer t))

  pub grantable_unblocked : grantable a s.held s.retained (line_of s.bearer t) t r ≡ true → (b : ℕ) → b < transactions → blocks s a t r b ≡ false
  grantable_unblocked g b l = any_false transactions (blocks s a t r) b (not-true (any transactions (blocks s a t r)) (sym not_blocked ∙ g)) l

  -- a row that is grantable points to nobody
  pub grantable_points_nowhere : grantable a s.held s.retained (line_of s.bearer t) t r ≡ true → (u : ℕ) → waits_for s a t r u ≡ false
  unfolding waits_for
  grantable_points_nowhere g u = any_of transactions _ (λ b l. and_none (blocks s a t r b) _ (grantable_unblocked g b l))

-- nor does one whose lock is held already, in the mode that is asked for or a stronger one
pub held_points_nowhere : {f : Form} {s : StateOf f} → Sound f s → (t r : ℕ) (a : Access) → allows a (s.held r t) ≡ true → (u : ℕ) → waits_for s a t r u ≡ false
held_points_nowhere {f} {s} S t r a held = grantable_points_nowhere s a t r (grants_again S t r a held)
