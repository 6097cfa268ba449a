-- A transaction joins the set at a place, hands its place over, and has the lock of a record: the two sets then.
use mathlib.Core.Path.{◌≡◌, sym, ap, ◌∙◌, fun_ext}
use mathlib.Core.Bool.{Bool, true, false, not, cond, ◌&&◌, ◌||◌, or-false, and-true, and-false}
use mathlib.Core.List.{List}
use Prim.Native.Nat.{ℕ, ◌+◌, ◌*◌, ◌<◌}
use native.Mathlib.Omega.{arith}
use lib.ListN.{length, set}
use Rattle.laws.specs.Tests.{same}
use Rattle.laws.specs.Functions.{updated}
use Rattle.laws.specs.Bits.{bits}
use Rattle.laws.proofs.Updated.{updated_self}
use Rattle.laws.proofs.Tests.{same_cases, Same, is, isnt, same_refl, ne_false}
use Rattle.rules.specs.Event.{Access, to_write, to_read}
use Rattle.leaf_set.specs.Sets.{sets}
use Rattle.leaf_set.proofs.Sets.{sets-set}
use Rattle.state_array.specs.View.{Owners, any_mode, write_mode}
use Rattle.state_array.specs.Changes.{joined, joined_for, replacing, handed}

pub sets_joined : (l : List ℕ) (t r v : ℕ) → r < length l → bits v ≡ (λ k. sets l r k || same k t) → sets (set l r v) ≡ joined t r (sets l)
unfolding joined updated
sets_joined l t r v h e = sets-set l r v h ∙ fun_ext (λ q. fun_ext (λ j. go q j (same_cases q r)))
  where
    go : (q j : ℕ) → Same q r → cond (same q r) (bits v) (sets l q) j ≡ (sets l q j || (same q r && same j t))
    go q j (is f s _) = rw (s, e, f)
    go q j (isnt f s _) = rw (s, or-false)

-- it was there already
pub joined_self : (l : List ℕ) (t r : ℕ) → sets l r t ≡ true → sets l ≡ joined t r (sets l)
unfolding joined
joined_self l t r e = fun_ext (λ q. fun_ext (λ j. go q j (same_cases q r) (same_cases j t)))
  where
    go : (q j : ℕ) → Same q r → Same j t → sets l q j ≡ (sets l q j || (same q r && same j t))
    go q j (is f s _) (is g u _) = rw (s, u, f, g, e)
    go q j (is f s _) (isnt g u _) = rw (s, u, or-false)
    go q j (isnt f s _) d = rw (s, or-false)

-- p takes the place of t in the set at r; where t isn't there, nothing changes
pub sets_handed : (l : List ℕ) (t p r v : ℕ) → r < length l → sets l r t ≡ true → bits v ≡ (λ k. (not (same k t) && sets l r k) || same k p)
    → sets (set l r v) ≡ updated r (handed t p (sets l) r) (sets l)
unfolding handed replacing
sets_handed l t p r v h e q =
    sets-set l r v h
    ∙ ap {B = Owners} (λ (s : ℕ → Bool). updated r s (sets l)) (q ∙ fun_ext (λ k. ap (λ (b : Bool). (not (same k t) && sets l r k) || b) (sym (ap (λ (b : Bool). same k p && b) e ∙ and-true (same k p)))))

pub handed-none : (o : Owners) (t p r : ℕ) → o r t ≡ false → o ≡ updated r (handed t p o r) o
unfolding handed replacing
handed-none o t p r e = updated_self r o ∙ ap {B = Owners} (λ (s : ℕ → Bool). updated r s o) (fun_ext (λ k. go k (same_cases k t)))
  where
    go : (k : ℕ) → Same k t → o r k ≡ ((not (same k t) && o r k) || (same k p && o r t))
    go k (is f s _) = rw (s, f, e, and-false)
    go k (isnt f s _) = rw (s, e, and-false) (sym (or-false (o r k)))

-- the places of two records are the same only where the records are
same-any : (q r : ℕ) → same (2 * q) (2 * r) ≡ same q r
same-any q r = go (same_cases q r)
  where
    go : Same q r → same (2 * q) (2 * r) ≡ same q r
    go (is e s _) = rw (s, e) (same_refl (2 * r))
    go (isnt e s _) = rw s (ne_false (2 * q) (2 * r) (λ h. e (omega arith)))

same_write : (q r : ℕ) → same (2 * q + 1) (2 * r + 1) ≡ same q r
same_write q r = go (same_cases q r)
  where
    go : Same q r → same (2 * q + 1) (2 * r + 1) ≡ same q r
    go (is e s _) = rw (s, e) (same_refl (2 * r + 1))
    go (isnt e s _) = rw s (ne_false (2 * q + 1) (2 * r + 1) (λ h. e (omega arith)))

any-apart : (q r : ℕ) → same (2 * q) (2 * r + 1) ≡ false
any-apart q r = ne_false (2 * q) (2 * r + 1) (λ h. absurd (omega arith))

write_apart : (q r : ℕ) → same (2 * q + 1) (2 * r) ≡ false
write_apart q r = ne_false (2 * q + 1) (2 * r) (λ h. absurd (omega arith))

-- what is asked for is write mode
unfoldable pub raises : Access → Bool
raises to_write = true
raises to_read = false

pub joined-any : (a : Access) (t r : ℕ) (o : Owners) (q j : ℕ) → any_mode (joined_for a t r o) q j ≡ (any_mode o q j || (same q r && same j t))
unfolding any_mode joined_for joined
joined-any to_write t r o q j = rw (any-apart q r, same-any q r, or-false)
joined-any to_read t r o q j = rw (same-any q r)

pub joined_write : (a : Access) (t r : ℕ) (o : Owners) (q j : ℕ) → write_mode (joined_for a t r o) q j ≡ (write_mode o q j || (raises a && (same q r && same j t)))
unfolding write_mode joined_for joined raises
joined_write to_write t r o q j = rw (write_apart q r, same_write q r, or-false)
joined_write to_read t r o q j = rw (write_apart q r)
