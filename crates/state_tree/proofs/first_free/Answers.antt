-- The trailing zeros of a word count up to its lowest bit. Bit 24 of this word is set, so the bits above it don't matter; those below are the
-- numbers that aren't live.
use mathlib.Core.Path.{◌≡◌, refl, ap, ap₂, ◌∙◌}
use mathlib.Core.Bool.{Bool, true, not, ◌&&◌, ◌||◌, or-false, and-true}
use Prim.Native.Nat.{ℕ, ◌<◌}
use native.Mathlib.Omega.{arith}
use lib.Count.{count_trailing_zeros, trailing_le}
use Rattle.laws.specs.Tests.{same}
use Rattle.laws.specs.Counting.{all, lowest}
use Rattle.laws.specs.Bits.{bits}
use Rattle.laws.proofs.Tests.{same_refl, ne_false}
use Rattle.laws.proofs.Booleans.{or_right}
use Rattle.laws.proofs.All.{all_at}
use Rattle.laws.proofs.Lowest.{trailing_is, lowest_stop, lowest_agree}
use Rattle.state_tree.proofs.first_free.Goals as goal

-- each bit of this word is set
ones : (k : ℕ) → k < 24 → bits 4294967295 k ≡ true
unfolding all bits same
ones k h = all_at 24 (bits 4294967295) refl k h

free_is : (live m free : ℕ) → bits m ≡ (λ k. not (bits live k) && bits 4294967295 k) → bits free ≡ (λ k. bits m k || same k 24)
    → count_trailing_zeros 32 free ≡ lowest 24 (λ u. not (bits live u))
free_is live m free e f =
    trailing_is 32 free
    ∙ lowest_stop 24 8 (bits free) (ap (λ (s : ℕ → Bool). s 24) f ∙ or_right (bits m 24) (same 24 24) (same_refl 24))
    ∙ lowest_agree 24 (bits free) (λ u. not (bits live u)) (λ u h. ap (λ (s : ℕ → Bool). s u) f ∙ below u h)
  where
    below : (u : ℕ) → u < 24 → (bits m u || same u 24) ≡ not (bits live u)
    below u h =
        ap₂ ◌||◌ (ap (λ (s : ℕ → Bool). s u) e ∙ ap (λ (b : Bool). not (bits live u) && b) (ones u h) ∙ and-true (not (bits live u))) (ne_false u 24 (λ z. absurd (omega arith)))
        ∙ or-false (not (bits live u))

pub overflow_cast-result : goal.overflow_cast-result
overflow_cast-result c = omega (arith, trailing_le 32 c.with-free.result)

pub returns : goal.returns
returns c = free_is c.args.live c.minus.result c.with-free.result c.minus.ensures c.with-free.ensures
