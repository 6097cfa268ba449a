-- The numbers below a bound of which a test holds: how many there are, and that equal tests pick the same.
use mathlib.Core.Path.{◌≡◌, refl, ◌∙◌, ap₂}
use mathlib.Core.Bool.{Bool, true, false, cond}
use mathlib.Core.List.{List, [], ◌∷◌, ◌++◌}
use Prim.Native.Nat.{ℕ, zero, suc, ◌+◌, ◌≤◌, ◌<◌}
use native.Mathlib.Omega.{arith}
use lib.ListN.{length, length-append}
use Rattle.laws.specs.Counting.{count, those}
use Rattle.laws.proofs.Tests.{same_cases, Same, is, isnt}

pub count-le : (n : ℕ) (p : ℕ → Bool) → count n p ≤ n
unfolding count
count-le zero p = omega arith
count-le (suc n) p = go (p n) (count-le n p)
  where
    go : (b : Bool) → count n p ≤ n → cond b (suc (count n p)) (count n p) ≤ suc n
    go true h = omega arith
    go false h = omega arith

-- none where the test holds of none
pub count_none : (n : ℕ) (t : ℕ → Bool) → ((r : ℕ) → r < n → t r ≡ false) → count n t ≡ 0
unfolding count
count_none zero t h = refl
count_none (suc n) t h = rw (h n (omega arith)) (count_none n t (λ r k. h r (omega arith)))

pub count-zero : (n : ℕ) (t : ℕ → Bool) → count n t ≡ 0 → (r : ℕ) → r < n → t r ≡ false
unfolding count
count-zero zero t e r h = absurd (omega arith)
count-zero (suc n) t e r h = go (t n) refl e (same_cases r n) (λ k. count-zero n t k r)
  where
    go : (b : Bool) → t n ≡ b → cond b (suc (count n t)) (count n t) ≡ 0 → Same r n → (count n t ≡ 0 → r < n → t r ≡ false) → t r ≡ false
    go true q k d ih = absurd (omega arith)
    go false q k (is d _ _) ih = rw d q
    go false q k (isnt d _ _) ih = ih k (omega (arith, d))

pub those-length : (n : ℕ) (p : ℕ → Bool) → length (those n p) ≡ count n p
unfolding those count
those-length zero p = refl
those-length (suc n) p = length-append (those n p) (cond (p n) (n ∷ []) []) ∙ go (p n) (those-length n p)
  where
    go : (b : Bool) → length (those n p) ≡ count n p → length (those n p) + length (cond {A = List ℕ} b (n ∷ []) []) ≡ cond b (suc (count n p)) (count n p)
    go true e = omega arith
    go false e = omega arith

pub those_same : (n : ℕ) {p q : ℕ → Bool} → ((r : ℕ) → r < n → p r ≡ q r) → those n p ≡ those n q
unfolding those
those_same zero h = refl
those_same (suc n) h =
    ap₂ (λ (l : List ℕ) (b : Bool). l ++ cond b (n ∷ []) []) (those_same n (λ r lt. h r (omega arith))) (h n (omega arith))

pub those-none : (n : ℕ) {p : ℕ → Bool} → ((r : ℕ) → p r ≡ false) → those n p ≡ []
unfolding those
those-none zero h = refl
those-none (suc n) h = ap₂ (λ (l : List ℕ) (b : Bool). l ++ cond b (n ∷ []) []) (those-none n h) (h n)
