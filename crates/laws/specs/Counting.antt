-- The numbers below a bound of which a test holds: whether all, whether any, how many, which, and the lowest.
use Rattle.std.specs.Prelude.{Bool, true, false, cond, ◌&&◌, ◌||◌, List, [], ◌∷◌, ◌++◌, ℕ, zero, suc}

unfoldable pub all : ℕ → (ℕ → Bool) → Bool
all zero p = true
all (suc n) p = all n p && p n

unfoldable pub any : ℕ → (ℕ → Bool) → Bool
any zero p = false
any (suc n) p = any n p || p n

unfoldable pub count : ℕ → (ℕ → Bool) → ℕ
count zero p = 0
count (suc n) p = cond (p n) (suc (count n p)) (count n p)

-- rising
unfoldable pub those : ℕ → (ℕ → Bool) → List ℕ
those zero p = []
those (suc n) p = those n p ++ cond (p n) (n ∷ []) []

-- of the n numbers from i the lowest, or i + n where there is none
unfoldable pub lowest_from : ℕ → (ℕ → Bool) → ℕ → ℕ
lowest_from zero p i = i
lowest_from (suc n) p i = cond (p i) i (lowest_from n p (suc i))

unfoldable pub lowest : ℕ → (ℕ → Bool) → ℕ
lowest n p = lowest_from n p 0

-- opens the definitions of this module: for what is proved by computing
unfoldable pub open_counting : Unit {0}
unfolding all any count those lowest_from lowest
open_counting = tt
