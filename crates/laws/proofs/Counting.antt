-- What it says of the numbers below a bound that all pass a test, that none does, and which is the lowest that does.
use mathlib.Core.Path.{◌≡◌, refl}
use mathlib.Core.Bool.{Bool, true, false, not, cond}
use mathlib.Core.Logic.{◌⊎◌, inl, inr}
use Prim.Native.Nat.{ℕ, zero, suc, ◌+◌, ◌<◌, ◌≤◌}
use native.Mathlib.Omega.{arith}
use Rattle.laws.specs.Counting.{all, any, lowest, lowest_from}
use Rattle.laws.proofs.Tests.{same_cases, Same, is, isnt, Is, is_cases, yes', no', or_false_left, or_false_right}
use Rattle.laws.proofs.Booleans.{not-true, not-false, and_left, and_right, clash}

-- below the next number: at this one, or below it
pub last_or_below : {u n : ℕ} → u < suc n → (u ≡ n) ⊎ (u < n)
last_or_below {u} {n} h = go (same_cases u n)
  where
    go : Same u n → (u ≡ n) ⊎ (u < n)
    go (is e s _) = inl e
    go (isnt e s _) = inr (omega arith)

-- none passes: not this one
pub any_false : (n : ℕ) (p : ℕ → Bool) (u : ℕ) → any n p ≡ false → u < n → p u ≡ false
unfolding any
any_false zero p u e h = absurd (omega arith)
any_false (suc n) p u e h = go (last_or_below h) (λ q. any_false n p u (or_false_left (any n p) (p n) e) q)
  where
    go : (u ≡ n) ⊎ (u < n) → (u < n → p u ≡ false) → p u ≡ false
    go (inl q) ih = rw q (or_false_right (any n p) (p n) e)
    go (inr q) ih = ih q

-- all pass: this one too
pub all_true_lem : (n : ℕ) (p : ℕ → Bool) (u : ℕ) → all n p ≡ true → u < n → p u ≡ true
unfolding all
all_true_lem zero p u e h = absurd (omega arith)
all_true_lem (suc n) p u e h = go (last_or_below h) (λ q. all_true_lem n p u (and_left (all n p) (p n) e) q)
  where
    go : (u ≡ n) ⊎ (u < n) → (u < n → p u ≡ true) → p u ≡ true
    go (inl q) ih = rw q (and_right (all n p) (p n) e)
    go (inr q) ih = ih q

-- each passes: all do
pub all_of : (n : ℕ) (p : ℕ → Bool) → ((u : ℕ) → u < n → p u ≡ true) → all n p ≡ true
unfolding all
all_of zero p h = refl
all_of (suc n) p h = rw (all_of n p (λ u k. h u (omega arith)), h n (omega arith))

-- each fails: none passes
pub any_of : (n : ℕ) (p : ℕ → Bool) → ((u : ℕ) → u < n → p u ≡ false) → any n p ≡ false
unfolding any
any_of zero p h = refl
any_of (suc n) p h = rw (any_of n p (λ u k. h u (omega arith)), h n (omega arith))

-- the lowest is one that passes, and those before it fail; or all fail
pub data Lowest (n : ℕ) (p : ℕ → Bool) (i m : ℕ) : Type 0 where
  found : p m ≡ true → m < i + n → ((u : ℕ) → i ≤ u → u < m → p u ≡ false) → Lowest n p i m
  missing : m ≡ i + n → ((u : ℕ) → i ≤ u → u < i + n → p u ≡ false) → Lowest n p i m

lowest_from_lem : (n : ℕ) (p : ℕ → Bool) (i : ℕ) → Lowest n p i (lowest_from n p i)
unfolding lowest_from
lowest_from_lem zero p i = missing (omega arith) (λ u a b. absurd (omega arith))
lowest_from_lem (suc n) p i = go (is_cases (p i)) (lowest_from_lem n p (suc i))
  where
    first : (u : ℕ) → i ≤ u → p i ≡ false → (suc i ≤ u → p u ≡ false) → p u ≡ false
    first u a e k = go' (same_cases u i)
      where
        go' : Same u i → p u ≡ false
        go' (is q _ _) = rw q e
        go' (isnt q _ _) = k (omega arith)

    go : Is (p i) → Lowest n p (suc i) (lowest_from n p (suc i)) → Lowest (suc n) p i (cond (p i) i (lowest_from n p (suc i)))
    go (yes' e) d = rw e (found e (omega arith) (λ u a b. absurd (omega arith)))
    go (no' e) (found q h k) = rw e (found q (omega arith) (λ u a b. first u a e (λ c. k u c b)))
    go (no' e) (missing q k) = rw e (missing (omega arith) (λ u a b. first u a e (λ c. k u c (omega arith))))

pub lowest_is : (n : ℕ) (p : ℕ → Bool) → Lowest n p 0 (lowest n p)
unfolding lowest
lowest_is n p = lowest_from_lem n p 0

-- where not all pass, the lowest that fails
pub lowest_fails : (n : ℕ) (p : ℕ → Bool) → all n p ≡ false → (p (lowest n (λ u. not (p u))) ≡ false) × (lowest n (λ u. not (p u)) < n)
lowest_fails n p e = go (lowest_is n (λ u. not (p u)))
  where
    go : Lowest n (λ u. not (p u)) 0 (lowest n (λ u. not (p u))) → (p (lowest n (λ u. not (p u))) ≡ false) × (lowest n (λ u. not (p u)) < n)
    go (found q h k) = (not-true _ q, omega arith)
    go (missing q k) = clash (all_of n p (λ u h. not-false (p u) (k u (omega arith) (omega arith)))) e
