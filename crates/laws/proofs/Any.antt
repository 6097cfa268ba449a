-- A test of the numbers below a bound that some pass: one that does, one by one, and by an equal test.
use mathlib.Core.Path.{◌≡◌, refl, sym, ap, ap₂, ◌∙◌}
use mathlib.Core.Bool.{Bool, true, false, ◌||◌, or-false}
use native.Mathlib.Numerals.{add-one}
use native.Mathlib.Omega.{arith}
use Prim.Native.Nat.{ℕ, zero, suc, ◌+◌, ◌<◌}
use Rattle.laws.specs.Counting.{any, lowest}
use Rattle.laws.proofs.Tests.{Is, is_cases, yes', no'}
use Rattle.laws.proofs.Booleans.{clash}
use Rattle.laws.proofs.Counting.{any_false, any_of, Lowest, found, missing, lowest_is}

-- one that passes
pub record Some (n : ℕ) (p : ℕ → Bool) : Type 0 where
  pub at : ℕ
  pub low : at < n
  pub is_so : p at ≡ true

pub some_of : (n : ℕ) (p : ℕ → Bool) → any n p ≡ true → Some n p
some_of n p e = go (lowest_is n p)
  where
    go : Lowest n p 0 (lowest n p) → Some n p
    go (found q h k) = record { at = lowest n p; low = omega arith; is_so = q }
    go (missing q k) = clash e (any_of n p (λ u h. k u (omega arith) (omega arith)))

pub or_assoc : (a b c : Bool) → ((a || b) || c) ≡ (a || (b || c))
or_assoc true b c = refl
or_assoc false b c = refl

pub any_one : (n : ℕ) (p : ℕ → Bool) (u : ℕ) → u < n → p u ≡ true → any n p ≡ true
any_one n p u h e = go (is_cases (any n p))
  where
    go : Is (any n p) → any n p ≡ true
    go (yes' q) = q
    go (no' q) = clash e (any_false n p u q h)

pub any_next : (n : ℕ) (p : ℕ → Bool) → any (n + 1) p ≡ (any n p || p n)
unfolding any
any_next n p = ap (λ (k : ℕ). any k p) (add-one n)

-- the lowest, or any from there
pub any_first : (n : ℕ) (p : ℕ → Bool) → any (suc n) p ≡ (p 0 || any n (λ k. p (suc k)))
unfolding any
any_first zero p = sym (or-false (p 0))
any_first (suc n) p = ap (λ (b : Bool). b || p (suc n)) (any_first n p) ∙ or_assoc (p 0) (any n (λ k. p (suc k))) (p (suc n))

pub any_same : (n : ℕ) (p q : ℕ → Bool) → ((k : ℕ) → k < n → p k ≡ q k) → any n p ≡ any n q
unfolding any
any_same zero p q h = refl
any_same (suc n) p q h = ap₂ ◌||◌ (any_same n p q (λ k l. h k (omega arith))) (h n (omega arith))
