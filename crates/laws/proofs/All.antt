-- A test of all numbers below a bound: one by one, in two parts, and what it says of each.
use mathlib.Core.Path.{◌≡◌, refl, sym, ap, ap₂, ◌∙◌}
use mathlib.Core.Bool.{Bool, true, false, ◌&&◌}
use mathlib.Core.Logic.{dite}
use native.Mathlib.Decide.{dec_lt}
use native.Mathlib.Nat.{add-zero, add-suc}
use native.Mathlib.Numerals.{add-one}
use native.Mathlib.Omega.{arith}
use Prim.Native.Nat.{ℕ, zero, suc, ◌+◌, ◌<◌}
use Rattle.laws.specs.Counting.{all}
use Rattle.laws.proofs.Booleans.{both}

pub and-true : (a : Bool) → (a && true) ≡ a
and-true true = refl
and-true false = refl

pub and-false : (a : Bool) → (a && false) ≡ false
and-false true = refl
and-false false = refl

and_assoc : (a b c : Bool) → ((a && b) && c) ≡ (a && (b && c))
and_assoc true b c = refl
and_assoc false b c = refl

-- all of the first ones: the lowest, and all from there
pub all_first : (n : ℕ) (p : ℕ → Bool) → all (suc n) p ≡ (p 0 && all n (λ k. p (suc k)))
unfolding all
all_first zero p = sym (and-true (p 0))
all_first (suc n) p = ap (λ (b : Bool). b && p (suc n)) (all_first n p) ∙ and_assoc (p 0) (all n (λ k. p (suc k))) (p (suc n))

pub all_next : (n : ℕ) (p : ℕ → Bool) → (all n p && p n) ≡ all (n + 1) p
unfolding all
all_next n p = ap (λ (m : ℕ). all m p) (sym (add-one n))

pub all_same : (n : ℕ) (p q : ℕ → Bool) → ((k : ℕ) → k < n → p k ≡ q k) → all n p ≡ all n q
unfolding all
all_same zero p q h = refl
all_same (suc n) p q h = ap₂ ◌&&◌ (all_same n p q (λ k lt. h k (omega arith))) (h n (omega arith))

-- the first a, and the n from there
pub all_plus : (a n : ℕ) (p : ℕ → Bool) → all (a + n) p ≡ (all a p && all n (λ k. p (a + k)))
unfolding all
all_plus a zero p = ap (λ (m : ℕ). all m p) (add-zero a) ∙ sym (and-true (all a p))
all_plus a (suc n) p =
    ap (λ (m : ℕ). all m p) (add-suc a n) ∙ ap (λ (b : Bool). b && p (a + n)) (all_plus a n p)
    ∙ and_assoc (all a p) (all n (λ k. p (a + k))) (p (a + n))

pub all_at : (n : ℕ) (p : ℕ → Bool) → all n p ≡ true → (k : ℕ) → k < n → p k ≡ true
unfolding all
all_at zero p e k h = absurd (omega arith)
all_at (suc n) p e k h =
    let parts = both (all n p) (p n) e in
    dite (dec_lt k n) (λ lt. all_at n p parts.0 k lt) (λ ge. let q : k ≡ n = omega arith in ap p q ∙ parts.1)

pub all_true_lem : (n : ℕ) → all n (λ k. true) ≡ true
unfolding all
all_true_lem zero = refl
all_true_lem (suc n) = ap (λ (b : Bool). b && true) (all_true_lem n)
