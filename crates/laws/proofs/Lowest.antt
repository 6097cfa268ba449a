-- The lowest number that passes a test: it depends on the numbers below the bound alone, and a number that passes ends the search.
-- So a word's trailing zeros count up to its lowest bit. And whether any number passes is told by the low digits.
use mathlib.Core.Path.{◌≡◌, refl, sym, ap, ap₂, ◌∙◌, fun_ext}
use mathlib.Core.Bool.{Bool, true, false, not, cond, ◌&&◌, ◌||◌}
use Prim.Native.Nat.{ℕ, zero, suc, ◌+◌, ◌/◌, ◌%◌, ◌^◌, ◌<◌}
use native.Mathlib.Nat.{add-zero, zero-add, add-suc, suc-add, div-one}
use native.Mathlib.Omega.{arith}
use lib.Count.{count_trailing_zeros, under}
use Rattle.laws.specs.Tests.{same}
use Rattle.laws.specs.Counting.{all, any, lowest, lowest_from}
use Rattle.laws.specs.Bits.{bits}
use Rattle.laws.proofs.Bits.{bits-suc, low_zero}

agree_from : (n : ℕ) (p q : ℕ → Bool) (i : ℕ) → ((u : ℕ) → u < i + n → p u ≡ q u) → lowest_from n p i ≡ lowest_from n q i
unfolding lowest_from
agree_from zero p q i h = refl
agree_from (suc n) p q i h =
    ap₂ (λ (b : Bool) (m : ℕ). cond b i m) (h i (omega arith)) (agree_from n p q (suc i) (λ u k. h u (omega arith)))

-- two tests that agree below n have the same lowest
pub lowest_agree : (n : ℕ) (p q : ℕ → Bool) → ((u : ℕ) → u < n → p u ≡ q u) → lowest n p ≡ lowest n q
unfolding lowest
lowest_agree n p q h = agree_from n p q 0 (λ u k. h u (omega arith))

-- one that passes is the lowest from there
at_once : (m : ℕ) (p : ℕ → Bool) (i : ℕ) → p i ≡ true → lowest_from m p i ≡ i
unfolding lowest_from
at_once zero p i e = refl
at_once (suc m) p i e = rw e

stop_from : (n m : ℕ) (p : ℕ → Bool) (i : ℕ) → p (i + n) ≡ true → lowest_from (n + m) p i ≡ lowest_from n p i
unfolding lowest_from
stop_from zero m p i e = ap (λ (x : ℕ). lowest_from x p i) (zero-add m) ∙ at_once m p i (ap p (sym (add-zero i)) ∙ e)
stop_from (suc n) m p i e =
    ap (λ (x : ℕ). lowest_from x p i) (suc-add n m)
    ∙ ap (λ (x : ℕ). cond (p i) i x) (stop_from n m p (suc i) (ap p (suc-add i n ∙ sym (add-suc i n)) ∙ e))

-- n passes: no number above it is the lowest
pub lowest_stop : (n m : ℕ) (p : ℕ → Bool) → p n ≡ true → lowest (n + m) p ≡ lowest n p
unfolding lowest
lowest_stop n m p e = stop_from n m p 0 (ap p (zero-add n) ∙ e)

shift_from : (n : ℕ) (p : ℕ → Bool) (i : ℕ) → lowest_from n p (suc i) ≡ suc (lowest_from n (λ u. p (suc u)) i)
unfolding lowest_from
shift_from zero p i = refl
shift_from (suc n) p i = ap (λ (x : ℕ). cond (p (suc i)) (suc i) x) (shift_from n p (suc i)) ∙ go (p (suc i)) (lowest_from n (λ u. p (suc u)) (suc i))
  where
    go : (b : Bool) (x : ℕ) → cond b (suc i) (suc x) ≡ suc (cond b i x)
    go true x = refl
    go false x = refl

-- 0 passes, or the lowest is that of the numbers from 1 on
lowest-suc : (n : ℕ) (p : ℕ → Bool) → lowest (suc n) p ≡ cond (p 0) 0 (suc (lowest n (λ u. p (suc u))))
unfolding lowest lowest_from
lowest-suc n p = ap (λ (x : ℕ). cond (p 0) 0 x) (shift_from n p 0)

-- a digit that is set ends the count
digit : (d t : ℕ) → d < 2 → under d t ≡ cond (same d 1) 0 (suc t)
unfolding same
digit zero t h = refl
digit (suc zero) t h = refl
digit (suc (suc d)) t h = absurd (omega arith)

bits_first : (n : ℕ) → bits n 0 ≡ same (n % 2) 1
unfolding bits
bits_first n = ap (λ (x : ℕ). same (x % 2) 1) (div-one n)

-- the trailing zeros of the k low digits count up to the lowest bit
pub trailing_is : (k n : ℕ) → count_trailing_zeros k n ≡ lowest k (bits n)
unfolding count_trailing_zeros lowest lowest_from
trailing_is zero n = refl
trailing_is (suc k) n =
    digit (n % 2) (count_trailing_zeros k (n / 2)) (omega arith)
    ∙ ap₂ (λ (b : Bool) (x : ℕ). cond b 0 (suc x)) (sym (bits_first n)) (trailing_is k (n / 2) ∙ ap (lowest k) (fun_ext (λ u. sym (bits-suc n u))))
    ∙ sym (lowest-suc k (bits n))

-- one passes exactly if not all fail
any-not : (n : ℕ) (p : ℕ → Bool) → any n p ≡ not (all n (λ k. not (p k)))
unfolding any all
any-not zero p = refl
any-not (suc n) p = ap (λ (b : Bool). b || p n) (any-not n p) ∙ go (all n (λ k. not (p k))) (p n)
  where
    go : (a b : Bool) → (not a || b) ≡ not (a && not b)
    go true true = refl
    go true false = refl
    go false b = refl

-- some bit of the n low ones is set exactly if they aren't 0
pub any_low : (n x : ℕ) → any n (bits x) ≡ not (same (x % 2 ^ n) 0)
any_low n x = any-not n (bits x) ∙ ap not (low_zero n x)
