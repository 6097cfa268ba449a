-- Two numbers with the same bits are the same; a number with no bit from place n on; one with a single bit at most.
use mathlib.Core.Path.{◌≡◌, refl, sym, ap, ap₂, ◌∙◌, fun_ext}
use mathlib.Core.Bool.{Bool, true, false, ◌&&◌, true≢false}
use mathlib.Core.Logic.{dite}
use native.Mathlib.Decide.{dec_lt}
use native.Mathlib.Omega.{arith}
use Prim.Native.Nat.{ℕ, zero, suc, ◌+◌, ◌-◌, ◌/◌, ◌%◌, ◌^◌, ◌<◌, ◌≤◌}
use lib.Bits.{bit_and}
use Rattle.laws.specs.Tests.{same}
use Rattle.laws.specs.Bits.{bits}
use Rattle.laws.proofs.Tests.{same_cases, Same, is, isnt, same-eq}
use Rattle.laws.proofs.Bits.{bits-zero, bits-suc, bits_over, bits-and}
use Rattle.sound_clause.specs.Decides.{Decides}
use Rattle.sound_clause.proofs.Decides.{decides_as, decides_same}

digit : (x y : ℕ) → x < 2 → y < 2 → same x 1 ≡ same y 1 → x ≡ y
digit x y hx hy e = go (same_cases x 1) (same_cases y 1)
  where
    go : Same x 1 → Same y 1 → x ≡ y
    go (is p s _) (is q u _) = p ∙ sym q
    go (is p s _) (isnt q u _) = absurd (true≢false (sym s ∙ e ∙ u))
    go (isnt p s _) (is q u _) = absurd (true≢false (sym u ∙ sym e ∙ s))
    go (isnt p s _) (isnt q u _) = omega arith

half : (s k : ℕ) → bits (s / 2) k ≡ bits s (1 + k)
half s k = sym (bits_over s 1 k)

last : (s : ℕ) → bits s 0 ≡ same (s % 2) 1
unfolding bits
last s = ap (λ (x : ℕ). same (x % 2) 1) (let e : s / 1 ≡ s = omega arith in e)

same_below : (n a b : ℕ) → a ≤ n → b ≤ n → ((k : ℕ) → bits a k ≡ bits b k) → a ≡ b
same_below zero a b ha hb e = omega arith
same_below (suc n) a b ha hb e =
    let h : a / 2 ≡ b / 2 = same_below n (a / 2) (b / 2) (omega arith) (omega arith) (λ k. half a k ∙ e (1 + k) ∙ sym (half b k)) in
    let l : a % 2 ≡ b % 2 = digit (a % 2) (b % 2) (omega arith) (omega arith) (sym (last a) ∙ e 0 ∙ last b) in
    omega arith

pub bits_same : (a b : ℕ) → bits a ≡ bits b → a ≡ b
bits_same a b e = same_below (a + b) a b (omega arith) (omega arith) (λ k. ap (λ (f : ℕ → Bool). f k) e)

pub decides_bits : (a b : ℕ) → Decides (same a b) (bits a ≡ bits b)
decides_bits a b = decides_as (λ e. ap bits e) (bits_same a b) (decides_same a b)

pub no_bits : bits 0 ≡ (λ k. false)
no_bits = fun_ext bits-zero

-- no bit from place n on
pub decides_numbered : (n s : ℕ) → Decides (same (s / 2 ^ n) 0) ((k : ℕ) → bits s k ≡ true → k < n)
decides_numbered n s = decides_as below none (decides_bits (s / 2 ^ n) 0)
  where
    over : (k : ℕ) → n ≤ k → bits s k ≡ bits (s / 2 ^ n) (k - n)
    over k h = ap (bits s) (let e : k ≡ n + (k - n) = omega arith in e) ∙ bits_over s n (k - n)

    below : bits (s / 2 ^ n) ≡ bits 0 → (k : ℕ) → bits s k ≡ true → k < n
    below e k t = dite (dec_lt k n) (λ lt. lt) (λ ge. absurd (true≢false (sym t ∙ over k (omega arith) ∙ ap (λ (f : ℕ → Bool). f (k - n)) e ∙ bits-zero (k - n))))

    off : (k : ℕ) (b : Bool) → bits s (n + k) ≡ b → ((k : ℕ) → bits s k ≡ true → k < n) → b ≡ false
    off k true e f = let h : n + k < n = f (n + k) e in absurd (omega arith)
    off k false e f = refl

    none : ((k : ℕ) → bits s k ≡ true → k < n) → bits (s / 2 ^ n) ≡ bits 0
    none f = fun_ext (λ k. sym (bits_over s n k) ∙ off k (bits s (n + k)) refl f ∙ sym (bits-zero k))

odd_less : (s u : ℕ) → s % 2 ≡ 1 → bits s (suc u) ≡ true → bits (s - 1) (suc u) ≡ true
odd_less s u o b = let e : (s - 1) / 2 ≡ s / 2 = omega arith in bits-suc (s - 1) u ∙ ap (λ (x : ℕ). bits x u) e ∙ sym (bits-suc s u) ∙ b

-- Where a number has a bit below place u, taking one away leaves the bit there.
less_one : (u t s : ℕ) → t < u → bits s t ≡ true → bits s u ≡ true → bits (s - 1) u ≡ true
less_one zero t s h a b = absurd (omega arith)
less_one (suc u) zero s h a b = odd_less s u (same-eq (s % 2) 1 (sym (last s) ∙ a)) b
less_one (suc u) (suc t) s h a b =
    dite (dec_lt 0 (s % 2)) (λ lt. odd_less s u (omega arith) b)
    (λ ge. let e : (s - 1) / 2 ≡ s / 2 - 1 = omega arith in
    bits-suc (s - 1) u ∙ ap (λ (x : ℕ). bits x u) e ∙ less_one u t (s / 2) (omega arith) (sym (bits-suc s t) ∙ a) (sym (bits-suc s u) ∙ b))

-- a number that has no bit in common with the one below it has one bit at most
pub one_bit : (s t u : ℕ) → bit_and s (s - 1) ≡ 0 → bits s t ≡ true → bits s u ≡ true → t ≡ u
one_bit s t u e a b = dite (dec_lt t u) (λ lt. absurd (apart t u lt a b)) (λ ge. dite (dec_lt u t) (λ lt. absurd (apart u t lt b a)) (λ ge'. omega arith))
  where
    apart : (t u : ℕ) → t < u → bits s t ≡ true → bits s u ≡ true → ⊥
    apart t u h a b =
        true≢false (sym (ap₂ ◌&&◌ b (less_one u t s h a b)) ∙ sym (bits-and s (s - 1) u) ∙ ap (λ (x : ℕ). bits x u) e ∙ bits-zero u)
