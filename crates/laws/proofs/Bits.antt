-- The bits of a number under `&`, `|`, `^` and of a power of two; low digits that are all 0.
use mathlib.Core.Path.{◌≡◌, refl, sym, ap, ◌∙◌, fun_ext}
use mathlib.Core.Bool.{Bool, true, false, not, ◌&&◌, ◌||◌}
use Prim.Native.Nat.{ℕ, zero, suc, ◌+◌, ◌*◌, ◌/◌, ◌%◌, ◌^◌, ◌<◌}
use native.Mathlib.Nat.{zero-div, div-div-eq-div-mul, pow-suc, mul_comm, one-mul, mod-eq_of_lt, mod-one, zero-mul, zero-add}
use native.Mathlib.Omega.{arith}
use lib.Dec.{eqb-zero-suc, eqb-suc-zero, eqb-suc-suc}
use lib.Pow.{pow-lt, pow_pos, pow-add}
use lib.Arith.{mod-mul}
use lib.Bits.{bit_and, bit_or, bit_xor, and_shr, or_shr, xor_shr, and_mod, or_mod, xor_mod}
use borrow.Author.Tests.{eq-eqb, ne_eqb}
use Rattle.laws.specs.Tests.{same}
use Rattle.laws.specs.Counting.{all}
use Rattle.laws.specs.Bits.{bits}
use Rattle.laws.proofs.All.{and-true, and-false, all_same, all_true_lem}

module _ (op : ℕ → ℕ → ℕ) (f : Bool → Bool → Bool)
    (shr : (a b k : ℕ) → op a b / 2 ^ k ≡ op (a / 2 ^ k) (b / 2 ^ k))
    (low : (a b k : ℕ) → op a b % 2 ^ k ≡ op (a % 2 ^ k) (b % 2 ^ k))
    (on : (x y : ℕ) → x < 2 → y < 2 → same (op x y) 1 ≡ f (same x 1) (same y 1)) where
  bits_op : (a b j : ℕ) → bits (op a b) j ≡ f (bits a j) (bits b j)
  unfolding bits
  bits_op a b j =
      ap (λ (x : ℕ). same (x % 2) 1) (shr a b j)
      ∙ ap (λ (x : ℕ). same x 1) (low (a / 2 ^ j) (b / 2 ^ j) 1)
      ∙ on (a / 2 ^ j % 2) (b / 2 ^ j % 2) (omega arith) (omega arith)

on_and : (x y : ℕ) → x < 2 → y < 2 → same (bit_and x y) 1 ≡ (same x 1 && same y 1)
unfolding same
on_and zero y hx hy = refl
on_and (suc zero) zero hx hy = refl
on_and (suc zero) (suc zero) hx hy = refl
on_and (suc zero) (suc (suc y)) hx hy = absurd (omega arith)
on_and (suc (suc x)) y hx hy = absurd (omega arith)

on_or : (x y : ℕ) → x < 2 → y < 2 → same (bit_or x y) 1 ≡ (same x 1 || same y 1)
unfolding same
on_or zero y hx hy = refl
on_or (suc zero) zero hx hy = refl
on_or (suc zero) (suc zero) hx hy = refl
on_or (suc zero) (suc (suc y)) hx hy = absurd (omega arith)
on_or (suc (suc x)) y hx hy = absurd (omega arith)

abbrev differs : Bool → Bool → Bool
differs true b = not b
differs false b = b

on_xor : (x y : ℕ) → x < 2 → y < 2 → same (bit_xor x y) 1 ≡ differs (same x 1) (same y 1)
unfolding same
on_xor zero y hx hy = refl
on_xor (suc zero) zero hx hy = refl
on_xor (suc zero) (suc zero) hx hy = refl
on_xor (suc zero) (suc (suc y)) hx hy = absurd (omega arith)
on_xor (suc (suc x)) y hx hy = absurd (omega arith)

pub bits-and : (a b j : ℕ) → bits (bit_and a b) j ≡ (bits a j && bits b j)
bits-and = bits_op bit_and ◌&&◌ and_shr and_mod on_and

pub bits-or : (a b j : ℕ) → bits (bit_or a b) j ≡ (bits a j || bits b j)
bits-or = bits_op bit_or ◌||◌ or_shr or_mod on_or

but : (p q : Bool) → (p && differs p q) ≡ (not q && p)
but true true = refl
but true false = refl
but false true = refl
but false false = refl

pub bits_minus : (a b j : ℕ) → bits (bit_and a (bit_xor a b)) j ≡ (not (bits b j) && bits a j)
bits_minus a b j =
    bits-and a (bit_xor a b) j
    ∙ ap (λ x. bits a j && x) (bits_op bit_xor differs xor_shr xor_mod on_xor a b j) ∙ but (bits a j) (bits b j)

pub bits-zero : (j : ℕ) → bits 0 j ≡ false
unfolding bits same
bits-zero j = ap (λ (x : ℕ). same (x % 2) 1) (zero-div (2 ^ j))

pub bits-suc : (s j : ℕ) → bits s (suc j) ≡ bits (s / 2) j
unfolding bits
bits-suc s j =
    ap (λ (x : ℕ). same (x % 2) 1)
    (ap (λ (x : ℕ). s / x) (pow-suc 2 j ∙ mul_comm (2 ^ j) 2) ∙ sym (div-div-eq-div-mul s 2 (2 ^ j)))

pub bits_pow : (k j : ℕ) → bits (2 ^ k) j ≡ same j k
unfolding bits same
bits_pow zero zero = refl
bits_pow (suc k) zero = ne_eqb (2 ^ suc k / 1 % 2) 1 (λ h. let e = pow-suc 2 k in omega arith) ∙ sym (eqb-zero-suc k)
bits_pow zero (suc j) = bits-suc 1 j ∙ bits-zero j ∙ sym (eqb-suc-zero j)
bits_pow (suc k) (suc j) =
    bits-suc (2 ^ suc k) j ∙ ap (λ (x : ℕ). bits x j) (let e = pow-suc 2 k in omega arith) ∙ bits_pow k j ∙ sym (eqb-suc-suc j k)

-- what `1 << k` leaves in a word of w bits
pub bits_single : (w k j : ℕ) → k < w → bits (1 * 2 ^ k % 2 ^ w) j ≡ same j k
bits_single w k j h =
    ap (λ (x : ℕ). bits x j) (ap (λ (x : ℕ). x % 2 ^ w) (one-mul (2 ^ k)) ∙ mod-eq_of_lt (pow-lt h)) ∙ bits_pow k j

one_more : (b : Bool) (d p a : ℕ) → d < 2 → 0 < p → b ≡ same a 0 → (b && not (same d 1)) ≡ same (d * p + a) 0
unfolding same
one_more b zero p a h q e =
    and-true b ∙ e ∙ ap (λ (y : ℕ). same y 0) (sym (ap (λ (y : ℕ). y + a) (zero-mul p) ∙ zero-add a))
one_more b (suc zero) p a h q e = and-false b ∙ sym (ne_eqb (1 * p + a) 0 (λ z. let w = one-mul p in omega arith))
one_more b (suc (suc d)) p a h q e = absurd (omega arith)

-- the n low digits are 0 exactly if each bit there is
pub low_zero : (n x : ℕ) → all n (λ k. not (bits x k)) ≡ same (x % 2 ^ n) 0
unfolding all bits same
low_zero zero x = sym (eq-eqb (x % 1) 0 (mod-one x))
low_zero (suc n) x =
    one_more (all n (λ k. not (bits x k))) (x / 2 ^ n % 2) (2 ^ n) (x % 2 ^ n) (omega arith) (pow_pos n) (low_zero n x)
    ∙ ap (λ (y : ℕ). same y 0) (sym (ap (λ (m : ℕ). x % m) (pow-suc 2 n ∙ mul_comm (2 ^ n) 2) ∙ mod-mul x (omega arith) (pow_pos n)))

implied : (p q : Bool) → not (not q && p) ≡ (not p || q)
implied true true = refl
implied true false = refl
implied false true = refl
implied false false = refl

-- the n low bits of a are bits of b
pub within_is : (n a b : ℕ) → same (bit_and a (bit_xor a b) % 2 ^ n) 0 ≡ all n (λ k. not (bits a k) || bits b k)
within_is n a b =
    sym (low_zero n (bit_and a (bit_xor a b)))
    ∙ ap (all n) (fun_ext (λ k. ap not (bits_minus a b k) ∙ implied (bits a k) (bits b k)))

-- A field of w, from place a and n wide, against a word m whose bits there are all f: it is within m exactly if f, or the field is 0.
pub bits_over : (w a k : ℕ) → bits w (a + k) ≡ bits (w / 2 ^ a) k
unfolding bits
bits_over w a k =
    ap (λ (x : ℕ). same (x % 2) 1) (ap (λ (x : ℕ). w / x) (pow-add 2 a k) ∙ sym (div-div-eq-div-mul w (2 ^ a) (2 ^ k)))

or-true : (b : Bool) → (b || true) ≡ true
or-true true = refl
or-true false = refl

or-false : (b : Bool) → (b || false) ≡ b
or-false true = refl
or-false false = refl

pub field_within : (w m a n : ℕ) (f : Bool) → ((k : ℕ) → k < n → bits m (a + k) ≡ f)
    → all n (λ k. not (bits w (a + k)) || bits m (a + k)) ≡ (f || same (w / 2 ^ a % 2 ^ n) 0)
field_within w m a n true h =
    all_same n (λ k. not (bits w (a + k)) || bits m (a + k)) (λ k. true) (λ k lt. ap (λ (b : Bool). not (bits w (a + k)) || b) (h k lt) ∙ or-true (not (bits w (a + k)))) ∙ all_true_lem n
field_within w m a n false h =
    all_same n (λ k. not (bits w (a + k)) || bits m (a + k)) (λ k. not (bits (w / 2 ^ a) k))
    (λ k lt. ap (λ (b : Bool). not (bits w (a + k)) || b) (h k lt) ∙ or-false (not (bits w (a + k))) ∙ ap not (bits_over w a k))
    ∙ low_zero n (w / 2 ^ a)
