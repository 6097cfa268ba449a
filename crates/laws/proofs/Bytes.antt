-- Bytes spell a number and a number leaves its bytes; equal lists are the same.
use mathlib.Core.Path.{◌≡◌, refl, sym, ◌∙◌, ap}
use mathlib.Core.Bool.{true, false≢true}
use mathlib.Core.List.{List, [], ◌∷◌}
use Prim.Native.Nat.{ℕ, zero, suc, ◌+◌, ◌*◌, ◌/◌, ◌%◌, ◌^◌, ◌<◌}
use native.Mathlib.Nat.{add-mul, mul_assoc, zero-mul, zero-add, add_assoc, mod-eq_of_lt, pow-suc, mul_comm}
use native.Mathlib.Omega.{arith}
use lib.Arith.{mod-mul}
use lib.ListN.{length}
use Rattle.laws.specs.Tests.{same}
use Rattle.laws.specs.Bytes.{number_from, number, bytes, same_list}
use Rattle.laws.proofs.Tests.{same-eq, same_refl}
use Rattle.laws.proofs.Booleans.{both}

pos_256 : (n : ℕ) → zero < 256 ^ n
pos_256 zero = omega arith
pos_256 (suc n) = rw pow-suc (omega (arith, pos_256 n))

pub number_from_bytes : (n a x : ℕ) → number_from a (bytes n x) ≡ a * 256 ^ n + x % 256 ^ n
unfolding number_from bytes
number_from_bytes zero a x = omega arith
number_from_bytes (suc n) a x =
    number_from_bytes n (a * 256 + x / 256 ^ n % 256) x
    ∙ ap (λ y. y + x % 256 ^ n) (add-mul (a * 256) (x / 256 ^ n % 256) (256 ^ n) ∙ ap (λ y. y + x / 256 ^ n % 256 * 256 ^ n) (mul_assoc a 256 (256 ^ n)))
    ∙ add_assoc (a * (256 * 256 ^ n)) (x / 256 ^ n % 256 * 256 ^ n) (x % 256 ^ n)
    ∙ ap (λ y. a * (256 * 256 ^ n) + y) (sym (mod-mul x {m = 256} {c = 256 ^ n} (omega arith) (pos_256 n)))
    ∙ ap (λ y. a * y + x % y) (mul_comm 256 (256 ^ n) ∙ sym (pow-suc 256 n))

-- a number that fits n bytes is spelled by its last n bytes
pub number_bytes : (n x : ℕ) → x < 256 ^ n → number (bytes n x) ≡ x
unfolding number
number_bytes n x h = number_from_bytes n 0 x ∙ ap (λ y. y + x % 256 ^ n) (zero-mul (256 ^ n)) ∙ zero-add _ ∙ mod-eq_of_lt h

pub bytes-length : (n x : ℕ) → length (bytes n x) ≡ n
unfolding bytes
bytes-length zero x = refl
bytes-length (suc n) x = ap suc (bytes-length n x)

pub same_list_refl : (xs : List ℕ) → same_list xs xs ≡ true
unfolding same_list
same_list_refl [] = refl
same_list_refl (x ∷ xs) = rw (same_refl x) (same_list_refl xs)

pub same_list_eq : (xs ys : List ℕ) → same_list xs ys ≡ true → xs ≡ ys
unfolding same_list
same_list_eq [] [] e = refl
same_list_eq [] (y ∷ ys) e = absurd (false≢true e)
same_list_eq (x ∷ xs) [] e = absurd (false≢true e)
same_list_eq (x ∷ xs) (y ∷ ys) e = let b = both (same x y) (same_list xs ys) e in λ i. same-eq x y b.0 i ∷ same_list_eq xs ys b.1 i
