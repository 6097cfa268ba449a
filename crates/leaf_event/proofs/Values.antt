-- A field against a mask of its i lowest bits: no bit is outside exactly if the field is below 2 ^ i.
use mathlib.Core.Path.{◌≡◌, sym, ap, ap₂, ◌∙◌}
use mathlib.Core.Bool.{true, false, not, ◌&&◌, ◌||◌}
use Prim.Native.Nat.{ℕ, zero, suc, ◌+◌, ◌*◌, ◌/◌, ◌%◌, ◌^◌, ◌<◌}
use native.Mathlib.Nat.{mod-lt, zero-mul, suc-mul, add_comm, add_assoc}
use native.Mathlib.Omega.{arith}
use lib.Pow.{pow_pos, shr-shr, mod-pow-add}
use Rattle.laws.specs.Tests.{same, under}
use Rattle.laws.specs.Counting.{all}
use Rattle.laws.specs.Bits.{bits}
use Rattle.laws.proofs.Tests.{same_refl, ne_false, lt-under, under-lt}
use Rattle.laws.proofs.Booleans.{refute}
use Rattle.laws.proofs.All.{all_plus, all_same}
use Rattle.laws.proofs.Bits.{field_within}

-- a number of two digits is below the base exactly if the higher digit is 0
digits_under : (d p a : ℕ) → a < p → same d 0 ≡ under (d * p + a) p
digits_under zero p a h = same_refl 0 ∙ sym (lt-under (0 * p + a) p (let e = zero-mul p in omega arith))
digits_under (suc d) p a h =
    ne_false (suc d) 0 (λ z. omega arith) ∙ sym (refute (under (suc d * p + a) p) (λ e. let k = under-lt (suc d * p + a) p e in let q = suc-mul d p in absurd (omega arith)))

-- the field from place a, of i + j bits
pub field_limited : (w m a i j : ℕ) → ((k : ℕ) → k < i → bits m (a + k) ≡ true) → ((k : ℕ) → k < j → bits m (a + i + k) ≡ false)
    → all (i + j) (λ k. not (bits w (a + k)) || bits m (a + k)) ≡ under (w / 2 ^ a % 2 ^ (i + j)) (2 ^ i)
field_limited w m a i j low high =
    all_plus i j (λ k. not (bits w (a + k)) || bits m (a + k))
    ∙ ap₂ ◌&&◌
    (field_within w m a i true low)
    (all_same j (λ k. not (bits w (a + (i + k))) || bits m (a + (i + k))) (λ k. not (bits w (a + i + k)) || bits m (a + i + k)) (λ k lt. ap (λ (n : ℕ). not (bits w n) || bits m n) (sym (add_assoc a i k)))
    ∙ field_within w m (a + i) j false high)
    ∙ digits_under (w / 2 ^ (a + i) % 2 ^ j) (2 ^ i) (w / 2 ^ a % 2 ^ i) (mod-lt (w / 2 ^ a) (pow_pos i))
    ∙ ap (λ (x : ℕ). under (x % 2 ^ j * 2 ^ i + w / 2 ^ a % 2 ^ i) (2 ^ i)) (sym (shr-shr w a i))
    ∙ ap (λ (x : ℕ). under x (2 ^ i)) (sym (mod-pow-add (w / 2 ^ a) j i) ∙ ap (λ (n : ℕ). w / 2 ^ a % 2 ^ n) (add_comm j i))
