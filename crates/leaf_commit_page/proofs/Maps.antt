-- The ones of a map are the records that it names; a map that grows by a record at its end; the record's bit.
use mathlib.Core.Path.{◌≡◌, refl, sym, ap, ap₂, ◌∙◌}
use mathlib.Core.Bool.{Bool, cond}
use Prim.Native.Nat.{ℕ, zero, suc, ◌+◌, ◌-◌, ◌*◌, ◌/◌, ◌%◌, ◌^◌, ◌<◌}
use native.Mathlib.Nat.{div-one, div-div-eq-div-mul, pow-suc, mul_comm, lt_of_lt_of_le, le_of_suc-le-suc}
use native.Mathlib.Numerals.{add-one}
use native.Mathlib.Omega.{arith}
use lib.Count.{ones, ones_step, ones-le}
use lib.Pow.{pow_mono}
use mir.Syntax.{w8}
use mir.Val.{Fits}
use Rattle.laws.specs.Tests.{same}
use Rattle.laws.specs.Counting.{count}
use Rattle.laws.proofs.Tests.{Same, is, isnt, same_cases}
use Rattle.rules.specs.Geometry.{Geometry, records}
use Rattle.rules.specs.Store.{named, bits_from}
use Rattle.rules.proofs.Map.{bits-lt}

-- the bit of place r in a map of n records, record 0 first
abbrev placed : ℕ → ℕ → ℕ → Bool
placed n m r = same (m / 2 ^ (n - suc r) % 2) 1

count_same : (n : ℕ) (p q : ℕ → Bool) → ((r : ℕ) → r < n → p r ≡ q r) → count n p ≡ count n q
unfolding count
count_same zero p q h = refl
count_same (suc n) p q h =
    ap₂ (λ (b : Bool) (x : ℕ). cond b (suc x) x) (h n (omega arith)) (count_same n p q (λ r lt. h r (omega arith)))

one_more : (x n : ℕ) → cond (same (x % 2) 1) (suc n) n ≡ x % 2 + n
one_more x n = go (same_cases (x % 2) 1)
  where
    go : Same (x % 2) 1 → cond (same (x % 2) 1) (suc n) n ≡ x % 2 + n
    go (is e s _) = rw s (omega arith)
    go (isnt e s _) = rw s (omega (arith, e))

count_placed : (n m : ℕ) → m < 2 ^ n → count n (placed n m) ≡ ones m
unfolding count ones
count_placed zero m h = let e : m ≡ 0 = omega arith in rw e refl
count_placed (suc n) m h =
    ap₂ (λ (b : Bool) (x : ℕ). cond b (suc x) x) last (count_same n (placed (suc n) m) (placed n (m / 2)) shifted ∙ count_placed n (m / 2) half)
    ∙ one_more m (ones (m / 2)) ∙ sym (ones_step m)
  where
    half : m / 2 < 2 ^ n
    half = let e = pow-suc 2 n in omega arith

    zero_shift : suc n - suc n ≡ 0
    zero_shift = omega arith

    last : placed (suc n) m n ≡ same (m % 2) 1
    last = ap (λ (k : ℕ). same (m / 2 ^ k % 2) 1) zero_shift ∙ ap (λ (x : ℕ). same (x % 2) 1) (div-one m)

    shift : (r : ℕ) → r < n → suc n - suc r ≡ suc (n - suc r)
    shift r lt = omega arith

    shifted : (r : ℕ) → r < n → placed (suc n) m r ≡ placed n (m / 2) r
    shifted r lt =
        ap (λ (k : ℕ). same (m / 2 ^ k % 2) 1) (shift r lt)
        ∙ ap (λ (x : ℕ). same (m / x % 2) 1) (pow-suc 2 (n - suc r) ∙ mul_comm (2 ^ (n - suc r)) 2)
        ∙ ap (λ (x : ℕ). same (x % 2) 1) (sym (div-div-eq-div-mul m 2 (2 ^ (n - suc r))))

pub count_ones : (g : Geometry) (m : ℕ) → m < 2 ^ records g → ones m ≡ count (records g) (named g m)
unfolding named
count_ones g m h = sym (count_placed (records g) m h)

pub ones_fit : (m : ℕ) → m < 2 ^ 64 → Fits w8 (ones m)
ones_fit m h = omega (arith, ones-le 64 m h)

pub names_bit : (g : Geometry) (n m r : ℕ) → r < n → records g ≡ n → same (m / 2 ^ (n - 1 - r) % 2) 1 ≡ named g m r
unfolding named
names_bit g n m r h q = let e : n - 1 - r ≡ records g - suc r = omega arith in ap (λ (k : ℕ). same (m / 2 ^ k % 2) 1) e

-- a map of i records, of fewer than sixty-four, has room for one more
pub map_room : (i : ℕ) (p : ℕ → Bool) → i < 64 → bits_from i p < 9223372036854775808
map_room i p h = lt_of_lt_of_le (bits-lt i p) (pow_mono (le_of_suc-le-suc h))

pub map_next : (i : ℕ) (p : ℕ → Bool) → bits_from i p * 2 + cond (p i) 1 0 ≡ bits_from (i + 1) p
unfolding bits_from
map_next i p = ap (λ (n : ℕ). bits_from n p) (sym (add-one i))
