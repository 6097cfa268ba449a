-- The map of a set of records names exactly those records, and is 0 exactly where there are none.
use mathlib.Core.Path.{◌≡◌, refl, sym, ◌∙◌, ap}
use mathlib.Core.Bool.{Bool, true, false, cond}
use Prim.Native.Nat.{ℕ, zero, suc, ◌+◌, ◌-◌, ◌*◌, ◌/◌, ◌%◌, ◌^◌, ◌<◌}
use lib.Arith.{mod-mul}
use lib.Pow.{pow_pos}
use native.Mathlib.Nat.{mod-eq_of_lt, pow-suc, div-one, div-div-eq-div-mul, mul_comm, zero-div}
use native.Mathlib.Omega.{arith}
use Rattle.laws.specs.Tests.{same}
use Rattle.laws.proofs.Tests.{same_cases, Same, is, isnt, same_refl, ne_false}
use Rattle.rules.specs.Geometry.{Geometry, records}
use Rattle.rules.specs.Store.{bits_from, named, map_of}

pub bits-lt : (n : ℕ) (p : ℕ → Bool) → bits_from n p < 2 ^ n
unfolding bits_from
bits-lt zero p = omega arith
bits-lt (suc n) p = rw pow-suc (go (p n) (bits-lt n p))
  where
    go : (b : Bool) → bits_from n p < 2 ^ n → bits_from n p * 2 + cond b 1 0 < 2 ^ n * 2
    go true h = omega arith
    go false h = omega arith

low_bit : (x : ℕ) (b : Bool) → same ((x * 2 + cond b 1 0) % 2) 1 ≡ b
low_bit x true = let e : (x * 2 + 1) % 2 ≡ 1 = omega arith in rw e (same_refl 1)
low_bit x false = ne_false ((x * 2 + 0) % 2) 1 (λ e. omega arith)

high_bits : (x : ℕ) (b : Bool) → (x * 2 + cond b 1 0) / 2 ≡ x
high_bits x true = omega arith
high_bits x false = omega arith

-- the bit of place r
bit_of : (n : ℕ) (p : ℕ → Bool) (r : ℕ) → r < n → same (bits_from n p / 2 ^ (n - suc r) % 2) 1 ≡ p r
unfolding bits_from
bit_of zero p r h = absurd (omega arith)
bit_of (suc n) p r h = go (same_cases r n) (bit_of n p r)
  where
    x : ℕ
    x = bits_from n p * 2 + cond (p n) 1 0

    zero_shift : r ≡ n → suc n - suc r ≡ 0
    zero_shift e = omega arith

    shift : (r ≡ n → ⊥) → suc n - suc r ≡ suc (n - suc r)
    shift e = omega arith

    halved : (k : ℕ) → x / 2 ^ suc k ≡ bits_from n p / 2 ^ k
    halved k = ap (λ y. x / y) (pow-suc 2 k ∙ mul_comm (2 ^ k) 2) ∙ sym (div-div-eq-div-mul x 2 (2 ^ k)) ∙ ap (λ y. y / 2 ^ k) (high_bits (bits_from n p) (p n))

    go : Same r n → (r < n → same (bits_from n p / 2 ^ (n - suc r) % 2) 1 ≡ p r) → same (x / 2 ^ (suc n - suc r) % 2) 1 ≡ p r
    go (is e _ _) ih =
        ap (λ k. same (x / 2 ^ k % 2) 1) (zero_shift e)
        ∙ ap (λ y. same (y % 2) 1) (div-one x)
        ∙ low_bit (bits_from n p) (p n) ∙ ap p (sym e)
    go (isnt e _ _) ih =
        ap (λ k. same (x / 2 ^ k % 2) 1) (shift e)
        ∙ ap (λ y. same (y % 2) 1) (halved (n - suc r))
        ∙ ih (omega (arith, e))

pub named-map_of : (g : Geometry) (p : ℕ → Bool) (r : ℕ) → r < records g → named g (map_of g p) r ≡ p r
unfolding named map_of
named-map_of g p r h = bit_of (records g) p r h

pub map_of-lt : (g : Geometry) (p : ℕ → Bool) → map_of g p < 2 ^ records g
unfolding map_of
map_of-lt g p = bits-lt (records g) p

pub named-zero : (g : Geometry) (r : ℕ) → named g 0 r ≡ false
unfolding named
named-zero g r = rw zero-div (ne_false (0 % 2) 1 (λ e. omega arith))

bits_same : (n : ℕ) (p q : ℕ → Bool) → ((r : ℕ) → r < n → p r ≡ q r) → bits_from n p ≡ bits_from n q
unfolding bits_from
bits_same zero p q h = refl
bits_same (suc n) p q h = λ i. bits_same n p q (λ r k. h r (omega arith)) i * 2 + cond (h n (omega arith) i) 1 0

-- equal tests have one map
pub map_of-same : (g : Geometry) (p q : ℕ → Bool) → ((r : ℕ) → r < records g → p r ≡ q r) → map_of g p ≡ map_of g q
unfolding map_of
map_of-same g p q h = bits_same (records g) p q h

bit : ℕ → ℕ → Bool
bit x k = same (x / 2 ^ k % 2) 1

as_number : (x : ℕ) → Same (x % 2) 1 → cond (same (x % 2) 1) 1 0 ≡ x % 2
as_number x (is e k _) = rw (k, e)
as_number x (isnt e k _) = rw k (omega arith)

bits_of : (n x : ℕ) → bits_from n (λ r. bit x (n - suc r)) ≡ x % 2 ^ n
unfolding bits_from bit
bits_of zero x = omega arith
bits_of (suc n) x =
    ap (λ y. y * 2 + cond (bit x (suc n - suc n)) 1 0) (bits_same n (λ r. bit x (suc n - suc r)) (λ r. bit (x / 2) (n - suc r)) shifted ∙ bits_of n (x / 2))
    ∙ ap (λ y. x / 2 % 2 ^ n * 2 + y) (ap (λ k. cond (bit x k) 1 0) zero_shift ∙ ap (λ y. cond (same (y % 2) 1) 1 0) (div-one x) ∙ as_number x (same_cases (x % 2) 1))
    ∙ sym (mod-mul x {m = 2 ^ n} {c = 2} (pow_pos n) (omega arith)) ∙ ap (λ y. x % y) (sym (pow-suc 2 n))
  where
    zero_shift : suc n - suc n ≡ 0
    zero_shift = omega arith

    shift : (r : ℕ) → r < n → suc n - suc r ≡ suc (n - suc r)
    shift r h = omega arith

    shifted : (r : ℕ) → r < n → bit x (suc n - suc r) ≡ bit (x / 2) (n - suc r)
    shifted r h = ap (bit x) (shift r h) ∙ ap (λ y. same (x / y % 2) 1) (pow-suc 2 (n - suc r) ∙ mul_comm (2 ^ (n - suc r)) 2) ∙ ap (λ y. same (y % 2) 1) (sym (div-div-eq-div-mul x 2 (2 ^ (n - suc r))))

-- a map is that of the records that it names
pub map_of-named : (g : Geometry) (m : ℕ) → m < 2 ^ records g → map_of g (named g m) ≡ m
unfolding named map_of bit
map_of-named g m h = bits_of (records g) m ∙ mod-eq_of_lt h

none-bits : (n : ℕ) → bits_from n (λ r. false) ≡ 0
unfolding bits_from
none-bits zero = refl
none-bits (suc n) = rw (none-bits n) refl

-- the map of no record is 0, and only that
pub map_of-none : (g : Geometry) (p : ℕ → Bool) → ((r : ℕ) → r < records g → p r ≡ false) → map_of g p ≡ 0
unfolding map_of
map_of-none g p h = bits_same (records g) p (λ r. false) h ∙ none-bits (records g)

pub map_of-zero : (g : Geometry) (p : ℕ → Bool) → map_of g p ≡ 0 → (r : ℕ) → r < records g → p r ≡ false
map_of-zero g p e r h = sym (named-map_of g p r h) ∙ ap (λ m. named g m r) e ∙ named-zero g r

-- a map that names no record is 0
pub names-none : (g : Geometry) (m : ℕ) → m < 2 ^ records g → ((r : ℕ) → r < records g → named g m r ≡ false) → m ≡ 0
names-none g m h f = sym (map_of-named g m h) ∙ map_of-none g (named g m) f
