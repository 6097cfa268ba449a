-- The word of some fields and the fields of a word: what is packed is unpacked, and what a word of the right size has is packed to it again.
use mathlib.Core.Path.{◌≡◌, sym, ◌∙◌, ap, subst, subst⁻¹}
use Prim.Native.Nat.{ℕ, ◌+◌, ◌*◌, ◌/◌, ◌%◌, ◌^◌, ◌<◌}
use native.Mathlib.Nat.{mod-lt, mod-eq_of_lt, div-one, add-zero, mul-mod_left}
use native.Mathlib.Omega.{arith}
use lib.Arith.{digits_lt}
use lib.Pow.{pow_pos, pow-add, high, low, shl_lt, shl-shr, shr-shr, shr_lt, split}
use Rattle.rules.specs.Geometry.{Geometry, Proper, word_size}
use Rattle.rules.specs.Event.{Fields, field, fields, word}

abbrev pub of : (k t r o c v s : ℕ) → Fields
of k t r o c v s = record { kind = k; transaction = t; rec = r; offset = o; count = c; value = v; spare = s }

-- fields that their widths hold
pub record Bounded (g : Geometry) (f : Fields) : Type 0 where
  pub kind_fits : f.kind < 16
  pub transaction_fits : f.transaction < 32
  pub rec_fits : f.rec < 2 ^ g.record_bits
  pub offset_fits : f.offset < 32
  pub count_fits : f.count < 2 ^ g.cut_bits
  pub value_fits : f.value < 256

-- the word of fields
unfoldable pub word_of : Geometry → Fields → ℕ
word_of g f = word g f.kind f.transaction f.rec f.offset f.count f.value

-- the quotients of a word, from its end
module _ (g : Geometry) (w : ℕ) where
  abbrev after_spare : ℕ
  after_spare = w / 2 ^ g.spare_bits

  abbrev after_value : ℕ
  after_value = after_spare / 2 ^ 8

  abbrev after_count : ℕ
  after_count = after_value / 2 ^ g.cut_bits

  abbrev after_offset : ℕ
  after_offset = after_count / 2 ^ 5

  abbrev after_rec : ℕ
  after_rec = after_offset / 2 ^ g.record_bits

  abbrev after_transaction : ℕ
  after_transaction = after_rec / 2 ^ 5

  to_value : w / 2 ^ (g.spare_bits + 8) ≡ after_value
  to_value = sym (shr-shr w g.spare_bits 8)

  to_count : w / 2 ^ (g.spare_bits + 8 + g.cut_bits) ≡ after_count
  to_count = sym (shr-shr w (g.spare_bits + 8) g.cut_bits) ∙ ap (λ x. x / 2 ^ g.cut_bits) to_value

  to_offset : w / 2 ^ (g.spare_bits + 8 + g.cut_bits + 5) ≡ after_offset
  to_offset = sym (shr-shr w (g.spare_bits + 8 + g.cut_bits) 5) ∙ ap (λ x. x / 2 ^ 5) to_count

  to_rec : w / 2 ^ (g.spare_bits + 8 + g.cut_bits + 5 + g.record_bits) ≡ after_rec
  to_rec = sym (shr-shr w (g.spare_bits + 8 + g.cut_bits + 5) g.record_bits) ∙ ap (λ x. x / 2 ^ g.record_bits) to_offset

  to_transaction : w / 2 ^ (g.spare_bits + 8 + g.cut_bits + 5 + g.record_bits + 5) ≡ after_transaction
  to_transaction = sym (shr-shr w (g.spare_bits + 8 + g.cut_bits + 5 + g.record_bits) 5) ∙ ap (λ x. x / 2 ^ 5) to_rec

  fields_are : fields g w ≡
      of (after_transaction % 2 ^ 4) (after_rec % 2 ^ 5) (after_offset % 2 ^ g.record_bits) (after_count % 2 ^ 5) (after_value % 2 ^ g.cut_bits) (after_spare % 2 ^ 8) (w % 2 ^ g.spare_bits)
  unfolding fields field
  fields_are = λ i. of (to_transaction i % 2 ^ 4) (to_rec i % 2 ^ 5) (to_offset i % 2 ^ g.record_bits) (to_count i % 2 ^ 5) (to_value i % 2 ^ g.cut_bits) (after_spare % 2 ^ 8) (div-one w i % 2 ^ g.spare_bits)

  -- whatever the word, its fields keep to their widths
  pub fields_bounded : Bounded g (fields g w)
  fields_bounded = subst⁻¹ (Bounded g) fields_are (record {
    kind_fits = mod-lt after_transaction (pow_pos 4);
    transaction_fits = mod-lt after_rec (pow_pos 5);
    rec_fits = mod-lt after_offset (pow_pos g.record_bits);
    offset_fits = mod-lt after_count (pow_pos 5);
    count_fits = mod-lt after_value (pow_pos g.cut_bits);
    value_fits = mod-lt after_spare (pow_pos 8);
  })

-- the fields of the word of some fields are those fields
pub fields_word : (g : Geometry) (f : Fields) → Bounded g f → f.spare ≡ 0 → fields g (word_of g f) ≡ f
unfolding word_of word
fields_word g f B z = fields_are g w ∙ λ i. of (k_is i) (t_is i) (r_is i) (o_is i) (c_is i) (v_is i) (s_is i)
  where
    a1 : ℕ
    a1 = f.kind * 2 ^ 5 + f.transaction

    a2 : ℕ
    a2 = a1 * 2 ^ g.record_bits + f.rec

    a3 : ℕ
    a3 = a2 * 2 ^ 5 + f.offset

    a4 : ℕ
    a4 = a3 * 2 ^ g.cut_bits + f.count

    a5 : ℕ
    a5 = a4 * 2 ^ 8 + f.value

    w : ℕ
    w = a5 * 2 ^ g.spare_bits

    e1 : w / 2 ^ g.spare_bits ≡ a5
    e1 = shl-shr a5 g.spare_bits

    e2 : after_value g w ≡ a4
    e2 = ap (λ x. x / 2 ^ 8) e1 ∙ high a4 8 B.value_fits

    e3 : after_count g w ≡ a3
    e3 = ap (λ x. x / 2 ^ g.cut_bits) e2 ∙ high a3 g.cut_bits B.count_fits

    e4 : after_offset g w ≡ a2
    e4 = ap (λ x. x / 2 ^ 5) e3 ∙ high a2 5 B.offset_fits

    e5 : after_rec g w ≡ a1
    e5 = ap (λ x. x / 2 ^ g.record_bits) e4 ∙ high a1 g.record_bits B.rec_fits

    e6 : after_transaction g w ≡ f.kind
    e6 = ap (λ x. x / 2 ^ 5) e5 ∙ high f.kind 5 B.transaction_fits

    k_is : after_transaction g w % 2 ^ 4 ≡ f.kind
    k_is = ap (λ x. x % 2 ^ 4) e6 ∙ mod-eq_of_lt B.kind_fits

    t_is : after_rec g w % 2 ^ 5 ≡ f.transaction
    t_is = ap (λ x. x % 2 ^ 5) e5 ∙ low f.kind 5 B.transaction_fits

    r_is : after_offset g w % 2 ^ g.record_bits ≡ f.rec
    r_is = ap (λ x. x % 2 ^ g.record_bits) e4 ∙ low a1 g.record_bits B.rec_fits

    o_is : after_count g w % 2 ^ 5 ≡ f.offset
    o_is = ap (λ x. x % 2 ^ 5) e3 ∙ low a2 5 B.offset_fits

    c_is : after_value g w % 2 ^ g.cut_bits ≡ f.count
    c_is = ap (λ x. x % 2 ^ g.cut_bits) e2 ∙ low a3 g.cut_bits B.count_fits

    v_is : after_spare g w % 2 ^ 8 ≡ f.value
    v_is = ap (λ x. x % 2 ^ 8) e1 ∙ low a4 8 B.value_fits

    s_is : w % 2 ^ g.spare_bits ≡ f.spare
    s_is = mul-mod_left a5 (2 ^ g.spare_bits) ∙ sym z

-- a word of the word's size without spare bits is the word of its fields
pub word_fields : (g : Geometry) → Proper g → (w : ℕ) → w < 2 ^ (8 * word_size g) → (fields g w).spare ≡ 0 → word_of g (fields g w) ≡ w
unfolding word_of word
word_fields g proper w small z =
    ap (word_of g) (fields_are g w)
    ∙ ap (λ x. ((((((x * 2 ^ 5 + after_rec g w % 2 ^ 5) * 2 ^ R + after_offset g w % 2 ^ R) * 2 ^ 5 + after_count g w % 2 ^ 5) * 2 ^ C + after_value g w % 2 ^ C) * 2 ^ 8 + after_spare g w % 2 ^ 8) * 2 ^ S)) (mod-eq_of_lt kind_small)
    ∙ ap (λ x. (((((x * 2 ^ R + after_offset g w % 2 ^ R) * 2 ^ 5 + after_count g w % 2 ^ 5) * 2 ^ C + after_value g w % 2 ^ C) * 2 ^ 8 + after_spare g w % 2 ^ 8) * 2 ^ S)) (split (after_rec g w) 5)
    ∙ ap (λ x. ((((x * 2 ^ 5 + after_count g w % 2 ^ 5) * 2 ^ C + after_value g w % 2 ^ C) * 2 ^ 8 + after_spare g w % 2 ^ 8) * 2 ^ S)) (split (after_offset g w) R)
    ∙ ap (λ x. (((x * 2 ^ C + after_value g w % 2 ^ C) * 2 ^ 8 + after_spare g w % 2 ^ 8) * 2 ^ S)) (split (after_count g w) 5)
    ∙ ap (λ x. ((x * 2 ^ 8 + after_spare g w % 2 ^ 8) * 2 ^ S)) (split (after_value g w) C)
    ∙ ap (λ x. x * 2 ^ S) (split (after_spare g w) 8)
    ∙ sym (add-zero _)
    ∙ ap (λ x. w / 2 ^ S * 2 ^ S + x) (sym spare_zero)
    ∙ split w S
  where
    R : ℕ
    R = g.record_bits

    C : ℕ
    C = g.cut_bits

    S : ℕ
    S = g.spare_bits

    total : 8 * word_size g ≡ 4 + (S + 8 + C + 5 + R + 5)
    total = omega (arith, proper.word_whole)

    kind_small : after_transaction g w < 2 ^ 4
    kind_small = subst (λ x. x < 2 ^ 4) (to_transaction g w) (shr_lt 4 (S + 8 + C + 5 + R + 5) (subst (λ n. w < 2 ^ n) total small))

    spare_zero : w % 2 ^ S ≡ 0
    spare_zero = ap (λ (f : Fields). f.spare) (sym (fields_are g w)) ∙ z

-- the word of fields that keep to their widths has the word's size
pub word_small : (g : Geometry) → Proper g → (f : Fields) → Bounded g f → word_of g f < 2 ^ (8 * word_size g)
unfolding word_of word
word_small g proper f B =
    subst (λ n. word_of g f < 2 ^ n) proper.word_whole
    (shl_lt (4 + 5 + R + 5 + C + 8) S
    (pack (4 + 5 + R + 5 + C) 8 (pack (4 + 5 + R + 5) C (pack (4 + 5 + R) 5 (pack (4 + 5) R (pack 4 5 B.kind_fits B.transaction_fits) B.rec_fits) B.offset_fits) B.count_fits) B.value_fits))
  where
    R : ℕ
    R = g.record_bits

    C : ℕ
    C = g.cut_bits

    S : ℕ
    S = g.spare_bits

    pack : {x y : ℕ} (j k : ℕ) → x < 2 ^ j → y < 2 ^ k → x * 2 ^ k + y < 2 ^ (j + k)
    pack {x} {y} j k p q = subst⁻¹ (λ z. x * 2 ^ k + y < z) (pow-add 2 j k) (digits_lt p q)
