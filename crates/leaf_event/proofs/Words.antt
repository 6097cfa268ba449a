-- A word of any edition: a table of used fields that is the rules' table, and the test against it is theirs; words of bytes.
use mathlib.Core.Path.{◌≡◌, refl, sym, ap, ap₂, subst, subst⁻¹, ◌∙◌}
use mathlib.Core.Bool.{Bool, true, false, not, cond, ◌&&◌, ◌||◌, true≢false}
use mathlib.Core.List.{List, [], ◌∷◌}
use mathlib.Core.Logic.{dite}
use mathlib.Core.Option.{none}
use Prim.Native.Nat.{ℕ, zero, suc, ◌+◌, ◌*◌, ◌-◌, ◌/◌, ◌%◌, ◌^◌, ◌<◌, ◌≤◌}
use native.Mathlib.Nat.{mod-eq_of_lt, mod-lt, lt_of_le_of_lt, zero-add, add-zero, zero-div, zero-mod, mul-one, mul-add}
use native.Mathlib.Decide.{dec_lt}
use native.Mathlib.Omega.{arith}
use lib.Bits.{bit_and, bit_xor, and_le_l, and_self, xor_zero_r}
use lib.ListN.{length, get_or, take, drop, length-drop, get_or-eq_default}
use lib.Pow.{pow_pos}
use lib.Seq.{get_or-drop, drop-drop}
use Rattle.laws.specs.Tests.{same, under}
use Rattle.laws.specs.Counting.{all}
use Rattle.laws.specs.Bits.{bits}
use Rattle.laws.specs.Bytes.{number, number_from}
use Rattle.laws.proofs.Tests.{same_refl, same-eq, ne_false, Same, same_cases, is, isnt, Is, is_cases, yes', no', under-lt}
use Rattle.laws.proofs.Booleans.{both, clash}
use Rattle.laws.proofs.All.{and-true, and-false, all_plus, all_same, all_at}
use Rattle.laws.proofs.Bits.{within_is, field_within}
use Rattle.rules.specs.Geometry.{Geometry, Proper, records, word_size, cut_of, cut_count, cut_way, way_limit}
use Rattle.rules.specs.Event.{Fields, field, fields, Uses, uses, uses_of, no_kind, row, limits, limit_of, offset_limits, offset_limit_of, well_formed, event_at, event_of, decode}
use Rattle.rules.specs.Run.{words}
use Rattle.rules.specs.Editions.{geometry1, geometry2, geometry_pairs}
use Rattle.rules.proofs.JointKinds.{plain_kinds}
use Rattle.leaf_event.specs.Flags.{flags, flags2, flags_pairs}
use Rattle.leaf_event.specs.Meaning.{meaning, fields_of, apart, InWord}
use Rattle.leaf_event.specs.declared.Event.{Event}
use Rattle.leaf_event.proofs.Values.{field_limited}

-- where the fields begin, counted from the word's end (the value begins behind the spare bits), and the bits of a word
abbrev count_place : Geometry → ℕ
count_place g = g.spare_bits + 8

abbrev offset_place : Geometry → ℕ
offset_place g = count_place g + g.cut_bits

abbrev record_place : Geometry → ℕ
record_place g = offset_place g + 5

abbrev transaction_place : Geometry → ℕ
transaction_place g = record_place g + g.record_bits

abbrev kind_place : Geometry → ℕ
kind_place g = transaction_place g + 5

abbrev pub word_bits : Geometry → ℕ
word_bits g = kind_place g + 4

abbrev agrees : Bool → Bool → Bool
agrees true b = b
agrees false b = not b

-- the bits of m from place a, n of them, are all f
abbrev flagged : ℕ → ℕ → ℕ → Bool → Bool
flagged m a n f = all n (λ k. agrees (bits m (a + k)) f)

-- how many of its lowest bits a kind uses of the value: where pages tear a commit and a recover use two
abbrev way_bits : Bool → ℕ
way_bits false = 0
way_bits true = 2

abbrev value_bits : Geometry → ℕ → ℕ
value_bits g k = get_or (0 ∷ 0 ∷ 1 ∷ 8 ∷ 0 ∷ way_bits g.tears ∷ 1 ∷ 0 ∷ way_bits g.tears ∷ 8 ∷ 8 ∷ 8 ∷ []) k 0

-- and of the offset
abbrev offset_bits : ℕ → ℕ
offset_bits k = get_or (0 ∷ 0 ∷ 0 ∷ 5 ∷ 5 ∷ 0 ∷ 0 ∷ 0 ∷ 0 ∷ 0 ∷ 1 ∷ []) k 0

-- the entry of a kind that there is flags the fields of its row of the rules' table, n bits of the value, j bits of the offset, and the kind's own field
abbrev flags_fields : Geometry → ℕ → Uses → ℕ → ℕ → Bool
flags_fields g m u n j =
    flagged m 0 g.spare_bits false && (flagged m g.spare_bits n true && flagged m (g.spare_bits + n) (8 - n) false) && flagged m (count_place g) g.cut_bits u.count &&
    (flagged m (offset_place g) j true && flagged m (offset_place g + j) (5 - j) false) && flagged m (record_place g) g.record_bits u.rec &&
    flagged m (transaction_place g) 5 u.transaction && flagged m (kind_place g) 4 true

-- and that of any other kind nothing
abbrev flags_row : Geometry → ℕ → Uses → ℕ → ℕ → Bool
flags_row g m u n j = cond u.known (flags_fields g m u n j) (same m 0)

-- the whole table at once: of a known edition it computes
abbrev pub Right : Geometry → List ℕ → Type 0
Right g table = all 16 (λ k. flags_row g (get_or table k 0) (uses_of g k) (value_bits g k) (offset_bits k)) ≡ true

pub right1 : Right geometry1 flags
unfolding all bits same uses uses_of no_kind row
right1 = refl

pub right2 : Right geometry2 flags2
unfolding all bits same uses uses_of no_kind row
right2 = refl

pub right_pairs : Right geometry_pairs flags_pairs
unfolding all bits same uses uses_of no_kind row
right_pairs = refl

-- n bits hold the values up to the rules' limit, and none where the value isn't used
abbrev limits_row : Uses → ℕ → ℕ → Bool
limits_row u l n = under n 9 && same (suc l) (2 ^ n) && (u.value || same l 0)

limits_table : (g : Geometry) → all 16 (λ k. limits_row (uses_of g k) (limit_of g k) (value_bits g k)) ≡ true
unfolding all same under uses uses_of no_kind row limits limit_of
limits_table g = go (is_cases g.tears)
  where
    go : Is g.tears → all 16 (λ k. limits_row (uses_of g k) (limit_of g k) (value_bits g k)) ≡ true
    go (yes' e) = rw e refl
    go (no' e) = rw e refl

abbrev offsets_row : Uses → ℕ → ℕ → Bool
offsets_row u l n = under n 6 && same (suc l) (2 ^ n) && (u.offset || same l 0)

offsets_table : (g : Geometry) → all 16 (λ k. offsets_row (uses_of g k) (offset_limit_of k) (offset_bits k)) ≡ true
unfolding all same under uses uses_of no_kind row offset_limits offset_limit_of
offsets_table g = refl

agreed : (a b : Bool) → agrees a b ≡ true → a ≡ b
agreed true true e = refl
agreed true false e = sym e
agreed false true e = e
agreed false false e = refl

flags_at : (m a n : ℕ) (f : Bool) → flagged m a n f ≡ true → (k : ℕ) → k < n → bits m (a + k) ≡ f
flags_at m a n f e k h = agreed (bits m (a + k)) f (all_at n (λ k. agrees (bits m (a + k)) f) e k h)

-- a word is within its kind's flags exactly if no spare bit is set, the value is within the limit l, the offset within the limit h, and each other
-- field is used or 0
abbrev judged : Uses → ℕ → ℕ → Fields → Bool
judged u l h f =
    same f.spare 0 && under f.value (suc l) && (u.count || same f.count 0) && under f.offset (suc h) && (u.rec || same f.rec 0) &&
    (u.transaction || same f.transaction 0)

-- field by field, from the spare bits up to the kind
split : (g : Geometry) (p : ℕ → Bool) → all (word_bits g) p
    ≡ (all g.spare_bits p && all 8 (λ k. p (g.spare_bits + k)) && all g.cut_bits (λ k. p (count_place g + k)) && all 5 (λ k. p (offset_place g + k)) &&
    all g.record_bits (λ k. p (record_place g + k)) && all 5 (λ k. p (transaction_place g + k)) && all 4 (λ k. p (kind_place g + k)))
split g p =
    all_plus (kind_place g) 4 p
    ∙ ap (λ (b : Bool). b && all 4 (λ k. p (kind_place g + k))) (all_plus (transaction_place g) 5 p
    ∙ ap (λ (b : Bool). b && all 5 (λ k. p (transaction_place g + k))) (all_plus (record_place g) g.record_bits p
    ∙ ap (λ (b : Bool). b && all g.record_bits (λ k. p (record_place g + k))) (all_plus (offset_place g) 5 p
    ∙ ap (λ (b : Bool). b && all 5 (λ k. p (offset_place g + k))) (all_plus (count_place g) g.cut_bits p
    ∙ ap (λ (b : Bool). b && all g.cut_bits (λ k. p (count_place g + k))) (all_plus g.spare_bits 8 p)))))

-- n bits of at most b hold the numbers up to l
abbrev holds : ℕ → ℕ → ℕ → Bool
holds b l n = under n (suc b) && same (suc l) (2 ^ n)

module _ (w m a b l n : ℕ) (room : holds b l n ≡ true) where
  all-bits : n + (b - n) ≡ b
  all-bits = let h = under-lt n (suc b) (both (under n (suc b)) (same (suc l) (2 ^ n)) room).0 in omega arith

  span : suc l ≡ 2 ^ n
  span = same-eq (suc l) (2 ^ n) (both (under n (suc b)) (same (suc l) (2 ^ n)) room).1

  limit_judged : flagged m a n true ≡ true → flagged m (a + n) (b - n) false ≡ true → all b (λ k. not (bits w (a + k)) || bits m (a + k)) ≡ under (w / 2 ^ a % 2 ^ b) (suc l)
  limit_judged e f =
      ap (λ (j : ℕ). all j (λ k. not (bits w (a + k)) || bits m (a + k))) (sym all-bits)
      ∙ field_limited w m a n (b - n) (flags_at m a n true e) (flags_at m (a + n) (b - n) false f)
      ∙ ap₂ (λ (j x : ℕ). under (w / 2 ^ a % 2 ^ j) x) all-bits (sym span)

module _ (g : Geometry) (w m : ℕ) (u : Uses) (l n h j : ℕ) (right : flags_fields g m u n j ≡ true) (room : holds 8 l n ≡ true) (way : holds 5 h j ≡ true) where
  spare_judged : flagged m 0 g.spare_bits false ≡ true → all g.spare_bits (λ k. not (bits w k) || bits m k) ≡ same (w / 2 ^ 0 % 2 ^ g.spare_bits) 0
  spare_judged e =
      all_same g.spare_bits (λ k. not (bits w k) || bits m k) (λ k. not (bits w (0 + k)) || bits m (0 + k)) (λ k lt. ap (λ (i : ℕ). not (bits w i) || bits m i) (sym (zero-add k)))
      ∙ field_within w m 0 g.spare_bits false (flags_at m 0 g.spare_bits false e)

  fields_within : all (word_bits g) (λ k. not (bits w k) || bits m k) ≡ judged u l h (fields g w)
  unfolding fields field
  fields_within =
      let s = flagged m 0 g.spare_bits false in
      let v = flagged m g.spare_bits n true && flagged m (g.spare_bits + n) (8 - n) false in
      let c = flagged m (count_place g) g.cut_bits u.count in
      let o = flagged m (offset_place g) j true && flagged m (offset_place g + j) (5 - j) false in
      let r = flagged m (record_place g) g.record_bits u.rec in
      let t = flagged m (transaction_place g) 5 u.transaction in
      let q1 = both (s && v && c && o && r && t) (flagged m (kind_place g) 4 true) right in
      let q2 = both (s && v && c && o && r) t q1.0 in
      let q3 = both (s && v && c && o) r q2.0 in
      let q4 = both (s && v && c) o q3.0 in
      let q5 = both (s && v) c q4.0 in
      let q6 = both s v q5.0 in
      let value = both (flagged m g.spare_bits n true) (flagged m (g.spare_bits + n) (8 - n) false) q6.1 in
      let offset = both (flagged m (offset_place g) j true) (flagged m (offset_place g + j) (5 - j) false) q4.1 in
      split g (λ k. not (bits w k) || bits m k)
      ∙ ap₂ ◌&&◌ (ap₂ ◌&&◌ (ap₂ ◌&&◌ (ap₂ ◌&&◌ (ap₂ ◌&&◌ (ap₂ ◌&&◌
      (spare_judged q6.0)
      (limit_judged w m g.spare_bits 8 l n room value.0 value.1))
      (field_within w m (count_place g) g.cut_bits u.count (flags_at m (count_place g) g.cut_bits u.count q5.1)))
      (limit_judged w m (offset_place g) 5 h j way offset.0 offset.1))
      (field_within w m (record_place g) g.record_bits u.rec (flags_at m (record_place g) g.record_bits u.rec q3.1)))
      (field_within w m (transaction_place g) 5 u.transaction (flags_at m (transaction_place g) 5 u.transaction q2.1)))
      (field_within w m (kind_place g) 4 true (flags_at m (kind_place g) 4 true q1.1))
      ∙ and-true (judged u l h (fields g w))

-- the rules' order of the same tests, for a kind that there is
turned : (n t r o c v s y x : Bool) → n ≡ true → (n && t && r && o && c && v && s && y && x) ≡ (s && (v && y) && c && (o && x) && r && t)
turned false t r o c v s y x e = absurd (true≢false (sym e))
turned true false r o c v s y x e = sym (and-false (s && (v && y) && c && (o && x) && r))
turned true true false o c v s y x e = sym (ap (λ (b : Bool). b && true) (and-false (s && (v && y) && c && (o && x))))
turned true true true false c v s y x e = sym (ap (λ (b : Bool). b && true && true) (and-false (s && (v && y) && c)))
turned true true true true false v s y x e = sym (ap (λ (b : Bool). b && (true && x) && true && true) (and-false (s && (v && y))))
turned true true true true true false s y x e = sym (ap (λ (b : Bool). b && true && (true && x) && true && true) (and-false s))
turned true true true true true true false y x e = refl
turned true true true true true true true false x e = refl
turned true true true true true true true true false e = refl
turned true true true true true true true true true e = refl

-- a field within its limit is 0 where the field isn't used
limited : (b : Bool) (l v : ℕ) → (b || same l 0) ≡ true → ((b || same v 0) && under v (suc l)) ≡ under v (suc l)
limited true l v e = refl
limited false l v e = go (is_cases (under v (suc l)))
  where
    go : Is (under v (suc l)) → (same v 0 && under v (suc l)) ≡ under v (suc l)
    go (yes' h) = let k = under-lt v (suc l) h in let q = same-eq l 0 e in let z : v ≡ 0 = omega arith in ap (λ (b : Bool). b && under v (suc l)) (ap (λ (x : ℕ). same x 0) z ∙ same_refl 0)
    go (no' h) = ap (λ (b : Bool). same v 0 && b) h ∙ and-false (same v 0) ∙ sym h

-- the event of a word's fields, under its own kind or another; where pages tear count and way become one number
abbrev pub taken : Bool → ℕ → Fields → Event
taken tears k f = record { kind = k; transaction = f.transaction; rec = f.rec; offset = f.offset; count = cut_of tears f.count (cut_way tears f.value); value = f.value }

-- the same of an event whose word was taken apart
abbrev pub joined : Bool → Event → Event
joined tears e = record { kind = e.kind; transaction = e.transaction; rec = e.rec; offset = e.offset; count = cut_of tears e.count (cut_way tears e.value); value = e.value }

-- that number tells the count again
cut_count_lem : (b : Bool) (c v : ℕ) → cut_count b (cut_of b c (cut_way b v)) ≡ c
cut_count_lem false c v = refl
cut_count_lem true c v = omega arith

-- of the kinds up to 8 only a commit and a recover have a place of a cut, and none has another use of the count
at_place : (f : Fields) (n c d : ℕ) → f.kind ≡ n → n < 9 → (n ≡ 5 → c ≡ d) → (n ≡ 8 → c ≡ d) → event_at f c ≡ event_at (fields_of f.kind f.transaction f.rec f.offset d f.value) d
unfolding event_at fields_of
at_place f zero c d e h p q = rw e refl
at_place f (suc zero) c d e h p q = rw e refl
at_place f (suc (suc zero)) c d e h p q = rw e refl
at_place f (suc (suc (suc zero))) c d e h p q = rw e refl
at_place f (suc (suc (suc (suc zero)))) c d e h p q = rw e refl
at_place f (suc (suc (suc (suc (suc zero))))) c d e h p q = rw (e, p refl) refl
at_place f (suc (suc (suc (suc (suc (suc zero)))))) c d e h p q = rw e refl
at_place f (suc (suc (suc (suc (suc (suc (suc zero))))))) c d e h p q = rw e refl
at_place f (suc (suc (suc (suc (suc (suc (suc (suc zero)))))))) c d e h p q = rw (e, q refl) refl
at_place f (suc (suc (suc (suc (suc (suc (suc (suc (suc n))))))))) c d e h p q = absurd (omega (arith, h))

module _ (g : Geometry) where
  known_lt : (k : ℕ) → (uses_of g k).known ≡ true → k < 12
  unfolding uses_of uses no_kind row
  known_lt k e =
      dite (dec_lt k 12) (λ lt. lt) (λ ge.
      absurd (true≢false (sym e ∙ ap (λ (u : Uses). u.known) (get_or-eq_default (uses g) no_kind {n = k} (omega arith)))))

  -- the kinds from 9 on are known only where transactions can be prepared
  known_joint : (k : ℕ) → (uses_of g k).known ≡ true → 8 < k → g.joint ≡ true
  known_joint k e h = go (is_cases g.joint)
    where
      go : Is g.joint → g.joint ≡ true
      go (yes' j) = j
      go (no' j) =
          let q : k ≡ suc (suc (suc (suc (suc (suc (suc (suc (suc (k - 9))))))))) = omega (arith, h) in
          absurd (true≢false (sym e ∙ ap (λ (n : ℕ). (uses_of g n).known) q ∙ plain_kinds g j (k - 9)))

  formed_known : (f : Fields) → f.kind < 16 → (uses_of g f.kind).known ≡ true → well_formed g f ≡ judged (uses_of g f.kind) (limit_of g f.kind) (offset_limit_of f.kind) f
  unfolding well_formed
  formed_known f below e =
      let k = f.kind in
      let u = uses_of g k in
      let l = limit_of g k in
      let h = offset_limit_of k in
      let room = all_at 16 (λ k. limits_row (uses_of g k) (limit_of g k) (value_bits g k)) (limits_table g) k below in
      let way = all_at 16 (λ k. offsets_row (uses_of g k) (offset_limit_of k) (offset_bits k)) (offsets_table g) k below in
      turned u.known (u.transaction || same f.transaction 0) (u.rec || same f.rec 0) (u.offset || same f.offset 0) (u.count || same f.count 0) (u.value || same f.value 0)
      (same f.spare 0) (under f.value (suc l)) (under f.offset (suc h)) e
      ∙ ap₂ (λ (b d : Bool). same f.spare 0 && b && (u.count || same f.count 0) && d && (u.rec || same f.rec 0) && (u.transaction || same f.transaction 0))
      (limited u.value l f.value (both (under (value_bits g k) 9 && same (suc l) (2 ^ value_bits g k)) (u.value || same l 0) room).1)
      (limited u.offset h f.offset (both (under (offset_bits k) 6 && same (suc h) (2 ^ offset_bits k)) (u.offset || same h 0) way).1)

  formed_unknown : (f : Fields) → (uses_of g f.kind).known ≡ false → well_formed g f ≡ false
  unfolding well_formed
  formed_unknown f e = rw e refl

  -- a word's kind, as a place in a table of sixteen
  kind_below : (w : ℕ) → (fields g w).kind < 16
  unfolding fields field
  kind_below w = mod-lt (w / 2 ^ kind_place g) (pow_pos 4)

  -- the fields of a word are within their widths
  within : (w k : ℕ) → k < 12 → (8 < k → g.joint ≡ true) → (8 < k → g.tears ≡ false) → InWord g (taken g.tears k (fields g w))
  unfolding fields field records
  within w k below j t = record {
    kind = below;
    transaction = mod-lt (w / 2 ^ transaction_place g) (pow_pos 5);
    rec = mod-lt (w / 2 ^ record_place g) (pow_pos g.record_bits);
    offset = mod-lt (w / 2 ^ offset_place g) (pow_pos 5);
    count = subst⁻¹ (λ (n : ℕ). n < 2 ^ g.cut_bits) (cut_count_lem g.tears (w / 2 ^ count_place g % 2 ^ g.cut_bits) (w / 2 ^ g.spare_bits % 2 ^ 8)) (mod-lt (w / 2 ^ count_place g) (pow_pos g.cut_bits));
    value = mod-lt (w / 2 ^ g.spare_bits) (pow_pos 8);
    joint = j;
    still = t;
  }

  -- what a bad word is taken for
  bad_kind : (f : Fields) → meaning (taken g.tears 0 f) ≡ none
  unfolding meaning fields_of event_at
  bad_kind f = refl

  at_count : (f : Fields) → event_at f f.count ≡ meaning (taken false f.kind f)
  unfolding meaning fields_of event_at
  at_count f = refl

  -- of a well formed word the value is within its limit
  formed_value : (f : Fields) → well_formed g f ≡ true → under f.value (suc (limit_of g f.kind)) ≡ true
  unfolding well_formed
  formed_value f h =
      let u = uses_of g f.kind in
      let used = u.known && (u.transaction || same f.transaction 0) && (u.rec || same f.rec 0) && (u.offset || same f.offset 0) && (u.count || same f.count 0) && (u.value || same f.value 0) && same f.spare 0 in
      let value = under f.value (suc (limit_of g f.kind)) in
      (both used value (both (used && value) (under f.offset (suc (offset_limit_of f.kind))) h).0).1

  -- where pages tear the value of a commit and of a recover is a way
  way_of : (k v : ℕ) → g.tears ≡ true → under v (suc (limit_of g k)) ≡ true → (k ≡ 5 → v < 4) × (k ≡ 8 → v < 4)
  unfolding limit_of limits
  way_of k v t h = (
    λ e. under-lt v 4 (subst (λ (b : Bool). under v (suc (way_limit b)) ≡ true) t (subst (λ (n : ℕ). under v (suc (get_or (limits g) n 0)) ≡ true) e h)),
    λ e. under-lt v 4 (subst (λ (b : Bool). under v (suc (way_limit b)) ≡ true) t (subst (λ (n : ℕ). under v (suc (get_or (limits g) n 0)) ≡ true) e h)),
  )

  decode_is : (w : ℕ) → decode g w ≡ cond (well_formed g (fields g w)) (event_of g (fields g w)) none
  unfolding decode
  decode_is w = refl

  module _ (table : List ℕ) (right : Right g table) (proper : Proper g) where
    -- and where they tear, no transaction is prepared
    known_still : (k : ℕ) → (uses_of g k).known ≡ true → 8 < k → g.tears ≡ false
    known_still k e h = go (is_cases g.tears)
      where
        go : Is g.tears → g.tears ≡ false
        go (yes' t) = clash (known_joint k e h) (proper.torn_plain t)
        go (no' t) = t

    own_kind : (f : Fields) → (uses_of g f.kind).known ≡ true → well_formed g f ≡ true → event_of g f ≡ meaning (taken g.tears f.kind f)
    unfolding event_of meaning
    own_kind f known h = go g.tears refl
      where
        torn : g.tears ≡ true → f.kind < 9 → event_at f (4 * f.count + f.value) ≡ meaning (taken true f.kind f)
        torn t l =
            let v = way_of f.kind f.value t (formed_value f h) in
            at_place f f.kind (4 * f.count + f.value) (4 * f.count + f.value % 4) refl l (λ e. let k = v.0 e in omega arith) (λ e. let k = v.1 e in omega arith)

        go : (b : Bool) → g.tears ≡ b → event_at f (cut_of b f.count f.value) ≡ meaning (taken b f.kind f)
        go false t = at_count f
        go true t = dite (dec_lt f.kind 9) (torn t) (λ ge. clash t (known_still f.kind known (omega arith)))

    -- the code's test: the bits of a word that are outside the flags of its kind
    abbrev outside : ℕ → ℕ
    outside w = bit_and w (bit_xor w (get_or table (fields g w).kind 0))

    row_at : (w : ℕ) → flags_row g (get_or table (fields g w).kind 0) (uses_of g (fields g w).kind) (value_bits g (fields g w).kind) (offset_bits (fields g w).kind) ≡ true
    row_at w = all_at 16 (λ k. flags_row g (get_or table k 0) (uses_of g k) (value_bits g k) (offset_bits k)) right (fields g w).kind (kind_below w)

    test_known : (w : ℕ) → w < 2 ^ word_bits g → (uses_of g (fields g w).kind).known ≡ true → same (outside w) 0 ≡ well_formed g (fields g w)
    test_known w h e =
        let k = (fields g w).kind in
        let u = uses_of g k in
        let m = get_or table k 0 in
        let l = limit_of g k in
        let o = offset_limit_of k in
        let room = (both (holds 8 l (value_bits g k)) (u.value || same l 0) (all_at 16 (λ k. limits_row (uses_of g k) (limit_of g k) (value_bits g k)) (limits_table g) k (kind_below w))).0 in
        let way = (both (holds 5 o (offset_bits k)) (u.offset || same o 0) (all_at 16 (λ k. offsets_row (uses_of g k) (offset_limit_of k) (offset_bits k)) (offsets_table g) k (kind_below w))).0 in
        ap (λ (x : ℕ). same x 0) (sym (mod-eq_of_lt (lt_of_le_of_lt (and_le_l w (bit_xor w m)) h)))
        ∙ within_is (word_bits g) w m
        ∙ fields_within g w m u l (value_bits g k) o (offset_bits k) (ap (λ (b : Bool). cond b (flags_fields g m u (value_bits g k) (offset_bits k)) (same m 0)) (sym e) ∙ row_at w) room way
        ∙ sym (formed_known (fields g w) (kind_below w) e)

    -- a word of a kind that there isn't passes only if it is 0
    test_unknown : (w : ℕ) → (uses_of g (fields g w).kind).known ≡ false → same (outside w) 0 ≡ true → (fields g w).kind ≡ 0
    unfolding fields field
    test_unknown w e h =
        let m = get_or table (fields g w).kind 0 in
        let none_flagged : m ≡ 0 = same-eq m 0 (ap (λ (b : Bool). cond b (flags_fields g m (uses_of g (fields g w).kind) (value_bits g (fields g w).kind) (offset_bits (fields g w).kind)) (same m 0)) (sym e) ∙ row_at w) in
        let z : w ≡ 0 = sym (ap (λ (x : ℕ). bit_and w (bit_xor w x)) none_flagged ∙ ap (bit_and w) (xor_zero_r w) ∙ and_self w) ∙ same-eq (outside w) 0 h in
        ap (λ (x : ℕ). x / 2 ^ kind_place g % 2 ^ 4) z ∙ ap (λ (x : ℕ). x % 2 ^ 4) (zero-div (2 ^ kind_place g)) ∙ zero-mod (2 ^ 4)

    -- the test by a list and a number that are the table and the word's kind
    by_table : (w k : ℕ) (l : List ℕ) → l ≡ table → k ≡ (fields g w).kind → bit_and w (bit_xor w (get_or l k 0)) ≡ outside w
    by_table w k l t n = ap₂ (λ (l : List ℕ) (k : ℕ). bit_and w (bit_xor w (get_or l k 0))) t n

    -- taken apart, a word that passes the test is the event of its fields
    pub passes : (w k : ℕ) (l : List ℕ) → w < 2 ^ word_bits g → l ≡ table → k ≡ (fields g w).kind → bit_and w (bit_xor w (get_or l k 0)) ≡ 0
        → (decode g w ≡ meaning (taken g.tears (fields g w).kind (fields g w))) × InWord g (taken g.tears (fields g w).kind (fields g w))
    passes w k l h t n z = go (is_cases (uses_of g (fields g w).kind).known)
      where
        e : same (outside w) 0 ≡ true
        e = ap (λ (x : ℕ). same x 0) (sym (by_table w k l t n) ∙ z) ∙ same_refl 0

        go : Is (uses_of g (fields g w).kind).known → (decode g w ≡ meaning (taken g.tears (fields g w).kind (fields g w))) × InWord g (taken g.tears (fields g w).kind (fields g w))
        go (yes' known) = (
          decode_is w ∙ ap (λ (b : Bool). cond b (event_of g (fields g w)) none) (sym (test_known w h known) ∙ e) ∙ own_kind (fields g w) known (sym (test_known w h known) ∙ e),
          within w (fields g w).kind (known_lt (fields g w).kind known) (known_joint (fields g w).kind known) (known_still (fields g w).kind known),
        )
        go (no' unknown) =
            let none_of_them = test_unknown w unknown e in (
              decode_is w ∙ ap (λ (b : Bool). cond b (event_of g (fields g w)) none) (formed_unknown (fields g w) unknown)
                  ∙ sym (ap (λ (n : ℕ). meaning (taken g.tears n (fields g w))) none_of_them ∙ bad_kind (fields g w)),
              within w (fields g w).kind (omega arith) (λ lt. absurd (omega arith)) (λ lt. absurd (omega arith)),
            )

    -- and one that does not is none
    pub fails : (w k : ℕ) (l : List ℕ) → w < 2 ^ word_bits g → l ≡ table → k ≡ (fields g w).kind → (bit_and w (bit_xor w (get_or l k 0)) ≡ 0 → ⊥)
        → (decode g w ≡ meaning (taken g.tears 0 (fields g w))) × InWord g (taken g.tears 0 (fields g w))
    fails w k l h t n nz = (go (is_cases (uses_of g (fields g w).kind).known) ∙ sym (bad_kind (fields g w)), within w 0 (omega arith) (λ lt. absurd (omega arith)) (λ lt. absurd (omega arith)))
      where
        e : same (outside w) 0 ≡ false
        e = ne_false (outside w) 0 (λ z. nz (by_table w k l t n ∙ z))

        go : Is (uses_of g (fields g w).kind).known → decode g w ≡ none
        go (yes' known) = decode_is w ∙ ap (λ (b : Bool). cond b (event_of g (fields g w)) none) (sym (test_known w h known) ∙ e)
        go (no' unknown) = decode_is w ∙ ap (λ (b : Bool). cond b (event_of g (fields g w)) none) (formed_unknown (fields g w) unknown)

    -- a word taken apart by the table, in both cases; where pages tear count and way are then made one number
    pub told_apart : (w : ℕ) (l : List ℕ) → w < 2 ^ word_bits g → l ≡ table
        → (decode g w ≡ meaning (joined g.tears (apart g l w))) × InWord g (joined g.tears (apart g l w))
    unfolding apart
    told_apart w l h t = go (same_cases (bit_and w (bit_xor w (get_or l (fields g w).kind 0))) 0)
      where
        go : Same (bit_and w (bit_xor w (get_or l (fields g w).kind 0))) 0
            → (decode g w ≡ meaning (joined g.tears (apart g l w))) × InWord g (joined g.tears (apart g l w))
        go (is z s _) = rw s (passes w (fields g w).kind l h t refl z)
        go (isnt nz s _) = rw s (fails w (fields g w).kind l h t refl nz)

-- the number of a list's first four bytes
four : (l : List ℕ) → 4 ≤ length l → number (take 4 l) ≡ get_or l 0 0 * 16777216 + get_or l 1 0 * 65536 + get_or l 2 0 * 256 + get_or l 3 0
unfolding number number_from
four [] h = absurd (omega arith)
four (a ∷ []) h = absurd (omega arith)
four (a ∷ b ∷ []) h = absurd (omega arith)
four (a ∷ b ∷ c ∷ []) h = absurd (omega arith)
four (a ∷ b ∷ c ∷ d ∷ l) h = omega arith

pub four_at : (at : ℕ) (l : List ℕ) → at + 4 ≤ length l
    → number (take 4 (drop at l)) ≡ get_or l at 0 * 16777216 + get_or l (at + 1) 0 * 65536 + get_or l (at + 2) 0 * 256 + get_or l (at + 3) 0
four_at at l h =
    four (drop at l) (simp length-drop (omega arith))
    ∙ ap₂ ◌+◌ (ap₂ ◌+◌ (ap₂ (λ (x y : ℕ). x * 16777216 + y * 65536) (get_or-drop at l 0 0 ∙ ap (λ (x : ℕ). get_or l x 0) (add-zero at)) (get_or-drop at l 1 0)) (ap (λ (x : ℕ). x * 256) (get_or-drop at l 2 0)))
    (get_or-drop at l 3 0)

-- and of its first eight, by the four and the next four
eight : (l : List ℕ) → 8 ≤ length l → number (take 8 l) ≡ number (take 4 l) * 4294967296 + number (take 4 (drop 4 l))
unfolding number number_from
eight [] h = absurd (omega arith)
eight (a ∷ []) h = absurd (omega arith)
eight (a ∷ b ∷ []) h = absurd (omega arith)
eight (a ∷ b ∷ c ∷ []) h = absurd (omega arith)
eight (a ∷ b ∷ c ∷ d ∷ []) h = absurd (omega arith)
eight (a ∷ b ∷ c ∷ d ∷ e ∷ []) h = absurd (omega arith)
eight (a ∷ b ∷ c ∷ d ∷ e ∷ f ∷ []) h = absurd (omega arith)
eight (a ∷ b ∷ c ∷ d ∷ e ∷ f ∷ i ∷ []) h = absurd (omega arith)
eight (a ∷ b ∷ c ∷ d ∷ e ∷ f ∷ i ∷ j ∷ l) h = omega arith

pub eight_at : (k : ℕ) (l : List ℕ) → 8 * k + 8 ≤ length l
    → number (take 8 (drop (8 * k) l)) ≡ number (take 4 (drop (4 * (2 * k)) l)) * 4294967296 + number (take 4 (drop (4 * (2 * k + 1)) l))
eight_at k l h =
    let p : 8 * k ≡ 4 * (2 * k) = omega arith in
    let q : 8 * k + 4 ≡ 4 * (2 * k + 1) = omega arith in
    eight (drop (8 * k) l) (simp length-drop (omega arith))
    ∙ ap₂ (λ (x y : List ℕ). number (take 4 x) * 4294967296 + number (take 4 y)) (ap (λ (n : ℕ). drop n l) p) (drop-drop 4 (8 * k) l ∙ ap (λ (n : ℕ). drop n l) q)

-- the bytes of a word
pub bytes1 : word_size geometry1 ≡ 4
unfolding word_size
bytes1 = refl

pub bytes2 : word_size geometry2 ≡ 8
unfolding word_size
bytes2 = refl

-- words of s bytes, from place k on: the word there, then those from k + 1 on
pub words_next : (g : Geometry) (s : ℕ) → word_size g ≡ s → (n k : ℕ) (bs : List ℕ)
    → words g (suc n) (drop (s * k) bs) ≡ number (take s (drop (s * k) bs)) ∷ words g n (drop (s * (k + 1)) bs)
unfolding words
words_next g s e n k bs =
    ap (λ (x : ℕ). number (take x (drop (s * k) bs)) ∷ words g n (drop x (drop (s * k) bs))) e
    ∙ ap (λ (l : List ℕ). number (take s (drop (s * k) bs)) ∷ words g n l) (drop-drop s (s * k) bs ∙ ap (λ (m : ℕ). drop m bs) (sym (mul-add s k 1 ∙ ap (λ (x : ℕ). s * k + x) (mul-one s))))
