-- Event words and events: what is encoded decodes to itself, what decodes fits its word and encodes to it again.
use mathlib.Core.Path.{◌≡◌, refl, sym, ◌∙◌, ap, subst, subst⁻¹}
use mathlib.Core.Bool.{Bool, true, false, cond, ◌&&◌, ◌||◌, false≢true}
use mathlib.Core.Option.{Option, none, some}
use Prim.Native.Nat.{ℕ, zero, suc, ◌*◌, ◌%◌, ◌^◌, ◌<◌}
use native.Mathlib.Omega.{arith}
use lib.Pow.{pow_pos}
use Rattle.laws.specs.Tests.{same, under, open_tests}
use Rattle.laws.proofs.Tests.{same-eq, same_refl, under-lt, lt-under}
use Rattle.laws.proofs.Booleans.{both}
use Rattle.rules.specs.Geometry.{Geometry, Proper, records, word_size, page_size, cut_of, cut_count, cut_way, way_limit}
use Rattle.rules.specs.Event.{Access, to_write, to_read, Event, begin, lock, write, read, commit, abort, crash, recover, prepare, decide, query, Fields, fields, well_formed, access_of, access_value, report_of, report_value, decision_of, decision_offset, event_of, decode, encode, fits, open_event}
use Rattle.rules.proofs.JointKinds.{decide_offset}
use Rattle.rules.proofs.Words.{of, Bounded, word_of, fields_bounded, fields_word, word_fields, word_small}

-- the event that fields stand for
judged : Geometry → Fields → Option Event
judged g f = cond (well_formed g f) (event_of g f) none

-- the fields of an event
unfoldable pub fields_of : Geometry → Event → Fields
fields_of g (begin t) = record { kind = 1; transaction = t; rec = 0; offset = 0; count = 0; value = 0; spare = 0 }
fields_of g (lock t r a) = record { kind = 2; transaction = t; rec = r; offset = 0; count = 0; value = access_value a; spare = 0 }
fields_of g (write t r o v) = record { kind = 3; transaction = t; rec = r; offset = o; count = 0; value = v; spare = 0 }
fields_of g (read t r o) = record { kind = 4; transaction = t; rec = r; offset = o; count = 0; value = 0; spare = 0 }
fields_of g (commit t k) = record { kind = 5; transaction = t; rec = 0; offset = 0; count = cut_count g.tears k; value = cut_way g.tears k; spare = 0 }
fields_of g (abort t w) = record { kind = 6; transaction = t; rec = 0; offset = 0; count = 0; value = report_value w; spare = 0 }
fields_of g crash = record { kind = 7; transaction = 0; rec = 0; offset = 0; count = 0; value = 0; spare = 0 }
fields_of g (recover k) = record { kind = 8; transaction = 0; rec = 0; offset = 0; count = cut_count g.tears k; value = cut_way g.tears k; spare = 0 }
fields_of g (prepare t k i) = record { kind = 9; transaction = t; rec = 0; offset = 0; count = k; value = i; spare = 0 }
fields_of g (decide d k i) = record { kind = 10; transaction = 0; rec = 0; offset = decision_offset d; count = k; value = i; spare = 0 }
fields_of g (query i) = record { kind = 11; transaction = 0; rec = 0; offset = 0; count = 0; value = i; spare = 0 }

-- the event is one that there is
allowed : Geometry → Event → Bool
allowed g (begin t) = true
allowed g (lock t r a) = true
allowed g (write t r o v) = true
allowed g (read t r o) = true
allowed g (commit t k) = true
allowed g (abort t w) = true
allowed g crash = true
allowed g (recover k) = true
allowed g (prepare t k i) = g.joint
allowed g (decide d k i) = g.joint
allowed g (query i) = g.joint

-- a decision's offset is below 2
offset_small : (d : Bool) → under (decision_offset d) 2 ≡ true
unfolding decision_offset open_tests
offset_small true = refl
offset_small false = refl

zero_small : under 0 1 ≡ true
unfolding open_tests
zero_small = refl

-- the kinds from 9 on, where they are
module _ (g : Geometry) (on : g.joint ≡ true) where
  judged_prepare : (t k i : ℕ) → under i 256 ≡ true → judged g (fields_of g (prepare t k i)) ≡ some (prepare t k i)
  unfolding judged fields_of open_event
  judged_prepare t k i e = rw (on, same_refl 0, e, zero_small)

  judged_decide : (d : Bool) (k i : ℕ) → under i 256 ≡ true → judged g (fields_of g (decide d k i)) ≡ some (decide d k i)
  unfolding judged fields_of open_event
  judged_decide true k i e = rw (on, same_refl 0, e, offset_small true)
  judged_decide false k i e = rw (on, same_refl 0, e, offset_small false)

  judged_query : (i : ℕ) → under i 256 ≡ true → judged g (fields_of g (query i)) ≡ some (query i)
  unfolding judged fields_of open_event
  judged_query i e = rw (on, same_refl 0, e, zero_small)

-- a cut's way is within its limit, and its count and way make it up again
way_in : (b : Bool) (k : ℕ) → under (cut_way b k) (suc (way_limit b)) ≡ true
way_in false k = zero_small
way_in true k = lt-under (k % 4) 4 (omega arith)

way_used : (b : Bool) (k : ℕ) → (b || same (cut_way b k) 0) ≡ true
way_used false k = same_refl 0
way_used true k = refl

cut_again : (b : Bool) (k : ℕ) → cut_of b (cut_count b k) (cut_way b k) ≡ k
cut_again false k = refl
cut_again true k = omega arith

judged_commit : (g : Geometry) (t k : ℕ) → judged g (fields_of g (commit t k)) ≡ some (commit t k)
unfolding judged fields_of open_event
judged_commit g t k = rw (same_refl 0, way_used g.tears k, way_in g.tears k, zero_small) (ap (λ (c : ℕ). some (commit t c)) (cut_again g.tears k))

judged_recover : (g : Geometry) (k : ℕ) → judged g (fields_of g (recover k)) ≡ some (recover k)
unfolding judged fields_of open_event
judged_recover g k = rw (same_refl 0, way_used g.tears k, way_in g.tears k, zero_small) (ap (λ (c : ℕ). some (recover c)) (cut_again g.tears k))

joined : (a b : Bool) → a ≡ true → b ≡ true → (a && b) ≡ true
joined true b p q = q
joined false b p q = absurd (false≢true p)

judged_fields_of : (g : Geometry) (e : Event) → fits g e ≡ true → judged g (fields_of g e) ≡ some e
unfolding judged fields_of open_event open_tests
judged_fields_of g (begin t) h = refl
judged_fields_of g (lock t r to_write) h = refl
judged_fields_of g (lock t r to_read) h = refl
judged_fields_of g (write t r o v) h =
    let a = both (under t 32 && under r (records g) && under o page_size) (under v 256) h in
    ap (λ (b : Bool). cond b (some (write t r o v)) none) (joined (under v 256) (under o 32) a.1 (both (under t 32 && under r (records g)) (under o page_size) a.0).1)
judged_fields_of g (read t r o) h = ap (λ (b : Bool). cond b (some (read t r o)) none) (both (under t 32 && under r (records g)) (under o page_size) h).1
judged_fields_of g (commit t k) h = judged_commit g t k
judged_fields_of g (abort t true) h = refl
judged_fields_of g (abort t false) h = refl
judged_fields_of g crash h = refl
judged_fields_of g (recover k) h = judged_recover g k
judged_fields_of g (prepare t k i) h = let a = both (under t 32 && under k (2 ^ g.cut_bits) && under i 256) g.joint h in judged_prepare g a.1 t k i (both (under t 32 && under k (2 ^ g.cut_bits)) (under i 256) a.0).1
judged_fields_of g (decide d k i) h = let a = both (under k (2 ^ g.cut_bits) && under i 256) g.joint h in judged_decide g a.1 d k i (both (under k (2 ^ g.cut_bits)) (under i 256) a.0).1
judged_fields_of g (query i) h = let a = both (under i 256) g.joint h in judged_query g a.1 i a.0

-- the other way: fields that stand for an event are that event's
data Kind (k : ℕ) : Type 0 where
  kind0 : k ≡ 0 → Kind k
  kind1 : k ≡ 1 → Kind k
  kind2 : k ≡ 2 → Kind k
  kind3 : k ≡ 3 → Kind k
  kind4 : k ≡ 4 → Kind k
  kind5 : k ≡ 5 → Kind k
  kind6 : k ≡ 6 → Kind k
  kind7 : k ≡ 7 → Kind k
  kind8 : k ≡ 8 → Kind k
  kind9 : k ≡ 9 → Kind k
  kind10 : k ≡ 10 → Kind k
  kind11 : k ≡ 11 → Kind k
  other : (n : ℕ) → k ≡ suc (suc (suc (suc (suc (suc (suc (suc (suc (suc (suc (suc n))))))))))) → Kind k

kind_cases : (k : ℕ) → Kind k
kind_cases zero = kind0 refl
kind_cases (suc zero) = kind1 refl
kind_cases (suc (suc zero)) = kind2 refl
kind_cases (suc (suc (suc zero))) = kind3 refl
kind_cases (suc (suc (suc (suc zero)))) = kind4 refl
kind_cases (suc (suc (suc (suc (suc zero))))) = kind5 refl
kind_cases (suc (suc (suc (suc (suc (suc zero)))))) = kind6 refl
kind_cases (suc (suc (suc (suc (suc (suc (suc zero))))))) = kind7 refl
kind_cases (suc (suc (suc (suc (suc (suc (suc (suc zero)))))))) = kind8 refl
kind_cases (suc (suc (suc (suc (suc (suc (suc (suc (suc zero))))))))) = kind9 refl
kind_cases (suc (suc (suc (suc (suc (suc (suc (suc (suc (suc zero)))))))))) = kind10 refl
kind_cases (suc (suc (suc (suc (suc (suc (suc (suc (suc (suc (suc zero))))))))))) = kind11 refl
kind_cases (suc (suc (suc (suc (suc (suc (suc (suc (suc (suc (suc (suc n)))))))))))) = other n refl

-- a choice that is there: the test holds, and it is the event of the choice
chosen : (b : Bool) (x e : Event) → cond b (some x) none ≡ some e → (b ≡ true) × (x ≡ e)
chosen true x e p = (refl, cc)
chosen false x e p = let z : ◌≡◌ {A = ℕ} 0 1 = cc in absurd (omega arith)

-- a field that is used or 0
used : (u : Bool) (a : ℕ) → (u || same a 0) ≡ true → a ≡ cond u a 0
used true a e = refl
used false a e = same-eq a 0 e

-- well-formed fields of a kind that uses some of them are 0 elsewhere, the value and the offset are within their limits, and the kind is known
pub record Cleared (k k' t r o c v s n m : ℕ) (kn ut ur uo uc uv : Bool) : Type 0 where
  pub is_cleared : of k t r o c v s ≡ of k' (cond ut t 0) (cond ur r 0) (cond uo o 0) (cond uc c 0) (cond uv v 0) 0
  pub value_in : v < n
  pub offset_in : o < m
  pub known : kn ≡ true

cleared : {k k' : ℕ} (t r o c v s n m : ℕ) (kn ut ur uo uc uv : Bool) → k ≡ k'
    → (kn && (ut || same t 0) && (ur || same r 0) && (uo || same o 0) && (uc || same c 0) && (uv || same v 0) && same s 0 && under v n && under o m) ≡ true
    → Cleared k k' t r o c v s n m kn ut ur uo uc uv
cleared t r o c v s n m kn ut ur uo uc uv q h =
    let y = both _ (under o m) h in
    let l = both _ (under v n) y.0 in
    let a = both _ (same s 0) l.0 in
    let b = both _ (uv || same v 0) a.0 in
    let d = both _ (uc || same c 0) b.0 in
    let e = both _ (uo || same o 0) d.0 in
    let f = both _ (ur || same r 0) e.0 in
    let x = both kn (ut || same t 0) f.0 in
    record {
      is_cleared = λ i. of (q i) (used ut t x.1 i) (used ur r f.1 i) (used uo o e.1 i) (used uc c d.1 i) (used uv v b.1 i) (same-eq s 0 a.1 i);
      value_in = under-lt v n l.1;
      offset_in = under-lt o m y.1;
      known = x.0;
    }

-- a value that asks for a lock is that of its access
access_value_lem : (v : ℕ) → v < 2 → v ≡ access_value (access_of v)
unfolding access_of access_value
access_value_lem zero h = refl
access_value_lem (suc zero) h = refl
access_value_lem (suc (suc n)) h = absurd (omega arith)

-- and one of an abort that of its report
report_value_lem : (v : ℕ) → v < 2 → v ≡ report_value (report_of v)
unfolding report_of report_value
report_value_lem zero h = refl
report_value_lem (suc zero) h = refl
report_value_lem (suc (suc n)) h = absurd (omega arith)

-- and the offset of a decide that of its decision
decision_offset_lem : (o : ℕ) → o < 2 → o ≡ decision_offset (decision_of o)
unfolding decision_of decision_offset
decision_offset_lem zero h = refl
decision_offset_lem (suc zero) h = refl
decision_offset_lem (suc (suc n)) h = absurd (omega arith)

-- and count and value of a cut those that it was made of
cut_back : (b : Bool) (c v : ℕ) → v < suc (way_limit b) → (c ≡ cut_count b (cut_of b c v)) × (cond b v 0 ≡ cut_way b (cut_of b c v))
cut_back false c v h = (refl, refl)
cut_back true c v h = (omega arith, omega arith)

-- by kind: what stands for an event is a choice by a test
abbrev IsOf : Geometry → (k : ℕ) (t r o c v s : ℕ) (e : Event) → Type 0
IsOf g k t r o c v s e = judged g (of k t r o c v s) ≡ some e

no_event : {e : Event} → ◌≡◌ {A = Option Event} none (some e) → ⊥
no_event p = let z : ◌≡◌ {A = ℕ} 0 1 = cc in omega arith

-- the fields are the event's, and there is such an event
abbrev Stands : Geometry → Fields → Event → Type 0
Stands g f e = (f ≡ fields_of g e) × (allowed g e ≡ true)

judged_is : (g : Geometry) (k t r o c v s : ℕ) (e : Event) → Kind k → judged g (of k t r o c v s) ≡ some e → Stands g (of k t r o c v s) e
unfolding judged fields_of open_event allowed
judged_is g k t r o c v s e (kind0 q) h = absurd (no_event (subst (λ k. IsOf g k t r o c v s e) q h))
judged_is g k t r o c v s e (kind1 q) h =
    let p = chosen _ (begin t) e (subst (λ k. IsOf g k t r o c v s e) q h) in
    let d = cleared t r o c v s 1 1 true true false false false false q p.0 in (d.is_cleared ∙ ap (fields_of g) p.1, sym (ap (allowed g) p.1))
judged_is g k t r o c v s e (kind2 q) h =
    let p = chosen _ (lock t r (access_of v)) e (subst (λ k. IsOf g k t r o c v s e) q h) in
    let d = cleared t r o c v s 2 1 true true true false false true q p.0 in
    (d.is_cleared ∙ ap (λ (x : ℕ). of 2 t r 0 0 x 0) (access_value_lem v d.value_in) ∙ ap (fields_of g) p.1, sym (ap (allowed g) p.1))
judged_is g k t r o c v s e (kind3 q) h =
    let p = chosen _ (write t r o v) e (subst (λ k. IsOf g k t r o c v s e) q h) in
    let d = cleared t r o c v s 256 32 true true true true false true q p.0 in (d.is_cleared ∙ ap (fields_of g) p.1, sym (ap (allowed g) p.1))
judged_is g k t r o c v s e (kind4 q) h =
    let p = chosen _ (read t r o) e (subst (λ k. IsOf g k t r o c v s e) q h) in
    let d = cleared t r o c v s 1 32 true true true true false false q p.0 in (d.is_cleared ∙ ap (fields_of g) p.1, sym (ap (allowed g) p.1))
judged_is g k t r o c v s e (kind5 q) h =
    let p = chosen _ (commit t (cut_of g.tears c v)) e (subst (λ k. IsOf g k t r o c v s e) q h) in
    let d = cleared t r o c v s (suc (way_limit g.tears)) 1 true true false false true g.tears q p.0 in
    let x = cut_back g.tears c v d.value_in in
    (d.is_cleared ∙ (λ i. of 5 t 0 0 (x.0 i) (x.1 i) 0) ∙ ap (fields_of g) p.1, sym (ap (allowed g) p.1))
judged_is g k t r o c v s e (kind6 q) h =
    let p = chosen _ (abort t (report_of v)) e (subst (λ k. IsOf g k t r o c v s e) q h) in
    let d = cleared t r o c v s 2 1 true true false false false true q p.0 in
    (d.is_cleared ∙ ap (λ (x : ℕ). of 6 t 0 0 0 x 0) (report_value_lem v d.value_in) ∙ ap (fields_of g) p.1, sym (ap (allowed g) p.1))
judged_is g k t r o c v s e (kind7 q) h =
    let p = chosen _ crash e (subst (λ k. IsOf g k t r o c v s e) q h) in
    let d = cleared t r o c v s 1 1 true false false false false false q p.0 in (d.is_cleared ∙ ap (fields_of g) p.1, sym (ap (allowed g) p.1))
judged_is g k t r o c v s e (kind8 q) h =
    let p = chosen _ (recover (cut_of g.tears c v)) e (subst (λ k. IsOf g k t r o c v s e) q h) in
    let d = cleared t r o c v s (suc (way_limit g.tears)) 1 true false false false true g.tears q p.0 in
    let x = cut_back g.tears c v d.value_in in
    (d.is_cleared ∙ (λ i. of 8 0 0 0 (x.0 i) (x.1 i) 0) ∙ ap (fields_of g) p.1, sym (ap (allowed g) p.1))
judged_is g k t r o c v s e (kind9 q) h =
    let p = chosen _ (prepare t c v) e (subst (λ k. IsOf g k t r o c v s e) q h) in
    let d = cleared t r o c v s 256 1 g.joint true false false true true q p.0 in (d.is_cleared ∙ ap (fields_of g) p.1, sym (ap (allowed g) p.1) ∙ d.known)
judged_is g k t r o c v s e (kind10 q) h =
    let p = chosen _ (decide (decision_of o) c v) e (subst (λ k. IsOf g k t r o c v s e) q h) in
    let d = cleared t r o c v s 256 2 g.joint false false true true true q p.0 in
    (d.is_cleared ∙ ap (λ (x : ℕ). of 10 0 0 x c v 0) (decision_offset_lem o (decide_offset g (of 10 t r o c v s) refl p.0)) ∙ ap (fields_of g) p.1, sym (ap (allowed g) p.1) ∙ d.known)
judged_is g k t r o c v s e (kind11 q) h =
    let p = chosen _ (query v) e (subst (λ k. IsOf g k t r o c v s e) q h) in
    let d = cleared t r o c v s 256 1 g.joint false false false false true q p.0 in (d.is_cleared ∙ ap (fields_of g) p.1, sym (ap (allowed g) p.1) ∙ d.known)
judged_is g k t r o c v s e (other n q) h = absurd (no_event (subst (λ k. IsOf g k t r o c v s e) q h))

access_small : (a : Access) → access_value a < 256
unfolding access_value
access_small to_write = omega arith
access_small to_read = omega arith

report_small : (w : Bool) → report_value w < 256
unfolding report_value
report_small true = omega arith
report_small false = omega arith

decision_small : (d : Bool) → decision_offset d < 32
unfolding decision_offset
decision_small true = omega arith
decision_small false = omega arith

way_small : (b : Bool) (k : ℕ) → cut_way b k < 256
way_small true k = omega arith
way_small false k = omega arith

-- an event fits exactly if its fields do
fits_bounded : (g : Geometry) (e : Event) → fits g e ≡ true → Bounded g (fields_of g e)
unfolding fields_of fits records
fits_bounded g (begin t) h = record { kind_fits = omega arith; transaction_fits = under-lt t 32 h; rec_fits = pow_pos g.record_bits; offset_fits = omega arith; count_fits = pow_pos g.cut_bits; value_fits = omega arith }
fits_bounded g (lock t r access) h =
    let a = both (under t 32) _ h in
    record { kind_fits = omega arith; transaction_fits = under-lt t 32 a.0; rec_fits = under-lt r _ a.1; offset_fits = omega arith; count_fits = pow_pos g.cut_bits; value_fits = access_small access }
fits_bounded g (write t r o v) h =
    let a = both _ (under v 256) h in
    let b = both _ (under o 32) a.0 in
    let d = both (under t 32) _ b.0 in
    record { kind_fits = omega arith; transaction_fits = under-lt t 32 d.0; rec_fits = under-lt r _ d.1; offset_fits = under-lt o 32 b.1; count_fits = pow_pos g.cut_bits; value_fits = under-lt v 256 a.1 }
fits_bounded g (read t r o) h =
    let b = both _ (under o 32) h in
    let d = both (under t 32) _ b.0 in
    record { kind_fits = omega arith; transaction_fits = under-lt t 32 d.0; rec_fits = under-lt r _ d.1; offset_fits = under-lt o 32 b.1; count_fits = pow_pos g.cut_bits; value_fits = omega arith }
fits_bounded g (commit t k) h =
    let a = both (under t 32) _ h in
    record { kind_fits = omega arith; transaction_fits = under-lt t 32 a.0; rec_fits = pow_pos g.record_bits; offset_fits = omega arith; count_fits = under-lt (cut_count g.tears k) _ a.1; value_fits = way_small g.tears k }
fits_bounded g (abort t w) h = record { kind_fits = omega arith; transaction_fits = under-lt t 32 h; rec_fits = pow_pos g.record_bits; offset_fits = omega arith; count_fits = pow_pos g.cut_bits; value_fits = report_small w }
fits_bounded g crash h = record { kind_fits = omega arith; transaction_fits = omega arith; rec_fits = pow_pos g.record_bits; offset_fits = omega arith; count_fits = pow_pos g.cut_bits; value_fits = omega arith }
fits_bounded g (recover k) h = record { kind_fits = omega arith; transaction_fits = omega arith; rec_fits = pow_pos g.record_bits; offset_fits = omega arith; count_fits = under-lt (cut_count g.tears k) _ h; value_fits = way_small g.tears k }
fits_bounded g (prepare t k i) h =
    let a = both _ (under i 256) (both _ g.joint h).0 in
    let b = both (under t 32) _ a.0 in
    record { kind_fits = omega arith; transaction_fits = under-lt t 32 b.0; rec_fits = pow_pos g.record_bits; offset_fits = omega arith; count_fits = under-lt k _ b.1; value_fits = under-lt i 256 a.1 }
fits_bounded g (decide d k i) h =
    let a = both _ (under i 256) (both _ g.joint h).0 in
    record { kind_fits = omega arith; transaction_fits = omega arith; rec_fits = pow_pos g.record_bits; offset_fits = decision_small d; count_fits = under-lt k _ a.0; value_fits = under-lt i 256 a.1 }
fits_bounded g (query i) h =
    record { kind_fits = omega arith; transaction_fits = omega arith; rec_fits = pow_pos g.record_bits; offset_fits = omega arith; count_fits = pow_pos g.cut_bits; value_fits = under-lt i 256 (both (under i 256) _ h).0 }

bounded_fits : (g : Geometry) (e : Event) → Bounded g (fields_of g e) → allowed g e ≡ true → fits g e ≡ true
unfolding fields_of fits records allowed
bounded_fits g (begin t) B a = lt-under t 32 B.transaction_fits
bounded_fits g (lock t r access) B a = rw (lt-under t 32 B.transaction_fits) (lt-under r _ B.rec_fits)
bounded_fits g (write t r o v) B a = rw (lt-under t 32 B.transaction_fits, lt-under r _ B.rec_fits, lt-under o 32 B.offset_fits) (lt-under v 256 B.value_fits)
bounded_fits g (read t r o) B a = rw (lt-under t 32 B.transaction_fits, lt-under r _ B.rec_fits) (lt-under o 32 B.offset_fits)
bounded_fits g (commit t k) B a = rw (lt-under t 32 B.transaction_fits) (lt-under (cut_count g.tears k) _ B.count_fits)
bounded_fits g (abort t w) B a = lt-under t 32 B.transaction_fits
bounded_fits g crash B a = refl
bounded_fits g (recover k) B a = lt-under (cut_count g.tears k) _ B.count_fits
bounded_fits g (prepare t k i) B a = rw (lt-under t 32 B.transaction_fits, lt-under k _ B.count_fits, lt-under i 256 B.value_fits) a
bounded_fits g (decide d k i) B a = rw (lt-under k _ B.count_fits, lt-under i 256 B.value_fits) a
bounded_fits g (query i) B a = rw (lt-under i 256 B.value_fits) a

encode_is : (g : Geometry) (e : Event) → encode g e ≡ word_of g (fields_of g e)
unfolding encode word_of fields_of
encode_is g (begin t) = refl
encode_is g (lock t r a) = refl
encode_is g (write t r o v) = refl
encode_is g (read t r o) = refl
encode_is g (commit t k) = refl
encode_is g (abort t w) = refl
encode_is g crash = refl
encode_is g (recover k) = refl
encode_is g (prepare t k i) = refl
encode_is g (decide d k i) = refl
encode_is g (query i) = refl

module _ (g : Geometry) where
  decode_judged : (w : ℕ) → decode g w ≡ judged g (fields g w)
  unfolding decode judged
  decode_judged w = refl

  no_spare : (e : Event) → (fields_of g e).spare ≡ 0
  unfolding fields_of
  no_spare (begin t) = refl
  no_spare (lock t r a) = refl
  no_spare (write t r o v) = refl
  no_spare (read t r o) = refl
  no_spare (commit t k) = refl
  no_spare (abort t w) = refl
  no_spare crash = refl
  no_spare (recover k) = refl
  no_spare (prepare t k i) = refl
  no_spare (decide d k i) = refl
  no_spare (query i) = refl

  -- a word that decodes has the fields of its event, and there is such an event
  stands : (w : ℕ) (e : Event) → decode g w ≡ some e → Stands g (fields g w) e
  stands w e h =
      let f = fields g w in
      judged_is g f.kind f.transaction f.rec f.offset f.count f.value f.spare e (kind_cases f.kind) (sym (decode_judged w) ∙ h)

  pub decode_fields : (w : ℕ) (e : Event) → decode g w ≡ some e → fields g w ≡ fields_of g e
  decode_fields w e h = (stands w e h).0

  -- an event that fits is decoded from its word
  pub decode_encode : (e : Event) → fits g e ≡ true → decode g (encode g e) ≡ some e
  decode_encode e h =
      decode_judged (encode g e)
      ∙ ap (judged g) (ap (fields g) (encode_is g e) ∙ fields_word g (fields_of g e) (fits_bounded g e h) (no_spare e))
      ∙ judged_fields_of g e h

  -- whatever the word: an event that it decodes to fits
  pub decode_fits : (w : ℕ) (e : Event) → decode g w ≡ some e → fits g e ≡ true
  decode_fits w e h = bounded_fits g e (subst (Bounded g) (decode_fields w e h) (fields_bounded g w)) (stands w e h).1

  -- a word of the word's size that decodes is the word of its event
  pub encode_decode : Proper g → (w : ℕ) (e : Event) → w < 2 ^ (8 * word_size g) → decode g w ≡ some e → encode g e ≡ w
  encode_decode proper w e small h =
      let same_fields = decode_fields w e h in
      encode_is g e ∙ ap (word_of g) (sym same_fields) ∙ word_fields g proper w small (ap (λ (f : Fields). f.spare) same_fields ∙ no_spare e)

  -- the word of an event that fits has the word's size
  pub encode_small : Proper g → (e : Event) → fits g e ≡ true → encode g e < 2 ^ (8 * word_size g)
  encode_small proper e h = subst⁻¹ (λ w. w < 2 ^ (8 * word_size g)) (encode_is g e) (word_small g proper (fields_of g e) (fits_bounded g e h))
