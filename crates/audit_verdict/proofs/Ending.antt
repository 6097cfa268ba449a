-- The refusals by their numbers, and the verdict by where the walk ended.
use mathlib.Core.Path.{◌≡◌, refl, sym, ap, ◌∙◌}
use mathlib.Core.Bool.{Bool, true, false, not, cond, ◌&&◌, ◌||◌}
use mathlib.Core.List.{List, [], ◌∷◌}
use mathlib.Core.Option.{Option, none, some}
use Prim.Native.Nat.{ℕ, ◌*◌, ◌/◌, ◌%◌, ◌<◌, ◌≤◌}
use native.Mathlib.Omega.{arith}
use lib.Dec.{eqb}
use lib.Pointwise.{pointwise}
use lib.ListN.{length}
use Rattle.std.specs.Prelude.{Result, Ok, Err}
use Rattle.std.specs.Result.{IsErrAnd}
use Rattle.laws.specs.Bytes.{same_list}
use Rattle.laws.specs.Tests.{same, under}
use Rattle.laws.specs.Counting.{lowest}
use Rattle.laws.proofs.Tests.{lt-under, under-lt, not-under, same-eq, or_false_left, or_false_right}
use Rattle.laws.proofs.Booleans.{refute, not-false}
use Rattle.rules.specs.Geometry.{records, page_count, word_size}
use Rattle.rules.specs.Store.{Pages, pages_of, flat}
use Rattle.rules.specs.Step.{first_of, is_busy}
use Rattle.rules.specs.Run.{words, events_in}
use Rattle.rules.specs.Editions.{geometry1, edition1}
use Rattle.rules.proofs.Editions.{proper1}
use Rattle.rules.proofs.AtomicPages.{atomic_laws}
use Rattle.history.specs.Demand3.{settled_in}
use Rattle.audit_rules.specs.Plain.{blank_ledger}
use Rattle.audit_rules.specs.Audit.{Verdict, belongs, wrong_event, wrong_page, refuses, some_two_phase, audit_refusals, same_page, verdict, audit_by, audit, audit1}
use Rattle.audit_rules.specs.Walk.{Walked, wrong, right, walk, verdict_by, plain_by, plain_audit}
use Rattle.audit_rules.proofs.Audits.{audit1_is}
use Rattle.audit_verdict.specs.Codes.{number_in, place_in, refusal_of, Fit}

module _ (start events answers end : List ℕ) where
  abbrev b22 : Bool
  b22 = not (same (length start) 1056) || not (same (length end) 1056)

  abbrev b20 : Bool
  b20 = not (same (length events % 4) 0) || under 16384 (length events)

  abbrev b21 : Bool
  b21 = under (length answers) (2 * (length events / 4))

  abbrev b30 : Bool
  b30 = some_two_phase geometry1 (words geometry1 (length events / 4) events) || is_busy (edition1.medium.prepared (edition1.medium.from_bytes start))

  refusals_are : audit_refusals edition1 start events answers end ≡ (22, b22) ∷ (20, b20) ∷ (21, b21) ∷ (30, b30) ∷ []
  unfolding audit_refusals events_in word_size page_count records
  refusals_are = refl

  pub sizes : b22 ≡ false → (length start ≡ 1056) × (length end ≡ 1056)
  sizes e = (
    same-eq (length start) 1056 (not-false _ (or_false_left (not (same (length start) 1056)) (not (same (length end) 1056)) e)),
    same-eq (length end) 1056 (not-false _ (or_false_right (not (same (length start) 1056)) (not (same (length end) 1056)) e)),
  )

  pub short : b20 ≡ false → (length events / 4 ≤ 4096) × (4 * (length events / 4) ≤ length events)
  short e = let h = not-under 16384 (length events) (or_false_right (not (same (length events % 4) 0)) (under 16384 (length events)) e) in (omega (arith, h), omega arith)

  pub fit : b22 ≡ false → b20 ≡ false → b21 ≡ false → Fit (length start) (length events) (length answers) (length end)
  fit a b c = record { starts = (sizes a).0; ends = (sizes a).1; short = (short b).0; whole = (short b).1; room = not-under (length answers) (2 * (length events / 4)) c }

  abbrev first : Option ℕ
  first = first_of (audit_refusals edition1 start events answers end)

  pub first_22 : b22 ≡ true → first ≡ refusal_of 22
  unfolding first_of refusal_of same
  first_22 a = ap first_of refusals_are ∙ rw a

  pub first_20 : b22 ≡ false → b20 ≡ true → first ≡ refusal_of 20
  unfolding first_of refusal_of same
  first_20 a b = ap first_of refusals_are ∙ rw (a, b)

  pub first_21 : b22 ≡ false → b20 ≡ false → b21 ≡ true → first ≡ refusal_of 21
  unfolding first_of refusal_of same
  first_21 a b c = ap first_of refusals_are ∙ rw (a, b, c)

  pub first_30 : b22 ≡ false → b20 ≡ false → b21 ≡ false → b30 ≡ true → first ≡ refusal_of 30
  unfolding first_of refusal_of same
  first_30 a b c d = ap first_of refusals_are ∙ rw (a, b, c, d)

  pub first_0 : b22 ≡ false → b20 ≡ false → b21 ≡ false → b30 ≡ false → first ≡ refusal_of 0
  unfolding first_of refusal_of same
  first_0 a b c d = ap first_of refusals_are ∙ rw (a, b, c, d)

  pub verdict_refused : (m : ℕ) → first ≡ some m → audit1 start events answers end ≡ refuses m
  unfolding audit1 audit audit_by
  verdict_refused m e = ap (audit_by edition1 start events answers end) e

  abbrev n : ℕ
  n = length events / 4

  verdict_walked : (r : ℕ) (w : Walked Pages) → r ≡ 0 → first ≡ refusal_of r → walk edition1 (settled_in edition1 start) answers blank_ledger (pages_of start) 0 (words geometry1 n events) ≡ w
      → audit1 start events answers end ≡ verdict_by edition1 end w
  unfolding plain_audit plain_by refusal_of same events_in word_size
  verdict_walked r w z e q =
      sym (audit1_is start events answers end)
      ∙ ap (plain_by edition1 start events answers end) (e ∙ ap (λ (m : ℕ). cond (same m 0) none (some m)) z)
      ∙ ap (verdict_by edition1 end) q

  module _ (copy store : List ℕ) (r k : ℕ) (z : r ≡ 0) (e : first ≡ refusal_of r) (same_bytes : copy ≡ start)
      (walked : walk edition1 (settled_in edition1 start) answers blank_ledger (pages_of copy) 0 (words geometry1 n events) ≡ cond (under k n) (wrong k) (right (pages_of store))) where
    q : walk edition1 (settled_in edition1 start) answers blank_ledger (pages_of start) 0 (words geometry1 n events) ≡ cond (under k n) (wrong k) (right (pages_of store))
    q = ap (λ (c : List ℕ). walk edition1 (settled_in edition1 start) answers blank_ledger (pages_of c) 0 (words geometry1 n events)) (sym same_bytes) ∙ walked

    pub verdict_event : k < n → audit1 start events answers end ≡ wrong_event k
    unfolding verdict_by
    verdict_event h = verdict_walked r (wrong k) z e (q ∙ ap (λ (b : Bool). cond b (wrong k) (right (pages_of store))) (lt-under k n h))

    module _ (h : n ≤ k) (sized : length store ≡ 1056) (p : ℕ) (f : p ≡ lowest 33 (λ i. not (same_page edition1 end store i))) where
      bytes_back : flat 33 (pages_of store) ≡ store
      unfolding page_count records
      bytes_back = (atomic_laws geometry1 proper1).to_from store sized

      by_pages : audit1 start events answers end ≡ cond (under p 33) (wrong_page p) belongs
      unfolding verdict_by verdict under page_count records
      by_pages =
          verdict_walked r (right (pages_of store)) z e (q ∙ ap (λ (b : Bool). cond b (wrong k) (right (pages_of store))) (refute (under k n) (λ d. let g = under-lt k n d in omega (arith, g, h))))
          ∙ ap (λ (s : List ℕ). cond (under (lowest 33 (λ i. not (same_page edition1 end s i))) 33) (wrong_page (lowest 33 (λ i. not (same_page edition1 end s i)))) belongs) bytes_back
          ∙ ap (λ (m : ℕ). cond (under m 33) (wrong_page m) belongs) (sym f)

      pub verdict_page : p < 33 → audit1 start events answers end ≡ wrong_page p
      verdict_page g = by_pages ∙ ap (λ (b : Bool). cond b (wrong_page p) belongs) (lt-under p 33 g)

      pub verdict_belongs : 33 ≤ p → audit1 start events answers end ≡ belongs
      verdict_belongs g = by_pages ∙ ap (λ (b : Bool). cond b (wrong_page p) belongs) (refute (under p 33) (λ d. let j = under-lt p 33 d in omega (arith, g, j)))

-- by number and place
pub told : (v w : Verdict) (r p before : ℕ) → v ≡ w → r ≡ number_in w → p ≡ place_in w before → (r ≡ number_in v) × (p ≡ place_in v before)
told v w r p before e a b = (a ∙ ap number_in (sym e), b ∙ ap (λ (x : Verdict). place_in x before) (sym e))

-- equal bytes
pub pointwise_is : (xs ys : List ℕ) → pointwise eqb xs ys ≡ same_list xs ys
unfolding same_list same
pointwise_is [] [] = refl
pointwise_is [] (y ∷ ys) = refl
pointwise_is (x ∷ xs) [] = refl
pointwise_is (x ∷ xs) (y ∷ ys) = ap (λ (b : Bool). eqb x y && b) (pointwise_is xs ys)

-- what an error is
pub error_is : {V E : Type 0} (v : Result V E) (r : E) → IsErrAnd v (λ e. e ≡ r) → v ≡ Err r
error_is (Err e) r h = ap Err h
error_is (Ok w) r h = absurd h
