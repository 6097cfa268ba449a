-- A crash, and an abort.
use mathlib.Core.Path.{◌≡◌, refl, sym, ap, ap₂, ◌∙◌}
use mathlib.Core.Bool.{Bool, true, false, cond}
use mathlib.Core.List.{List}
use mathlib.Core.Logic.{◌≢◌}
use mathlib.Core.Option.{some}
use Prim.Native.Nat.{ℕ, zero, suc, ◌+◌, ◌<◌, ◌≤◌}
use native.Mathlib.Omega.{arith}
use lib.ListN.{length, get_or, set, length-set}
use Rattle.laws.specs.Tests.{same, open_tests}
use Rattle.laws.specs.Functions.{updated}
use Rattle.laws.proofs.Tests.{same_cases, Same, is, isnt, same_refl, ne_false, lt-under}
use Rattle.laws.proofs.Updated.{updated_self}
use Rattle.rules.specs.Geometry.{records}
use Rattle.rules.specs.Store.{Page, pages_of}
use Rattle.rules.specs.Event.{Event, abort, crash, report_of}
use Rattle.rules.specs.Step.{done, number_of, value_of, first_of}
use Rattle.rules.specs.Editions.{geometry1, edition1}
use Rattle.history.specs.History.{Fate, ended, is_within, climbs, ending, all_ending, told, effect_of, effect, after}
use Rattle.audit_rules.specs.Plain.{Ledger, borne, learned, passed_by, grants_by, up_by, due_refusals, due_done, due_to, due_by, due}
use Rattle.audit_link.specs.Links.{fate_of, passed_of, entry_at, fate_in, passed_in}
use Rattle.audit_bearer.specs.Tables.{Matched, Ending, takes, tables, ledger_of}
use Rattle.audit_bearer.proofs.Change.{entry_set, fates_set, passes-set, fate_ended}
use Rattle.audit_bearer.proofs.Matching.{number_small}
use Rattle.audit_event.specs.Step.{Consistent, Audited, Before}
use Rattle.audit_event.proofs.Still.{grants_still, writes_still, due_accepted}
use Rattle.audit_event.proofs.Ends.{fates_after, passes_after, bearers_after}

pub everyone : (parent : List ℕ) (i : ℕ) → takes parent 0 i ≡ true
unfolding takes
everyone parent i = rw (same_refl 0)

pub entry_is : (l : List ℕ) (i : ℕ) → entry_at l i ≡ get_or l i 0
unfolding entry_at
entry_is l i = refl

climbs_own : (P : ℕ → ℕ) (k i : ℕ) → climbs P k i i ≡ true
unfolding climbs
climbs_own P zero i = same_refl i
climbs_own P (suc k) i = rw (same_refl i)

-- the two fates that an abort leaves
mark_ended : (v : ℕ) → v < 2 → fate_of v ≡ ended
unfolding fate_of open_tests
mark_ended zero h = refl
mark_ended (suc zero) h = refl
mark_ended (suc (suc v)) h = absurd (omega (arith, h))

mark_report : (v : ℕ) → v < 2 → passed_of v ≡ report_of v
unfolding passed_of report_of open_tests
mark_report zero h = refl
mark_report (suc zero) h = refl
mark_report (suc (suc v)) h = absurd (omega (arith, h))

-- a fate that bears no number may be marked anew
pub matched_mark : {fate bearer : List ℕ} {begun : ℕ} → Matched fate bearer begun → (i w : ℕ) → i ≢ 0 → i ≤ begun → begun < 4097 → get_or fate i 0 < 32 → w < 32 → Matched (set fate i w) bearer begun
matched_mark {fate} {bearer} {begun} S i w real known room old new = record {
  long = S.long;
  wide = length-set fate i w ∙ S.wide;
  known = S.known;
  bears = λ t n. rw (at (get_or bearer t 0), ne_false (get_or bearer t 0) i (λ z. other t n z)) (S.bears t n);
  who = λ k t e. owner k t (same_cases k i) e;
  none_ended = rw (at 0, ne_false 0 i (λ z. real (sym z))) S.none_ended;
  unborn = λ k h. rw (at k, ne_false k i (λ z. omega (arith, z, h, known))) (S.unborn k h);
}
  where
    at : (k : ℕ) → get_or (set fate i w) k 0 ≡ cond (same k i) w (get_or fate k 0)
    at k = entry_set fate i w k (let v = S.wide in omega (arith, v, known, room))

    other : (t : ℕ) → get_or bearer t 0 ≢ 0 → get_or bearer t 0 ≡ i → ⊥
    other t n z = let a = S.bears t n in let b : get_or fate (get_or bearer t 0) 0 ≡ get_or fate i 0 = ap (λ (j : ℕ). get_or fate j 0) z in omega (arith, a, b, old)

    owner : (k t : ℕ) → Same k i → get_or (set fate i w) k 0 ≡ 32 + t → get_or bearer t 0 ≡ k
    owner k t (is z s _) e = let q : w ≡ 32 + t = rw (at k, s) at e in absurd (omega (arith, q, new))
    owner k t (isnt z s _) e = S.who k t (rw (at k, s) at e)

module _ (start : ℕ → Page) (owner parent fate bearer events store : List ℕ) (begun n : ℕ) where
  -- the tables, consistent after an event that owns nothing
  pub after_consistent : (up : Bool) (e : Event) → Before events n (some e) (tables owner parent fate bearer begun up) → (fate' bearer' : List ℕ) (up' : Bool) → Matched fate' bearer' begun
      → Consistent (tables owner parent fate' bearer' begun up') (suc n)
  unfolding tables
  after_consistent up e B fate' bearer' up' S = let T = B.consistent in record {
    matched = S;
    earlier = T.earlier;
    tall = T.tall;
    full = T.full;
    owners = T.owners;
    later = λ j h. T.later j (omega (arith, h));
    few = (let k = T.few in omega (arith, k));
  }

  -- all end
  pub all_ledger : (up up' : Bool) (e : Event) → Before events n (some e) (tables owner parent fate bearer begun up) → {fate' bearer' : List ℕ} → Ending (takes parent 0) 24 fate bearer fate' bearer'
      → let l = ledger_of (tables owner parent fate bearer begun up) events n in
      ledger_of (tables owner parent fate' bearer' begun up') events (suc n) ≡ record { story = all_ending l.story; passed = l.passed; grants = l.grants; up = up' }
  unfolding tables ledger_of all_ending ending
  all_ledger up up' e B E =
      let S = B.consistent.matched in
      let w : (i : ℕ) → i ≢ 0 → takes parent 0 i ≡ true = λ i k. everyone parent i in
      rw (
        grants_still owner events n (B.consistent.later n (omega arith)),
        writes_still owner events n (B.consistent.later n (omega arith)),
        fates_after S E (λ i. true) w,
        passes_after S E (λ i. true) w,
        bearers_after S E (λ i. true) w,
      )

  -- a crash
  pub crash_0 : (up : Bool) → Before events n (some crash) (tables owner parent fate bearer begun up) → {fate' bearer' : List ℕ} → Ending (takes parent 0) 24 fate bearer fate' bearer' → Matched fate' bearer' begun
      → Audited start events n (tables owner parent fate bearer begun up) store (some crash) 0 0 (tables owner parent fate' bearer' begun false) store
  unfolding number_of value_of due due_by due_to due_done due_refusals first_of learned told effect_of effect after passed_by grants_by up_by
  crash_0 up B {fate'} {bearer'} E S = record {
    numbered = refl;
    valued = refl;
    stored = refl;
    learns = all_ledger up false crash B E;
    consistent = after_consistent up crash B fate' bearer' false S;
  }

  -- an abort by `me`, of number t: it ends with all beneath it, and its own fate says whether its locks went up
  module _ (t me v : ℕ) (small : v < 2) (B : Before events n (some (abort t (report_of v))) (tables owner parent fate bearer begun true))
      (bears : get_or bearer t 0 ≡ me) (real : me ≢ 0) (room : begun < 4097)
      {fate' bearer' : List ℕ} (E : Ending (takes parent me) 24 fate bearer fate' bearer') (S' : Matched fate' bearer' begun) where
    abbrev l : Ledger
    l = ledger_of (tables owner parent fate bearer begun true) events n

    S : Matched fate bearer begun
    unfolding tables
    S = B.consistent.matched

    me_known : me ≤ begun
    me_known = rw (← bears) (S.known t)

    takes_is : (i : ℕ) → i ≢ 0 → takes parent me i ≡ is_within l.story me i
    unfolding takes is_within ledger_of tables
    takes_is i k = rw (ne_false me 0 real)

    -- me itself is taken, so it bears no number any more
    me_taken : takes parent me me ≡ true
    unfolding takes
    me_taken = rw (ne_false me 0 real) (own me)
      where
        own : (k : ℕ) → climbs (entry_at parent) k me me ≡ true
        own k = climbs_own (entry_at parent) k me

    me_over : get_or fate' me 0 ≡ 0
    me_over =
        let q : get_or fate me 0 ≡ 32 + t = rw bears at (S.bears t (λ z. real (sym bears ∙ z))) in
        let k : t < 24 = number_small S t (λ z. real (sym bears ∙ z)) in
        E.fates me ∙ rw (q, lt-under 31 (32 + t) (omega arith), lt-under (32 + t) (32 + 24) (omega (arith, k)), me_taken)

    mark_fate : fate_in (set fate' me v) ≡ fate_in fate'
    unfolding fate_in
    mark_fate = fates_set fate' me v inside ∙ ap (λ (c : Fate). updated me c (fate_in fate')) (mark_ended v small ∙ sym (ap fate_of me_over ∙ fate_ended)) ∙ sym (updated_self me (fate_in fate'))
      where
        inside : me < length fate'
        inside = let w = S'.wide in omega (arith, w, me_known, room)

    mark_passed : passed_in (set fate' me v) ≡ updated me (report_of v) (passed_in fate)
    mark_passed = passes-set fate' me v (let w = S'.wide in omega (arith, w, me_known, room)) ∙ ap₂ (λ (b : Bool) (p : ℕ → Bool). updated me b p) (mark_report v small) (passes_after S E (is_within l.story me) takes_is)

    abort_ledger : ledger_of (tables owner parent (set fate' me v) bearer' begun true) events (suc n) ≡ learned (records geometry1) l (some (abort t (report_of v))) (done 0)
    unfolding tables ledger_of learned told effect_of effect after ending passed_by grants_by up_by
    abort_ledger =
        let e : entry_at bearer t ≡ me = bearer_entry in
        rw (
          grants_still owner events n (B.consistent.later n (omega arith)),
          writes_still owner events n (B.consistent.later n (omega arith)),
          mark_fate,
          mark_passed,
          e,
          fates_after S E (is_within l.story me) takes_is,
          bearers_after S E (is_within l.story me) takes_is,
        )
      where
        bearer_entry : entry_at bearer t ≡ me
        bearer_entry = entry_is bearer t ∙ bears

    alive : borne l.story t ≡ true
    unfolding borne ledger_of tables entry_at
    alive = rw (bears, ne_false me 0 real)

    pub abort_0 : Audited start events n (tables owner parent fate bearer begun true) store (some (abort t (report_of v))) 0 0 (tables owner parent (set fate' me v) bearer' begun true) store
    unfolding number_of value_of due_by due_to due_done due_refusals first_of ledger_of tables
    abort_0 =
        let w : due edition1 start l (pages_of store) (some (abort t (report_of v))) ≡ record { answer = done 0; store = pages_of store } =
        due_accepted start events n (tables owner parent fate bearer begun true) store (abort t (report_of v)) (rw alive) in
        record {
          numbered = rw w;
          valued = rw w;
          stored = rw w;
          learns = rw w abort_ledger;
          consistent = after_consistent true (abort t (report_of v)) B (set fate' me v) bearer' true (matched_mark S' me v real me_known room (omega (arith, me_over)) (omega (arith, small)));
        }
