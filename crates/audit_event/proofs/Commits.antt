-- A commit: of a child, and of a top transaction.
use mathlib.Core.Path.{◌≡◌, refl, sym, ap, ap₂, ◌∙◌, fun_ext}
use mathlib.Core.Bool.{Bool, true, false, cond}
use mathlib.Core.List.{List}
use mathlib.Core.Logic.{◌≢◌}
use mathlib.Core.Option.{none, some}
use Prim.Native.Nat.{ℕ, suc, ◌+◌, ◌<◌, ◌≤◌}
use native.Mathlib.Omega.{arith}
use lib.ListN.{length, get_or, set}
use Rattle.laws.specs.Tests.{same, under, open_tests}
use Rattle.laws.specs.Functions.{updated}
use Rattle.laws.proofs.Tests.{same_cases, Same, is, isnt, same_refl, ne_false}
use Rattle.rules.specs.Geometry.{records}
use Rattle.rules.specs.Store.{Page, Pages, pages_of}
use Rattle.rules.specs.Event.{commit}
use Rattle.rules.specs.Commit.{Cut, commit_at}
use Rattle.rules.specs.Step.{done, cut, number_of, value_of, first_of}
use Rattle.rules.specs.Editions.{geometry1, edition1}
use Rattle.history.specs.History.{Fate, bearing, committed, stored, waiting, ended, is_bearing, turned, ending, all_ending, told, effect_of, effect, after, suffices, changed_by, commit_fate}
use Rattle.audit_rules.specs.Plain.{Ledger, borne, is_parent, learned, passed_by, grants_by, up_by, changes_by, due_refusals, due_done, due_cut, due_commit, due_to, due_by, due}
use Rattle.audit_link.specs.Links.{fate_of, passed_of, entry_at, fate_in, passed_in}
use Rattle.audit_bearer.specs.Tables.{Tables, Matched, Ending, takes, tables, ledger_of}
use Rattle.audit_bearer.proofs.Change.{entries-set, fates_set, passes-set, fate_bears}
use Rattle.audit_bearer.proofs.Matching.{number_small, matched_end}
use Rattle.audit_event.specs.Step.{Audited, Before, BearerReady}
use Rattle.audit_event.proofs.Still.{grants_still, writes_still, due_accepted}
use Rattle.audit_event.proofs.Aborts.{after_consistent, everyone}
use Rattle.audit_event.proofs.Ends.{fates_after, passes_after, bearers_after}

turned_none : (new c : Fate) → turned false new c ≡ c
unfolding turned
turned_none new (bearing t) = refl
turned_none new committed = refl
turned_none new stored = refl
turned_none new waiting = refl
turned_none new ended = refl

zeros : (b : Bool) (z : ℕ) → z ≡ cond b z z
zeros true z = refl
zeros false z = refl

two_over : is_bearing (fate_of 2) ≡ false
unfolding is_bearing fate_of open_tests
two_over = refl

two_is : fate_of 2 ≡ committed
unfolding fate_of open_tests
two_is = refl

two_went : passed_of 2 ≡ true
unfolding passed_of open_tests
two_went = refl

three_over : is_bearing (fate_of 3) ≡ false
unfolding is_bearing fate_of open_tests
three_over = refl

three_is : fate_of 3 ≡ stored
unfolding fate_of open_tests
three_is = refl

three_went : passed_of 3 ≡ true
unfolding passed_of open_tests
three_went = refl

one_over : is_bearing (fate_of 1) ≡ false
unfolding is_bearing fate_of open_tests
one_over = refl

one_is : fate_of 1 ≡ ended
unfolding fate_of open_tests
one_is = refl

one_went : passed_of 1 ≡ true
unfolding passed_of open_tests
one_went = refl

whole_suffices : (v n : ℕ) → suffices (done v) n ≡ true
unfolding suffices
whole_suffices v n = refl

cut_suffices : (v n : ℕ) → suffices (cut v) n ≡ under n v
unfolding suffices
cut_suffices v n = refl

-- the fate of a top transaction that was cut
abbrev pub cut_fate : Bool → ℕ
cut_fate b = cond b 3 1

pub cut_over : (b : Bool) → is_bearing (fate_of (cut_fate b)) ≡ false
cut_over true = three_over
cut_over false = one_over

pub cut_went : (b : Bool) → passed_of (cut_fate b) ≡ true
cut_went true = three_went
cut_went false = one_went

pub cut_low : (b : Bool) → cut_fate b < 32
cut_low true = omega arith
cut_low false = omega arith

pub cut_fated : (b : Bool) → fate_of (cut_fate b) ≡ cond b stored ended
cut_fated true = three_is
cut_fated false = one_is

-- `me`, of number t, ends alone with this fate
module _ {fate bearer : List ℕ} {begun : ℕ} (S : Matched fate bearer begun) (room : begun < 4097) (t me new : ℕ) (bears : get_or bearer t 0 ≡ me) (real : me ≢ 0)
    (over : is_bearing (fate_of new) ≡ false) where
  inside : me < length fate
  inside = let w = S.wide in let k : me ≤ begun = rw (← bears) (S.known t) in omega (arith, w, k, room)

  small : t < 24
  small = number_small S t (λ z. real (sym bears ∙ z))

  me_bears : fate_of (get_or fate me 0) ≡ bearing t
  me_bears = ap fate_of (rw bears at (S.bears t (λ z. real (sym bears ∙ z)))) ∙ fate_bears t

  one_fate : (i : ℕ) → Same i me → cond (same i me) (fate_of new) (fate_in fate i) ≡ turned (same i me) (fate_of new) (fate_in fate i)
  unfolding fate_in turned
  one_fate i (is e s _) = rw (s, e, me_bears)
  one_fate i (isnt e s _) = rw (s, turned_none (fate_of new) (fate_of (get_or fate i 0)))

  pub one_fates : fate_in (set fate me new) ≡ (λ i. turned (same i me) (fate_of new) (fate_in fate i))
  unfolding updated
  one_fates = fates_set fate me new inside ∙ fun_ext (λ i. one_fate i (same_cases i me))

  one_bearer : (u : ℕ) → Same u t → Same (get_or bearer u 0) 0
      → cond (same u t) 0 (get_or bearer u 0) ≡ cond (is_bearing (turned (same (get_or bearer u 0) me) (fate_of new) (fate_of (get_or fate (get_or bearer u 0) 0)))) (get_or bearer u 0) 0
  unfolding turned is_bearing
  one_bearer u (is e s _) z = rw (s, e, bears, same_refl me, me_bears, over)
  one_bearer u (isnt e s _) (is z y _) = rw (s, z) (zeros (is_bearing (turned (same 0 me) (fate_of new) (fate_of (get_or fate 0 0)))) 0)
  one_bearer u (isnt e s _) (isnt z y _) = rw (s, ne_false (get_or bearer u 0) me other, S.bears u z, fate_bears u)
    where
      other : get_or bearer u 0 ≡ me → ⊥
      other q =
          let a = S.bears u z in
          let b : get_or fate me 0 ≡ 32 + t = rw bears at (S.bears t (λ w. real (sym bears ∙ w))) in
          let c : get_or fate (get_or bearer u 0) 0 ≡ get_or fate me 0 = ap (λ (j : ℕ). get_or fate j 0) q in
          e (omega (arith, a, b, c))

  pub one_bearers : entry_at (set bearer t 0) ≡ (λ u. cond (is_bearing (turned (same (entry_at bearer u) me) (fate_of new) (fate_in fate (entry_at bearer u)))) (entry_at bearer u) 0)
  unfolding updated entry_at fate_in
  one_bearers = entries-set bearer t 0 (let w = S.long in omega (arith, w, small)) ∙ fun_ext (λ u. one_bearer u (same_cases u t) (same_cases (get_or bearer u 0) 0))

  pub one_passes : passed_in (set fate me new) ≡ updated me (passed_of new) (passed_in fate)
  one_passes = passes-set fate me new inside

module _ (start : ℕ → Page) (owner parent fate bearer events store : List ℕ) (begun n t me k : ℕ) (R : BearerReady (tables owner parent fate bearer begun true) t me)
    (B : Before events n (some (commit t k)) (tables owner parent fate bearer begun true)) (room : begun < 4097)
    (alone : is_parent (ledger_of (tables owner parent fate bearer begun true) events n).story me ≡ false) where
  abbrev b : Tables
  b = tables owner parent fate bearer begun true

  abbrev l : Ledger
  l = ledger_of b events n

  S : Matched fate bearer begun
  unfolding tables
  S = B.consistent.matched

  bears : get_or bearer t 0 ≡ me
  unfolding tables
  bears = R.bears

  story_bears : l.story.bearer t ≡ me
  unfolding ledger_of tables entry_at
  story_bears = bears

  is_up : l.up ≡ true
  unfolding ledger_of tables
  is_up = refl

  alive : borne l.story t ≡ true
  unfolding borne
  alive = rw (story_bears, ne_false me 0 R.some)

  childless : is_parent l.story (l.story.bearer t) ≡ false
  childless = ap (is_parent l.story) story_bears ∙ alone

  none_refuses : first_of (due_refusals edition1 start l (pages_of store) (commit t k)) ≡ none
  unfolding due_refusals first_of ledger_of tables
  none_refuses = rw (alive, childless)

  -- one transaction ends
  one_ledger : (up : Bool) (new : ℕ) → is_bearing (fate_of new) ≡ false → passed_of new ≡ true
      → ledger_of (tables owner parent (set fate me new) (set bearer t 0) begun up) events (suc n)
      ≡ record { story = ending (λ i. same i me) (fate_of new) l.story; passed = updated me true l.passed; grants = l.grants; up = up }
  unfolding tables ledger_of ending
  one_ledger up new over went = rw (
    grants_still owner events n (B.consistent.later n (omega arith)),
    writes_still owner events n (B.consistent.later n (omega arith)),
    one_fates S room t me new bears R.some over,
    one_bearers S room t me new bears R.some over,
    one_passes S room t me new bears R.some over,
    went,
  )

  pub matched_one : (new : ℕ) → new < 32 → Matched (set fate me new) (set bearer t 0) begun
  matched_one new h = rw bears at (matched_end S t new room (λ z. R.some (sym bears ∙ z)) h)

  -- the ledger after a commit by transaction i that ends so
  abbrev left : Bool → ℕ → Fate → Ledger
  left up i c = record { story = ending (λ k. same k i) c l.story; passed = updated i true l.passed; grants = l.grants; up = up }

  child_fate : l.story.parent me ≢ 0 → (enough : ℕ → Bool) → commit_fate (records geometry1) l.story (l.story.bearer t) enough ≡ committed
  unfolding commit_fate
  child_fate p enough = ap (λ (i : ℕ). cond (same (l.story.parent i) 0) (cond (enough (changed_by (records geometry1) l.story i)) stored ended) committed) story_bears ∙ rw (ne_false (l.story.parent me) 0 p)

  top_fate : l.story.parent me ≡ 0 → (enough : ℕ → Bool) → commit_fate (records geometry1) l.story (l.story.bearer t) enough ≡ cond (enough (changed_by (records geometry1) l.story me)) stored ended
  unfolding commit_fate
  top_fate p enough = ap (λ (i : ℕ). cond (same (l.story.parent i) 0) (cond (enough (changed_by (records geometry1) l.story i)) stored ended) committed) story_bears ∙ rw (p, same_refl 0)

  -- a child
  pub commit_child : l.story.parent me ≢ 0 → Audited start events n b store (some (commit t k)) 0 0 (tables owner parent (set fate me 2) (set bearer t 0) begun true) store
  unfolding number_of value_of due_by due_to due_done due_commit learned told effect_of effect after passed_by grants_by up_by
  commit_child p =
      let z : same (l.story.parent (l.story.bearer t)) 0 ≡ false = ap (λ (i : ℕ). same (l.story.parent i) 0) story_bears ∙ ne_false (l.story.parent me) 0 p in
      let w : due edition1 start l (pages_of store) (some (commit t k)) ≡ record { answer = done 0; store = pages_of store } = due_accepted start events n b store (commit t k) none_refuses ∙ rw z in
      record {
        numbered = rw w;
        valued = rw w;
        stored = rw w;
        learns = rw w (one_ledger true 2 two_over two_went ∙ ap₂ (left true) (sym story_bears) (two_is ∙ sym (child_fate p (suffices (done 0)))) ∙ ap (λ (u : Bool). left u (l.story.bearer t) (commit_fate (records geometry1) l.story (l.story.bearer t) (suffices (done 0)))) (sym is_up));
        consistent = after_consistent start owner parent fate bearer events store begun n true (commit t k) B (set fate me 2) (set bearer t 0) true (matched_one 2 (omega arith));
      }

  -- a top transaction: what its page writes leave
  module _ (p : l.story.parent me ≡ 0) (made : ℕ) (crashed : Bool) (store' : List ℕ) (c : Cut Pages) (q : commit_at geometry1 (pages_of store) (changes_by edition1 start l.story t) k ≡ c)
      (left_store : pages_of store' ≡ c.store) (left_made : made ≡ c.made) (left_crashed : crashed ≡ c.crashed) where
    due_top : due edition1 start l (pages_of store) (some (commit t k)) ≡ due_cut edition1 start c crashed
    unfolding due_by due_to due_commit
    due_top =
        let z : same (l.story.parent (l.story.bearer t)) 0 ≡ true = ap (λ (i : ℕ). same (l.story.parent i) 0) story_bears ∙ rw (p, same_refl 0) in
        due_accepted start events n b store (commit t k) none_refuses ∙ rw (z, q, left_crashed)

    -- it isn't cut
    pub commit_top : crashed ≡ false → Audited start events n b store (some (commit t k)) 0 made (tables owner parent (set fate me 3) (set bearer t 0) begun true) store'
    unfolding number_of value_of due_cut learned told effect_of effect after passed_by grants_by up_by
    commit_top e =
        let w = due_top ∙ ap (due_cut edition1 start c) e in
        record {
          numbered = rw w;
          valued = rw w left_made;
          stored = rw w left_store;
          learns = rw w (one_ledger true 3 three_over three_went ∙ ap₂ (left true) (sym story_bears) (three_is ∙ sym (top_fate p (suffices (done c.made)) ∙ rw always)) ∙ ap (λ (u : Bool). left u (l.story.bearer t) (commit_fate (records geometry1) l.story (l.story.bearer t) (suffices (done c.made)))) (sym is_up));
          consistent = after_consistent start owner parent fate bearer events store begun n true (commit t k) B (set fate me 3) (set bearer t 0) true (matched_one 3 (omega arith));
        }
      where
        always : suffices (done c.made) (changed_by (records geometry1) l.story me) ≡ true
        always = whole_suffices c.made (changed_by (records geometry1) l.story me)

    -- it is cut: then all end, and it survives where the commit record was written
    module _ (e : crashed ≡ true) (new : ℕ) (over : is_bearing (fate_of new) ≡ false) (went : passed_of new ≡ true) (low : new < 32)
        (fated : fate_of new ≡ cond (under (changed_by (records geometry1) l.story me) made) stored ended)
        {fate'' bearer'' : List ℕ} (E : Ending (takes parent 0) 24 (set fate me new) (set bearer t 0) fate'' bearer'') (S'' : Matched fate'' bearer'' begun) where
      cut_ledger : ledger_of (tables owner parent fate'' bearer'' begun false) events (suc n)
          ≡ record { story = all_ending (ending (λ i. same i me) (fate_of new) l.story); passed = updated me true l.passed; grants = l.grants; up = false }
      unfolding tables ledger_of ending all_ending
      cut_ledger =
          let S' = matched_one new low in
          let w : (i : ℕ) → i ≢ 0 → takes parent 0 i ≡ true = λ i z. everyone parent i in
          rw (
            grants_still owner events n (B.consistent.later n (omega arith)),
            writes_still owner events n (B.consistent.later n (omega arith)),
            fates_after S' E (λ i. true) w,
            passes_after S' E (λ i. true) w,
            bearers_after S' E (λ i. true) w,
            one_fates S room t me new bears R.some over,
            one_bearers S room t me new bears R.some over,
            one_passes S room t me new bears R.some over,
            went,
          )

      abbrev gone : ℕ → Fate → Ledger
      gone i d = record { story = all_ending (ending (λ j. same j i) d l.story); passed = updated i true l.passed; grants = l.grants; up = false }

      pub commit_cut : Audited start events n b store (some (commit t k)) 11 made (tables owner parent fate'' bearer'' begun false) store'
      unfolding number_of value_of due_cut learned told effect_of effect after passed_by grants_by
      commit_cut =
          let w = due_top ∙ ap (due_cut edition1 start c) e in
          record {
            numbered = rw w;
            valued = rw w left_made;
            stored = rw w left_store;
            learns = rw w (cut_ledger ∙ ap₂ gone (sym story_bears) (fated ∙ sym (top_fate p (suffices (cut c.made)) ∙ rw (cut_suffices c.made (changed_by (records geometry1) l.story me), ← left_made))));
            consistent = after_consistent start owner parent fate bearer events store begun n true (commit t k) B fate'' bearer'' false S'';
          }
