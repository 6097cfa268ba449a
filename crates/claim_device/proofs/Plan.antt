-- The plan's law: for every state, event and count, the store that an event leaves is the store with the plan's first writes carried out.
use mathlib.Core.Path.{◌≡◌, refl, sym, ap, ◌∙◌}
use mathlib.Core.Bool.{Bool, true, false, cond, true≢false}
use mathlib.Core.List.{List, [], ◌∷◌}
use mathlib.Core.Logic.{◌≢◌}
use mathlib.Core.Option.{Option, none, some}
use Prim.Native.Nat.{ℕ, zero, suc, ◌+◌, ◌*◌, ◌≤◌}
use native.Mathlib.Omega.{arith}
use lib.ListN.{length, take}
use Rattle.laws.specs.Tests.{same, under, open_tests}
use Rattle.laws.proofs.Tests.{ne_false}
use Rattle.rules.specs.Geometry.{Geometry, records}
use Rattle.rules.specs.Store.{Page, Pages, Prepared, intention, map_of, is_named, is_reserved}
use Rattle.rules.specs.Versions.{is_some}
use Rattle.rules.specs.Editions.{geometry1, geometry2, form_in}
use Rattle.laws.specs.Counting.{those}
use Rattle.laws.proofs.Those.{count-le, those-length}
use lib.Seq.{take_all}
use Rattle.rules.specs.Event.{Event, begin, lock, write, read, commit, abort, crash, recover, prepare, decide, query}
use Rattle.rules.specs.State.{State, line_of, down}
use Rattle.rules.specs.Commit.{PageWrite, Cut, written, applied, cut_at, page_in, recover_writes, decide_writes, commit_plan, recover_plan, prepare_plan, decide_plan, commit_at, recover_at, prepare_at, decide_at}
use Rattle.rules.specs.Form.{atomic}
use Rattle.rules.specs.Step.{refused, number_of, value_of, StateOf, Outcome, ended, raised, concluded, finished, begun, locked, wrote, aborted, retaining, refusals, refusal, commits_top, commits_child, commits, recovers, decides, act, step}
use Rattle.rules.proofs.Cuts.{not_lt_under, commit_due, recover_due, commit_length, recover_length}
use Rattle.rules.proofs.Prepares.{prepare_due, prepare_length}
use Rattle.rules.proofs.Acceptance.{refused_number, act_answer, accepted_acts, Judged, acts, refuses, judge_cases}
use Rattle.claim_device.specs.Plan.{carried, lesser, count_of, with_count, line_plan, decision_plan, pages_in, accepted_plan, plan_by, plan_of, due_of, write_at, Planned}

pub carried_is : (k : ℕ) (ws : List PageWrite) (m : Pages) → carried k ws m ≡ applied (take k ws) m
unfolding carried applied
carried_is zero ws m = refl
carried_is (suc k) [] m = refl
carried_is (suc k) (w ∷ ws) m = carried_is k ws (written w m)

pub carried_none : (k : ℕ) (m : Pages) → carried k [] m ≡ m
unfolding carried
carried_none zero m = refl
carried_none (suc k) m = refl

-- asked one by one: the write number n is the next one after the first n; where there is none all are carried out
pub carried_next : (n : ℕ) (ws : List PageWrite) (w : PageWrite) (m : Pages) → write_at n ws ≡ some w → carried (suc n) ws m ≡ written w (carried n ws m)
unfolding carried write_at
carried_next n [] w m e = let z : true ≡ false = cc in absurd (true≢false z)
carried_next zero (v ∷ ws) w m e = let z : v ≡ w = cc in ap (λ (x : PageWrite). written x m) z
carried_next (suc n) (v ∷ ws) w m e = carried_next n ws w (written v m) e

pub carried_last : (n k : ℕ) (ws : List PageWrite) (m : Pages) → write_at n ws ≡ none → n ≤ k → carried k ws m ≡ carried n ws m
unfolding carried write_at
carried_last n k [] m e h = carried_none k m ∙ sym (carried_none n m)
carried_last zero k (v ∷ ws) m e h = let z : true ≡ false = cc in absurd (true≢false z)
carried_last (suc n) zero (v ∷ ws) m e h = absurd (omega arith)
carried_last (suc n) (suc k) (v ∷ ws) m e h = carried_last n k ws (written v m) e (omega arith)

-- page writes cut at k: the store, how many, whether a crash came
module _ (k : ℕ) (ws : List PageWrite) (m : Pages) where
  pub cut_store : (cut_at k ws m).store ≡ carried k ws m
  unfolding cut_at
  cut_store = sym (carried_is k ws m)

  pub cut_made : (cut_at k ws m).made ≡ lesser k (length ws)
  unfolding cut_at lesser
  cut_made = refl

  pub cut_crashed : (cut_at k ws m).crashed ≡ under k (length ws)
  unfolding cut_at
  cut_crashed = refl

planned_cut : (k : ℕ) (ws : List PageWrite) (m : Pages) (whole : State Pages) (c : Cut Pages) → c ≡ cut_at k ws m → whole.store ≡ c.store → Planned k ws m (concluded whole c c.crashed)
unfolding concluded down number_of value_of open_tests
planned_cut k ws m whole c e w = go c.crashed (ap (λ (x : Cut Pages). x.crashed) e ∙ cut_crashed k ws m)
  where
    left : c.store ≡ carried k ws m
    left = ap (λ (x : Cut Pages). x.store) e ∙ cut_store k ws m

    count : c.made ≡ lesser k (length ws)
    count = ap (λ (x : Cut Pages). x.made) e ∙ cut_made k ws m

    go : (b : Bool) → b ≡ under k (length ws) → Planned k ws m (concluded whole c b)
    go true q = record { store = left; value = count; number = q }
    go false q = record { store = w ∙ left; value = count; number = q }

lesser-none : (k : ℕ) → lesser k 0 ≡ 0
unfolding lesser
lesser-none k = rw (not_lt_under k 0 (omega arith))

-- nothing is planned, and nothing written
planned-none : (k : ℕ) (m : Pages) (o : Outcome Pages) → o.state.store ≡ m → value_of o.answer ≡ 0 → same (number_of o.answer) 11 ≡ false → Planned k [] m o
planned-none k m o e v n = record {
  store = e ∙ sym (carried_none k m);
  value = v ∙ sym (lesser-none k);
  number = n ∙ sym (not_lt_under k 0 (omega arith));
}

-- HOW LONG A PLAN IS at most
module _ (g : Geometry) where
  due_commit : (n : ℕ) → n ≤ records g → commit_due n ≤ 2 * records g + 2
  unfolding commit_due
  due_commit n h = go (same n 0)
    where
      go : (b : Bool) → cond b 0 (2 * n + 2) ≤ 2 * records g + 2
      go true = omega arith
      go false = omega arith

  due_next : (n : ℕ) → n ≤ records g → cond (same n 0) 0 (n + 1) ≤ records g + 1
  due_next n h = go (same n 0)
    where
      go : (b : Bool) → cond b 0 (n + 1) ≤ records g + 1
      go true = omega arith
      go false = omega arith

  those_short : (p : ℕ → Bool) → length (those (records g) p) ≤ records g
  those_short p = rw (those-length (records g) p) (count-le (records g) p)

  commit_short : (v : ℕ → Option Page) → length (commit_plan g v) ≤ 2 * records g + 2
  commit_short v = rw (commit_length g (page_in v) (map_of g (λ r. is_some (v r))) (those (records g) (λ r. is_some (v r)))) (due_commit _ (those_short (λ r. is_some (v r))))

  homes_short : (m : Pages) (p : ℕ → Bool) → length (recover_writes g (λ r. m (intention r)) (those (records g) p)) ≤ records g + 1
  unfolding recover_due
  homes_short m p = rw (recover_length g (λ r. m (intention r)) (those (records g) p)) (due_next _ (those_short p))

  recover_short : (m : Pages) → length (recover_plan g m) ≤ 2 * records g + 2
  recover_short m = let h = homes_short m (is_named g m) in omega arith

  prepare_short : (v : ℕ → Option Page) (i : ℕ) → length (prepare_plan g v i) ≤ 2 * records g + 2
  unfolding prepare_due
  prepare_short v i =
      let p : Prepared = record { map = map_of g (λ r. is_some (v r)); identity = i } in
      let h = due_next _ (those_short (λ r. is_some (v r))) in
      rw (prepare_length g (page_in v) p (those (records g) (λ r. is_some (v r)))) (omega (arith, h))

  decision_short : (m : Pages) (d b : Bool) → length (decision_plan g m d b) ≤ 2 * records g + 2
  unfolding decision_plan decide_writes
  decision_short m d false = omega arith
  decision_short m false true = omega arith
  decision_short m true true = let h = homes_short m (is_reserved g m) in omega arith

  line_short : (v : ℕ → Option Page) (l : List ℕ) → length (line_plan g v l) ≤ 2 * records g + 2
  unfolding line_plan
  line_short v [] = commit_short v
  line_short v (a ∷ []) = commit_short v
  line_short v (a ∷ y ∷ l) = omega arith

-- ON EITHER MEDIUM
module _ (tears : Bool) (g : Geometry) (s : StateOf (form_in tears g)) where
  plan_acts : (e : Event) → refusal (form_in tears g) s e ≡ none → plan_of tears g s e ≡ accepted_plan tears g s e
  unfolding plan_of plan_by
  plan_acts e q = rw q

  plan_refused : (e : Event) (n : ℕ) → refusal (form_in tears g) s e ≡ some n → plan_of tears g s e ≡ []
  unfolding plan_of plan_by
  plan_refused e n q = rw q

  -- by the outcome: what is answered with a refusal writes nothing, what isn't writes what is planned
  pub refused_plan : (e : Event) (n : ℕ) → (step (form_in tears g) s (some e)).answer ≡ refused n → plan_of tears g s e ≡ []
  refused_plan e n h = go (judge_cases (form_in tears g) s e)
    where
      go : Judged (form_in tears g) s e → plan_of tears g s e ≡ []
      go (acts q z) = absurd (act_answer (form_in tears g) s e n (sym (ap (λ o. o.answer) z) ∙ h))
      go (refuses m q z) = plan_refused e m q

  pub accepted_plan_lem : (e : Event) → ((n : ℕ) → (step (form_in tears g) s (some e)).answer ≢ refused n) → plan_of tears g s e ≡ accepted_plan tears g s e
  accepted_plan_lem e h = plan_acts e (accepted_acts (form_in tears g) s e h).0

  -- the plan asks for no count
  pub plan_counts : (k : ℕ) (e : Event) → plan_of tears g s (with_count k e) ≡ plan_of tears g s e
  unfolding plan_of plan_by with_count accepted_plan refusal refusals
  plan_counts k (begin p) = refl
  plan_counts k (lock t r a) = refl
  plan_counts k (write t r o v) = refl
  plan_counts k (read t r o) = refl
  plan_counts k (commit t n) = go (refusal (form_in tears g) s (commit t n))
    where
      go : (p : Option ℕ) → plan_by tears g s (commit t k) p ≡ plan_by tears g s (commit t n) p
      go none = refl
      go (some m) = refl
  plan_counts k (abort t w) = refl
  plan_counts k crash = refl
  plan_counts k (recover n) = go (refusal (form_in tears g) s (recover n))
    where
      go : (p : Option ℕ) → plan_by tears g s (recover k) p ≡ plan_by tears g s (recover n) p
      go none = refl
      go (some m) = refl
  plan_counts k (prepare t n i) = go (refusal (form_in tears g) s (prepare t n i))
    where
      go : (p : Option ℕ) → plan_by tears g s (prepare t k i) p ≡ plan_by tears g s (prepare t n i) p
      go none = refl
      go (some m) = refl
  plan_counts k (decide d n i) = go (refusal (form_in tears g) s (decide d n i))
    where
      go : (p : Option ℕ) → plan_by tears g s (decide d k i) p ≡ plan_by tears g s (decide d n i) p
      go none = refl
      go (some m) = refl
  plan_counts k (query i) = refl

  by_short : (e : Event) (p : Option ℕ) → length (plan_by tears g s e p) ≤ 2 * records g + 2
  unfolding plan_by accepted_plan
  by_short e (some n) = omega arith
  by_short (begin p) none = omega arith
  by_short (lock t r a) none = omega arith
  by_short (write t r o v) none = omega arith
  by_short (read t r o) none = omega arith
  by_short (commit t k) none = line_short g (s.version t) (line_of s.bearer t)
  by_short (abort t w) none = omega arith
  by_short crash none = omega arith
  by_short (recover k) none = recover_short g (pages_in tears g s.store)
  by_short (prepare t k i) none = prepare_short g (s.version t) i
  by_short (decide d k i) none = decision_short g (pages_in tears g s.store) d _
  by_short (query i) none = omega arith

  pub plan_short : (e : Event) → length (plan_of tears g s e) ≤ 2 * records g + 2
  unfolding plan_of
  plan_short e = by_short e (refusal (form_in tears g) s e)

-- ON ATOMIC PAGES
module _ (g : Geometry) (s : StateOf (atomic g)) where
  -- the plans are what the rules' commit and recovery cut
  pub commit_cuts : (v : ℕ → Option Page) (k : ℕ) → commit_at g s.store v k ≡ cut_at k (commit_plan g v) s.store
  unfolding commit_at
  commit_cuts v k = refl

  pub recover_cuts : (k : ℕ) → recover_at g s.store k ≡ cut_at k (recover_plan g s.store) s.store
  unfolding recover_at
  recover_cuts k = refl

  planned_top : (x k : ℕ) → Planned k (commit_plan g (s.version x)) s.store (commits_top (atomic g) s x (commit_at g s.store (s.version x) k))
  unfolding commits_top ended
  planned_top x k = planned_cut k (commit_plan g (s.version x)) s.store _ (commit_at g s.store (s.version x) k) (commit_cuts (s.version x) k) refl

  planned_line : (x k : ℕ) (l : List ℕ) → Planned k (line_plan g (s.version x) l) s.store (commits (atomic g) s x k l)
  unfolding commits line_plan commits_child finished ended number_of value_of open_tests
  planned_line x k [] = planned_top x k
  planned_line x k (a ∷ []) = planned_top x k
  planned_line x k (a ∷ y ∷ l) = planned-none k s.store _ refl refl refl

  planned_recovers : (k : ℕ) → Planned k (recover_plan g s.store) s.store (recovers (atomic g) s (recover_at g s.store k))
  unfolding recovers raised
  planned_recovers k = planned_cut k (recover_plan g s.store) s.store _ (recover_at g s.store k) (recover_cuts k) refl

  pub prepare_cuts : (v : ℕ → Option Page) (i k : ℕ) → prepare_at g s.store v i k ≡ cut_at k (prepare_plan g v i) s.store
  unfolding prepare_at
  prepare_cuts v i k = refl

  pub decide_cuts : (d : Bool) (k : ℕ) → decide_at g s.store d k ≡ cut_at k (decide_plan g s.store d) s.store
  unfolding decide_at
  decide_cuts d k = refl

  planned_prepares : (x i k : ℕ) → Planned k (prepare_plan g (s.version x) i) s.store (commits_top (atomic g) s x (prepare_at g s.store (s.version x) i k))
  unfolding commits_top ended
  planned_prepares x i k = planned_cut k (prepare_plan g (s.version x) i) s.store _ (prepare_at g s.store (s.version x) i k) (prepare_cuts (s.version x) i k) refl

  planned_decides : (d : Bool) (k : ℕ) (b : Bool) → Planned k (decision_plan g s.store d b) s.store (decides (atomic g) s d k b)
  unfolding decides decision_plan recovers raised finished number_of value_of open_tests
  planned_decides d k true = planned_cut k (decide_plan g s.store d) s.store _ (decide_at g s.store d k) (decide_cuts d k) refl
  planned_decides d k false = planned-none k s.store _ refl refl refl

  planned_refused : (k : ℕ) (e : Event) (n : ℕ) → step (atomic g) s (some e) ≡ record { state = s; answer = refused n } → Planned k [] s.store (step (atomic g) s (some e))
  unfolding value_of number_of
  planned_refused k e n z = rw z (planned-none k s.store _ refl refl (go (refused_number (atomic g) s (some e) n (ap (λ (o : Outcome Pages). o.answer) z))))
    where
      go : (1 ≤ n) × (n ≤ 27) × (n ≢ 11) → same n 11 ≡ false
      go h = ne_false n 11 h.2

  -- THE PLAN'S LAW, of a commit and of a recovery, for every count
  pub commit_planned : (t k : ℕ) → Planned k (plan_of false g s (commit t k)) s.store (step (atomic g) s (some (commit t k)))
  unfolding act accepted_plan
  commit_planned t k = go (judge_cases (atomic g) s (commit t k))
    where
      go : Judged (atomic g) s (commit t k) → Planned k (plan_of false g s (commit t k)) s.store (step (atomic g) s (some (commit t k)))
      go (acts q z) = rw (plan_acts false g s (commit t k) q, z) (planned_line t k (line_of s.bearer t))
      go (refuses n q z) = rw (plan_refused false g s (commit t k) n q) (planned_refused k (commit t k) n z)

  pub recover_planned : (k : ℕ) → Planned k (plan_of false g s (recover k)) s.store (step (atomic g) s (some (recover k)))
  unfolding act accepted_plan
  recover_planned k = go (judge_cases (atomic g) s (recover k))
    where
      go : Judged (atomic g) s (recover k) → Planned k (plan_of false g s (recover k)) s.store (step (atomic g) s (some (recover k)))
      go (acts q z) = rw (plan_acts false g s (recover k) q, z) (planned_recovers k)
      go (refuses n q z) = rw (plan_refused false g s (recover k) n q) (planned_refused k (recover k) n z)

  pub prepare_planned : (t k i : ℕ) → Planned k (plan_of false g s (prepare t k i)) s.store (step (atomic g) s (some (prepare t k i)))
  unfolding act accepted_plan
  prepare_planned t k i = go (judge_cases (atomic g) s (prepare t k i))
    where
      go : Judged (atomic g) s (prepare t k i) → Planned k (plan_of false g s (prepare t k i)) s.store (step (atomic g) s (some (prepare t k i)))
      go (acts q z) = rw (plan_acts false g s (prepare t k i) q, z) (planned_prepares t i k)
      go (refuses n q z) = rw (plan_refused false g s (prepare t k i) n q) (planned_refused k (prepare t k i) n z)

  pub decide_planned : (d : Bool) (k i : ℕ) → Planned k (plan_of false g s (decide d k i)) s.store (step (atomic g) s (some (decide d k i)))
  unfolding act accepted_plan
  decide_planned d k i = go (judge_cases (atomic g) s (decide d k i))
    where
      go : Judged (atomic g) s (decide d k i) → Planned k (plan_of false g s (decide d k i)) s.store (step (atomic g) s (some (decide d k i)))
      go (acts q z) = rw (plan_acts false g s (decide d k i) q, z) (planned_decides d k _)
      go (refuses n q z) = rw (plan_refused false g s (decide d k i) n q) (planned_refused k (decide d k i) n z)

  -- the other events write nothing
  Still : Event → Type 0
  Still e = ((act (atomic g) s e).state.store ≡ s.store) × (accepted_plan false g s e ≡ [])

  still_store : (e : Event) → Still e → (step (atomic g) s (some e)).state.store ≡ carried (count_of e) (plan_of false g s e) s.store
  unfolding Still
  still_store e S = go (judge_cases (atomic g) s e)
    where
      go : Judged (atomic g) s e → (step (atomic g) s (some e)).state.store ≡ carried (count_of e) (plan_of false g s e) s.store
      go (acts q z) = rw (plan_acts false g s e q, z, S.1) (S.0 ∙ sym (carried_none (count_of e) s.store))
      go (refuses n q z) = rw (plan_refused false g s e n q, z) (sym (carried_none (count_of e) s.store))

  -- of every event
  pub step_store : (e : Event) → (step (atomic g) s (some e)).state.store ≡ carried (count_of e) (plan_of false g s e) s.store
  unfolding Still act accepted_plan finished begun locked wrote aborted retaining ended down count_of
  step_store (begin p) = still_store (begin p) (refl, refl)
  step_store (lock t r a) = still_store (lock t r a) (refl, refl)
  step_store (write t r o v) = still_store (write t r o v) (refl, refl)
  step_store (read t r o) = still_store (read t r o) (refl, refl)
  step_store (commit t k) = (commit_planned t k).store
  step_store (abort t w) = still_store (abort t w) (refl, refl)
  step_store crash = still_store crash (refl, refl)
  step_store (recover k) = (recover_planned k).store
  step_store (prepare t k i) = (prepare_planned t k i).store
  step_store (decide d k i) = (decide_planned d k i).store
  step_store (query i) = still_store (query i) (refl, refl)

  -- for every count, by the plan of the event whatever count it has
  pub commit_every : (t n k : ℕ) → Planned k (plan_of false g s (commit t n)) s.store (step (atomic g) s (some (commit t k)))
  unfolding with_count
  commit_every t n k = rw (← plan_counts false g s k (commit t n)) (commit_planned t k)

  pub recover_every : (n k : ℕ) → Planned k (plan_of false g s (recover n)) s.store (step (atomic g) s (some (recover k)))
  unfolding with_count
  recover_every n k = rw (← plan_counts false g s k (recover n)) (recover_planned k)

  pub prepare_every : (t i n k : ℕ) → Planned k (plan_of false g s (prepare t n i)) s.store (step (atomic g) s (some (prepare t k i)))
  unfolding with_count
  prepare_every t i n k = rw (← plan_counts false g s k (prepare t n i)) (prepare_planned t k i)

  pub decide_every : (d : Bool) (i n k : ℕ) → Planned k (plan_of false g s (decide d n i)) s.store (step (atomic g) s (some (decide d k i)))
  unfolding with_count
  decide_every d i n k = rw (← plan_counts false g s k (decide d n i)) (decide_planned d k i)

  -- an event with a count that is no less than that writes its whole plan
  pub due_whole : (e : Event) → 2 * records g + 2 ≤ count_of e → due_of g s (some e) ≡ plan_of false g s e
  unfolding due_of
  due_whole e h = let q : length (plan_of false g s e) ≤ 2 * records g + 2 = plan_short false g s e in take_all (count_of e) (plan_of false g s e) (omega arith)

-- of edition 1: the count 63 cuts nothing, and one byte can number the writes
pub due_whole1 : (s : StateOf (atomic geometry1)) (e : Event) → count_of e ≡ 63 → due_of geometry1 s (some e) ≡ plan_of false geometry1 s e
unfolding records
due_whole1 s e q = due_whole geometry1 s e (omega (arith, q))

-- of edition 2: the count 255 cuts nothing, and one byte can number the writes
pub due_whole2 : (s : StateOf (atomic geometry2)) (e : Event) → count_of e ≡ 255 → due_of geometry2 s (some e) ≡ plan_of false geometry2 s e
unfolding records
due_whole2 s e q = due_whole geometry2 s e (omega (arith, q))
