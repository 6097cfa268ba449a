-- THE AUDITOR'S OWN ENGINE GIVES THE VERDICT THAT A RUN OF THE RULES GIVES, for every start store, list, answers and end store.
use mathlib.Core.Path.{◌≡◌, refl, ap, subst, ◌∙◌}
use mathlib.Core.Bool.{Bool, true, false, not, cond, ◌||◌, true≢false}
use mathlib.Core.List.{List, [], ◌∷◌, ◌++◌}
use mathlib.Core.Option.{Option, none, some}
use Prim.Native.Nat.{ℕ, suc, ◌+◌, ◌*◌, ◌%◌}
use native.Mathlib.Omega.{arith}
use lib.ListN.{length, get_or, drop, replicate, length-replicate}
use Rattle.laws.specs.Tests.{same, under, open_tests}
use Rattle.laws.specs.Counting.{lowest, lowest_from}
use Rattle.laws.proofs.Tests.{same-eq, same_refl, or_false_left, or_false_right, under-lt, lt-under}
use Rattle.laws.proofs.Booleans.{refute, not-false}
use Rattle.rules.specs.Geometry.{records, page_count, work_size, word_size, longest}
use Rattle.rules.specs.Store.{Page}
use Rattle.rules.specs.Event.{decode}
use Rattle.rules.specs.State.{down}
use Rattle.rules.specs.Form.{Form}
use Rattle.rules.specs.Step.{Answer, number_of, value_of, first_of, is_busy, StateOf, step}
use Rattle.rules.specs.Run.{words, answer_bytes, play, events_in, run_refusals, run_all, run_by, run}
use Rattle.rules.specs.Editions.{geometry1, edition1}
use Rattle.rules.proofs.Medium.{MediumLaws}
use Rattle.rules.proofs.Editions.{proper1}
use Rattle.rules.proofs.AtomicPages.{atomic_laws}
use Rattle.rules.proofs.Acceptance.{pass}
use Rattle.rules.proofs.Portions.{words-length}
use Rattle.rules.proofs.Soundness.{Reached, reached_start, reached_word}
use Rattle.history.specs.History.{History, nothing_yet, is_bearing}
use Rattle.history.specs.Demand3.{settled_in}
use Rattle.history.proofs.Roots.{lost}
use Rattle.history.proofs.Invariant.{Holds, held_word}
use Rattle.history.proofs.Starts.{start_root, start_holds, plain_start}
use Rattle.audit_rules.specs.Plain.{Ledger, blank_ledger, learned, locks_of}
use Rattle.audit_rules.specs.Audit.{belongs, wrong_event, wrong_page, is_two_phase, some_two_phase, audit_refusals, same_answer, same_page, verdict, verdict_of, audit_by, audit, audit1}
use Rattle.audit_rules.specs.Walk.{Walked, wrong, right, answered, walk, verdict_by, plain_by, plain_audit}
use Rattle.audit_rules.proofs.Free.{plain_word}
use Rattle.audit_rules.proofs.Agrees.{Agrees, due_is, agree_step}

module _ (f : Form) (M : MediumLaws f.geometry f.medium) (start : ℕ → Page) (given ran : List ℕ) where
  -- from i on the bytes of what ran are the answers of these words from s
  abbrev From : ℕ → StateOf f → List ℕ → Type 0
  From i s ws = (rest : List ℕ) × ((k : ℕ) → get_or ran (2 * i + k) 0 ≡ get_or (answer_bytes (play f s ws).answers ++ rest) k 0)

  -- the first of n events from i that is wrong, or the store at the end
  abbrev ends : ℕ → ℕ → f.medium.Store → Walked f.medium.Store
  ends n i store = cond (under (lowest_from n (λ j. not (same_answer f given ran j)) i) (i + n)) (wrong (lowest_from n (λ j. not (same_answer f given ran j)) i)) (right store)

  -- the bytes at event i are right exactly if they are those of the answer that ran
  same_is : (i : ℕ) (a : Answer) (bs : List ℕ) → ((k : ℕ) → get_or ran (2 * i + k) 0 ≡ get_or (number_of a ∷ value_of a ∷ bs) k 0) → same_answer f given ran i ≡ answered given i a
  unfolding same_answer answered
  same_is i a bs B =
      let p : 2 * i + 0 ≡ 2 * i = omega arith in
      let q : 2 * i + 1 ≡ suc (2 * i) = omega arith in
      let x : get_or ran (2 * i) 0 ≡ number_of a = rw p at (B 0) in
      let y : get_or ran (suc (2 * i)) 0 ≡ value_of a = rw q at (B 1) in
      rw (x, y)

  tail_from : (i : ℕ) (x y : ℕ) (bs : List ℕ) → ((k : ℕ) → get_or ran (2 * i + k) 0 ≡ get_or (x ∷ y ∷ bs) k 0) → (k : ℕ) → get_or ran (2 * suc i + k) 0 ≡ get_or bs k 0
  tail_from i x y bs B k = let p : 2 * suc i + k ≡ 2 * i + suc (suc k) = omega arith in rw p (B (suc (suc k)))

  none_left : (i : ℕ) (store : f.medium.Store) → right store ≡ ends 0 i store
  unfolding lowest_from
  none_left i store = rw (refute (under i (i + 0)) (λ d. let k = under-lt i (i + 0) d in omega (arith, k)))

  one_more : (n i : ℕ) (store : f.medium.Store) (b : Bool) → same_answer f given ran i ≡ b → cond b (ends n (suc i) store) (wrong i) ≡ ends (suc n) i store
  unfolding lowest_from
  one_more n i store true e = let p : suc i + n ≡ i + suc n = omega arith in rw (e, p)
  one_more n i store false e = rw (e, lt-under i (i + suc n) (omega arith))

  walk_is : (s : StateOf f) (l : Ledger) (i : ℕ) (ws : List ℕ) → Reached f M s → Agrees f start s l → From i s ws → some_two_phase f.geometry ws ≡ false
      → walk f start given l s.store i ws ≡ ends (length ws) i (play f s ws).state.store
  unfolding walk play answer_bytes some_two_phase
  walk_is s l i [] R A B P = none_left i s.store
  walk_is s l i (w ∷ ws) R A B P =
      let z = plain_word f.geometry w (or_false_left (is_two_phase f.geometry w) _ P) in
      let o = step f s (decode f.geometry w) in
      let bs = answer_bytes (play f o.state ws).answers ++ B.0 in
      let ih = walk_is o.state (learned (records f.geometry) l (decode f.geometry w) o.answer) (suc i) ws (reached_word f M R w) (agree_step f M R A (decode f.geometry w) z (held_word f.geometry w))
      (B.0, tail_from i (number_of o.answer) (value_of o.answer) bs B.1) (or_false_right (is_two_phase f.geometry w) _ P) in
      rw (due_is f M R A (decode f.geometry w) z, ih) (one_more (length ws) i (play f o.state ws).state.store (answered given i o.answer) (same_is i o.answer bs B.1))

none-busy : (o : Option ℕ) → is_busy o ≡ false → o ≡ none
unfolding is_busy
none-busy none e = refl
none-busy (some i) e = absurd (true≢false e)

-- at a start where nothing is prepared nothing is told, and nothing is live
pub start_agrees : (f : Form) (M : MediumLaws f.geometry f.medium) (d : f.medium.Store) → f.medium.prepared d ≡ none → Agrees f (f.medium.settled d) (down d) blank_ledger
unfolding down blank_ledger nothing_yet locks_of is_bearing
start_agrees f M d e = record {
  root = start_root (records f.geometry) (f.medium.pending d);
  tells = subst (λ (h : History). Holds f (f.medium.settled d) (down d) h (start_root (records f.geometry) (f.medium.pending d))) (plain_start (records f.geometry) (f.medium.pending d) (λ r. M.free_pending d r e)) (start_holds f M d);
  locks = record {
    labels = λ i. lost;
    law = record {
      one = λ i. refl;
      kept = λ i t e. refl;
      origin = refl;
      unpassed = λ i k. refl;
      fresh = λ G i r k. refl;
      holds = λ G r t. G.fails;
      retains = λ G r t. G.fails;
    };
  };
  ups = refl;
  free = e;
}

module _ (f : Form) (M : MediumLaws f.geometry f.medium) (start events answers end : List ℕ) where
  abbrev work : List ℕ
  work = replicate (work_size f.geometry) 0

  abbrev ws : List ℕ
  ws = words f.geometry (events_in f events) events

  -- what isn't refused to the auditor isn't refused to a run
  pub record Plays : Type 0 where
    pub sized : length start ≡ f.medium.size
    pub listed : (not (same (length events % word_size f.geometry) 0) || under (longest * word_size f.geometry) (length events)) ≡ false
    pub room : under (length answers) (2 * events_in f events) ≡ false
    pub plain : some_two_phase f.geometry ws ≡ false
    pub free : is_busy (f.medium.prepared (f.medium.from_bytes start)) ≡ false

  plays : first_of (audit_refusals f start events answers end) ≡ none → Plays
  unfolding audit_refusals
  plays e =
      let a = pass 22 (not (same (length start) f.medium.size) || not (same (length end) f.medium.size)) _ e in
      let b = pass 20 (not (same (length events % word_size f.geometry) 0) || under (longest * word_size f.geometry) (length events)) _ a.1 in
      let c = pass 21 (under (length answers) (2 * events_in f events)) _ b.1 in
      let d = pass 30 (some_two_phase f.geometry ws || is_busy (f.medium.prepared (f.medium.from_bytes start))) _ c.1 in
      record { sized = same-eq (length start) f.medium.size (not-false _ (or_false_left _ _ a.0)); listed = b.0; room = c.0; plain = or_false_left (some_two_phase f.geometry ws) _ d.0; free = or_false_right (some_two_phase f.geometry ws) _ d.0 }

  not_refused : Plays → first_of (run_refusals f start events work answers) ≡ none
  unfolding run_refusals first_of
  not_refused P = rw (P.sized, same_refl f.medium.size, length-replicate {A = ℕ} (work_size f.geometry) 0, same_refl (work_size f.geometry), P.listed, P.room)

  -- the verdict of where a walk ends
  ends_verdict : (n : ℕ) (ran : List ℕ) (store : f.medium.Store)
      → verdict_by f end (ends f M (settled_in f start) answers ran n 0 store)
      ≡ verdict f n (lowest n (λ i. not (same_answer f answers ran i))) (page_count f.geometry) (lowest (page_count f.geometry) (λ p. not (same_page f end (f.medium.to_bytes store) p)))
  unfolding lowest verdict_by verdict open_tests
  ends_verdict n ran store = let z : 0 + n ≡ n = omega arith in rw z (go (under (lowest_from n (λ j. not (same_answer f answers ran j)) 0) n))
    where
      go : (b : Bool) → verdict_by f end (cond b (wrong (lowest_from n (λ j. not (same_answer f answers ran j)) 0)) (right store))
          ≡ cond b (wrong_event (lowest_from n (λ i. not (same_answer f answers ran i)) 0))
          (cond (under (lowest_from (page_count f.geometry) (λ p. not (same_page f end (f.medium.to_bytes store) p)) 0) (page_count f.geometry))
          (wrong_page (lowest_from (page_count f.geometry) (λ p. not (same_page f end (f.medium.to_bytes store) p)) 0)) belongs)
      go true = refl
      go false = refl

  at_start : (bs : List ℕ) (k : ℕ) → get_or bs (2 * 0 + k) 0 ≡ get_or bs k 0
  at_start bs k = let z : 2 * 0 + k ≡ k = omega arith in ap (λ n. get_or bs n 0) z

  audit_ran : first_of (audit_refusals f start events answers end) ≡ none
      → verdict_by f end (walk f (settled_in f start) answers blank_ledger (f.medium.from_bytes start) 0 ws) ≡ verdict_of f events answers end (run f start events work answers)
  unfolding verdict_of run run_by run_all down settled_in
  audit_ran e =
      let P = plays e in
      let s₀ : StateOf f = down (f.medium.from_bytes start) in
      let ran : List ℕ = answer_bytes (play f s₀ ws).answers ++ drop (2 * events_in f events) answers in
      let W = walk_is f M (settled_in f start) answers ran s₀ blank_ledger 0 ws (reached_start f M start P.sized) (start_agrees f M (f.medium.from_bytes start) (none-busy _ P.free)) (drop (2 * events_in f events) answers, λ k. at_start ran k) P.plain in
      ap (verdict_by f end) W ∙ ap (λ n. verdict_by f end (ends f M (settled_in f start) answers ran n 0 (play f s₀ ws).state.store)) (words-length f.geometry (events_in f events) events)
      ∙ ends_verdict (events_in f events) ran (play f s₀ ws).state.store ∙ rw (not_refused P)

  -- THE AUDITOR AGREES WITH THE RULES
  pub audit_is : plain_audit f start events answers end ≡ audit f start events answers end
  unfolding plain_audit plain_by audit audit_by
  audit_is = go (first_of (audit_refusals f start events answers end)) refl
    where
      go : (o : Option ℕ) → first_of (audit_refusals f start events answers end) ≡ o → plain_by f start events answers end o ≡ audit_by f start events answers end o
      go none e = audit_ran e
      go (some n) e = refl

-- of edition 1
pub audit1_is : (start events answers end : List ℕ) → plain_audit edition1 start events answers end ≡ audit1 start events answers end
unfolding audit1
audit1_is = audit_is edition1 (atomic_laws geometry1 proper1)
