-- What it says of a state that an event is not refused there: one record of facts for each kind of event. A refusal changes nothing.
use mathlib.Core.Path.{◌≡◌, refl, sym, ap, ◌∙◌}
use mathlib.Core.Bool.{Bool, true, false, not, cond, ◌&&◌, ◌||◌, true≢false}
use mathlib.Core.List.{List, [], ◌∷◌}
use mathlib.Core.Logic.{◌≢◌, ◌⊎◌, inl, inr}
use mathlib.Core.Option.{Option, none, some}
use Prim.Native.Nat.{ℕ, ◌<◌, ◌≤◌}
use native.Mathlib.Omega.{arith}
use lib.ListN.{get_or}
use Rattle.laws.specs.Tests.{same, under, open_tests}
use Rattle.laws.specs.Counting.{all}
use Rattle.laws.proofs.Tests.{same-eq, same_refl, under-lt, or_false_left, or_false_right}
use Rattle.laws.proofs.Booleans.{or_cases, and_left, and_right, both, not-false, not-true}
use Rattle.laws.proofs.Counting.{lowest_fails}
use Rattle.rules.specs.Geometry.{transactions, nobody}
use Rattle.rules.specs.Event.{Event, Access, begin, lock, write, read, commit, abort, crash, recover, prepare, decide, query}
use Rattle.rules.specs.State.{depth_in, line_of, State, live, holds, holds_writing}
use Rattle.rules.specs.Locks.{grantable}
use Rattle.rules.specs.Commit.{Cut}
use Rattle.rules.specs.Form.{Form}
use Rattle.rules.specs.Step.{done, refused, first_of, has_child, first_free, is_for, is_top, StateOf, OutcomeOf, changes, busy, reserved, refusals, refusal, ended, raised, concluded, finished, visible, commits_top, commits_child, commits, recovers, decides, act, outcome_by, step}
use Rattle.rules.proofs.Grades.{write_mode, graded_lock}
use Rattle.rules.proofs.Joint.{for_another}

-- a test that did not refuse
pub pass : (n : ℕ) (b : Bool) (rest : List (ℕ × Bool)) → first_of ((n, b) ∷ rest) ≡ none → (b ≡ false) × (first_of rest ≡ none)
unfolding first_of
pass n true rest e = let z : true ≡ false = cc in absurd (true≢false z)
pass n false rest e = (refl, e)

-- the numbers of a table of refusals are from 1 to 27, and not 11; so is that of the first that applies
abbrev numbers : ℕ → Bool
numbers n = under 0 n && under n 28 && not (same n 11)

abbrev all_numbers : List (ℕ × Bool) → Bool
all_numbers [] = true
all_numbers (x ∷ xs) = numbers x.0 && all_numbers xs

first_number : (l : List (ℕ × Bool)) (n : ℕ) → all_numbers l ≡ true → first_of l ≡ some n → numbers n ≡ true
unfolding first_of
first_number [] n h e = let z : true ≡ false = cc in absurd (true≢false z)
first_number (x ∷ xs) n h e = go x.1 e (λ q. first_number xs n (and_right (numbers x.0) (all_numbers xs) h) q)
  where
    go : (b : Bool) → cond b (some x.0) (first_of xs) ≡ some n → (first_of xs ≡ some n → numbers n ≡ true) → numbers n ≡ true
    go true e rest = let k : x.0 ≡ n = cc in rw (← k) (and_left (numbers x.0) (all_numbers xs) h)
    go false e rest = rest e

module _ {S : Type 0} where
  -- a lock: the state is up, t is live and has no live child, and the rule grants r for the access
  pub record LockOk (s : State S) (t r : ℕ) (a : Access) : Type 0 where
    pub up : s.up ≡ true
    pub alive : live s t ≡ true
    pub childless : has_child s t ≡ false
    pub grant : grantable a s.held s.retained (line_of s.bearer t) t r ≡ true

  -- a write: up, live with no live child, and t holds r in write mode; a read: in any mode
  pub record WriteOk (s : State S) (t r : ℕ) : Type 0 where
    pub up : s.up ≡ true
    pub alive : live s t ≡ true
    pub childless : has_child s t ≡ false
    pub held : holds s r t ≡ true
    pub writing : holds_writing s r t ≡ true

  pub record ReadOk (s : State S) (t r : ℕ) : Type 0 where
    pub up : s.up ≡ true
    pub alive : live s t ≡ true
    pub childless : has_child s t ≡ false
    pub held : holds s r t ≡ true

  -- a commit: up, live, and no live child
  pub record CommitOk (s : State S) (t : ℕ) : Type 0 where
    pub up : s.up ≡ true
    pub alive : live s t ≡ true
    pub childless : has_child s t ≡ false

  pub record AbortOk (s : State S) (t : ℕ) : Type 0 where
    pub up : s.up ≡ true
    pub alive : live s t ≡ true

-- a begin: up, under nobody or a live transaction above the depth limit, and a number is free
pub record BeginOk (f : Form) (s : StateOf f) (p : ℕ) : Type 0 where
  pub up : s.up ≡ true
  pub parent : (p ≡ nobody) ⊎ (live s p ≡ true)
  pub room : depth_in (s.bearer p) ≢ f.geometry.depth_limit
  pub small : first_free s < transactions
  pub unborne : live s (first_free s) ≡ false

-- a prepare: as a commit, of a top transaction that changed nothing, or while none is prepared
pub record PrepareOk (f : Form) (s : StateOf f) (t : ℕ) : Type 0 where
  pub as_commit : CommitOk s t
  pub clear : (changes f s t && busy f s) ≡ false
  pub top : is_top (line_of s.bearer t) ≡ true

-- a recovery: down, over a commit page that is not damaged
pub record RecoverOk (f : Form) (s : StateOf f) : Type 0 where
  pub down : s.up ≡ false
  pub whole : f.medium.damaged s.store ≡ false

module _ (f : Form) (s : StateOf f) where
  pub begin_ok : (p : ℕ) → refusal f s (begin p) ≡ none → BeginOk f s p
  unfolding refusal refusals first_free
  begin_ok p e =
      let a = pass 2 (not s.up) _ e in
      let b = pass 5 (not (same p nobody || live s p)) _ a.1 in
      let c = pass 6 (same (depth_in (s.bearer p)) f.geometry.depth_limit) _ b.1 in
      let d = pass 7 (all transactions (live s)) _ c.1 in
      let free = lowest_fails transactions (live s) d.0 in
      record {
        up = not-false _ a.0;
        parent = or_cases (same p nobody) (live s p) (not-false _ b.0) (λ q. inl (same-eq p nobody q)) (λ q. inr q);
        room = λ q. true≢false (sym (same_refl f.geometry.depth_limit) ∙ rw q at c.0);
        small = free.1;
        unborne = free.0;
      }

  pub lock_ok : (t r : ℕ) (a : Access) → refusal f s (lock t r a) ≡ none → LockOk s t r a
  unfolding refusal refusals
  lock_ok t r access e =
      let a = pass 2 (not s.up) _ e in
      let b = pass 5 (not (live s t)) _ a.1 in
      let h = pass 14 (has_child s t) _ b.1 in
      let c = pass 8 (reserved f s r || not (grantable access s.held s.retained (line_of s.bearer t) t r)) _ h.1 in
      record { up = not-false _ a.0; alive = not-false _ b.0; childless = h.0; grant = not-false _ (or_false_right (reserved f s r) _ c.0) }

  pub write_ok : (t r o v : ℕ) → refusal f s (write t r o v) ≡ none → WriteOk s t r
  unfolding refusal refusals holds holds_writing
  write_ok t r o v e =
      let a = pass 2 (not s.up) _ e in
      let b = pass 5 (not (live s t)) _ a.1 in
      let h = pass 14 (has_child s t) _ b.1 in
      let c = pass 9 (not (holds_writing s r t)) _ h.1 in
      let w = not-false (holds_writing s r t) c.0 in
      record { up = not-false _ a.0; alive = not-false _ b.0; childless = h.0; held = graded_lock write_mode (s.held r t) w; writing = w }

  pub read_ok : (t r o : ℕ) → refusal f s (read t r o) ≡ none → ReadOk s t r
  unfolding refusal refusals
  read_ok t r o e =
      let a = pass 2 (not s.up) _ e in
      let b = pass 5 (not (live s t)) _ a.1 in
      let h = pass 14 (has_child s t) _ b.1 in
      let c = pass 9 (not (holds s r t)) _ h.1 in
      record { up = not-false _ a.0; alive = not-false _ b.0; childless = h.0; held = not-false _ c.0 }

  pub commit_ok : (t k : ℕ) → refusal f s (commit t k) ≡ none → CommitOk s t
  unfolding refusal refusals
  commit_ok t k e =
      let a = pass 2 (not s.up) _ e in
      let b = pass 5 (not (live s t)) _ a.1 in
      let c = pass 10 (has_child s t) _ b.1 in
      record { up = not-false _ a.0; alive = not-false _ b.0; childless = c.0 }

  pub abort_ok : (t : ℕ) (w : Bool) → refusal f s (abort t w) ≡ none → AbortOk s t
  unfolding refusal refusals
  abort_ok t w e =
      let a = pass 2 (not s.up) _ e in
      let b = pass 5 (not (live s t)) _ a.1 in
      record { up = not-false _ a.0; alive = not-false _ b.0 }

  pub recover_ok : (k : ℕ) → refusal f s (recover k) ≡ none → RecoverOk f s
  unfolding refusal refusals
  recover_ok k e =
      let a = pass 3 s.up _ e in
      let b = pass 4 (f.medium.damaged s.store) _ a.1 in
      record { down = a.0; whole = b.0 }

  -- a lock is not granted of a record that the prepared transaction changed
  pub lock_free : (t r : ℕ) (a : Access) → refusal f s (lock t r a) ≡ none → reserved f s r ≡ false
  unfolding refusal refusals
  lock_free t r access e =
      let a = pass 2 (not s.up) _ e in
      let b = pass 5 (not (live s t)) _ a.1 in
      let h = pass 14 (has_child s t) _ b.1 in
      or_false_left _ _ (pass 8 (reserved f s r || not (grantable access s.held s.retained (line_of s.bearer t) t r)) _ h.1).0

  -- a top transaction commits only where it changed nothing, or none is prepared
  pub commit_clear : (t k : ℕ) → refusal f s (commit t k) ≡ none → is_top (line_of s.bearer t) ≡ true → (changes f s t && busy f s) ≡ false
  unfolding refusal refusals
  commit_clear t k e top =
      let a = pass 2 (not s.up) _ e in
      let b = pass 5 (not (live s t)) _ a.1 in
      let c = pass 10 (has_child s t) _ b.1 in
      let d = pass 13 (is_top (line_of s.bearer t) && (changes f s t && busy f s)) _ c.1 in
      rw top at d.0

  -- so does a prepare, which is of a top transaction
  pub prepare_ok : (t k i : ℕ) → refusal f s (prepare t k i) ≡ none → PrepareOk f s t
  unfolding refusal refusals
  prepare_ok t k i e =
      let a = pass 2 (not s.up) _ e in
      let b = pass 5 (not (live s t)) _ a.1 in
      let c = pass 10 (has_child s t) _ b.1 in
      let d = pass 13 (changes f s t && busy f s) _ c.1 in
      let g = pass 27 (not (is_top (line_of s.bearer t))) _ d.1 in
      record { as_commit = record { up = not-false _ a.0; alive = not-false _ b.0; childless = c.0 }; clear = d.0; top = not-false _ g.0 }

  pub decide_ok : (d : Bool) (k i : ℕ) → refusal f s (decide d k i) ≡ none → s.up ≡ true
  unfolding refusal refusals
  decide_ok d k i e = not-false _ (pass 2 (not s.up) _ e).0

  -- what is done is never answered as refused
  concluded_answer : (whole : StateOf f) (c : Cut f.medium.Store) (b : Bool) (n : ℕ) → (concluded whole c b).answer ≡ refused n → ⊥
  unfolding concluded
  concluded_answer whole c true n e = let z : true ≡ false = cc in true≢false z
  concluded_answer whole c false n e = let z : true ≡ false = cc in true≢false z

  done_answer : (v n : ℕ) → done v ≡ refused n → ⊥
  done_answer v n e = let z : true ≡ false = cc in true≢false z

  commits_answer : (t k : ℕ) (l : List ℕ) (n : ℕ) → (commits f s t k l).answer ≡ refused n → ⊥
  unfolding commits commits_top commits_child finished
  commits_answer t k [] n e =
      let c = f.medium.commit s.store (s.version t) k in
      concluded_answer (ended s (λ j. same j t) c.store) c c.crashed n e
  commits_answer t k (a ∷ []) n e =
      let c = f.medium.commit s.store (s.version t) k in
      concluded_answer (ended s (λ j. same j t) c.store) c c.crashed n e
  commits_answer t k (a ∷ y ∷ l) n e = done_answer 0 n e

  decides_answer : (d : Bool) (k : ℕ) (b : Bool) (n : ℕ) → (decides f s d k b).answer ≡ refused n → ⊥
  unfolding decides recovers
  decides_answer d k true n e =
      let c = f.medium.decide s.store d k in
      concluded_answer (raised s c.store) c c.crashed n e
  decides_answer d k false n e = done_answer 0 n (sym (ap (λ (o : OutcomeOf f). o.answer) (for_another f s d k)) ∙ e)

  pub act_answer : (e : Event) (n : ℕ) → (act f s e).answer ≡ refused n → ⊥
  unfolding act finished recovers commits_top
  act_answer (begin p) n e = done_answer (first_free s) n e
  act_answer (lock t r a) n e = done_answer 0 n e
  act_answer (write t r o v) n e = done_answer 0 n e
  act_answer (read t r o) n e = done_answer (get_or (visible f s t r) o 0) n e
  act_answer (commit t k) n e = commits_answer t k (line_of s.bearer t) n e
  act_answer (abort t w) n e = done_answer 0 n e
  act_answer crash n e = done_answer 0 n e
  act_answer (recover k) n e =
      let c = f.medium.recover s.store k in
      concluded_answer (raised s c.store) c c.crashed n e
  act_answer (prepare t k i) n e =
      let c = f.medium.prepare s.store (s.version t) i k in
      concluded_answer (ended s (λ j. same j t) c.store) c c.crashed n e
  act_answer (decide d k i) n e = decides_answer d k (is_for i (f.medium.prepared s.store)) n e
  act_answer (query i) n e = done_answer (cond (is_for i (f.medium.prepared s.store)) 1 0) n e

  -- an event is refused, and changes nothing, or it is not refused, and acts
  pub data Judged (e : Event) : Type 0 where
    acts : refusal f s e ≡ none → step f s (some e) ≡ act f s e → Judged e
    refuses : (n : ℕ) → refusal f s e ≡ some n → step f s (some e) ≡ record { state = s; answer = refused n } → Judged e

  pub judge_cases : (e : Event) → Judged e
  unfolding step outcome_by
  judge_cases e = go (refusal f s e) refl
    where
      go : (o : Option ℕ) → refusal f s e ≡ o → Judged e
      go none q = acts q (ap (outcome_by f s e) q)
      go (some n) q = refuses n q (ap (outcome_by f s e) q)

  -- an answer that is not a refusal comes of acting
  pub accepted_acts : (e : Event) → ((n : ℕ) → (step f s (some e)).answer ≢ refused n) → (refusal f s e ≡ none) × (step f s (some e) ≡ act f s e)
  accepted_acts e h = go (judge_cases e)
    where
      go : Judged e → (refusal f s e ≡ none) × (step f s (some e) ≡ act f s e)
      go (acts q k) = (q, k)
      go (refuses n q k) = absurd (h n (ap (λ (o : OutcomeOf f). o.answer) k))

  -- a refusal changes nothing
  pub refused_keeps : (e : Option Event) (n : ℕ) → (step f s e).answer ≡ refused n → (step f s e).state ≡ s
  unfolding step outcome_by
  refused_keeps none n q = refl
  refused_keeps (some e) n q = go (refusal f s e) q
    where
      go : (o : Option ℕ) → (outcome_by f s e o).answer ≡ refused n → (outcome_by f s e o).state ≡ s
      go none q = absurd (act_answer e n q)
      go (some m) q = refl

  tabled : (e : Event) → all_numbers (refusals f s e) ≡ true
  unfolding refusals open_tests
  tabled (begin p) = refl
  tabled (lock t r a) = refl
  tabled (write t r o v) = refl
  tabled (read t r o) = refl
  tabled (commit t k) = refl
  tabled (abort t w) = refl
  tabled crash = refl
  tabled (recover k) = refl
  tabled (prepare t k i) = refl
  tabled (decide d k i) = refl
  tabled (query i) = refl

  -- the number of a refusal
  pub refused_number : (e : Option Event) (n : ℕ) → (step f s e).answer ≡ refused n → (1 ≤ n) × (n ≤ 27) × (n ≢ 11)
  unfolding step outcome_by refusal
  refused_number none n q = let k : 1 ≡ n = cc in (omega arith, omega arith, λ e. omega arith)
  refused_number (some e) n q = said (go (first_of (refusals f s e)) refl q)
    where
      go : (o : Option ℕ) → first_of (refusals f s e) ≡ o → (outcome_by f s e o).answer ≡ refused n → numbers n ≡ true
      go none h q = absurd (act_answer e n q)
      go (some m) h q = let k : m ≡ n = cc in rw (← k) (first_number (refusals f s e) m (tabled e) h)

      said : numbers n ≡ true → (1 ≤ n) × (n ≤ 27) × (n ≢ 11)
      said h =
          let a = both (under 0 n && under n 28) (not (same n 11)) h in
          let b = both (under 0 n) (under n 28) a.0 in
          let low = under-lt 0 n b.0 in
          let high = under-lt n 28 b.1 in
          (omega (arith, low), omega (arith, high), λ e. true≢false (sym (same_refl 11) ∙ rw e at (not-true (same n 11) a.1)))
