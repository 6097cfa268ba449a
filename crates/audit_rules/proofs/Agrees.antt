-- THE PLAIN ENGINE AGREES WITH THE RULES: what is due to the next event by the ledger is what the rules answer, and the store that it leaves is
-- theirs; and with each row the ledger goes on telling the state.
use mathlib.Core.Path.{◌≡◌, refl, sym, ap, subst⁻¹, ◌∙◌, fun_ext}
use mathlib.Core.Bool.{Bool, true, false, not, cond, ◌&&◌, ◌||◌, false≢true, and-false}
use mathlib.Core.List.{List, [], ◌∷◌}
use mathlib.Core.Logic.{◌≢◌}
use mathlib.Core.Option.{Option, none, some}
use Prim.Native.Nat.{ℕ}
use lib.ListN.{get_or}
use Rattle.laws.specs.Tests.{same}
use Rattle.laws.specs.Counting.{all, lowest}
use Rattle.laws.proofs.Tests.{same_cases, Same, is, isnt, same_refl, ne_false, Is, is_cases, yes', no'}
use Rattle.laws.proofs.Booleans.{clash, not-false}
use Rattle.rules.specs.Geometry.{records, transactions, nobody}
use Rattle.rules.specs.Store.{Page}
use Rattle.rules.specs.Event.{Event, begin, lock, write, read, commit, abort, crash, recover, prepare, decide, query}
use Rattle.rules.specs.State.{is_active, line_of, live, holds, holds_writing, down}
use Rattle.rules.specs.Locks.{grantable}
use Rattle.rules.specs.Versions.{is_some}
use Rattle.rules.specs.Commit.{Cut}
use Rattle.rules.specs.Form.{Form}
use Rattle.rules.specs.Step.{Answer, done, refused, cut, first_of, has_child, is_top, changes, busy, StateOf, OutcomeOf, first_free, begun, locked, wrote, ended as endedState, passed as passedState, retaining, aborted, raised, concluded, finished, visible, refusals, refusal, commits_top, commits_child, commits, recovers, act, outcome_by, step}
use Rattle.rules.proofs.Tree.{is_cons}
use Rattle.rules.proofs.Medium.{MediumLaws}
use Rattle.rules.proofs.Acceptance.{read_ok, commit_ok, Judged, acts, refuses, judge_cases}
use Rattle.rules.proofs.Grades.{Grade, write_mode, any_mode}
use Rattle.rules.proofs.Locks.{rooted_of, tree_of, live_line, member_live, child_line}
use Rattle.rules.proofs.Soundness.{Reached}
use Rattle.history.specs.History.{Fate, bearing, committed, stored, waiting, ended, History, overlaid, told}
use Rattle.history.specs.Claims.{seen_by}
use Rattle.history.proofs.Overlay.{overlaid_pick, writes_to-pick}
use Rattle.history.proofs.Roots.{Root}
use Rattle.history.proofs.Data.{reads_is}
use Rattle.history.proofs.Table.{Table, bearer_some, stands_is, seen_is}
use Rattle.history.proofs.Invariant.{Holds, Held, step_after}
use Rattle.audit_rules.specs.Plain.{Ledger, borne, is_parent, locks_of, has_changed, up_by, learned, Due, read_by, changes_by, due_refusals, due_cut, due_done, due_commit, due_to, due_by, due}
use Rattle.audit_rules.proofs.Free.{is_plain, Free, none-reserved, not-busy, step_free}
use Rattle.audit_rules.proofs.Picked.{locks_of-pick}
use Rattle.audit_rules.proofs.Kin.{borne_is, depth_is, child_is, top_parent, child_parent}
use Rattle.audit_rules.proofs.Locking.{bears}
use Rattle.audit_rules.proofs.Learns.{Locked, step_locked}
use Rattle.audit_rules.proofs.Blocks.{grant_is}

-- two tables of refusals with equal tests, of which a later one need only agree where the earlier don't refuse
first_same : (n : ℕ) (a b : Bool) (xs ys : List (ℕ × Bool)) → a ≡ b → (b ≡ false → first_of xs ≡ first_of ys) → first_of ((n, a) ∷ xs) ≡ first_of ((n, b) ∷ ys)
unfolding first_of
first_same n a b xs ys e k = rw e (go b k)
  where
    go : (c : Bool) → (c ≡ false → first_of xs ≡ first_of ys) → cond c (some n) (first_of xs) ≡ cond c (some n) (first_of ys)
    go true k = refl
    go false k = k refl

module _ (f : Form) where
  -- what an outcome leaves of answer and store
  abbrev pub due_of : OutcomeOf f → Due f.medium.Store
  due_of o = record { answer = o.answer; store = o.state.store }

  -- the ledger tells the state
  pub record Agrees (start : ℕ → Page) (s : StateOf f) (l : Ledger) : Type 0 where
    pub root : ℕ → Root
    pub tells : Holds f start s l.story root
    pub locks : Locked f s l
    pub ups : l.up ≡ s.up
    -- nothing is prepared
    pub free : Free f s

module _ (f : Form) (M : MediumLaws f.geometry f.medium) {start : ℕ → Page} {s : StateOf f} {l : Ledger} (R : Reached f M s) (A : Agrees f start s l) where
  abbrev h : History
  h = l.story

  T : Table s.bearer h A.root
  T = A.tells.table

  live_is : (t : ℕ) → borne h t ≡ live s t
  unfolding live
  live_is t = borne_is T t

  -- a number that isn't refused with 5 is live
  alive_of : (t : ℕ) → not (live s t) ≡ false → live s t ≡ true
  alive_of t e = not-false (live s t) e

  children_are : (t : ℕ) → live s t ≡ true → is_parent h (h.bearer t) ≡ has_child s t
  unfolding live has_child
  children_are t e = child_is T (rooted_of R.sound) t e

  -- what t holds is what it was granted itself
  own_pick : (t i : ℕ) → is_active (s.bearer t) ≡ true → same i (h.bearer t) ≡ bears t (h.fate i)
  own_pick t i e = go (same_cases i (h.bearer t))
    where
      other : (c : Fate) → h.fate i ≡ c → i ≢ h.bearer t → bears t c ≡ false
      other (bearing u) q n = ne_false u t (λ z. n (sym (T.who i u q).0 ∙ ap h.bearer z))
      other committed q n = refl
      other stored q n = refl
      other waiting q n = refl
      other ended q n = refl

      go : Same i (h.bearer t) → same i (h.bearer t) ≡ bears t (h.fate i)
      go (is q k _) = k ∙ rw (q, T.bears t e) (sym (same_refl t))
      go (isnt q k _) = k ∙ sym (other (h.fate i) refl q)

  held_is : (G : Grade) (t r : ℕ) → is_active (s.bearer t) ≡ true → locks_of G.test (λ i. same i (h.bearer t)) r l.grants ≡ G.test (s.held r t)
  held_is G t r e = locks_of-pick G.test r l.grants (λ i. own_pick t i e) ∙ sym (A.locks.law.holds G r t)

  -- nothing is prepared, so no commit is refused for it
  never_13 : (t : ℕ) → first_of [] ≡ first_of ((13, is_top (line_of s.bearer t) && (changes f s t && busy f s)) ∷ [])
  unfolding first_of
  never_13 t = rw (not-busy f M s A.free (changes f s t), and-false (is_top (line_of s.bearer t)))

  -- THE REFUSALS ARE THOSE OF THE RULES.
  refusal_is : (e : Event) → is_plain (some e) ≡ true → first_of (due_refusals f start l s.store e) ≡ refusal f s e
  unfolding due_refusals refusal refusals live holds holds_writing
  refusal_is (begin p) z =
      first_same 2 _ _ _ _ (ap not A.ups) (λ _.
      first_same 5 _ _ _ _ (ap (λ z. not (same p nobody || z)) (live_is p)) (λ _.
      first_same 6 _ _ _ _ (ap (λ z. same z f.geometry.depth_limit) (depth_is T (rooted_of R.sound) p)) (λ _.
      first_same 7 _ _ _ _ (ap (all transactions) (fun_ext live_is)) (λ _. refl))))
  refusal_is (lock t r a) z =
      first_same 2 _ _ _ _ (ap not A.ups) (λ _.
      first_same 5 _ _ _ _ (ap not (live_is t)) (λ e.
      first_same 14 _ _ _ _ (children_are t (alive_of t e)) (λ _.
      first_same 8 _ _ _ _ (sym (ap (◌|| not (grantable a s.held s.retained (line_of s.bearer t) t r)) (none-reserved f M s A.free r) ∙ grant_is l (rooted_of R.sound) T A.locks.law t (alive_of t e) R.sound.numbered a r)) (λ _. refl))))
  refusal_is (write t r o v) z =
      first_same 2 _ _ _ _ (ap not A.ups) (λ _.
      first_same 5 _ _ _ _ (ap not (live_is t)) (λ e.
      first_same 14 _ _ _ _ (children_are t (alive_of t e)) (λ _.
      first_same 9 _ _ _ _ (ap not (held_is write_mode t r (alive_of t e))) (λ _. refl))))
  refusal_is (read t r o) z =
      first_same 2 _ _ _ _ (ap not A.ups) (λ _.
      first_same 5 _ _ _ _ (ap not (live_is t)) (λ e.
      first_same 14 _ _ _ _ (children_are t (alive_of t e)) (λ _.
      first_same 9 _ _ _ _ (ap not (held_is any_mode t r (alive_of t e))) (λ _. refl))))
  refusal_is (commit t k) z =
      first_same 2 _ _ _ _ (ap not A.ups) (λ _.
      first_same 5 _ _ _ _ (ap not (live_is t)) (λ e.
      first_same 10 _ _ _ _ (children_are t (alive_of t e)) (λ _. never_13 t)))
  refusal_is (abort t w) z =
      first_same 2 _ _ _ _ (ap not A.ups) (λ _.
      first_same 5 _ _ _ _ (ap not (live_is t)) (λ _. refl))
  refusal_is crash z = refl
  refusal_is (recover k) z = first_same 3 _ _ _ _ A.ups (λ _. refl)
  refusal_is (prepare t k i) z = absurd (false≢true z)
  refusal_is (decide d k i) z = absurd (false≢true z)
  refusal_is (query i) z = absurd (false≢true z)

  -- what a live transaction reads; the pages that it has changed
  is_up : (t : ℕ) → live s t ≡ true → s.up ≡ true
  is_up t e = go (is_cases s.up)
    where
      go : Is s.up → s.up ≡ true
      go (yes' u) = u
      go (no' u) = clash e (R.sound.idle t u)

  reads_are : (t r : ℕ) → live s t ≡ true → read_by f start h t r ≡ visible f s t r
  unfolding visible live seen_by read_by
  reads_are t r e = sym (rw (M.home_settled s.store r (R.sound.calm (is_up t e)))
      (reads_is A.tells.data' r (line_of s.bearer t) ((tree_of R.sound).good t) ∙ overlaid_pick r h.writes (start r) (λ i. seen_is (rooted_of R.sound) T t i e)))

  changed_is : (t r : ℕ) → live s t ≡ true → has_changed h (h.bearer t) r ≡ is_some (s.version t r)
  unfolding live has_changed
  changed_is t r e = sym (A.tells.data'.on_wrote t r ∙ writes_to-pick r h.writes (λ i. sym (stands_is T t i e)))

  changes_are : (t : ℕ) → live s t ≡ true → changes_by f start h t ≡ s.version t
  unfolding live changes_by read_by seen_by is_some
  changes_are t e = fun_ext (λ r. rw (changed_is t r e) (go r (s.version t r) refl))
    where
      go : (r : ℕ) (o : Option Page) → s.version t r ≡ o → cond (is_some o) (some (overlaid (seen_by h t) r h.writes (start r))) none ≡ o
      go r none q = refl
      go r (some p) q = ap some (sym (A.tells.data'.on_version t r p q ∙ overlaid_pick r h.writes (start r) (λ i. seen_is (rooted_of R.sound) T t i e)))

  -- after page writes
  cut_is : (whole : StateOf f) (c : Cut f.medium.Store) (b : Bool) → whole.store ≡ c.store → due_cut f start c b ≡ due_of f (concluded whole c b)
  unfolding due_cut concluded down
  cut_is whole c true e = refl
  cut_is whole c false e = rw e

  commit_is : (t k : ℕ) → live s t ≡ true → (m : List ℕ) → line_of s.bearer t ≡ m
      → due_commit f start s.store (changes_by f start h t) k (same (h.parent (h.bearer t)) 0) ≡ due_of f (commits f s t k m)
  unfolding commits commits_top commits_child finished endedState passedState due_commit due_done live
  commit_is t k e [] q = clash e (live_line R.sound t ∙ ap is_cons q)
  commit_is t k e (a ∷ []) q =
      rw (top_parent T (rooted_of R.sound) t a q, same_refl 0, changes_are t e)
      (cut_is (endedState s (λ j. same j t) (f.medium.commit s.store (s.version t) k).store) (f.medium.commit s.store (s.version t) k) (f.medium.commit s.store (s.version t) k).crashed refl)
  commit_is t k e (a ∷ y ∷ m) q =
      let C = child_line R.sound t a y m q in
      rw (child_parent T (rooted_of R.sound) t a y m q, ne_false (h.bearer y) 0 (bearer_some T y (member_live R.sound y y C.own_line)))

  act_is : (e : Event) → is_plain (some e) ≡ true → refusal f s e ≡ none → due_to f start l s.store e ≡ due_of f (act f s e)
  unfolding due_to due_done act finished begun locked wrote endedState retaining aborted down first_free recovers raised
  act_is (begin p) z q = ap (λ v. record { answer = done v; store = s.store }) (ap (lowest transactions) (fun_ext (λ t. ap not (live_is t))))
  act_is (lock t r a) z q = refl
  act_is (write t r o v) z q = refl
  act_is (read t r o) z q = ap (λ (p : Page). record { answer = done (get_or p o 0); store = s.store }) (reads_are t r (read_ok f s t r o q).alive)
  act_is (commit t k) z q = commit_is t k (commit_ok f s t k q).alive (line_of s.bearer t) refl
  act_is (abort t w) z q = refl
  act_is crash z q = refl
  act_is (recover k) z q = cut_is (raised s (f.medium.recover s.store k).store) (f.medium.recover s.store k) (f.medium.recover s.store k).crashed refl
  act_is (prepare t k i) z q = absurd (false≢true z)
  act_is (decide d k i) z q = absurd (false≢true z)
  act_is (query i) z q = absurd (false≢true z)

  -- WHAT IS DUE IS WHAT THE RULES ANSWER, AND THE STORE IS THEIRS.
  pub due_is : (e : Option Event) → is_plain e ≡ true → due f start l s.store e ≡ due_of f (step f s e)
  unfolding due step due_by outcome_by
  due_is none z = refl
  due_is (some e) z = ap (due_by f start l s.store e) (refusal_is e z) ∙ go (judge_cases f s e)
    where
      go : Judged f s e → due_by f start l s.store e (refusal f s e) ≡ due_of f (outcome_by f s e (refusal f s e))
      go (acts q k) = rw q (act_is e z q)
      go (refuses n q k) = rw q

  abbrev n : ℕ
  n = records f.geometry

  -- the history of the ledger is that of demand 3
  story_is : (e : Event) (a : Answer) → (learned n l (some e) a).story ≡ told n h (some e) a
  unfolding learned told
  story_is e (done v) = refl
  story_is e (refused m) = refl
  story_is e (cut v) = refl

  -- up or down
  abbrev Up : Event → OutcomeOf f → Type 0
  Up e o = (learned n l (some e) o.answer).up ≡ o.state.up

  up_concluded : (e : Event) (whole : StateOf f) (c : Cut f.medium.Store) (b : Bool) → up_by l.up e ≡ whole.up → Up e (concluded whole c b)
  unfolding learned concluded down
  up_concluded e whole c true q = refl
  up_concluded e whole c false q = q

  up_commits : (t k : ℕ) (m : List ℕ) → Up (commit t k) (commits f s t k m)
  unfolding commits commits_top commits_child finished endedState passedState learned up_by
  up_commits t k [] = let c = f.medium.commit s.store (s.version t) k in up_concluded (commit t k) (endedState s (λ j. same j t) c.store) c c.crashed A.ups
  up_commits t k (a ∷ []) = let c = f.medium.commit s.store (s.version t) k in up_concluded (commit t k) (endedState s (λ j. same j t) c.store) c c.crashed A.ups
  up_commits t k (a ∷ y ∷ m) = A.ups

  up_act : (e : Event) → is_plain (some e) ≡ true → Up e (act f s e)
  unfolding act finished begun locked wrote endedState retaining aborted down recovers raised learned up_by
  up_act (begin p) z = A.ups
  up_act (lock t r a) z = A.ups
  up_act (write t r o v) z = A.ups
  up_act (read t r o) z = A.ups
  up_act (commit t k) z = up_commits t k (line_of s.bearer t)
  up_act (abort t w) z = A.ups
  up_act crash z = refl
  up_act (recover k) z = let c = f.medium.recover s.store k in up_concluded (recover k) (raised s c.store) c c.crashed refl
  up_act (prepare t k i) z = absurd (false≢true z)
  up_act (decide d k i) z = absurd (false≢true z)
  up_act (query i) z = absurd (false≢true z)

  up_step : (e : Event) → is_plain (some e) ≡ true → Up e (step f s (some e))
  unfolding learned
  up_step e z = go (judge_cases f s e)
    where
      go : Judged f s e → Up e (step f s (some e))
      go (acts q k) = subst⁻¹ (λ (o : OutcomeOf f). Up e o) k (up_act e z)
      go (refuses m q k) = subst⁻¹ (λ (o : OutcomeOf f). Up e o) k A.ups

  bad_keeps : Agrees f start (step f s none).state (learned n l none (step f s none).answer)
  unfolding step learned
  bad_keeps = A

  -- WITH ITS ROW THE LEDGER TELLS THE NEXT STATE.
  pub agree_step : (e : Option Event) → is_plain e ≡ true → Held f.geometry e → Agrees f start (step f s e).state (learned n l e (step f s e).answer)
  agree_step none z k = bad_keeps
  agree_step (some e) z k =
      let B = step_after f M R.sound A.tells (some e) k in
      record {
        root = B.root';
        tells = subst⁻¹ (λ (k : History). Holds f start (step f s (some e)).state k B.root') (story_is e (step f s (some e)).answer) B.tells;
        locks = step_locked f R.sound A.tells A.locks (some e) z;
        ups = up_step e z;
        free = step_free f M s A.free R.sound (some e) z;
      }
