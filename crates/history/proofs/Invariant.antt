-- The invariant of a run: what the history tells holds of the state. Every event keeps it, and turns the labels as it turns the transactions.
use mathlib.Core.Path.{◌≡◌, refl, sym, ap, subst⁻¹, ◌∙◌, fun_ext}
use mathlib.Core.Bool.{Bool, true, false, cond, ◌&&◌, true≢false, false≢true}
use mathlib.Core.List.{List, [], ◌∷◌}
use mathlib.Core.Logic.{◌≢◌}
use mathlib.Core.Option.{Option, none, some}
use Prim.Native.Nat.{ℕ, suc, ◌<◌, ◌≤◌}
use native.Mathlib.Omega.{arith}
use lib.ListN.{set}
use Rattle.laws.specs.Tests.{same, under}
use Rattle.laws.specs.Counting.{count}
use Rattle.laws.specs.Functions.{updated}
use Rattle.laws.proofs.Tests.{same_cases, Same, is, isnt, same-eq, same_refl, ne_false}
use Rattle.laws.proofs.Booleans.{or_cases, or_right, refute, clash}
use Rattle.laws.proofs.Those.{count-zero}
use Rattle.rules.specs.Geometry.{Geometry, records, transactions, nobody}
use Rattle.rules.specs.Store.{Page}
use Rattle.rules.specs.Event.{Event, begin, lock, write, read, commit, abort, crash, recover, prepare, decide, query, decode, fits}
use Rattle.rules.specs.State.{is_active, line_of, mem, live, down}
use Rattle.rules.specs.Versions.{is_some, else}
use Rattle.rules.specs.Commit.{Cut}
use Rattle.rules.specs.Form.{Form}
use Rattle.rules.specs.Step.{Answer, done, refused, cut, value_of, is_for, is_top, StateOf, changes, busy, decides, OutcomeOf, first_free, begun, locked, wrote, ended as endedState, passed, retaining, aborted, raised, concluded, finished, visible, refusal, commits_top, commits_child, commits, recovers, act, step}
use Rattle.rules.specs.Sound.{Sound}
use Rattle.rules.proofs.Tree.{Lines, is_cons}
use Rattle.rules.proofs.Bearers.{begun_line, ended_rooted}
use Rattle.rules.proofs.Event.{decode_fits}
use Rattle.rules.proofs.Medium.{MediumLaws, changed_in, stored as storedBy, is_clear}
use Rattle.rules.proofs.Acceptance.{BeginOk, WriteOk, CommitOk, PrepareOk, begin_ok, write_ok, commit_ok, commit_clear, abort_ok, prepare_ok, Judged, acts, refuses, judge_cases}
use Rattle.rules.proofs.Locks.{rooted_of, tree_of, live_line, own_line, member_live, beneath_closed, no_child, version_live, write_apart, top_apart, child_apart, top_line, child_line}
use Rattle.rules.proofs.Reserved.{clear_of, for_some, pending_apart, version_apart, prepare_fits}
use Rattle.rules.proofs.Soundness.{alone_closed}
use Rattle.history.specs.History.{Fate, stored, ended, committed, History, is_within, changed_by, suffices, ending, all_ending, is_whole_answer, decided, effect, effect_of, commit_fate, prepare_fate, after, begins, writes as writesBy, decides as decidesBy, told}
use Rattle.history.proofs.Roots.{Root, settled, waiting, at, move, lose, all_lost, resolve}
use Rattle.history.proofs.Data.{Data, write_data, begin_data}
use Rattle.history.proofs.Waits.{waits_begun, waits_write}
use Rattle.history.proofs.Table.{bearer_some, root_bearer, changed_is, within_is}
use Rattle.history.proofs.TableKept.{begin_table, write_table}
use Rattle.history.proofs.Tells.{Tells, restored, top_turn, lost_tells, down_tells, decide_tells, prepare_tells, top_tells, child_tells, top_parent, child_parent}

-- an event that a word can hold, or a bad one
abbrev pub Held : Geometry → Option Event → Type 0
Held g none = Unit {0}
Held g (some e) = fits g e ≡ true

pub held_word : (g : Geometry) (w : ℕ) → Held g (decode g w)
held_word g w = go (decode g w) refl
  where
    go : (o : Option Event) → decode g w ≡ o → Held g o
    go none q = tt
    go (some e) q = decode_fits g w e q

-- a transaction that commits: into its parent, or as a top one
abbrev pub commit_turn : ℕ → List ℕ → Bool → Root → Root
commit_turn x [] enough c = top_turn x enough c
commit_turn x (a ∷ []) enough c = top_turn x enough c
commit_turn x (a ∷ y ∷ l) enough c = move x (at y) c

-- a prepare: what is whole, and changed something, waits
abbrev pub prepare_turn : ℕ → Bool → Bool → Root → Root
prepare_turn x true true c = move x settled c
prepare_turn x true false c = move x waiting c
prepare_turn x false unchanged c = lose (λ j. same j x) c

-- a decision: without a page write it is none
abbrev pub decide_turn : Bool → Bool → Root → Root
decide_turn d true c = c
decide_turn d false c = resolve d c

-- an accepted event turns the labels; one that is cut loses all that is left
abbrev pub answered : Answer → (Root → Root) → Root → Root
answered (done v) φ c = φ c
answered (refused n) φ c = c
answered (cut v) φ c = all_lost (φ c)

module _ (f : Form) where
  abbrev pub now : StateOf f → ℕ → Page
  now s = f.medium.settled s.store

  -- how many records x has changed
  abbrev pub changed_of : StateOf f → ℕ → ℕ
  changed_of s x = changed_in f.geometry (s.version x)

  -- what an accepted event does to the labels
  abbrev pub turn_by : StateOf f → Event → Answer → Root → Root
  turn_by s (begin p) a c = c
  turn_by s (lock t r access) a c = c
  turn_by s (write t r o v) a c = c
  turn_by s (read t r o) a c = c
  turn_by s (commit x k) a c = commit_turn x (line_of s.bearer x) (suffices a (changed_of s x)) c
  turn_by s (abort x w) a c = lose (λ j. mem x (line_of s.bearer j)) c
  turn_by s crash a c = all_lost c
  turn_by s (recover k) a c = c
  turn_by s (prepare x k i) a c = prepare_turn x (is_whole_answer a) (same (changed_of s x) 0) c
  turn_by s (decide d k i) a c = decide_turn d (same (value_of a) 0) c
  turn_by s (query i) a c = c

  abbrev pub turn_of : StateOf f → Option Event → Answer → Root → Root
  turn_of s none a c = c
  turn_of s (some e) a c = turn_by s e a c

  abbrev pub turn : StateOf f → Option Event → Answer → Root → Root
  turn s e a c = answered a (turn_of s e a) c

  abbrev pub Holds : (ℕ → Page) → StateOf f → History → (ℕ → Root) → Type 0
  Holds start s h root = Tells start s.bearer s.version (now s) (f.medium.pending s.store) h root

  -- after an event: the labels have turned, and what the history tells holds again
  pub record After (start : ℕ → Page) (s : StateOf f) (h h' : History) (root : ℕ → Root) (φ : Root → Root) : Type 0 where
    pub root' : ℕ → Root
    pub turned : (i : ℕ) → i ≤ h.begun → root' i ≡ φ (root i)
    pub grown : h.begun ≤ h'.begun
    pub tells : Holds start s h' root'

module _ (f : Form) (M : MediumLaws f.geometry f.medium) {start : ℕ → Page} {s : StateOf f} {h : History} {root : ℕ → Root}
    (S : Sound f s) (H : Holds f start s h root) where
  nothing_done : {φ : Root → Root} → ((c : Root) → φ c ≡ c) → After f start s h h root φ
  nothing_done e = record { root' = root; turned = λ i k. sym (e (root i)); grown = omega arith; tells = H }

  act_begin : (p : ℕ) → BeginOk f s p → After f start (begun s (first_free s) p) h (after (records f.geometry) (begins p (first_free s)) h) root (λ c. c)
  unfolding begun updated live after
  act_begin p ok = record {
    root' = λ i. cond (same i (suc h.begun)) (at (first_free s)) (root i);
    turned = λ i k. rw (ne_false i (suc h.begun) (λ q. omega arith));
    grown = omega arith;
    tells = record {
      data' = subst⁻¹ (λ (l : Lines). Data l s.version (now f s) start (λ i. cond (same i (suc h.begun)) (at (first_free s)) (root i)) h.writes)
          (fun_ext (begun_line (rooted_of S) (first_free s) p ok.unborne))
          (begin_data H.data' (first_free s) p (suc h.begun) (λ r. H.table.fresh (suc h.begun) r (omega arith))
          (λ r. refute (is_some (s.version (first_free s) r)) (λ d. true≢false (sym (version_live S (first_free s) r d) ∙ ok.unborne))));
      table = begin_table (rooted_of S) H.table (records f.geometry) (first_free s) p ok.unborne
          (λ q. let k : first_free s < transactions = ok.small in omega arith) ok.parent
          (refute (is_active (s.bearer nobody)) (λ d. let k : nobody < transactions = S.numbered nobody d in omega arith));
      waits = waits_begun H.waits (first_free s) (suc h.begun) (λ r. H.table.fresh (suc h.begun) r (omega arith));
    };
  }

  act_write : (t r o v : ℕ) → WriteOk s t r → After f start (wrote s t r (set (visible f s t r) o v)) h (after (records f.geometry) (writesBy t r o v) h) root (λ c. c)
  unfolding wrote visible live after
  act_write t r o v ok = record {
    root' = root;
    turned = λ i k. refl;
    grown = omega arith;
    tells = record {
      data' = rw (M.home_settled s.store r (S.calm ok.up))
          (write_data H.data' (h.bearer t) t r o v (root_bearer H.table t ok.alive) (own_line S t ok.alive) ((tree_of S).good t) (write_apart S t r ok.held));
      table = write_table (rooted_of S) H.table (records f.geometry) t r o v ok.alive;
      waits = waits_write H.waits (record { transaction = h.bearer t; rec = r; laid = λ page. set page o v }) t (root_bearer H.table t ok.alive);
    };
  }

  -- an ending
  by_ending : (s' : StateOf f) (h' : History) (φ : Root → Root) → h'.begun ≡ h.begun → Holds f start s' h' (λ i. φ (root i)) → After f start s' h h' root φ
  by_ending s' h' φ e T = record { root' = λ i. φ (root i); turned = λ i k. refl; grown = omega (arith, e); tells = T }

  act_abort : (t : ℕ) (w : Bool) → live s t ≡ true
      → After f start (aborted s t w (line_of s.bearer t)) h (ending (is_within h (h.bearer t)) ended h) root (lose (λ j. mem t (line_of s.bearer j)))
  unfolding endedState retaining aborted live ending
  act_abort t w alive = by_ending _ _ (lose (λ j. mem t (line_of s.bearer j))) refl
      (lost_tells (rooted_of S) H (λ j. mem t (line_of s.bearer j)) (is_within h (h.bearer t)) (beneath_closed S t) (λ u e. within_is (rooted_of S) H.table t u alive e))

  -- all end over a store with these settled records, where the same is pending
  act_down : (store : f.medium.Store) → ((r : ℕ) → f.medium.settled store r ≡ now f s r) → ((r : ℕ) → f.medium.pending store r ≡ f.medium.pending s.store r)
      → After f start (down store) h (all_ending h) root all_lost
  unfolding down all_ending ending
  act_down store e k = by_ending _ _ all_lost refl (restored (down_tells (rooted_of S) H) e k)

  -- what an outcome of an event has to hold; of a commit, by the line of x
  abbrev Acted : Event → OutcomeOf f → Type 0
  Acted e o = After f start o.state h (told (records f.geometry) h (some e) o.answer) root (turn f s (some e) o.answer)

  abbrev Commits : ℕ → ℕ → List ℕ → OutcomeOf f → Type 0
  Commits x k l o = After f start o.state h (told (records f.geometry) h (some (commit x k)) o.answer) root (λ c. answered o.answer (commit_turn x l (suffices o.answer (changed_of f s x))) c)

  act_recover : (k : ℕ) → Acted (recover k) (recovers f s (f.medium.recover s.store k))
  unfolding recovers concluded raised told effect_of effect after
  act_recover k = go (f.medium.recover s.store k).crashed
    where
      kept : (r : ℕ) → f.medium.settled (f.medium.recover s.store k).store r ≡ now f s r
      kept r = M.recover_settled s.store k r

      go : (b : Bool) → Acted (recover k) (concluded (raised s (f.medium.recover s.store k).store) (f.medium.recover s.store k) b)
      go true = act_down (f.medium.recover s.store k).store kept (M.recover_unmoved s.store k).same_pending
      go false = by_ending _ h (λ c. c) refl (restored H kept (M.recover_unmoved s.store k).same_pending)

  -- a commit with no live child
  module _ (x : ℕ) (ok : CommitOk s x) where
    leaf : (z : ℕ) → z ≢ x → mem x (line_of s.bearer z) ≡ false
    leaf = no_child S x ok.childless

    -- the n of the history is the number of versions
    changed_count : changed_by (records f.geometry) h (h.bearer x) ≡ changed_of f s x
    unfolding live changed_in
    changed_count = changed_is H.table (records f.geometry) x ok.alive ∙ ap (count (records f.geometry)) (fun_ext (λ r. sym (H.data'.on_wrote x r)))

    top_fate : line_of s.bearer x ≡ x ∷ [] → (enough : ℕ → Bool) → commit_fate (records f.geometry) h (h.bearer x) enough ≡ cond (enough (changed_of f s x)) stored ended
    unfolding live commit_fate
    top_fate top enough = rw (top_parent (rooted_of S) H x ok.alive leaf top, same_refl 0, changed_count)

    act_top : (k : ℕ) (a : ℕ) → line_of s.bearer x ≡ x ∷ [] → (changes f s x && busy f s) ≡ false → Commits x k (a ∷ []) (commits_top f s x (f.medium.commit s.store (s.version x) k))
    unfolding live commits_top concluded endedState down told effect_of effect after suffices all_ending ending storedBy
    act_top k a top free = go (f.medium.commit s.store (s.version x) k).crashed refl
      where
        c : Cut f.medium.Store
        c = f.medium.commit s.store (s.version x) k

        clear : is_clear f.geometry f.medium s.store (s.version x) ≡ true
        clear = clear_of f s x (S.calm ok.up) free

        same_pending : (r : ℕ) → f.medium.pending c.store r ≡ f.medium.pending s.store r
        same_pending = (M.commit_unmoved s.store (s.version x) k clear).same_pending

        go : (b : Bool) → c.crashed ≡ b → Commits x k (a ∷ []) (concluded (endedState s (λ j. same j x) c.store) c b)
        go false e =
            subst⁻¹ (λ (u : Fate). After f start (endedState s (λ j. same j x) c.store) h (ending (λ i. same i (h.bearer x)) u h) root (move x settled)) (top_fate top (suffices (done c.made)))
            (by_ending _ _ (move x settled) refl
            (restored (top_tells (rooted_of S) H x ok.alive leaf true (f.medium.settled c.store) top (pending_apart S x) (top_apart S x leaf top)
            (λ w r. M.commit_kept s.store (s.version x) k r clear (S.ranged x) (M.commit_whole s.store (s.version x) k (S.calm ok.up) clear e).1) (λ w. absurd (true≢false w))) (λ r. refl) same_pending))
        go true e =
            subst⁻¹ (λ (u : Fate). After f start (down c.store) h (all_ending (ending (λ i. same i (h.bearer x)) u h)) root (λ d. all_lost (top_turn x (under (changed_of f s x) c.made) d))) (top_fate top (suffices (cut c.made)))
            (by_ending _ _ (λ d. all_lost (top_turn x (under (changed_of f s x) c.made) d)) refl
            (restored (down_tells (ended_rooted (rooted_of S) (λ j. same j x) (alone_closed S x ok))
            (top_tells (rooted_of S) H x ok.alive leaf (under (changed_of f s x) c.made) (f.medium.settled c.store) top (pending_apart S x) (top_apart S x leaf top)
            (λ w r. M.commit_kept s.store (s.version x) k r clear (S.ranged x) (or_right (same (changed_of f s x) 0) _ w))
            (λ w r. M.commit_lost s.store (s.version x) k r clear (rw (ne_false (changed_of f s x) 0 (λ z. let n : 0 < changed_of f s x = M.commit_cut s.store (s.version x) k e in omega arith), w))))) (λ r. refl) same_pending))

    child_fate : (y : ℕ) → line_of s.bearer x ≡ x ∷ line_of s.bearer y → mem y (line_of s.bearer y) ≡ true → live s y ≡ true
        → (enough : ℕ → Bool) → commit_fate (records f.geometry) h (h.bearer x) enough ≡ committed
    unfolding live commit_fate
    child_fate y under own on enough = rw (child_parent (rooted_of S) H x ok.alive leaf y under own, ne_false (h.bearer y) 0 (bearer_some H.table y on))

    act_child : (k a y : ℕ) (l : List ℕ) → line_of s.bearer x ≡ a ∷ y ∷ l → Commits x k (a ∷ y ∷ l) (commits_child f s x y)
    unfolding live commits_child finished endedState passed told effect_of effect after commit_fate ending
    act_child k a y l q =
        let C = child_line S x a y l q in
        let on = member_live S y y C.own_line in
        subst⁻¹ (λ (u : Fate). After f start (endedState (passed s x y) (λ j. same j x) s.store) h (ending (λ i. same i (h.bearer x)) u h) root (move x (at y)))
        (child_fate y C.under C.own_line on (suffices (done 0)))
        (by_ending _ _ (move x (at y)) refl (child_tells (rooted_of S) H x ok.alive leaf y C.under C.own_line C.two on (child_apart S x y leaf C.under)))

    act_commit : (k : ℕ) (l : List ℕ) → line_of s.bearer x ≡ l → (is_top l ≡ true → (changes f s x && busy f s) ≡ false) → Commits x k l (commits f s x k l)
    unfolding commits is_top
    act_commit k [] q free = clash ok.alive (live_line S x ∙ ap is_cons q)
    act_commit k (a ∷ []) q free = act_top k a (top_line S x a q) (free refl)
    act_commit k (a ∷ y ∷ l) q free = act_child k a y l q

  -- a prepare
  module _ (x i : ℕ) (ok : PrepareOk f s x) (on : f.geometry.joint ≡ true) (short : i < 256) where
    clear : is_clear f.geometry f.medium s.store (s.version x) ≡ true
    clear = clear_of f s x (S.calm ok.as_commit.up) ok.clear

    alone : line_of s.bearer x ≡ x ∷ []
    unfolding is_top
    alone = go (line_of s.bearer x) refl ok.top
      where
        go : (l : List ℕ) → line_of s.bearer x ≡ l → is_top l ≡ true → line_of s.bearer x ≡ x ∷ []
        go [] q h = clash ok.as_commit.alive (live_line S x ∙ ap is_cons q)
        go (a ∷ []) q h = top_line S x a q
        go (a ∷ y ∷ l) q h = absurd (false≢true h)

    -- where something is changed nothing was pending
    was_idle : changed_of f s x ≢ 0 → (r : ℕ) → is_some (f.medium.pending s.store r) ≡ false
    unfolding is_clear is_some
    was_idle n r = ap is_some (M.free_pending s.store r (M.emptied_free s.store
        (or_cases (f.medium.emptied s.store) (same (changed_of f s x) 0) clear (λ e. e) (λ e. absurd (n (same-eq (changed_of f s x) 0 e))))))

    -- where nothing is changed nothing is new
    nothing_new : changed_of f s x ≡ 0 → (r : ℕ) → now f s r ≡ else (s.version x r) (now f s r)
    unfolding changed_in
    nothing_new e r = go (s.version x r) refl
      where
        go : (o : Option Page) → s.version x r ≡ o → now f s r ≡ else o (now f s r)
        go none q = unfold else in refl
        go (some p) q =
            let v : is_some (s.version x r) ≡ true = unfold is_some in ap is_some q in
            clash v (count-zero (records f.geometry) (λ q. is_some (s.version x q)) e r (S.ranged x r v))

    abbrev Prepares : ℕ → OutcomeOf f → Type 0
    Prepares k o = After f start o.state h (told (records f.geometry) h (some (prepare x k i)) o.answer) root (λ c. answered o.answer (prepare_turn x (is_whole_answer o.answer) (same (changed_of f s x) 0)) c)

    act_prepare : (k : ℕ) → Prepares k (commits_top f s x (f.medium.prepare s.store (s.version x) i k))
    unfolding live commits_top concluded endedState down told effect_of effect after is_whole_answer prepare_fate all_ending ending
    act_prepare k = go c.crashed refl (same_cases (changed_of f s x) 0)
      where
        c : Cut f.medium.Store
        c = f.medium.prepare s.store (s.version x) i k

        leaf' : (z : ℕ) → z ≢ x → mem x (line_of s.bearer z) ≡ false
        leaf' = no_child S x ok.as_commit.childless

        counts : changed_by (records f.geometry) h (h.bearer x) ≡ changed_of f s x
        counts = changed_count x ok.as_commit

        kept : (r : ℕ) → f.medium.settled c.store r ≡ now f s r
        kept r = M.prepare_settled s.store (s.version x) i k r clear on short

        go : (b : Bool) → c.crashed ≡ b → Same (changed_of f s x) 0 → Prepares k (concluded (endedState s (λ j. same j x) c.store) c b)
        go true e n =
            by_ending _ _ (λ d. all_lost (lose (λ j. same j x) d)) refl
            (restored (down_tells (ended_rooted (rooted_of S) (λ j. same j x) (alone_closed S x ok.as_commit))
            (top_tells (rooted_of S) H x ok.as_commit.alive leaf' false (f.medium.settled c.store) alone (pending_apart S x) (top_apart S x leaf' alone) (λ w. absurd (false≢true w)) (λ w. kept)))
            (λ r. refl) (M.prepare_cut s.store (s.version x) i k clear e).same_pending)
        go false e (is n z _) =
            let N = M.prepare_none s.store (s.version x) i k n in
            rw (counts, z)
            (by_ending _ _ (move x settled) refl
            (restored (top_tells (rooted_of S) H x ok.as_commit.alive leaf' true (f.medium.settled c.store) alone (pending_apart S x) (top_apart S x leaf' alone)
            (λ w r. kept r ∙ nothing_new n r) (λ w. absurd (true≢false w)))
            (λ r. refl) (λ r. ap (λ (d : f.medium.Store). f.medium.pending d r) N.0)))
        go false e (isnt n z _) =
            let T = M.prepare_taken s.store (s.version x) i k (S.ranged x) on short (omega (arith, n)) e in
            rw (counts, z)
            (by_ending _ _ (move x waiting) refl
            (restored (prepare_tells (rooted_of S) H x ok.as_commit.alive leaf' (f.medium.settled c.store) alone (was_idle n) kept) (λ r. refl) T.1))

  -- a decision on what is prepared, or on another
  abbrev Decides : Bool → ℕ → ℕ → OutcomeOf f → Type 0
  Decides d k i o = After f start o.state h (told (records f.geometry) h (some (decide d k i)) o.answer) root (λ c. answered o.answer (decide_turn d (same (value_of o.answer) 0)) c)

  act_decide : (d : Bool) (k i : ℕ) (b : Bool) → is_for i (f.medium.prepared s.store) ≡ b → Decides d k i (decides f s d k b)
  unfolding decides finished recovers concluded raised down told effect_of effect after decided value_of all_ending ending
  act_decide d k i false q = rw (same_refl 0) (nothing_done (λ c. refl))
  act_decide d k i true q = go c.crashed refl (same_cases c.made 0)
    where
      here : f.medium.prepared s.store ≡ some i
      here = for_some i (f.medium.prepared s.store) q

      c : Cut f.medium.Store
      c = f.medium.decide s.store d k

      -- the decision is stored
      ruled : c.made ≢ 0 → Tells start s.bearer s.version (f.medium.settled c.store) (f.medium.pending c.store) (after (records f.geometry) (decidesBy d) h) (λ j. resolve d (root j))
      ruled n =
          let made : 0 < c.made = omega (arith, n) in
          restored (decide_tells (rooted_of S) H (records f.geometry) d (λ j r v. version_apart S j r v)) (λ r. M.decide_settled s.store d k i r here made)
          (λ r. M.free_pending c.store r (M.decide_ended s.store d k i here made))

      go : (b : Bool) → c.crashed ≡ b → Same c.made 0 → Decides d k i (concluded (raised s c.store) c b)
      go false e (is n z _) = absurd (omega (arith, n, (M.decide_whole s.store d k i here e).1))
      go false e (isnt n z _) = rw z (by_ending _ _ (resolve d) refl (ruled n))
      go true e (is n z _) =
          let same_store : c.store ≡ s.store = M.decide_first s.store d k i here n in
          rw z (act_down c.store (λ r. ap (λ (x : f.medium.Store). f.medium.settled x r) same_store) (λ r. ap (λ (x : f.medium.Store). f.medium.pending x r) same_store))
      go true e (isnt n z _) = rw z (by_ending _ _ (λ x. all_lost (resolve d x)) refl (down_tells (rooted_of S) (ruled n)))

  act-any : (e : Event) → fits f.geometry e ≡ true → refusal f s e ≡ none → Acted e (act f s e)
  unfolding act finished told effect_of effect after locked down value_of first_free
  act-any (begin p) g q = act_begin p (begin_ok f s p q)
  act-any (lock t r a) g q = record { root' = root; turned = λ i k. refl; grown = omega arith; tells = H }
  act-any (write t r o v) g q = act_write t r o v (write_ok f s t r o v q)
  act-any (read t r o) g q = nothing_done (λ c. refl)
  act-any (commit x k) g q = act_commit x (commit_ok f s x k q) k (line_of s.bearer x) refl (commit_clear f s x k q)
  act-any (abort t w) g q = act_abort t w (abort_ok f s t w q).alive
  act-any crash g q = act_down s.store (λ r. refl) (λ r. refl)
  act-any (recover k) g q = act_recover k
  act-any (prepare x k i) g q = let a = prepare_fits f.geometry x k i g in act_prepare x i (prepare_ok f s x k i q) a.0 a.1 k
  act-any (decide d k i) g q = act_decide d k i (is_for i (f.medium.prepared s.store)) refl
  act-any (query i) g q = nothing_done (λ c. refl)

  -- every event that a word can hold, and a bad one
  pub step_after : (e : Option Event) → Held f.geometry e → let o = step f s e in After f start o.state h (told (records f.geometry) h e o.answer) root (turn f s e o.answer)
  unfolding step told
  step_after none g = nothing_done (λ c. refl)
  step_after (some e) g = go (judge_cases f s e)
    where
      go : Judged f s e → Acted e (step f s (some e))
      go (acts q k) = subst⁻¹ (λ (o : OutcomeOf f). Acted e o) k (act-any e g q)
      go (refuses n q k) = subst⁻¹ (λ (o : OutcomeOf f). Acted e o) k (nothing_done (λ c. refl))
