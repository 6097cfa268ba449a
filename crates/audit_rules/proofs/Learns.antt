-- Every event keeps the lock law, of the rules' state and of what its row adds to the ledger.
use mathlib.Core.Path.{◌≡◌, refl, sym, ap, subst⁻¹, ◌∙◌}
use mathlib.Core.Bool.{Bool, true, false, cond, true≢false, false≢true}
use mathlib.Core.List.{List, [], ◌∷◌}
use mathlib.Core.Option.{Option, none, some}
use Prim.Native.Nat.{ℕ}
use Rattle.laws.specs.Tests.{same}
use Rattle.laws.proofs.Tests.{same_cases, Same, is, isnt, same_refl, ne_false}
use Rattle.laws.proofs.Booleans.{clash, refute, or_right}
use Rattle.rules.specs.Geometry.{records}
use Rattle.rules.specs.Store.{Page}
use Rattle.rules.specs.Event.{Event, begin, lock, write, read, commit, abort, crash, recover, prepare, decide, query}
use Rattle.rules.specs.State.{is_active, line_of, mem, Modes, live, down}
use Rattle.rules.specs.Locks.{reported}
use Rattle.rules.specs.Commit.{Cut}
use Rattle.rules.specs.Form.{Form}
use Rattle.rules.specs.Step.{done, cut, value_of, StateOf, OutcomeOf, first_free, begun, locked, wrote, ended as endedState, passed as passedState, retaining, aborted, raised, concluded, finished, refusal, commits_top, commits_child, commits, recovers, act, step}
use Rattle.rules.specs.Sound.{Sound}
use Rattle.rules.proofs.Tree.{is_cons, antisym}
use Rattle.rules.proofs.Acceptance.{lock_ok, commit_ok, abort_ok, Judged, acts, refuses, judge_cases}
use Rattle.rules.proofs.Locks.{ChildOf, rooted_of, tree_of, live_line, own_line, member_live, child_line}
use Rattle.history.specs.History.{committed, stored, ended, Write, History, is_bearing, is_within, suffices, all_ending, effect, effect_of, commit_fate, after, told}
use Rattle.history.proofs.Roots.{Root, lost}
use Rattle.history.proofs.Table.{Table, bearer_one, within_is}
use Rattle.history.proofs.Invariant.{Holds}
use Rattle.audit_rules.specs.Plain.{Ledger, passed_by, grants_by, up_by, learned}
use Rattle.audit_rules.proofs.Free.{is_plain}
use Rattle.audit_rules.proofs.Kin.{top_parent, child_parent}
use Rattle.audit_rules.proofs.Locking.{Locking, none_stands, begin_locking, lock_locking}
use Rattle.audit_rules.proofs.Ends.{all_locking, discard_locking, hand_locking}

-- a commit leaves nobody bearing a number
commit_over : (n : ℕ) (h : History) (i : ℕ) (enough : ℕ → Bool) → is_bearing (commit_fate n h i enough) ≡ false
unfolding commit_fate is_bearing
commit_over n h i enough = go (same (h.parent i) 0) (enough _)
  where
    go : (a b : Bool) → is_bearing (cond a (cond b stored ended) committed) ≡ false
    go true true = refl
    go true false = refl
    go false b = refl

module _ (f : Form) where
  -- the lock law, with its labels
  pub record Locked (s : StateOf f) (l : Ledger) : Type 0 where
    pub labels : ℕ → Root
    pub law : Locking l.story l.passed l.grants s.held s.retained labels

  abbrev n : ℕ
  n = records f.geometry

  module _ {start : ℕ → Page} {s : StateOf f} {l : Ledger} {root : ℕ → Root} (S : Sound f s) (H : Holds f start s l.story root) (L : Locked s l) where
    abbrev h : History
    h = l.story

    T : Table s.bearer h root
    T = H.table

    -- what an outcome of an event has to hold
    abbrev Acted : Event → OutcomeOf f → Type 0
    Acted e o = Locked o.state (learned n l (some e) o.answer)

    all_end : (store : f.medium.Store) (up : Bool) → Locked (down store) (record { story = all_ending h; passed = l.passed; grants = l.grants; up = up })
    unfolding down
    all_end store up = record { labels = _; law = all_locking L.law }

    act_recover : (k : ℕ) → Acted (recover k) (recovers f s (f.medium.recover s.store k))
    unfolding recovers concluded raised learned told effect_of effect after passed_by grants_by
    act_recover k = go (f.medium.recover s.store k).crashed
      where
        go : (b : Bool) → Acted (recover k) (concluded (raised s (f.medium.recover s.store k).store) (f.medium.recover s.store k) b)
        go true = all_end (f.medium.recover s.store k).store false
        go false = record { labels = L.labels; law = L.law }

    module _ (x : ℕ) (alive : is_active (s.bearer x) ≡ true) where
      picks : (t : ℕ) → is_active (s.bearer t) ≡ true → same (h.bearer t) (h.bearer x) ≡ same t x
      picks t e = go (same_cases t x)
        where
          go : Same t x → same (h.bearer t) (h.bearer x) ≡ same t x
          go (is q s _) = rw (q, same_refl (h.bearer x), same_refl x)
          go (isnt q s _) = ne_false (h.bearer t) (h.bearer x) (λ z. q (bearer_one T t x e alive z)) ∙ sym s

      -- a top transaction's locks go up to nobody
      nowhere : (a : ℕ) → line_of s.bearer x ≡ a ∷ [] → L.labels (h.parent (h.bearer x)) ≡ lost
      nowhere a q = ap L.labels (top_parent T (rooted_of S) x a q) ∙ none_stands T L.law

      act_top : (k a : ℕ) (c : Cut f.medium.Store) → line_of s.bearer x ≡ a ∷ [] → Acted (commit x k) (commits_top f s x c)
      unfolding commits_top concluded endedState down learned told effect_of effect after passed_by grants_by
      act_top k a c q = go c.crashed
        where
          go : (b : Bool) → Acted (commit x k) (concluded (endedState s (λ j. same j x) c.store) c b)
          go false = record {
            labels = _;
            law = discard_locking T L.law x alive true (λ j. same j x) (λ i. same i (h.bearer x)) (commit_fate n h (h.bearer x) (suffices (done c.made))) picks
                (commit_over n h (h.bearer x) (suffices (done c.made))) (same_refl x) (λ w. nowhere a q);
          }
          go true = record {
            labels = _;
            law = all_locking (discard_locking T L.law x alive true (λ j. same j x) (λ i. same i (h.bearer x)) (commit_fate n h (h.bearer x) (suffices (cut c.made))) picks
                (commit_over n h (h.bearer x) (suffices (cut c.made))) (same_refl x) (λ w. nowhere a q));
          }

      act_child : (k a y : ℕ) (m : List ℕ) → line_of s.bearer x ≡ a ∷ y ∷ m → Acted (commit x k) (commits_child f s x y)
      unfolding commits_child finished endedState passedState learned told effect_of effect after passed_by grants_by live
      act_child k a y m q =
          let C = child_line S x a y m q in
          record {
            labels = _;
            law = hand_locking T L.law x alive true (λ j. same j x) (λ i. same i (h.bearer x)) (commit_fate n h (h.bearer x) (suffices (done 0))) picks
                (commit_over n h (h.bearer x) (suffices (done 0))) (same_refl x)
                y (member_live S y y C.own_line) (ne_false y x (λ z. C.two (sym z))) refl (child_parent T (rooted_of S) x a y m q);
          }

      act_commit : (k : ℕ) (m : List ℕ) → line_of s.bearer x ≡ m → Acted (commit x k) (commits f s x k m)
      unfolding commits live
      act_commit k [] q = clash alive (live_line S x ∙ ap is_cons q)
      act_commit k (a ∷ []) q = act_top k a (f.medium.commit s.store (s.version x) k) q
      act_commit k (a ∷ y ∷ m) q = act_child k a y m q

      -- an abort, by the line of x
      within : (t : ℕ) → is_active (s.bearer t) ≡ true → is_within h (h.bearer x) (h.bearer t) ≡ mem x (line_of s.bearer t)
      within t e = within_is (rooted_of S) T x t alive e

      own : mem x (line_of s.bearer x) ≡ true
      unfolding live
      own = own_line S x alive

      -- its parent isn't beneath it
      parent_left : (y : ℕ) → ChildOf s.bearer x y → mem x (line_of s.bearer y) ≡ false
      unfolding mem
      parent_left y C = refute (mem x (line_of s.bearer y)) (λ d.
          C.two (antisym (tree_of S) x y d (rw C.under (or_right (same y x) (mem y (line_of s.bearer y)) C.own_line))))

      act_abort : (w : Bool) (m : List ℕ) → line_of s.bearer x ≡ m
          → Acted (abort x w) (finished (endedState (retaining s (reported x w m s.held s.retained)) (λ j. mem x (line_of s.bearer j)) s.store) 0)
      unfolding reported finished endedState retaining learned told effect_of effect after passed_by grants_by is_bearing live
      act_abort false m q = record {
        labels = _;
        law = discard_locking T L.law x alive false (λ j. mem x (line_of s.bearer j)) (is_within h (h.bearer x)) ended within refl own (λ w. absurd (true≢false (sym w)));
      }
      act_abort true [] q = clash alive (live_line S x ∙ ap is_cons q)
      act_abort true (a ∷ []) q = record {
        labels = _;
        law = discard_locking T L.law x alive true (λ j. mem x (line_of s.bearer j)) (is_within h (h.bearer x)) ended within refl own (λ w. nowhere a q);
      }
      act_abort true (a ∷ y ∷ m) q =
          let C = child_line S x a y m q in
          record {
            labels = _;
            law = hand_locking T L.law x alive true (λ j. mem x (line_of s.bearer j)) (is_within h (h.bearer x)) ended within refl own
                y (member_live S y y C.own_line) (parent_left y C) refl (child_parent T (rooted_of S) x a y m q);
          }

    -- a write adds to the writes alone
    wrote_law : {ws : List Write} {held retained : Modes} {lroot : ℕ → Root} → Locking h l.passed l.grants held retained lroot
        → Locking (record { begun = h.begun; bearer = h.bearer; parent = h.parent; fate = h.fate; writes = ws }) l.passed l.grants held retained lroot
    wrote_law K = record { one = K.one; kept = K.kept; origin = K.origin; unpassed = K.unpassed; fresh = K.fresh; holds = K.holds; retains = K.retains }

    act-any : (e : Event) → is_plain (some e) ≡ true → refusal f s e ≡ none → Acted e (act f s e)
    unfolding act finished begun locked wrote aborted learned told effect_of effect after passed_by grants_by up_by value_of live
    act-any (begin p) z q = record { labels = _; law = begin_locking T L.law n (first_free s) p }
    act-any (lock t r a) z q = record { labels = _; law = lock_locking T L.law t r a (lock_ok f s t r a q).alive }
    act-any (write t r o v) z q = record { labels = L.labels; law = wrote_law L.law }
    act-any (read t r o) z q = record { labels = L.labels; law = L.law }
    act-any (commit x k) z q = act_commit x (commit_ok f s x k q).alive k (line_of s.bearer x) refl
    act-any (abort t w) z q = act_abort t (abort_ok f s t w q).alive w (line_of s.bearer t) refl
    act-any crash z q = all_end s.store false
    act-any (recover k) z q = act_recover k
    act-any (prepare t k i) z q = absurd (false≢true z)
    act-any (decide d k i) z q = absurd (false≢true z)
    act-any (query i) z q = absurd (false≢true z)

    pub step_locked : (e : Option Event) → is_plain e ≡ true → let o = step f s e in Locked o.state (learned n l e o.answer)
    unfolding step learned
    step_locked none z = L
    step_locked (some e) z = go (judge_cases f s e)
      where
        go : Judged f s e → Acted e (step f s (some e))
        go (acts q k) = subst⁻¹ (λ (o : OutcomeOf f). Acted e o) k (act-any e z q)
        go (refuses m q k) = subst⁻¹ (λ (o : OutcomeOf f). Acted e o) k L
