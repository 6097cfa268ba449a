-- Where a transaction survives the rest of a run, so do its ancestors: a commit needs no live child, an abort takes the descendants, and
-- nothing else parts them.
use mathlib.Core.Path.{◌≡◌, refl, sym, ap, subst, subst⁻¹, ◌∙◌, fun_ext}
use mathlib.Core.Bool.{Bool, true, false, cond, true≢false}
use mathlib.Core.List.{List, [], ◌∷◌}
use mathlib.Core.Logic.{◌≢◌}
use mathlib.Core.Option.{Option, none, some}
use Prim.Native.Nat.{ℕ}
use Rattle.laws.specs.Tests.{same, under}
use Rattle.laws.proofs.Tests.{same_cases, Same, is, isnt, ne_false, Is, is_cases, yes', no'}
use Rattle.laws.proofs.Booleans.{clash}
use Rattle.rules.specs.Event.{Event, begin, lock, write, read, commit, abort, crash, recover, prepare, decide, query, decode}
use Rattle.rules.specs.State.{free, line_of, mem, live, down, open_state}
use Rattle.rules.specs.Commit.{Cut}
use Rattle.rules.specs.Form.{Form}
use Rattle.rules.specs.Step.{is_for, is_top, value_of, decides, StateOf, OutcomeOf, first_free, begun, locked, wrote, ended as endedState, passed, retaining, aborted, raised, concluded, finished, refusal, commits_top, commits_child, commits, recovers, act, step}
use Rattle.rules.specs.Sound.{Sound}
use Rattle.rules.proofs.Tree.{Lines, is_cons, mem_cons}
use Rattle.rules.proofs.Bearers.{ended_in, begun_line, ended_line}
use Rattle.rules.proofs.Medium.{MediumLaws}
use Rattle.rules.proofs.Acceptance.{CommitOk, PrepareOk, begin_ok, commit_ok, prepare_ok, Judged, acts, refuses, judge_cases}
use Rattle.rules.proofs.Locks.{ChildOf, rooted_of, beneath_closed, live_line, no_child, top_line, child_line}
use Rattle.rules.proofs.Soundness.{Reached, reached_word, alone_closed}
use Rattle.history.specs.History.{suffices, is_whole_answer}
use Rattle.history.proofs.Roots.{Root, settled, lost, waiting, at, move, lose, all_lost, resolve, lost≢settled, at≢settled}
use Rattle.history.proofs.Tells.{top_turn}
use Rattle.history.proofs.Invariant.{commit_turn, prepare_turn, decide_turn, answered, turn, changed_of}
use Rattle.history.proofs.Runs.{step_of, future}

-- φ tells of each label what it becomes
pub record Fair (line : Lines) (φ : Root → Root) : Type 0 where
  pub on_settled : φ settled ≡ settled
  pub on_lost : φ lost ≡ lost
  pub upward : (j y : ℕ) → mem y (line j) ≡ true → φ (at j) ≡ settled → φ (at y) ≡ settled

fair_end : (line : Lines) → Fair line (λ c. c)
fair_end line = record { on_settled = refl; on_lost = refl; upward = λ j y m e. absurd (at≢settled e) }

fair_same : {line line' : Lines} {φ : Root → Root} → Fair line' φ → ((j y : ℕ) → mem y (line j) ≡ true → line' j ≡ line j) → Fair line φ
fair_same F h = record { on_settled = F.on_settled; on_lost = F.on_lost; upward = λ j y m e. F.upward j y (rw (h j y m) m) e }

fair_lose : {line : Lines} {φ : Root → Root} (dead : ℕ → Bool) → ((z a : ℕ) → dead z ≡ false → dead a ≡ true → mem a (line z) ≡ false)
    → Fair (λ j. cond (dead j) [] (line j)) φ → Fair line (λ c. φ (lose dead c))
fair_lose {line} {φ} dead closed F = record { on_settled = F.on_settled; on_lost = F.on_lost; upward = λ j y m e. go j y m e (is_cases (dead j)) (is_cases (dead y)) }
  where
    go : (j y : ℕ) → mem y (line j) ≡ true → φ (lose dead (at j)) ≡ settled → Is (dead j) → Is (dead y) → φ (lose dead (at y)) ≡ settled
    go j y m e (yes' d) k = absurd (lost≢settled (sym F.on_lost ∙ rw d at e))
    go j y m e (no' d) (yes' k) = clash m (closed j y d k)
    go j y m e (no' d) (no' k) = rw k (F.upward j y (rw d m) (rw d at e))

fair_move : {line : Lines} {φ : Root → Root} (x : ℕ) (t : Root) → ((z : ℕ) → z ≢ x → mem x (line z) ≡ false)
    → ((y : ℕ) → y ≢ x → mem y (line x) ≡ true → φ t ≡ settled → φ (at y) ≡ settled)
    → Fair (λ j. cond (same j x) [] (line j)) φ → Fair line (λ c. φ (move x t c))
fair_move {line} {φ} x t leaf onward F = record { on_settled = F.on_settled; on_lost = F.on_lost; upward = λ j y m e. go j y m e (same_cases j x) (same_cases y x) }
  where
    go : (j y : ℕ) → mem y (line j) ≡ true → φ (move x t (at j)) ≡ settled → Same j x → Same y x → φ (move x t (at y)) ≡ settled
    go j y m e (is p s _) (is q k _) = rw k (rw s at e)
    go j y m e (is p s _) (isnt q k _) = rw k (onward y q (rw p at m) (rw s at e))
    go j y m e (isnt p s _) (is q k _) = clash (rw q at m) (leaf j p)
    go j y m e (isnt p s _) (isnt q k _) = rw k (F.upward j y (rw s m) (rw s at e))

-- a decision
fair_resolve : {line : Lines} {φ : Root → Root} (d : Bool) → Fair line φ → Fair line (λ c. φ (resolve d c))
fair_resolve d F = record { on_settled = F.on_settled; on_lost = F.on_lost; upward = F.upward }

fair_decided : {line : Lines} {φ : Root → Root} (d none_made : Bool) → Fair line φ → Fair line (λ c. φ (decide_turn d none_made c))
fair_decided d true F = F
fair_decided d false F = fair_resolve d F

module _ (f : Form) {s : StateOf f} (S : Sound f s) (φ : Root → Root) where
  abbrev line : Lines
  line = line_of s.bearer

  fair_ended : (dead : ℕ → Bool) → ((z a : ℕ) → dead z ≡ false → dead a ≡ true → mem a (line z) ≡ false) → Fair (line_of (ended_in s.bearer dead)) φ → Fair (λ j. cond (dead j) [] (line j)) φ
  fair_ended dead closed F = subst (λ (l : Lines). Fair l φ) (fun_ext (ended_line (rooted_of S) dead closed)) F

  fair_down : Fair (line_of (λ t. free)) φ → Fair line (λ c. φ (all_lost c))
  unfolding open_state
  fair_down F = fair_lose (λ j. true) (λ z a p q. absurd (true≢false p)) F

  fair_begin : (p t : ℕ) → live s t ≡ false → Fair (line_of (begun s t p).bearer) φ → Fair line φ
  unfolding begun live
  fair_begin p t off F = fair_same F (λ j y m. begun_line (rooted_of S) t p off j ∙ rw (ne_false j t (λ q. clash (live_line S j ∙ mem_cons y (line j) m) (rw q off))))

  -- what the outcome of an event has to keep
  abbrev Keeps : Event → OutcomeOf f → Type 0
  Keeps e o = Fair (line_of o.state.bearer) φ → Fair line (λ c. φ (turn f s (some e) o.answer c))

  abbrev KeepsCommit : ℕ → List ℕ → OutcomeOf f → Type 0
  KeepsCommit x l o = Fair (line_of o.state.bearer) φ → Fair line (λ c. φ (answered o.answer (commit_turn x l (suffices o.answer (changed_of f s x))) c))

  fair_recover : (k : ℕ) → Keeps (recover k) (recovers f s (f.medium.recover s.store k))
  unfolding recovers concluded raised down
  fair_recover k F = go (f.medium.recover s.store k).crashed F
    where
      go : (b : Bool) → Keeps (recover k) (concluded (raised s (f.medium.recover s.store k).store) (f.medium.recover s.store k) b)
      go true F = fair_down F
      go false F = F

  -- a commit of x with no live child
  module _ (x : ℕ) (ok : CommitOk s x) where
    leaf : (z : ℕ) → z ≢ x → mem x (line z) ≡ false
    leaf = no_child S x ok.childless

    alone : line x ≡ x ∷ [] → (y : ℕ) → y ≢ x → mem y (line x) ≡ true → ⊥
    unfolding mem
    alone top y n m = clash m (rw (top, ne_false y x n))

    -- cut: the commit of a top one, then all end
    fair_cut : (enough : Bool) → line x ≡ x ∷ [] → Fair (line_of (λ t. free)) φ → Fair line (λ c. φ (all_lost (top_turn x enough c)))
    unfolding open_state
    fair_cut true top F = fair_move {φ = λ c. φ (all_lost c)} x settled leaf (λ y n m e. absurd (alone top y n m)) (fair_lose (λ j. true) (λ z a p r. absurd (true≢false p)) F)
    fair_cut false top F = fair_lose {φ = λ c. φ (all_lost c)} (λ j. same j x) (alone_closed S x ok) (fair_lose (λ j. true) (λ z a p r. absurd (true≢false p)) F)

    fair_top : (a : ℕ) (c : Cut f.medium.Store) → line x ≡ x ∷ [] → KeepsCommit x (a ∷ []) (commits_top f s x c)
    unfolding commits_top concluded endedState down suffices
    fair_top a c top F = go c.crashed F
      where
        go : (b : Bool) → KeepsCommit x (a ∷ []) (concluded (endedState s (λ j. same j x) c.store) c b)
        go true F = fair_cut (under (changed_of f s x) c.made) top F
        go false F = fair_move x settled leaf (λ y n m e. absurd (alone top y n m)) (fair_ended (λ j. same j x) (alone_closed S x ok) F)

    fair_child : (a y : ℕ) (l : List ℕ) → line x ≡ a ∷ y ∷ l → KeepsCommit x (a ∷ y ∷ l) (commits_child f s x y)
    unfolding commits_child finished endedState passed mem
    fair_child a y l q F = let F' = fair_ended (λ j. same j x) (alone_closed S x ok) F in fair_move x (at y) leaf (onward F') F'
      where
        C : ChildOf s.bearer x y
        C = child_line S x a y l q

        onward : Fair (λ j. cond (same j x) [] (line j)) φ → (z : ℕ) → z ≢ x → mem z (line x) ≡ true → φ (at y) ≡ settled → φ (at z) ≡ settled
        onward F' z n e k = F'.upward y z (rw (ne_false y x (λ w. C.two (sym w))) (rw (C.under, ne_false z x n) at e)) k

    fair_commit : (k : ℕ) (l : List ℕ) → line x ≡ l → KeepsCommit x l (commits f s x k l)
    unfolding commits
    fair_commit k [] q F = clash ok.alive (live_line S x ∙ ap is_cons q)
    fair_commit k (a ∷ []) q F = fair_top a (f.medium.commit s.store (s.version x) k) (top_line S x a q) F
    fair_commit k (a ∷ y ∷ l) q F = fair_child a y l q F

  -- a prepare of x
  fair_prepare : (x k i : ℕ) (ok : PrepareOk f s x) (c : Cut f.medium.Store) → Keeps (prepare x k i) (commits_top f s x c)
  unfolding commits_top concluded endedState down is_whole_answer is_top
  fair_prepare x k i ok c F = go c.crashed F
    where
      C : CommitOk s x
      C = ok.as_commit

      top : (l : List ℕ) → line x ≡ l → is_top l ≡ true → line x ≡ x ∷ []
      top [] q h = clash C.alive (live_line S x ∙ ap is_cons q)
      top (a ∷ []) q h = top_line S x a q
      top (a ∷ y ∷ l) q h = absurd (true≢false (sym h))

      whole : (unchanged : Bool) → Fair (λ j. cond (same j x) [] (line j)) φ → Fair line (λ r. φ (prepare_turn x true unchanged r))
      whole true F' = fair_move x settled (leaf x C) (λ y n m e. absurd (alone x C (top (line x) refl ok.top) y n m)) F'
      whole false F' = fair_move x waiting (leaf x C) (λ y n m e. absurd (alone x C (top (line x) refl ok.top) y n m)) F'

      go : (b : Bool) → Keeps (prepare x k i) (concluded (endedState s (λ j. same j x) c.store) c b)
      go true F = fair_cut x C false (top (line x) refl ok.top) F
      go false F = whole (same (changed_of f s x) 0) (fair_ended (λ j. same j x) (alone_closed S x C) F)

  fair_decide : (d : Bool) (k i : ℕ) (b : Bool) → Keeps (decide d k i) (decides f s d k b)
  unfolding decides finished recovers concluded raised down value_of
  fair_decide d k i false F = fair_decided d (same 0 0) F
  fair_decide d k i true F = go c.crashed F
    where
      c : Cut f.medium.Store
      c = f.medium.decide s.store d k

      go : (b : Bool) → Keeps (decide d k i) (concluded (raised s c.store) c b)
      go true F = fair_decided {φ = λ r. φ (all_lost r)} d (same c.made 0) (fair_down F)
      go false F = fair_decided d (same c.made 0) F

  fair_act : (e : Event) → refusal f s e ≡ none → Keeps e (act f s e)
  unfolding act finished locked wrote endedState retaining aborted down first_free
  fair_act (begin p) q F = fair_begin p (first_free s) (begin_ok f s p q).unborne F
  fair_act (lock t r a) q F = F
  fair_act (write t r o v) q F = F
  fair_act (read t r o) q F = F
  fair_act (commit x k) q F = fair_commit x (commit_ok f s x k q) k (line x) refl F
  fair_act (abort x w) q F = fair_lose (λ j. mem x (line j)) (beneath_closed S x) (fair_ended (λ j. mem x (line j)) (beneath_closed S x) F)
  fair_act crash q F = fair_down F
  fair_act (recover k) q F = fair_recover k F
  fair_act (prepare x k i) q F = fair_prepare x k i (prepare_ok f s x k i q) (f.medium.prepare s.store (s.version x) i k) F
  fair_act (decide d k i) q F = fair_decide d k i (is_for i (f.medium.prepared s.store)) F
  fair_act (query i) q F = F

  pub fair_step : (e : Option Event) → Fair (line_of (step f s e).state.bearer) φ → Fair line (λ c. φ (turn f s e (step f s e).answer c))
  unfolding step
  fair_step none F = F
  fair_step (some e) F = go (judge_cases f s e) F
    where
      go : Judged f s e → Keeps e (step f s (some e))
      go (acts q k) = subst⁻¹ (λ (o : OutcomeOf f). Keeps e o) k (fair_act e q)
      go (refuses n q k) = subst⁻¹ (λ (o : OutcomeOf f). Keeps e o) k (λ F. F)

module _ (f : Form) (M : MediumLaws f.geometry f.medium) where
  pub fair_run : {s : StateOf f} (ws : List ℕ) → Reached f M s → Fair (line_of s.bearer) (future f s ws)
  unfolding future
  fair_run {s} [] R = fair_end (line_of s.bearer)
  fair_run {s} (w ∷ ws) R = fair_step f R.sound (future f (step_of f s w).state ws) (decode f.geometry w) (fair_run {s = (step_of f s w).state} ws (reached_word f M R w))
