-- Two lists of words that differ in what lost transactions write, played side by side: the second half of demand 3 over lists of words.
use mathlib.Core.Path.{◌≡◌, refl, sym, ap, subst, subst⁻¹, ◌∙◌, fun_ext}
use mathlib.Core.Bool.{Bool, true, false, cond, ◌&&◌, false≢true}
use mathlib.Core.List.{List, [], ◌∷◌}
use mathlib.Core.Logic.{◌≢◌}
use mathlib.Core.Option.{Option, none, some}
use Prim.Native.Nat.{ℕ}
use Rattle.laws.proofs.Booleans.{clash}
use Rattle.rules.specs.Geometry.{Geometry}
use Rattle.rules.specs.Store.{Page}
use Rattle.rules.specs.Event.{Event, begin, lock, write, read, commit, abort, crash, recover, prepare, decide, query, decode, fits}
use Rattle.rules.specs.State.{line_of, Versions, live, holds, holds_writing, down}
use Rattle.rules.specs.Versions.{is_some}
use Rattle.rules.specs.Form.{Form}
use Rattle.rules.specs.Step.{Answer, done, number_of, value_of, is_for, is_top, StateOf, changes, busy, reserved, has_child, first_free, begun, locked, finished, refusals, refusal, commits_child, commits, act, outcome_by, step}
use Rattle.rules.specs.Run.{play}
use Rattle.rules.specs.Sound.{Sound}
use Rattle.rules.proofs.Tree.{is_cons}
use Rattle.rules.proofs.Medium.{MediumLaws, is_clear}
use Rattle.rules.proofs.Acceptance.{CommitOk, write_ok, read_ok, commit_ok, commit_clear, recover_ok, prepare_ok, Judged, acts, refuses, judge_cases}
use Rattle.rules.proofs.Locks.{live_line, child_line}
use Rattle.rules.proofs.Reserved.{clear_of, prepare_fits}
use Rattle.rules.proofs.Soundness.{Reached, reached_word}
use Rattle.history.specs.History.{History, accepted, names, bearer_of, belongs, survives, suffices}
use Rattle.history.specs.Demand3.{heard, history, Along, SameEvent, same_word, other_value, SameAnswer, same_bytes, other_byte}
use Rattle.history.proofs.Roots.{Root, settled, at, is_settled, isnt_settled, not-settled}
use Rattle.history.proofs.Invariant.{Held, held_word, commit_turn, answered, turn, changed_of, Holds, step_after}
use Rattle.history.proofs.Runs.{row_by, step_of, rows_from, answer_back, told_of, heard_is, future, final_is}
use Rattle.history.proofs.Fair.{Fair, fair_step, fair_run}
use Rattle.history.proofs.Twins.{swap, Match, same_event, lost_write, Echo, same_answer, lost_read, Twin, Next, twin_write, twin_read, twin_abort, twin_child, twin_top, twin_recover, twin_prepare, twin_decide, down_twin}

module _ (f : Form) (M : MediumLaws f.geometry f.medium) {s : StateOf f} (S : Sound f s) (φ : Root → Root) (ver : Versions) (d : f.medium.Store) (on_settled : φ settled ≡ settled) where
  -- φ seen from before an event
  abbrev before : Option Event → Answer → Root → Root
  before e a c = φ (turn f s e a c)

  -- what a transaction may write in the first run it may write in the second
  clear_too : {ψ : Root → Root} (x : ℕ) → Twin f M ψ s ver d → s.up ≡ true → (changes f s x && busy f s) ≡ false → is_clear f.geometry f.medium d (ver x) ≡ true
  unfolding changes busy
  clear_too x W u h = clear_of f (swap f s ver d) x (W.calm u) (rw (M.agree_prepared s.store d W.stores, fun_ext (W.shape x)) h)

  twin_commit : (x k : ℕ) → CommitOk s x → (l : List ℕ) → line_of s.bearer x ≡ l → (is_top l ≡ true → (changes f s x && busy f s) ≡ false) → (ψ : Root → Root)
      → let o = commits f s x k l in Twin f M (λ c. φ (answered o.answer (commit_turn x l (suffices o.answer (changed_of f s x))) c)) s ver d
      → Next f M ψ φ (some (commit x k)) o (commits f (swap f s ver d) x k l)
  unfolding commits commits_child finished is_top
  twin_commit x k ok [] q h ψ W = clash ok.alive (live_line S x ∙ ap is_cons q)
  twin_commit x k ok (a ∷ []) q h ψ W = twin_top f M ψ x k a (clear_of f s x (S.calm ok.up) (h refl)) (W.calm ok.up) (clear_too x W ok.up (h refl)) (S.ranged x) on_settled W
  twin_commit x k ok (a ∷ y ∷ l) q h ψ W = twin_child f M ψ (commit x k) x y (child_line S x a y l q).two W

  twin_act : (e : Event) → fits f.geometry e ≡ true → refusal f s e ≡ none → let o = act f s e in Fair (line_of s.bearer) (before (some e) o.answer) → Twin f M (before (some e) o.answer) s ver d
      → Next f M (before (some e) o.answer) φ (some e) o (act f (swap f s ver d) e)
  unfolding act finished begun locked first_free live down
  twin_act (begin p) g q F W = record { ver = ver; store = d; stands = refl; twin = record { shape = W.shape; alike = W.alike; stores = W.stores; calm = W.calm; waits = W.waits }; echo = same_answer refl }
  twin_act (lock t r a) g q F W = record { ver = ver; store = d; stands = refl; twin = record { shape = W.shape; alike = W.alike; stores = W.stores; calm = W.calm; waits = W.waits }; echo = same_answer refl }
  twin_act (write t r o v) g q F W = twin_write f M S F W t r o v v (write_ok f s t r o v q).up (λ e. refl)
  twin_act (read t r o) g q F W = twin_read f M S F W t r o (read_ok f s t r o q).up
  twin_act (commit x k) g q F W = twin_commit x k (commit_ok f s x k q) (line_of s.bearer x) refl (commit_clear f s x k q) _ W
  twin_act (abort x w) g q F W = twin_abort f M _ x w W
  twin_act crash g q F W = record { ver = λ j r. none; store = d; stands = refl; twin = down_twin f M s.store d W.stores W.waits; echo = same_answer refl }
  twin_act (recover k) g q F W = twin_recover f M _ k (recover_ok f s k q).whole W
  twin_act (prepare x k i) g q F W =
      let ok = prepare_ok f s x k i q in
      let a = prepare_fits f.geometry x k i g in
      twin_prepare f M _ x k i (clear_of f s x (S.calm ok.as_commit.up) ok.clear) (W.calm ok.as_commit.up) (clear_too x W ok.as_commit.up ok.clear) (S.ranged x) a.0 a.1 on_settled W
  twin_act (decide c k i) g q F W = rw (M.agree_prepared s.store d W.stores) (twin_decide f M _ c k i (is_for i (f.medium.prepared s.store)) refl on_settled W)
  twin_act (query i) g q F W = record { ver = ver; store = d; stands = refl; twin = W; echo = same_answer (ap (λ (o : Option ℕ). done (cond (is_for i o) 1 0)) (M.agree_prepared s.store d W.stores)) }

  -- control looks at no byte of a version and no page but the commit page
  same_refusal : (e : Event) → M.Agree s.store d → ((j r : ℕ) → is_some (ver j r) ≡ is_some (s.version j r)) → refusal f (swap f s ver d) e ≡ refusal f s e
  unfolding refusal refusals live holds holds_writing has_child changes busy reserved
  same_refusal (begin p) A h = refl
  same_refusal (lock t r a) A h = rw (M.agree_pending s.store d A r)
  same_refusal (write t r o v) A h = refl
  same_refusal (read t r o) A h = refl
  same_refusal (commit x k) A h = rw (M.agree_prepared s.store d A, fun_ext (h x))
  same_refusal (abort x w) A h = refl
  same_refusal crash A h = refl
  same_refusal (recover k) A h = rw (M.agree_damaged s.store d A)
  same_refusal (prepare x k i) A h = rw (M.agree_prepared s.store d A, fun_ext (h x))
  same_refusal (decide c k i) A h = refl
  same_refusal (query i) A h = refl

  -- nor at the value of a write
  same_refusal_value : (t r o v w : ℕ) → refusal f (swap f s ver d) (write t r o w) ≡ refusal f s (write t r o v)
  unfolding refusal refusals live holds_writing has_child
  same_refusal_value t r o v w = refl

  twin_step : (e e' : Option Event) → Held f.geometry e → let o = step f s e in Fair (line_of s.bearer) (before e o.answer) → Twin f M (before e o.answer) s ver d
      → Match f (before e o.answer) s e e' → Next f M (before e o.answer) φ e o (step f (swap f s ver d) e')
  unfolding step outcome_by act finished
  twin_step none _ g F W same_event = record { ver = ver; store = d; stands = refl; twin = W; echo = same_answer refl }
  twin_step (some e) _ g F W same_event = rw (same_refusal e W.stores W.shape) (go (refusal f s e) refl F W)
    where
      go : (p : Option ℕ) → refusal f s e ≡ p → let o = outcome_by f s e p in Fair (line_of s.bearer) (before (some e) o.answer) → Twin f M (before (some e) o.answer) s ver d
          → Next f M (before (some e) o.answer) φ (some e) o (outcome_by f (swap f s ver d) e p)
      go none q F W = twin_act e g q F W
      go (some n) q F W = record { ver = ver; store = d; stands = refl; twin = W; echo = same_answer refl }
  twin_step _ _ g F W (lost_write {t} {r} {o} {v} {w} q n) = rw (same_refusal_value t r o v w) (go (refusal f s (write t r o v)) refl n F W)
    where
      go : (p : Option ℕ) → refusal f s (write t r o v) ≡ p → let u = outcome_by f s (write t r o v) p in before (some (write t r o v)) u.answer (at t) ≢ settled
          → Fair (line_of s.bearer) (before (some (write t r o v)) u.answer) → Twin f M (before (some (write t r o v)) u.answer) s ver d
          → Next f M (before (some (write t r o v)) u.answer) φ (some (write t r o v)) u (outcome_by f (swap f s ver d) (write t r o w) p)
      go none q n F W = twin_write f M S F W t r o v w (write_ok f s t r o v q).up (λ e. absurd (n e))
      go (some m) q n F W = record { ver = ver; store = d; stands = refl; twin = W; echo = same_answer refl }

accepted-none : (f : Form) (s : StateOf f) (e : Event) → accepted (step f s (some e)).answer ≡ true → refusal f s e ≡ none
unfolding accepted
accepted-none f s e a = go (judge_cases f s e)
  where
    go : Judged f s e → refusal f s e ≡ none
    go (acts q k) = q
    go (refuses n q k) = absurd (false≢true (rw k at a))

module _ (f : Form) (M : MediumLaws f.geometry f.medium) (final : ℕ → Bool) where
  abbrev g : Geometry
  g = f.geometry

  -- `final` says who survives the list ws from s
  abbrev Final : StateOf f → History → List ℕ → Type 0
  Final s h ws = (i : ℕ) → final i ≡ survives (history g h (rows_from f s ws)) i

  module _ {start : ℕ → Page} {s : StateOf f} {h : History} {root : ℕ → Root} (R : Reached f M s) (H : Holds f start s h root) (w : ℕ) (ws : List ℕ) (K : Final s h (w ∷ ws)) where
    bearer_final : (t : ℕ) → live s t ≡ true → final (h.bearer t) ≡ is_settled (future f s (w ∷ ws) (at t))
    bearer_final t e = K (h.bearer t) ∙ final_is f M (w ∷ ws) R H t e

    to_match : (s' : StateOf f) (u : ℕ) → SameEvent g final h (row_by w (step_of f s w).answer) (row_by u (step_of f s' u).answer) → Match f (future f s (w ∷ ws)) s (decode g w) (decode g u)
    unfolding belongs names bearer_of
    to_match s' u (same_word e) = subst⁻¹ (λ (o : Option Event). Match f (future f s (w ∷ ws)) s (decode g w) o) (ap (decode g) e) same_event
    to_match s' u (other_value t r o v v' e e' a l) =
        let acc : accepted (step_of f s w).answer ≡ true = rw (answer_back f s w) at a in
        let open_to_lem : refusal f s (write t r o v) ≡ none = accepted-none f s (write t r o v) (rw e at acc) in
        subst⁻¹ (λ (x : Option Event). Match f (future f s (w ∷ ws)) s x (decode g u)) e
        (subst⁻¹ (λ (x : Option Event). Match f (future f s (w ∷ ws)) s (some (write t r o v)) x) e'
        (lost_write open_to_lem (isnt_settled _ (sym (bearer_final t (write_ok f s t r o v open_to_lem).alive) ∙ l))))

    from_echo : (s' : StateOf f) (u : ℕ) (e : Option Event) (a b : Answer) → decode g w ≡ e → (step_of f s w).answer ≡ a → (step_of f s' u).answer ≡ b → Echo (future f s (w ∷ ws)) e a b
        → SameAnswer g final h (row_by w (step_of f s w).answer) (row_by u (step_of f s' u).answer)
    unfolding belongs names bearer_of accepted number_of
    from_echo s' u e a b q p p' (same_answer z) = let y = p' ∙ z ∙ sym p in same_bytes (ap number_of y) (ap value_of y)
    from_echo s' u _ _ _ q p p' (lost_read {t} {r} {o} n) =
        let acc : accepted (step_of f s w).answer ≡ true = rw p in
        let open_to_lem : refusal f s (read t r o) ≡ none = accepted-none f s (read t r o) (rw q at acc) in
        other_byte t r o q (rw (answer_back f s w) acc) (bearer_final t (read_ok f s t r o open_to_lem).alive ∙ not-settled _ n) (ap number_of p' ∙ sym (ap number_of p))

  pub twice : {start : ℕ → Page} {s : StateOf f} {h : History} {root : ℕ → Root} (R : Reached f M s) (H : Holds f start s h root) (ver : Versions) (d : f.medium.Store) (ws us : List ℕ)
      → Final s h ws → Twin f M (future f s ws) s ver d
      → Along g (SameEvent g final) h (rows_from f s ws) (rows_from f (swap f s ver d) us)
      → Along g (SameAnswer g final) h (rows_from f s ws) (rows_from f (swap f s ver d) us) × M.Agree (play f s ws).state.store (play f (swap f s ver d) us).state.store
  unfolding future play rows_from history
  twice R H ver d [] [] K W E = (tt, W.stores)
  twice R H ver d [] (u ∷ us) K W E = absurd E
  twice R H ver d (w ∷ ws) [] K W E = absurd E
  twice {start} {s} {h} R H ver d (w ∷ ws) (u ∷ us) K W E =
      let A = step_after f M R.sound H (decode g w) (held_word g w) in
      let R' = reached_word f M R w in
      let F' = fair_run f M ws R' in
      let N = twin_step f M R.sound (future f s₁ ws) ver d F'.on_settled (decode g w) (decode g u) (held_word g w) (fair_step f R.sound (future f s₁ ws) (decode g w) F') W (to_match R H w ws K s₂ u E.0) in
      let K' : Final s₁ (told_of f h s w) ws = subst (λ (h' : History). Final s₁ h' ws) (heard_is f h s w) K in
      let E' = subst (λ (h' : History). Along g (SameEvent g final) h' (rows_from f s₁ ws) (rows_from f (step_of f s₂ u).state us)) (heard_is f h s w) E.1 in
      let E'' = subst (λ (z : StateOf f). Along g (SameEvent g final) (told_of f h s w) (rows_from f s₁ ws) (rows_from f z us)) N.stands E' in
      let T = twice {s = s₁} {h = told_of f h s w} R' A.tells N.ver N.store ws us K' N.twin E'' in
      subst⁻¹ (λ (z : StateOf f). (SameAnswer g final h (row_by w (step_of f s w).answer) (row_by u (step_of f s₂ u).answer)
      × Along g (SameAnswer g final) (heard g h (row_by w (step_of f s w).answer)) (rows_from f s₁ ws) (rows_from f z us))
      × M.Agree (play f s₁ ws).state.store (play f z us).state.store) N.stands
      (subst⁻¹ (λ (h' : History). (SameAnswer g final h (row_by w (step_of f s w).answer) (row_by u (step_of f s₂ u).answer)
      × Along g (SameAnswer g final) h' (rows_from f s₁ ws) (rows_from f (swap f s₁ N.ver N.store) us))
      × M.Agree (play f s₁ ws).state.store (play f (swap f s₁ N.ver N.store) us).state.store) (heard_is f h s w)
      ((from_echo R H w ws K s₂ u (decode g w) _ _ refl refl refl N.echo, T.0), T.1))
    where
      s₁ : StateOf f
      s₁ = (step_of f s w).state

      s₂ : StateOf f
      s₂ = swap f s ver d
