-- All top transactions, one after another: by induction over the list, what is pending of each with what is to come can be replayed in the
-- order of the commits and decisions to come.
use mathlib.Core.Path.{◌≡◌, refl, sym, ap, ap₂, subst, subst⁻¹, ◌∙◌, fun_ext}
use mathlib.Core.Bool.{Bool, true, false, cond, ◌&&◌, true≢false, false≢true, or-false}
use mathlib.Core.List.{List, [], ◌∷◌, ◌++◌}
use mathlib.Core.Logic.{◌≢◌, ◌⊎◌, inl, inr}
use mathlib.Core.Option.{Option, none, some}
use Prim.Native.Nat.{ℕ, ◌<◌, ◌≤◌}
use native.Mathlib.Omega.{arith}
use Rattle.laws.specs.Tests.{same}
use Rattle.laws.specs.Counting.{any}
use Rattle.laws.proofs.Tests.{same_cases, Same, is, isnt, same-eq, same_refl, ne_false, Is, is_cases, yes', no'}
use Rattle.laws.proofs.Booleans.{and_right, or_right, refute, clash}
use Rattle.laws.proofs.All.{and-false}
use Rattle.laws.proofs.Counting.{any_of}
use Rattle.rules.specs.Geometry.{records, uncut}
use Rattle.rules.specs.Store.{Page}
use Rattle.rules.specs.Event.{Event, commit, prepare, decide, decode}
use Rattle.rules.specs.State.{Bearers, line_of, mem, live}
use Rattle.rules.specs.Versions.{is_some, else}
use Rattle.rules.specs.Form.{Form}
use Rattle.rules.specs.Step.{Answer, done, is_busy, StateOf, OutcomeOf, changes, busy, step}
use Rattle.rules.specs.Run.{play}
use Rattle.rules.specs.Sound.{Sound}
use Rattle.rules.proofs.Medium.{MediumLaws}
use Rattle.rules.proofs.Event.{decode_fits}
use Rattle.rules.proofs.Locks.{rooted_of}
use Rattle.rules.proofs.Soundness.{Reached, reached_word}
use Rattle.history.specs.History.{Fate, bearing, committed, stored, waiting as waiting_fate, ended, is_committed, History, accepted, survives, effect_of, effect, after, ending, told, belongs, bearer_of, names}
use Rattle.history.specs.Demand3.{history}
use Rattle.history.specs.Entries.{Entry, awaits, owner, top_of, entry_of, entry_by, entry}
use Rattle.history.proofs.Roots.{Root, settled, waiting, at, is_settled}
use Rattle.history.proofs.Table.{Table, entry as label, root_bearer, bearer_some, bearer_known, survives_is}
use Rattle.history.proofs.Invariant.{now, turn, Holds, Held, held_word, After, step_after}
use Rattle.history.proofs.Runs.{step_of, rows_from, told_of, heard_is, future, run_after, final_is}
use Rattle.history.proofs.Fair.{fair_run}
use Rattle.history.proofs.Holder.{prepared_in, pending_in, Holder, vacant, taken, none_changed, waits_busy, Newly, Shift, shift_step}
use Rattle.history.proofs.Tops.{last_of, top_is}
use Rattle.history.proofs.Entries.{own_climbed}
use Rattle.claim_serial.specs.Serial.{closes, plays, mine, order, in_turn, is_last}
use Rattle.claim_serial.specs.OneAtATime.{renamed, naming, is_read}
use Rattle.claim_serial.proofs.Mirror.{again, Replayed, Mirror, Open, reached_event}
use Rattle.claim_serial.proofs.FollowCommit.{fit_u, follow_top, fit_prepare, follow_closes, follow_waits}
use Rattle.claim_serial.proofs.FollowDecide.{follow_decide, fit_decide}
use Rattle.claim_serial.proofs.Guard.{line_top}
use Rattle.claim_serial.proofs.Pending.{join_assoc, join_nil, sv, sv_live, Lean, Pending, Waiting, waiting_on}
use Rattle.claim_serial.proofs.Goes.{goes}
use Rattle.claim_serial.proofs.Others.{mine_join, order_join, entry_for, entries_from, is_over, other_step, unborn_apart, unborn_waits, over_entries}
use Rattle.claim_serial.proofs.Ends.{Closer, by_commit, by_prepare, Ends, quiet, closing, ruling, ends_step}

module _ (f : Form) (L : MediumLaws f.geometry f.medium) (final : ℕ → Bool) where
  abbrev n : ℕ
  n = records f.geometry

  -- What is prepared in the replay beside the run: nothing where the start's one is decided; as in the run while it waits.
  abbrev pub Even : History → StateOf f → StateOf f → Type 0
  Even h s u = ((awaits (h.fate 0) ≡ false) × (prepared_in f u ≡ none)) ⊎ ((awaits (h.fate 0) ≡ true) × (prepared_in f u ≡ prepared_in f s) × ((r : ℕ) → pending_in f u r ≡ pending_in f s r))

  -- a state that is up with nothing live and the settled records of s replays a list
  abbrev pub ReplaysFrom : StateOf f → History → (ℕ → Page) → List Entry → Type 0
  ReplaysFrom s h target xs = (u : StateOf f) → Open f L u → ((c : ℕ) → live u c ≡ false) → ((r : ℕ) → now f u r ≡ now f s r) → Even h s u → (name : ℕ → ℕ) → Replayed f target u name xs

  even_lean : (h : History) (s u : StateOf f) → Even h s u → Lean f h u.store s.store
  even_lean h s u (inl e) = inl e.1
  even_lean h s u (inr e) = inr (e.0, e.2)

  even_next : {e : Option Event} {a : Answer} {s s' : StateOf f} {h h' : History} → Shift f e a s s' h h' → (awaits (h.fate 0) ≡ true → awaits (h'.fate 0) ≡ true) → (u u' : StateOf f)
      → prepared_in f u' ≡ prepared_in f u → ((r : ℕ) → pending_in f u' r ≡ pending_in f u r) → Even h s u → Even h' s' u'
  even_next {h' = h'} M stays u u' p q (inl e) = inl (refute (awaits (h'.fate 0)) (λ z. clash (M.back z) e.0), p ∙ e.1)
  even_next M stays u u' p q (inr e) =
      let y = stays e.0 in
      inr (y, p ∙ e.1 ∙ sym (M.same_identity 0 e.0 y), λ r. q r ∙ e.2 r ∙ sym (M.same_pending 0 e.0 y r))

  -- the top transaction of a top transaction
  pub own_top : {s : StateOf f} (S : Sound f s) {h : History} {root : ℕ → Root} (T : Table s.bearer h root) (x : ℕ) → live s x ≡ true → line_of s.bearer x ≡ x ∷ []
      → top_of h (h.bearer x) ≡ h.bearer x
  unfolding live
  own_top S {h} T x l q = top_is (rooted_of S) T x l ∙ ap (λ (m : List ℕ). h.bearer (last_of x m)) q

  module _ {s : StateOf f} (S : Sound f s) {h : History} {root : ℕ → Root} (T : Table s.bearer h root) (W : Holder f s h) (φ' : Root → Root) (on_settled : φ' settled ≡ settled)
      (pend parts : ℕ → List Entry) (tops : List ℕ) (target : ℕ → Page) where
    -- in the replay, too, a top transaction may write
    may_write : {d : f.medium.Store} {pick : ℕ → Bool} {v : StateOf f} {m : ℕ → ℕ} (M : Mirror f d pick s v m) (x : ℕ) → pick x ≡ true → (changes f s x && busy f s) ≡ false → Lean f h d s.store
        → (changes f v (m x) && busy f v) ≡ false
    unfolding changes
    may_write {d} {pick} {v} {m} M x px clear (inl e) = unfold busy is_busy in rw (M.store_is, e) (and-false (changes f v (m x)))
    may_write {d} {pick} {v} {m} M x px clear (inr e) = rw none_there
      where
        none_there : changes f v (m x) ≡ false
        none_there = any_of (records f.geometry) _ (λ r lt.
            ap is_some (M.versions (m x) r (M.there x px).0 ∙ ap (λ (j : ℕ). s.version j r) (M.there x px).1) ∙ none_changed f S x clear (waits_busy f W 0 e.0) r)

    -- one event on: the replay stays, or plays the whole of a top transaction, or a decision
    advance : (e : Option Event) (o : OutcomeOf f) → Ends f final s h e o → Held f.geometry e → Shift f e o.answer s o.state h (told n h e o.answer)
        → (turn f s e o.answer waiting ≡ waiting → awaits (h.fate 0) ≡ true → awaits ((told n h e o.answer).fate 0) ≡ true)
        → ((t : ℕ) → live s t ≡ true → final (h.bearer t) ≡ is_settled (φ' (turn f s e o.answer (at t))))
        → ((top : ℕ) → line_of s.bearer top ≡ top ∷ [] → is_settled (φ' (turn f s e o.answer (at top))) ≡ true → Pending f L (λ c. φ' (turn f s e o.answer c)) h s top (pend (h.bearer top)))
        → ((w : ℕ) → awaits (h.fate w) ≡ true → w ≢ 0 → final w ≡ true → Waiting f L s (pend w))
        → (awaits (h.fate 0) ≡ true → pend 0 ≡ [])
        → ((x : ℕ) (ev : Event) → live s x ≡ true → line_of s.bearer x ≡ x ∷ [] → turn f s e o.answer (at x) ≡ settled
        → entry n h e o.answer ≡ entry_of h ev o.answer (h.bearer x) ∷ []
        → parts (h.bearer x) ≡ pend (h.bearer x) ++ (entry_of h ev o.answer (h.bearer x) ∷ []))
        → ((w : ℕ) (ev : Event) → awaits (h.fate w) ≡ true → w ≤ h.begun → h.parent w ≡ 0 → final w ≡ true → is_over (turn f s e o.answer waiting) ≡ true
        → entry n h e o.answer ≡ entry_of h ev o.answer w ∷ [] → parts w ≡ pend w ++ (entry_of h ev o.answer w ∷ []))
        → ReplaysFrom o.state (told n h e o.answer) target (in_turn parts tops)
        → ReplaysFrom s h target (in_turn parts (order final (entry n h e o.answer) ++ tops))
    advance _ _ (quiet e o z w stays) fit M keeps fin Ps Ws None-first own ruled next u O idle nw E name =
        subst⁻¹ (λ (l : List ℕ). Replayed f target u name (in_turn parts (l ++ tops))) z
        (next u O idle (λ r. nw r ∙ sym (w r)) (even_next M (λ y. keeps (stays y) y) u u refl (λ r. refl) E) name)
    advance _ _ (closing x e o ok lx clear closer st w eq closes-it stays) fit M keeps fin Ps Ws None-first own ruled next u O idle nw E name =
        subst⁻¹ (λ (l : List ℕ). Replayed f target u name (in_turn parts (l ++ tops))) placed
        (unfold in_turn in
        subst⁻¹ (λ (l : List Entry). Replayed f target u name (l ++ in_turn parts tops)) (own x e ok.alive lx st eq)
        (subst⁻¹ (λ (l : List Entry). Replayed f target u name l) (join_assoc (pend (h.bearer x)) (X e o.answer ∷ []) (in_turn parts tops))
        (Ps x lx lives u O idle (record { guarded = λ r G. nw r; lean = even_lean h s u E }) target name (X e o.answer ∷ in_turn parts tops) (λ v m O' Z. played e o closer w stays M next (keeps stays) v m O' Z))))
      where
        X : Event → Answer → Entry
        X e a = entry_of h e a (h.bearer x)

        φ : Root → Root
        φ = λ c. φ' (turn f s (some e) o.answer c)

        lives : is_settled (φ (at x)) ≡ true
        lives = rw (st, on_settled)

        sx : sv f φ s x x ≡ true
        sx = unfold mem in rw (st, on_settled, lx, same_refl x)

        placed : order final (entry n h (some e) o.answer) ≡ h.bearer x ∷ []
        placed = ap (order final) eq ∙ (unfold order is_last entry_of in rw (fin x ok.alive, lives, closes-it, own_top S T x ok.alive lx, same_refl (h.bearer x)))

        beneath : (j : ℕ) → sv f φ s x j ≡ true → mem x (line_of s.bearer j) ≡ true
        beneath j z = and_right (is_settled (φ (at j))) (mem x (line_of s.bearer j)) z

        played : (e : Event) (o : OutcomeOf f) → Closer f s x e → ((r : ℕ) → now f o.state r ≡ else (s.version x r) (now f s r)) → turn f s (some e) o.answer waiting ≡ waiting
            → Shift f (some e) o.answer s o.state h (told n h (some e) o.answer) → ReplaysFrom o.state (told n h (some e) o.answer) target (in_turn parts tops)
            → (awaits (h.fate 0) ≡ true → awaits ((told n h (some e) o.answer).fate 0) ≡ true)
            → (v : StateOf f) (m : ℕ → ℕ) → Open f L v → Mirror f u.store (sv f φ s x) s v m → Replayed f target v m (X e o.answer ∷ in_turn parts tops)
        played _ o (by_commit k) w stays M next goes_on v m O' Z = unfold entry_of renamed naming is_read in
            let clear_v = may_write Z x sx clear (even_lean h s u E) in
            let C = follow_top f L S (sv_live f S φ x) O' Z x sx ok lx beneath clear_v in
            let fit = fit_u f L S (sv_live f S φ x) O' Z x sx ok k in (
              fit,
              (C.right, λ z. absurd (false≢true z)),
              next (step f v (some (commit (m x) (uncut f.geometry)))).state (record { reached = reached_event f L O'.reached (commit (m x) (uncut f.geometry)) fit; ready = C.still_up }) C.idle
                  (λ r. C.now_is r ∙ ap (else (s.version x r)) (nw r) ∙ sym (w r)) (even_next M goes_on u (step f v (some (commit (m x) (uncut f.geometry)))).state C.same_identity C.same_pending E) m,
            )
        played _ o (by_prepare k i fit₀ z) w stays M next goes_on v m O' Z = unfold entry_of renamed naming is_read in
            let clear_v = may_write Z x sx clear (even_lean h s u E) in
            let C = follow_closes f L S (sv_live f S φ x) O' Z x sx ok lx beneath clear_v k i fit₀ z in
            let fit = fit_prepare f L S (sv_live f S φ x) O' Z x sx ok lx beneath clear_v k i fit₀ in (
              fit,
              (C.right, λ z. absurd (false≢true z)),
              next (step f v (some (prepare (m x) (uncut f.geometry) i))).state (record { reached = reached_event f L O'.reached (prepare (m x) (uncut f.geometry) i) fit; ready = C.still_up }) C.idle
                  (λ r. C.now_is r ∙ ap (else (s.version x r)) (nw r) ∙ sym (w r)) (even_next M goes_on u (step f v (some (prepare (m x) (uncut f.geometry) i))).state C.same_identity C.same_pending E) m,
            )
    advance _ _ (ruling w d k i o here only le p to_commit now_is plays-w eq none_after over) fit M keeps fin Ps Ws None-first own ruled next u O idle nw E name =
        subst⁻¹ (λ (l : List ℕ). Replayed f target u name (in_turn parts (l ++ tops))) placed
        (unfold in_turn in
        subst⁻¹ (λ (l : List Entry). Replayed f target u name (l ++ in_turn parts tops)) (ruled w (decide d k i) waits le p plays-w over eq)
        (subst⁻¹ (λ (l : List Entry). Replayed f target u name l) (join_assoc (pend w) (X ∷ []) (in_turn parts tops)) (by (same_cases w 0) E)))
      where
        X : Entry
        X = entry_of h (decide d k i) o.answer w

        waits : awaits (h.fate w) ≡ true
        waits = only w ∙ same_refl w

        alone : (w : ℕ) (d : Bool) (k i : ℕ) (a : Answer) → final w ≡ true → top_of h w ≡ w → order final (entry_of h (decide d k i) a w ∷ []) ≡ w ∷ []
        alone w d k i a q c = unfold order is_last entry_of closes in rw (q, c, same_refl w)

        placed : order final (entry n h (some (decide d k i)) o.answer) ≡ w ∷ []
        placed = ap (order final) eq ∙ alone w d k i o.answer plays-w (own_climbed h w p)

        -- the decision, in a state where the same is prepared
        decided_by : (w : ℕ) (d : Bool) (k i : ℕ) (o : OutcomeOf f) → prepared_in f s ≡ some i → ((r : ℕ) → now f o.state r ≡ cond d (else (pending_in f s r) (now f s r)) (now f s r))
            → awaits ((told n h (some (decide d k i)) o.answer).fate 0) ≡ false → Held f.geometry (some (decide d k i)) → ReplaysFrom o.state (told n h (some (decide d k i)) o.answer) target (in_turn parts tops)
            → (v : StateOf f) (m : ℕ → ℕ) → Open f L v → ((c : ℕ) → live v c ≡ false) → ((r : ℕ) → now f v r ≡ now f s r) → prepared_in f v ≡ prepared_in f s → ((r : ℕ) → pending_in f v r ≡ pending_in f s r)
            → Replayed f target v m (entry_of h (decide d k i) o.answer w ∷ in_turn parts tops)
        decided_by w d k i o here now_is free fit next v m O' idle' nw' identity pages = unfold entry_of naming is_read in
            let D = follow_decide f L v O' m d k i (identity ∙ here) fit in
            let fit' = fit_decide f L v O' m d k i (identity ∙ here) fit in (
              fit',
              (D.right, λ z. absurd (false≢true z)),
              next (step f v (some (again f m (decide d k i)))).state (record { reached = reached_event f L O'.reached (again f m (decide d k i)) fit'; ready = D.still_up }) (D.idle idle')
                  (λ r. D.now_is r ∙ ap₂ (λ (q : Option Page) (x : Page). cond d (else q x) x) (pages r) (nw' r) ∙ sym (now_is r)) (inl (free, D.vacant)) m,
            )

        decided : (v : StateOf f) (m : ℕ → ℕ) → Open f L v → ((c : ℕ) → live v c ≡ false) → ((r : ℕ) → now f v r ≡ now f s r) → prepared_in f v ≡ prepared_in f s → ((r : ℕ) → pending_in f v r ≡ pending_in f s r)
            → Replayed f target v m (X ∷ in_turn parts tops)
        decided = decided_by w d k i o here now_is (none_after 0) fit next

        by : Same w 0 → Even h s u → Replayed f target u name (pend w ++ (X ∷ in_turn parts tops))
        by (is z _ _) (inl e) = clash (ap (λ (j : ℕ). awaits (h.fate j)) (sym z) ∙ waits) e.0
        by (is z _ _) (inr e) = subst⁻¹ (λ (l : List Entry). Replayed f target u name (l ++ (X ∷ in_turn parts tops))) (ap pend z ∙ None-first e.0) (decided u name O idle nw e.1 e.2)
        by (isnt z _ _) (inl e) = Ws w waits z plays-w u O idle nw e.1 target name (X ∷ in_turn parts tops) decided
        by (isnt z _ z₁) (inr e) = clash e.0 (only 0 ∙ z₁)

  -- who waits is labelled so
  waiting_label : (root : ℕ → Root) (p : ℕ) (c : Fate) → awaits c ≡ true → label root p c ≡ waiting
  unfolding awaits
  waiting_label root p (bearing t) e = absurd (false≢true e)
  waiting_label root p committed e = absurd (false≢true e)
  waiting_label root p stored e = absurd (false≢true e)
  waiting_label root p waiting_fate e = refl
  waiting_label root p ended e = absurd (false≢true e)

  pub root_waits : {b : Bearers} {h : History} {root : ℕ → Root} → Table b h root → (w : ℕ) → awaits (h.fate w) ≡ true → root w ≡ waiting
  root_waits {h = h} {root} T w e = T.one w ∙ waiting_label root (h.parent w) (h.fate w) e

  -- the start's one, labelled so, waits
  first_waits : {b : Bearers} {h : History} {root : ℕ → Root} → Table b h root → root 0 ≡ waiting → awaits (h.fate 0) ≡ true
  first_waits {h = h} {root} T e = go (h.fate 0) (sym (T.one 0) ∙ e) T.none-commits
    where
      go : (c : Fate) → label root (h.parent 0) c ≡ waiting → is_committed c ≡ false → awaits c ≡ true
      go (bearing t) q z = let y : true ≡ false = cc in absurd (true≢false y)
      go committed q z = unfold is_committed in absurd (true≢false z)
      go stored q z = let y : true ≡ false = cc in absurd (true≢false y)
      go waiting_fate q z = unfold awaits in refl
      go ended q z = let y : true ≡ false = cc in absurd (true≢false y)

  -- `final` says what is played at the end of a list
  abbrev pub Plays : StateOf f → History → List ℕ → Type 0
  Plays s h ws = (i : ℕ) → final i ≡ plays (history f.geometry h (rows_from f s ws)) i

  pub first_plays : (s : StateOf f) (h : History) (ws : List ℕ) → Plays s h ws → final 0 ≡ true
  unfolding plays
  first_plays s h ws k = k 0 ∙ or_right (survives (history f.geometry h (rows_from f s ws)) 0) (same 0 0) (same_refl 0)

  but_first : (s : StateOf f) (h : History) (ws : List ℕ) → Plays s h ws → (i : ℕ) → i ≢ 0 → final i ≡ survives (history f.geometry h (rows_from f s ws)) i
  unfolding plays
  but_first s h ws k i m = k i ∙ rw (ne_false i 0 m) (or-false (survives (history f.geometry h (rows_from f s ws)) i))

  pub finals : {start : ℕ → Page} {s : StateOf f} {h : History} {root : ℕ → Root} (ws : List ℕ) → Reached f L s → Holds f start s h root → Plays s h ws
      → (t : ℕ) → live s t ≡ true → final (h.bearer t) ≡ is_settled (future f s ws (at t))
  finals {s = s} {h = h} ws A H k t l = but_first s h ws k (h.bearer t) (bearer_some H.table t (unfold live in l)) ∙ final_is f L ws A H t l

  pub finals_waiting : {start : ℕ → Page} {s : StateOf f} {h : History} {root : ℕ → Root} (ws : List ℕ) → Reached f L s → Holds f start s h root → Holder f s h → Plays s h ws
      → (w : ℕ) → awaits (h.fate w) ≡ true → w ≢ 0 → final w ≡ is_settled (future f s ws waiting)
  finals_waiting {s = s} {h = h} {root} ws A H W k w e m =
      let B = run_after f L ws A H in
      but_first s h ws k w m ∙ survives_is B.tells.table w ∙ ap is_settled (B.turned w (begun_before W) ∙ ap (future f s ws) (root_waits H.table w e))
    where
      begun_before : Holder f s h → w ≤ h.begun
      begun_before (vacant q nb) = clash e (nb w)
      begun_before (taken v i q only p le) = rw (same-eq w v (sym (only w) ∙ e)) le

  -- what the rest of a list tells
  pub finals_rest : (s : StateOf f) (h : History) (w : ℕ) (ws : List ℕ) → Plays s h (w ∷ ws) → Plays (step_of f s w).state (told_of f h s w) ws
  unfolding history rows_from
  finals_rest s h w ws k i = k i ∙ ap (λ (h' : History). plays (history f.geometry h' (rows_from f (step_of f s w).state ws)) i) (heard_is f h s w)

  -- one that is prepared now can be replayed to there
  prepared_now : {e : Option Event} {a : Answer} {s s' : StateOf f} (S : Sound f s) {h : History} (w : ℕ) (N : Newly f e a s s' h w) (φ : Root → Root) (part : List Entry)
      → is_settled (φ (at N.x)) ≡ true → Pending f L φ h s N.x part → Waiting f L s' (part ++ (entry_of h (prepare N.x N.k N.i) (done N.v) (h.bearer N.x) ∷ []))
  prepared_now {s = s} {s' = s'} S {h} w N φ part lives P u O idle nw vacant-u target name rest next =
      subst⁻¹ (λ (l : List Entry). Replayed f target u name l) (join_assoc part (X ∷ []) rest)
      (P u O idle (record { guarded = λ r G. nw r ∙ N.records_same r; lean = inl vacant-u }) target name (X ∷ rest) played)
    where
      X : Entry
      X = entry_of h (prepare N.x N.k N.i) (done N.v) (h.bearer N.x)

      lx : line_of s.bearer N.x ≡ N.x ∷ []
      lx = line_top f S N.x N.ok

      sx : sv f φ s N.x N.x ≡ true
      sx = unfold mem in rw (lives, lx, same_refl N.x)

      beneath : (j : ℕ) → sv f φ s N.x j ≡ true → mem N.x (line_of s.bearer j) ≡ true
      beneath j z = and_right (is_settled (φ (at j))) (mem N.x (line_of s.bearer j)) z

      played : (v : StateOf f) (m : ℕ → ℕ) → Open f L v → Mirror f u.store (sv f φ s N.x) s v m → Replayed f target v m (X ∷ rest)
      played v m O' Z = unfold entry_of renamed naming is_read in
          let clear_v = idle_clear Z in
          let C = follow_waits f L S (sv_live f S φ N.x) O' Z N.x sx N.ok.as_commit lx beneath clear_v N.k N.i N.fit N.some_changed in
          let fit = fit_prepare f L S (sv_live f S φ N.x) O' Z N.x sx N.ok.as_commit lx beneath clear_v N.k N.i N.fit in (
            fit,
            (C.right, λ z. absurd (false≢true z)),
            next (step f v (some (prepare (m N.x) (uncut f.geometry) N.i))).state m (record { reached = reached_event f L O'.reached (prepare (m N.x) (uncut f.geometry) N.i) fit; ready = C.still_up }) C.idle
                (λ r. C.now_is r ∙ nw r) (C.identity ∙ sym N.identity) (λ r. C.pending r ∙ sym (N.pages r)),
          )
        where
          idle_clear : Mirror f u.store (sv f φ s N.x) s v m → (changes f v (m N.x) && busy f v) ≡ false
          idle_clear Z = unfold changes busy is_busy in rw (Z.store_is, vacant-u) (and-false (any (records f.geometry) (λ r. is_some (v.version (m N.x) r))))

  its_own : (h : History) (i : ℕ) (e : Event) (a : Answer) → top_of h i ≡ i → final i ≡ true → mine final i (entry_of h e a i ∷ []) ≡ entry_of h e a i ∷ []
  unfolding mine entry_of
  its_own h i e a q z = rw (z, q, same_refl i)

  -- the entry of a prepare
  prepare_entry : (h : History) (x k i v : ℕ) → entry n h (some (prepare x k i)) (done v) ≡ entry_of h (prepare x k i) (done v) (h.bearer x) ∷ []
  unfolding entry entry_by owner belongs bearer_of names accepted told effect_of effect after ending entry_of top_of
  prepare_entry h x k i v = refl

  -- who bears a number doesn't wait
  bearing_apart : (s : StateOf f) {h : History} {root : ℕ → Root} → Table s.bearer h root → (v : ℕ) → awaits (h.fate v) ≡ true → (t : ℕ) → live s t ≡ true → h.bearer t ≢ v
  unfolding live awaits
  bearing_apart s {h} T v y t l q = clash y (ap (λ (j : ℕ). awaits (h.fate j)) (sym q) ∙ ap awaits (T.bears t l))

  -- who waits after an event can be replayed to there: it waited before, or is prepared now
  waits_next : {start : ℕ → Page} {s : StateOf f} {h : History} {root : ℕ → Root} (w : ℕ) (ws : List ℕ) → Reached f L s → Holds f start s h root → Holder f s h → Plays s h (w ∷ ws) → (pend : ℕ → List Entry)
      → ((top : ℕ) → line_of s.bearer top ≡ top ∷ [] → is_settled (future f s (w ∷ ws) (at top)) ≡ true → Pending f L (future f s (w ∷ ws)) h s top (pend (h.bearer top)))
      → ((v : ℕ) → awaits (h.fate v) ≡ true → v ≢ 0 → final v ≡ true → Waiting f L s (pend v))
      → (v : ℕ) → awaits ((told_of f h s w).fate v) ≡ true → v ≢ 0 → final v ≡ true → Waiting f L (step_of f s w).state (pend v ++ mine final v (entry_for f h s w))
  waits_next {start} {s} {h} {root} w ws A H W k pend Ps Ws v y' m plays_v = go (is_cases (awaits (h.fate v)))
    where
      s₁ : StateOf f
      s₁ = (step_of f s w).state

      M : Shift f (decode f.geometry w) (step_of f s w).answer s s₁ h (told_of f h s w)
      M = shift_step f L A.sound H W (decode f.geometry w) (held_word f.geometry w)

      B : After f start s₁ h (told_of f h s w) root (turn f s (decode f.geometry w) (step_of f s w).answer)
      B = step_after f L A.sound H (decode f.geometry w) (held_word f.geometry w)

      none-mine : awaits (h.fate v) ≡ true → mine final v (entry_for f h s w) ≡ []
      none-mine y = other_step f final v A.sound H.table W (bearing_apart s H.table v y) (decode f.geometry w)
          (record { sound = (reached_word f L A w).sound; root' = B.root'; table = B.tells.table; apart = bearing_apart s₁ B.tells.table v y'; spared = λ z. y' })

      new : Newly f (decode f.geometry w) (step_of f s w).answer s s₁ h v → Waiting f L s₁ (pend v ++ mine final v (entry_for f h s w))
      new N =
          let alive = N.ok.as_commit.alive in
          let lx = line_top f A.sound N.x N.ok in
          let yes_x : final (h.bearer N.x) ≡ true = ap final N.bears ∙ plays_v in
          let lives : is_settled (future f s (w ∷ ws) (at N.x)) ≡ true = sym (finals (w ∷ ws) A H k N.x alive) ∙ yes_x in
          let X : Entry = entry_of h (prepare N.x N.k N.i) (done N.v) (h.bearer N.x) in
          let eq : entry_for f h s w ≡ X ∷ [] = ap₂ (λ (e : Option Event) (a : Answer). entry n h e a) N.is_event N.is_answer ∙ prepare_entry h N.x N.k N.i N.v in
          let mine-eq : mine final (h.bearer N.x) (entry_for f h s w) ≡ X ∷ [] =
          ap (mine final (h.bearer N.x)) eq ∙ its_own h (h.bearer N.x) (prepare N.x N.k N.i) (done N.v) (own_top A.sound H.table N.x alive lx) yes_x in
          subst (λ (j : ℕ). Waiting f L s₁ (pend j ++ mine final j (entry_for f h s w))) N.bears
          (subst⁻¹ (λ (l : List Entry). Waiting f L s₁ (pend (h.bearer N.x) ++ l)) mine-eq
          (prepared_now A.sound v N (future f s (w ∷ ws)) (pend (h.bearer N.x)) lives (Ps N.x lx lives)))

      go : Is (awaits (h.fate v)) → Waiting f L s₁ (pend v ++ mine final v (entry_for f h s w))
      go (yes' y) =
          subst⁻¹ (λ (l : List Entry). Waiting f L s₁ (pend v ++ l)) (none-mine y)
          (subst⁻¹ (λ (l : List Entry). Waiting f L s₁ l) (join_nil (pend v))
          (waiting_on f L s s₁ (pend v) (M.same_records v y y') (M.same_identity v y y') (M.same_pending v y y') (Ws v y m plays_v)))
      go (no' z) = new (M.newly v y' z)

  -- ALL TOP TRANSACTIONS, from a state on: the pending entries of each with those to come, in the order of the commits and decisions to come
  pub one_by_one_lem : {start : ℕ → Page} {s : StateOf f} {h : History} {root : ℕ → Root} (ws : List ℕ) → Reached f L s → Holds f start s h root → Holder f s h → Plays s h ws
      → (pend : ℕ → List Entry) → ((i : ℕ) → h.begun < i → pend i ≡ []) → (awaits (h.fate 0) ≡ true → pend 0 ≡ [])
      → ((top : ℕ) → line_of s.bearer top ≡ top ∷ [] → is_settled (future f s ws (at top)) ≡ true → Pending f L (future f s ws) h s top (pend (h.bearer top)))
      → ((w : ℕ) → awaits (h.fate w) ≡ true → w ≢ 0 → final w ≡ true → Waiting f L s (pend w))
      → ReplaysFrom s h (λ r. now f (play f s ws).state r) (in_turn (λ i. pend i ++ mine final i (entries_from f h s ws)) (order final (entries_from f h s ws)))
  unfolding entries_from play future
  one_by_one_lem [] A H W k pend unborn None-first Ps Ws u O idle nw E name = unfold order in_turn in nw
  one_by_one_lem {start} {s} {h} {root} (w ∷ ws) A H W k pend unborn None-first Ps Ws u O idle nw E name =
      let g = f.geometry in
      let a = (step_of f s w).answer in
      let s₁ = (step_of f s w).state in
      let h₁ = told_of f h s w in
      let A₁ = reached_word f L A w in
      let B = step_after f L A.sound H (decode g w) (held_word g w) in
      let M = shift_step f L A.sound H W (decode g w) (held_word g w) in
      let F₁ = fair_run f L ws A₁ in
      let φ : Root → Root = future f s₁ ws in
      let x : List Entry = entry_for f h s w in
      let xs : List Entry = entries_from f h₁ s₁ ws in
      let more : ℕ → List Entry = λ i. pend i ++ mine final i x in
      let fin : (t : ℕ) → live s t ≡ true → final (h.bearer t) ≡ is_settled (φ (turn f s (decode g w) a (at t))) = finals (w ∷ ws) A H k in
      let finw : (v : ℕ) → awaits (h.fate v) ≡ true → v ≢ 0 → final v ≡ is_settled (φ (turn f s (decode g w) a waiting)) = finals_waiting (w ∷ ws) A H W k in
      let k₁ = finals_rest s h w ws k in
      let target : ℕ → Page = λ r. now f (play f s₁ ws).state r in
      let grown : h.begun ≤ h₁.begun = B.grown in
      -- an entry of another
      let others : (i : ℕ) → ((t : ℕ) → live s t ≡ true → h.bearer t ≢ i) → ((t : ℕ) → live s₁ t ≡ true → h₁.bearer t ≢ i) → (awaits (h.fate i) ≡ true → awaits (h₁.fate i) ≡ true) → mine final i x ≡ [] =
      λ i p q z. other_step f final i A.sound H.table W p (decode g w) (record { sound = A₁.sound; root' = B.root'; table = B.tells.table; apart = q; spared = z }) in
      subst⁻¹ (λ (part : ℕ → List Entry). Replayed f target u name (in_turn part (order final (x ++ xs))))
      (fun_ext (λ i. ap (λ (l : List Entry). pend i ++ l) (mine_join final i x xs) ∙ sym (join_assoc (pend i) (mine final i x) (mine final i xs))))
      (subst⁻¹ (λ (l : List ℕ). Replayed f target u name (in_turn (λ i. more i ++ mine final i xs) l)) (order_join final x xs)
      (advance A.sound H.table W φ F₁.on_settled pend (λ i. more i ++ mine final i xs) (order final xs) target (decode g w) (step_of f s w)
      (ends_step f L A.sound H.table W φ F₁.on_settled F₁.on_lost final (first_plays s h (w ∷ ws) k) (decode g w) (held_word g w) fin finw) (held_word g w) M
      (λ stays y. first_waits B.tells.table (B.turned 0 (omega arith) ∙ ap (turn f s (decode g w) a) (root_waits H.table 0 y) ∙ stays)) fin Ps Ws None-first
      (λ t ev al lt st eq.
      let known : h.bearer t ≤ h.begun = bearer_known H.table t (unfold live in al) in
      let gone : is_over (B.root' (h.bearer t)) ≡ true = ap is_over (B.turned (h.bearer t) known ∙ ap (turn f s (decode g w) a) (root_bearer H.table t (unfold live in al)) ∙ st) in
      ap₂ ◌++◌ (ap (pend (h.bearer t) ++◌) (ap (mine final (h.bearer t)) eq ∙ its_own h (h.bearer t) ev a (own_top A.sound H.table t al lt) (fin t al ∙ rw (st, F₁.on_settled))))
      (over_entries f L final ws A₁ B.tells M.holder (h.bearer t) gone (omega (arith, known, grown))) ∙ join_nil _)
      (λ v ev y le p plays_v over eq.
      let gone : is_over (B.root' v) ≡ true = ap is_over (B.turned v le ∙ ap (turn f s (decode g w) a) (root_waits H.table v y)) ∙ over in
      ap₂ ◌++◌ (ap (pend v ++◌) (ap (mine final v) eq ∙ its_own h v ev a (own_climbed h v p) plays_v))
      (over_entries f L final ws A₁ B.tells M.holder v gone (omega (arith, le, grown))) ∙ join_nil _)
      (λ v O' idle' nw' E' name'. one_by_one_lem {s = s₁} {h = h₁} {root = B.root'} ws A₁ B.tells M.holder k₁ more
      (λ i b. ap₂ ◌++◌ (unborn i (omega (arith, b, grown))) (others i (unborn_apart f L final s H.table i (omega (arith, b, grown))) (unborn_apart f L final s₁ B.tells.table i b)
      (λ z. clash z (unborn_waits f L final s H.table i (omega (arith, b, grown))))))
      (λ y. ap₂ ◌++◌ (None-first (M.back y)) (others 0 (λ t l. bearer_some H.table t (unfold live in l)) (λ t l. bearer_some B.tells.table t (unfold live in l)) (λ z. y)))
      (goes f L A.sound H.table W φ F₁.on_lost final pend unborn (decode g w) (λ e q. decode_fits g w e q)
      (record { sound = A₁.sound; shift = M; root' = B.root'; table = B.tells.table; fair = F₁; finals = finals ws A₁ B.tells k₁ }) Ps fin)
      (waits_next w ws A H W k pend Ps Ws)
      v O' idle' nw' E' name')
      u O idle nw E name))
