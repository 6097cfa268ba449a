-- Any event, seen from every top transaction that lives after it: what is pending of it is what was, with the event's entry if that is its own.
use mathlib.Core.Path.{◌≡◌, refl, sym, ap, subst, subst⁻¹, ◌∙◌}
use mathlib.Core.Bool.{Bool, true, false, cond, ◌&&◌, true≢false, false≢true}
use mathlib.Core.List.{List, [], ◌∷◌, ◌++◌}
use mathlib.Core.Logic.{◌≢◌}
use mathlib.Core.Option.{Option, none, some}
use Prim.Native.Nat.{ℕ, suc, ◌≤◌, ◌<◌}
use native.Mathlib.Omega.{arith}
use Rattle.laws.specs.Tests.{same}
use Rattle.laws.specs.Functions.{updated}
use Rattle.laws.proofs.Tests.{same_cases, Same, is, isnt, same_refl, ne_false, Is, is_cases, yes', no'}
use Rattle.laws.proofs.Booleans.{clash}
use Rattle.laws.proofs.All.{and-false}
use Rattle.laws.proofs.Updated.{updated_same}
use Rattle.rules.specs.Geometry.{records}
use Rattle.rules.specs.Event.{Event, begin, lock, write, read, commit, abort, crash, recover, prepare, decide, query, fits}
use Rattle.rules.specs.State.{free, line_of, mem, live, down, open_state}
use Rattle.rules.specs.Commit.{Cut}
use Rattle.rules.specs.Form.{Form}
use Rattle.rules.specs.Step.{is_for, is_top, changes, busy, decides, Answer, done, value_of, StateOf, OutcomeOf, first_free, begun, locked, wrote, ended as endedState, passed, retaining, aborted, raised, concluded, finished, refusal, commits_top, commits_child, commits, recovers, act, step}
use Rattle.rules.specs.Sound.{Sound}
use Rattle.rules.proofs.Tree.{is_cons}
use Rattle.rules.proofs.Bearers.{begun_line, ended_line}
use Rattle.rules.proofs.Medium.{MediumLaws}
use Rattle.rules.proofs.Acceptance.{CommitOk, PrepareOk, commit_clear, prepare_ok, decide_ok, begin_ok, lock_ok, write_ok, read_ok, commit_ok, abort_ok, Judged, acts, refuses, judge_cases}
use Rattle.rules.proofs.Locks.{rooted_of, live_line, beneath_closed, top_line}
use Rattle.rules.proofs.Reserved.{for_some, prepare_fits}
use Rattle.rules.proofs.Soundness.{alone_closed}
use Rattle.history.specs.History.{Fate, ended, History, accepted, is_within, suffices, ending, is_whole_answer, effect_of, effect, after, told, belongs, bearer_of, names}
use Rattle.history.specs.Entries.{Entry, awaits, waiting_in, owner, top_of, entry_of, entry_by, entry}
use Rattle.history.proofs.Roots.{Root, settled, lost, waiting, at, is_settled, move}
use Rattle.history.proofs.Table.{Table, bearer_some}
use Rattle.history.proofs.Fair.{Fair}
use Rattle.history.proofs.Invariant.{prepare_turn, decide_turn, commit_turn, answered, turn, changed_of}
use Rattle.history.proofs.Holder.{Holder, vacant, taken, waiting_is, Shift}
use Rattle.history.proofs.Entries.{entry_refused, ending_bearer, decide_bearer, ruled_entry, unruled_entry, own_climbed}
use Rattle.claim_serial.specs.Serial.{mine}
use Rattle.claim_serial.proofs.Guard.{Guard, Next, line_top, guard_top, guard_child, guard_prepared, guard_ruled}
use Rattle.claim_serial.proofs.Mirror.{reframe}
use Rattle.claim_serial.proofs.FollowBegin.{live_begun}
use Rattle.claim_serial.proofs.Pending.{join_nil, sv, lean_back, Pending, pending-none, pending_other}
use Rattle.claim_serial.proofs.Turn.{on_lock, on_write, on_read, on_abort, on_child, on_top, on_begin}

pub no_line : {top : ℕ} → [] ≡ top ∷ [] → ⊥
no_line e = false≢true (ap is_cons e)

module _ (f : Form) (L : MediumLaws f.geometry f.medium) {s : StateOf f} (S : Sound f s) {h : History} {root : ℕ → Root} (T : Table s.bearer h root) (W : Holder f s h)
    (φ' : Root → Root) (on_lost : φ' lost ≡ lost) (final : ℕ → Bool) (pend : ℕ → List Entry) (unborn : (i : ℕ) → h.begun < i → pend i ≡ []) where
  abbrev n : ℕ
  n = records f.geometry

  -- what is pending of each surviving top transaction, where the labels turn so
  abbrev pub PartsBy : (Root → Root) → Type 0
  PartsBy τ = (top : ℕ) → line_of s.bearer top ≡ top ∷ [] → is_settled (φ' (τ (at top))) ≡ true → Pending f L (λ c. φ' (τ c)) h s top (pend (h.bearer top))

  -- `final` says of those that live now what is told of them at the end
  abbrev pub FinalsBy : (Root → Root) → Type 0
  FinalsBy τ = (t : ℕ) → live s t ≡ true → final (h.bearer t) ≡ is_settled (φ' (τ (at t)))

  -- what is pending after an event
  abbrev pub PartsAfter : Option Event → OutcomeOf f → Type 0
  PartsAfter e o = (top : ℕ) → line_of o.state.bearer top ≡ top ∷ [] → is_settled (φ' (at top)) ≡ true
      → Pending f L φ' (told n h e o.answer) o.state top (pend ((told n h e o.answer).bearer top) ++ mine final ((told n h e o.answer).bearer top) (entry n h e o.answer))

  -- what holds after an event
  pub record Then (e : Option Event) (o : OutcomeOf f) : Type 0 where
    pub sound : Sound f o.state
    pub shift : Shift f e o.answer s o.state h (told n h e o.answer)
    pub root' : ℕ → Root
    pub table : Table o.state.bearer (told n h e o.answer) root'
    pub fair : Fair (line_of o.state.bearer) φ'
    pub finals : (t : ℕ) → live o.state t ≡ true → final ((told n h e o.answer).bearer t) ≡ is_settled (φ' (at t))

  abbrev Went : Event → OutcomeOf f → Type 0
  Went e o = Then (some e) o → PartsBy (turn f s (some e) o.answer) → FinalsBy (turn f s (some e) o.answer) → PartsAfter (some e) o

  -- a top transaction's number after an ending
  same_bearer : (who : ℕ → Bool) (new : Fate) {s₁ : StateOf f} (S₁ : Sound f s₁) {root₁ : ℕ → Root} → Table s₁.bearer (ending who new h) root₁ → (top : ℕ) → line_of s₁.bearer top ≡ top ∷ []
      → (ending who new h).bearer top ≡ h.bearer top
  same_bearer who new S₁ T₁ top e = ending_bearer who new h top (bearer_some T₁ top (unfold live in live_line S₁ top ∙ ap is_cons e))

  -- a commit of x with no live child
  module _ (x k : ℕ) (ok : CommitOk s x) where
    -- a top transaction that is left is another
    left : (top : ℕ) → line_of (λ j. cond (same j x) free (s.bearer j)) top ≡ top ∷ [] → (top ≢ x) × (line_of s.bearer top ≡ top ∷ [])
    left top e = go (same_cases top x)
      where
        was : cond (same top x) [] (line_of s.bearer top) ≡ top ∷ []
        was = sym (ended_line (rooted_of S) (λ j. same j x) (alone_closed S x ok) top) ∙ e

        go : Same top x → (top ≢ x) × (line_of s.bearer top ≡ top ∷ [])
        go (is q z _) = absurd (no_line (rw z at was))
        go (isnt q z _) = (q, rw z at was)

    abbrev τ : List ℕ → Answer → Root → Root
    τ l a = λ c. answered a (commit_turn x l (suffices a (changed_of f s x))) c

    abbrev WentCommit : List ℕ → OutcomeOf f → Type 0
    WentCommit l o = Then (some (commit x k)) o → PartsBy (τ l o.answer) → FinalsBy (τ l o.answer) → PartsAfter (some (commit x k)) o

    goes_top : (a : ℕ) → line_of s.bearer x ≡ x ∷ [] → (changes f s x && busy f s) ≡ false → WentCommit (a ∷ []) (commits_top f s x (f.medium.commit s.store (s.version x) k))
    unfolding commits_top concluded down open_state endedState told effect_of effect after entry entry_by owner belongs bearer_of names accepted entry_of top_of ending suffices
    goes_top a lx unbarred = go c.crashed refl
      where
        c : Cut f.medium.Store
        c = f.medium.commit s.store (s.version x) k

        s₁ : StateOf f
        s₁ = endedState s (λ j. same j x) c.store

        go : (b : Bool) → c.crashed ≡ b → WentCommit (a ∷ []) (concluded s₁ c b)
        go true w A Ps fin top e ls = absurd (no_line e)
        go false w A Ps fin top e ls =
            let t = left top e in
            let q : (told n h (some (commit x k)) (done c.made)).bearer top ≡ h.bearer top = same_bearer (λ i. same i (h.bearer x)) _ A.sound A.table top e in
            subst⁻¹ (λ (i : ℕ). Pending f L φ' (told n h (some (commit x k)) (done c.made)) s₁ top (pend i ++ mine final i (entry_of h (commit x k) (done c.made) (h.bearer x) ∷ []))) q
            (on_top f L S T φ' on_lost final top t.1 (pend (h.bearer top)) x ok lx t.0 c.store settled (commit x k) c.made (fin x ok.alive)
            (λ r G. guard_top f L S φ' on_lost r top x ok t.0 k lx unbarred w G) (lean_back f A.shift)
            (Ps top t.1 (rw (ne_false top x t.0) ls)))

    goes_child : (a y : ℕ) (l : List ℕ) → line_of s.bearer x ≡ a ∷ y ∷ l → WentCommit (a ∷ y ∷ l) (commits_child f s x y)
    unfolding commits_child finished endedState passed told effect_of effect after entry entry_by owner belongs bearer_of names accepted entry_of top_of ending
    goes_child a y l lx A Ps fin top e ls =
        let t = left top e in
        let q : (told n h (some (commit x k)) (done 0)).bearer top ≡ h.bearer top = same_bearer (λ i. same i (h.bearer x)) _ A.sound A.table top e in
        subst⁻¹ (λ (i : ℕ). Pending f L φ' (told n h (some (commit x k)) (done 0)) (endedState (passed s x y) (λ j. same j x) s.store) top (pend i ++ mine final i (entry_of h (commit x k) (done 0) (h.bearer x) ∷ []))) q
        (on_child f L S T φ' on_lost final top t.1 (pend (h.bearer top)) x ok a y l lx k (fin x ok.alive)
        (λ r G. guard_child f L S φ' on_lost r top x ok t.0 a y l lx G) (lean_back f A.shift)
        (Ps top t.1 (rw (ne_false top x t.0) ls)))

    goes_commit : (l : List ℕ) → line_of s.bearer x ≡ l → (is_top l ≡ true → (changes f s x && busy f s) ≡ false) → WentCommit l (commits f s x k l)
    unfolding commits is_top
    goes_commit [] q u A Ps fin top e ls = clash ok.alive (live_line S x ∙ ap is_cons q)
    goes_commit (a ∷ []) q u A Ps fin top e ls = goes_top a (top_line S x a q) (u refl) A Ps fin top e ls
    goes_commit (a ∷ y ∷ l) q u A Ps fin top e ls = goes_child a y l q A Ps fin top e ls

  goes_abort : (x : ℕ) (w : Bool) → fits f.geometry (abort x w) ≡ true → refusal f s (abort x w) ≡ none → Went (abort x w) (finished (aborted s x w (line_of s.bearer x)) 0)
  unfolding finished told effect_of effect after entry entry_by owner belongs bearer_of names accepted entry_of top_of ending
  goes_abort x w fit q A Ps fin top e ls = go (is_cases (mem x (line_of s.bearer top)))
    where
      h₁ : History
      h₁ = told n h (some (abort x w)) (done 0)

      was : cond (mem x (line_of s.bearer top)) [] (line_of s.bearer top) ≡ top ∷ []
      was = unfold aborted retaining endedState in sym (ended_line (rooted_of S) (λ j. mem x (line_of s.bearer j)) (beneath_closed S x) top) ∙ e

      same_one : h₁.bearer top ≡ h.bearer top
      same_one = same_bearer (is_within h (h.bearer x)) ended A.sound A.table top e

      go : Is (mem x (line_of s.bearer top)) → Pending f L φ' h₁ (aborted s x w (line_of s.bearer x)) top (pend (h₁.bearer top) ++ mine final (h₁.bearer top) (entry_of h (abort x w) (done 0) (h.bearer x) ∷ []))
      go (yes' m) = absurd (no_line (rw m at was))
      go (no' m) =
          let l : line_of s.bearer top ≡ top ∷ [] = rw m at was in
          subst⁻¹ (λ (i : ℕ). Pending f L φ' h₁ (aborted s x w (line_of s.bearer x)) top (pend i ++ mine final i (entry_of h (abort x w) (done 0) (h.bearer x) ∷ []))) same_one
          (on_abort f L S T φ' on_lost final top l (pend (h.bearer top)) x w fit q (fin x (abort_ok f s x w q).alive) (lean_back f A.shift) (Ps top l (rw m ls)))

  goes_begin : (p : ℕ) → fits f.geometry (begin p) ≡ true → refusal f s (begin p) ≡ none → Went (begin p) (finished (begun s (first_free s) p) (first_free s))
  unfolding finished told effect_of effect after entry entry_by owner belongs bearer_of names accepted value_of
  goes_begin p fit q A Ps fin top e ls =
      subst (λ (i : ℕ). Pending f L φ' h₁ (begun s t p) top (pend (h₁.bearer top) ++ mine final (h₁.bearer top) (entry_of h₁ (begin p) (done t) i ∷ []))) (updated_same t (suc h.begun) h.bearer)
      (on_begin f L S φ' on_lost final top p fit q A.sound A.table A.fair e (A.finals t (live_begun s t p t ∙ rw (same_refl t))) (pend (h₁.bearer top)) (lean_back f A.shift) (go (same_cases top t)))
    where
      t : ℕ
      t = first_free s

      h₁ : History
      h₁ = told n h (some (begin p)) (done t)

      go : Same top t → Pending f L φ' h s top (pend (h₁.bearer top))
      go (is w z _) =
          let none_yet : pend (h₁.bearer top) ≡ [] = unfold updated in rw z (unborn (suc h.begun) (omega arith)) in
          subst⁻¹ (λ (l : List Entry). Pending f L φ' h s top l) none_yet (pending-none f L S φ' h top (ap (live s) w ∙ (begin_ok f s p q).unborne))
      go (isnt w z _) =
          let other : h₁.bearer top ≡ h.bearer top = unfold updated in rw z in
          let as_before : line_of (begun s t p).bearer top ≡ line_of s.bearer top = unfold begun live in begun_line (rooted_of S) t p (begin_ok f s p q).unborne top ∙ rw z in
          subst⁻¹ (λ (i : ℕ). Pending f L φ' h s top (pend i)) other (Ps top (sym as_before ∙ e) ls)

  goes_recover : (k : ℕ) → Went (recover k) (recovers f s (f.medium.recover s.store k))
  unfolding recovers
  goes_recover k = go (f.medium.recover s.store k).crashed
    where
      c : Cut f.medium.Store
      c = f.medium.recover s.store k

      go : (b : Bool) → Went (recover k) (concluded (raised s c.store) c b)
      go true A Ps fin top e ls = unfold concluded down open_state in absurd (no_line e)
      go false A Ps fin top e ls = unfold concluded raised told effect_of effect after entry entry_by owner belongs bearer_of names mine in
          subst⁻¹ (λ (l : List Entry). Pending f L φ' h (raised s c.store) top l) (join_nil (pend (h.bearer top)))
          (pending_other f L (pend (h.bearer top)) (λ r G. record {
            guard = record { by = G.by; has_it = G.has_it; lives = G.lives; beneath = G.beneath };
            same_now = L.recover_settled s.store k r;
          }) (lean_back f A.shift) (λ d v m M. reframe f M (λ j. refl) (record { line = λ j e. refl; held = λ r j e. refl; retained = λ a r j e w. w; version = λ r j e. refl })) (Ps top e ls))

  -- a prepare of x, which stands alone
  goes_prepare : (x k i : ℕ) → fits f.geometry (prepare x k i) ≡ true → PrepareOk f s x → Went (prepare x k i) (commits_top f s x (f.medium.prepare s.store (s.version x) i k))
  unfolding commits_top concluded down open_state endedState told effect_of effect after entry entry_by owner belongs bearer_of names accepted entry_of top_of ending is_whole_answer
  goes_prepare x k i fit ok = go c.crashed
    where
      c : Cut f.medium.Store
      c = f.medium.prepare s.store (s.version x) i k

      s₁ : StateOf f
      s₁ = endedState s (λ j. same j x) c.store

      lx : line_of s.bearer x ≡ x ∷ []
      lx = line_top f S x ok

      held : (f.geometry.joint ≡ true) × (i < 256)
      held = prepare_fits f.geometry x k i fit

      whole : (t : Root) → Then (some (prepare x k i)) (record { state = s₁; answer = done c.made }) → PartsBy (move x t) → FinalsBy (move x t) → PartsAfter (some (prepare x k i)) (record { state = s₁; answer = done c.made })
      whole t A Ps fin top e ls =
          let l = left x k ok.as_commit top e in
          let q : (told n h (some (prepare x k i)) (done c.made)).bearer top ≡ h.bearer top = same_bearer (λ j. same j (h.bearer x)) _ A.sound A.table top e in
          subst⁻¹ (λ (j : ℕ). Pending f L φ' (told n h (some (prepare x k i)) (done c.made)) s₁ top (pend j ++ mine final j (entry_of h (prepare x k i) (done c.made) (h.bearer x) ∷ []))) q
          (on_top f L S T φ' on_lost final top l.1 (pend (h.bearer top)) x ok.as_commit lx l.0 c.store t (prepare x k i) c.made (fin x ok.as_commit.alive)
          (λ r G. guard_prepared f L S φ' on_lost r top x ok.as_commit l.0 k i lx ok.clear held.0 held.1 t G) (lean_back f A.shift)
          (Ps top l.1 (rw (ne_false top x l.0) ls)))

      by : (b : Bool) → Then (some (prepare x k i)) (record { state = s₁; answer = done c.made }) → PartsBy (prepare_turn x true b) → FinalsBy (prepare_turn x true b) → PartsAfter (some (prepare x k i)) (record { state = s₁; answer = done c.made })
      by true A Ps fin = whole settled A Ps fin
      by false A Ps fin = whole waiting A Ps fin

      go : (b : Bool) → Went (prepare x k i) (concluded s₁ c b)
      go true A Ps fin top e ls = absurd (no_line e)
      go false A Ps fin top e ls = by (same (changed_of f s x) 0) A Ps fin top e ls

  bears_not : (t : ℕ) → live s t ≡ true → awaits (h.fate (h.bearer t)) ≡ false
  unfolding live awaits
  bears_not t l = ap awaits (T.bears t l)

  -- who waits bears no number
  waiter : (w : ℕ) → ((j : ℕ) → awaits (h.fate j) ≡ same j w) → (t : ℕ) → live s t ≡ true → w ≢ h.bearer t
  waiter w only t l q = clash (only w ∙ same_refl w) (ap (λ (j : ℕ). awaits (h.fate j)) q ∙ bears_not t l)

  -- a decision turns no label of a live transaction
  live_label : (d b : Bool) (j : ℕ) → decide_turn d b (at j) ≡ at j
  live_label d true j = refl
  live_label d false j = refl

  as_live : (d b : Bool) (r top : ℕ) → Guard f (λ c. φ' (decide_turn d b c)) s r top → Guard f φ' s r top
  as_live d b r top G = record { by = G.by; has_it = G.has_it; lives = ap φ' (sym (live_label d b G.by)) ∙ G.lives; beneath = G.beneath }

  same_sv : (d b : Bool) (top j : ℕ) → sv f φ' s top j ≡ sv f (λ c. φ' (decide_turn d b c)) s top j
  same_sv d b top j = ap (λ (c : Root). is_settled (φ' c) && mem top (line_of s.bearer j)) (sym (live_label d b j))

  -- a decision over a store: no entry of a live top transaction
  goes_over : (d : Bool) (k i : ℕ) (store : f.medium.Store) (v : ℕ) → ((r top : ℕ) → Guard f φ' s r top → Next f φ' s (raised s store) r top)
      → ((top : ℕ) → live s top ≡ true → ((told n h (some (decide d k i)) (done v)).bearer top ≡ h.bearer top) × (mine final (h.bearer top) (entry n h (some (decide d k i)) (done v)) ≡ []))
      → Then (some (decide d k i)) (record { state = raised s store; answer = done v }) → PartsBy (decide_turn d (same v 0)) → PartsAfter (some (decide d k i)) (record { state = raised s store; answer = done v })
  unfolding raised
  goes_over d k i store v N none-mine A Ps top e ls =
      let h₁ : History = told n h (some (decide d k i)) (done v) in
      let m = none-mine top (live_line S top ∙ ap is_cons e) in
      subst⁻¹ (λ (j : ℕ). Pending f L φ' h₁ (raised s store) top (pend j ++ mine final j (entry n h (some (decide d k i)) (done v)))) m.0
      (subst⁻¹ (λ (l : List Entry). Pending f L φ' h₁ (raised s store) top (pend (h.bearer top) ++ l)) m.1
      (subst⁻¹ (λ (l : List Entry). Pending f L φ' h₁ (raised s store) top l) (join_nil (pend (h.bearer top)))
      (pending_other f L {φ = λ c. φ' (decide_turn d (same v 0) c)} {φ' = φ'} {h = h} {h' = h₁} {s = s} {s' = raised s store} {top = top} (pend (h.bearer top)) (λ r G. N r top (as_live d (same v 0) r top G)) (lean_back f A.shift)
      (λ d' v' m' M. reframe f M (λ j. same_sv d (same v 0) top j) (record { line = λ j e. refl; held = λ r j e. refl; retained = λ a r j e w. w; version = λ r j e. refl }))
      (Ps top e (ap (λ (c : Root). is_settled (φ' c)) (live_label d (same v 0) top) ∙ ls)))))

  -- the same state, raised as it is
  raised_same : s.up ≡ true → raised s s.store ≡ s
  unfolding raised
  raised_same u = λ i. record { up = sym u i; bearer = s.bearer; held = s.held; retained = s.retained; version = s.version; store = s.store }

  goes_decide : (d : Bool) (k i : ℕ) (b : Bool) → s.up ≡ true → is_for i (f.medium.prepared s.store) ≡ b → Went (decide d k i) (decides f s d k b)
  unfolding decides value_of finished
  goes_decide d k i false up q = subst (λ (x : StateOf f). Went (decide d k i) (record { state = x; answer = done 0 })) (raised_same up)
      (λ A Ps fin. goes_over d k i s.store 0 (λ r top G. unfold raised in record { guard = record { by = G.by; has_it = G.has_it; lives = G.lives; beneath = G.beneath }; same_now = refl }) none-mine A Ps)
    where
      none-mine : (top : ℕ) → live s top ≡ true → ((told n h (some (decide d k i)) (done 0)).bearer top ≡ h.bearer top) × (mine final (h.bearer top) (entry n h (some (decide d k i)) (done 0)) ≡ [])
      none-mine top l = (ap (λ (b : ℕ → ℕ). b top) (decide_bearer n h d k i 0), ap (mine final (h.bearer top)) (unruled_entry n h d k i (done 0) (same_refl 0)) ∙ (unfold mine in refl))
  goes_decide d k i true up q = unfold recovers in go c.crashed refl
    where
      c : Cut f.medium.Store
      c = f.medium.decide s.store d k

      here : f.medium.prepared s.store ≡ some i
      here = for_some i (f.medium.prepared s.store) q

      none-mine : 0 < c.made → (top : ℕ) → live s top ≡ true → ((told n h (some (decide d k i)) (done c.made)).bearer top ≡ h.bearer top) × (mine final (h.bearer top) (entry n h (some (decide d k i)) (done c.made)) ≡ [])
      none-mine made top l = by W
        where
          some-made : same c.made 0 ≡ false
          some-made = ne_false c.made 0 (λ z. omega (arith, z, made))

          by : Holder f s h → ((told n h (some (decide d k i)) (done c.made)).bearer top ≡ h.bearer top) × (mine final (h.bearer top) (entry n h (some (decide d k i)) (done c.made)) ≡ [])
          by (vacant e nb) = let z : none ≡ some i = sym e ∙ here in let y : true ≡ false = cc in absurd (true≢false y)
          by (taken w j e only p le) = (
            ap (λ (b : ℕ → ℕ). b top) (decide_bearer n h d k i c.made),
            ap (mine final (h.bearer top)) (ruled_entry n h d k i (done c.made) (unfold accepted in refl) some-made) ∙ none_of w only p le,
          )
            where
              none_of : (w : ℕ) → ((j : ℕ) → awaits (h.fate j) ≡ same j w) → h.parent w ≡ 0 → w ≤ h.begun → mine final (h.bearer top) (entry_of h (decide d k i) (done c.made) (waiting_in h) ∷ []) ≡ []
              none_of w only p le = unfold mine entry_of in
                  rw (waiting_is f h w only le, own_climbed h w p, ne_false w (h.bearer top) (waiter w only top l), and-false (final w))

      go : (b : Bool) → c.crashed ≡ b → Went (decide d k i) (concluded (raised s c.store) c b)
      go true w A Ps fin top e ls = unfold concluded down open_state in absurd (no_line e)
      go false w A Ps fin top e ls = unfold concluded in
          let made = (L.decide_whole s.store d k i here w).1 in
          goes_over d k i c.store c.made (λ r top G. guard_ruled f L S φ' on_lost r top d k i here made G) (none-mine made) A Ps top e ls

  goes_act : (e : Event) → fits f.geometry e ≡ true → refusal f s e ≡ none → Went e (act f s e)
  unfolding act finished told effect_of effect after entry entry_by owner belongs bearer_of names accepted entry_of top_of
  goes_act (begin p) fit q A Ps fin top e ls = goes_begin p fit q A Ps fin top e ls
  goes_act (lock t x a) fit q A Ps fin top e ls = on_lock f L S T φ' on_lost final top (unfold locked in e) (pend (h.bearer top)) t x a fit q (fin t (lock_ok f s t x a q).alive) (Ps top (unfold locked in e) ls)
  goes_act (write t x o v) fit q A Ps fin top e ls = on_write f L S T φ' on_lost final top (unfold wrote in e) (pend (h.bearer top)) t x o v fit q (fin t (write_ok f s t x o v q).alive) (lean_back f A.shift) (Ps top (unfold wrote in e) ls)
  goes_act (read t x o) fit q A Ps fin top e ls = on_read f L S T φ' on_lost final top e (pend (h.bearer top)) t x o fit q (fin t (read_ok f s t x o q).alive) (Ps top e ls)
  goes_act (commit x k) fit q A Ps fin top e ls = goes_commit x k (commit_ok f s x k q) (line_of s.bearer x) refl (commit_clear f s x k q) A Ps fin top e ls
  goes_act (abort x w) fit q A Ps fin top e ls = goes_abort x w fit q A Ps fin top e ls
  goes_act crash fit q A Ps fin top e ls = unfold down open_state in absurd (no_line e)
  goes_act (recover k) fit q A Ps fin top e ls = goes_recover k A Ps fin top e ls
  goes_act (prepare x k i) fit q A Ps fin top e ls = goes_prepare x k i fit (prepare_ok f s x k i q) A Ps fin top e ls
  goes_act (decide d k i) fit q A Ps fin top e ls = goes_decide d k i (is_for i (f.medium.prepared s.store)) (decide_ok f s d k i q) refl A Ps fin top e ls
  goes_act (query i) fit q A Ps fin top e ls = unfold mine in subst⁻¹ (λ (p : List Entry). Pending f L φ' h s top p) (join_nil (pend (h.bearer top))) (Ps top e ls)

  -- every event, and a bad one
  pub goes : (e : Option Event) → ((v : Event) → e ≡ some v → fits f.geometry v ≡ true) → Then e (step f s e) → PartsBy (turn f s e (step f s e).answer) → FinalsBy (turn f s e (step f s e).answer)
      → PartsAfter e (step f s e)
  unfolding step told
  goes none fit A Ps fin top l ls = unfold entry mine in subst⁻¹ (λ (p : List Entry). Pending f L φ' h s top p) (join_nil (pend (h.bearer top))) (Ps top l ls)
  goes (some e) fit A Ps fin top l ls = go (judge_cases f s e) A Ps fin top l ls
    where
      go : Judged f s e → Went e (step f s (some e))
      go (acts q k) = subst⁻¹ (λ (o : OutcomeOf f). Went e o) k (goes_act e (fit e refl) q)
      go (refuses m q k) = subst⁻¹ (λ (o : OutcomeOf f). Went e o) k (λ A Ps fin top l ls.
          subst⁻¹ (λ (p : List Entry). Pending f L φ' h s top (pend (h.bearer top) ++ mine final (h.bearer top) p)) (entry_refused n h e m)
          (unfold mine in subst⁻¹ (λ (p : List Entry). Pending f L φ' h s top p) (join_nil (pend (h.bearer top))) (Ps top l ls)))
