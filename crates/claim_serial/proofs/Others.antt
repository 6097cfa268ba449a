-- The entries of a list of words; and a transaction that bears no number has no entries.
use mathlib.Core.Path.{◌≡◌, refl, sym, ap, ap₂, subst⁻¹, ◌∙◌}
use mathlib.Core.Bool.{Bool, true, false, cond, ◌&&◌, true≢false, false≢true}
use mathlib.Core.List.{List, [], ◌∷◌, ◌++◌}
use mathlib.Core.Logic.{◌≢◌}
use mathlib.Core.Option.{Option, none, some}
use Prim.Native.Nat.{ℕ, suc, ◌<◌, ◌≤◌}
use native.Mathlib.Omega.{arith}
use Rattle.laws.specs.Tests.{same}
use Rattle.laws.proofs.Tests.{same_refl, ne_false, Is, is_cases, yes', no'}
use Rattle.laws.proofs.Booleans.{clash}
use Rattle.laws.proofs.All.{and-false}
use Rattle.laws.proofs.Updated.{updated_same}
use Rattle.rules.specs.Geometry.{records}
use Rattle.rules.specs.Store.{Page}
use Rattle.rules.specs.Event.{Event, begin, lock, write, read, commit, abort, crash, recover, prepare, decide, query, decode}
use Rattle.rules.specs.State.{line_of, live}
use Rattle.rules.specs.Commit.{Cut}
use Rattle.rules.specs.Form.{Form}
use Rattle.rules.specs.Step.{is_for, decides, recovers, raised, concluded, Answer, done, refused, cut, value_of, StateOf, OutcomeOf, first_free, begun, finished, refusal, act, step}
use Rattle.rules.specs.Sound.{Sound}
use Rattle.rules.proofs.Medium.{MediumLaws}
use Rattle.rules.proofs.Acceptance.{lock_ok, write_ok, read_ok, commit_ok, prepare_ok, abort_ok, Judged, acts, refuses, judge_cases}
use Rattle.rules.proofs.Locks.{rooted_of}
use Rattle.rules.proofs.Reserved.{for_some}
use Rattle.rules.proofs.Soundness.{Reached, reached_word}
use Rattle.history.specs.History.{Fate, bearing, committed, stored, waiting as waiting_fate, ended, History, accepted, effect_of, effect, after, ending, all_ending, told, belongs, bearer_of, names}
use Rattle.history.specs.Entries.{Entry, awaits, owner, top_of, entry_of, entry_by, entry, entries}
use Rattle.history.proofs.Roots.{Root, settled, lost, waiting, at}
use Rattle.history.proofs.Table.{Table, entry as label, root_bearer, bearer_known}
use Rattle.history.proofs.Invariant.{turn, Holds, step_after, held_word}
use Rattle.history.proofs.Runs.{step_of, rows_from, answer_back, told_of, heard_is, future}
use Rattle.history.proofs.Fair.{fair_run}
use Rattle.history.proofs.Awaiting.{none_wait}
use Rattle.history.proofs.Holder.{Holder, vacant, taken, waiting_is, shift_step}
use Rattle.history.proofs.Entries.{ruled_entry, unruled_entry, own_climbed}
use Rattle.history.proofs.Tops.{last_of, top_is, last_live}
use Rattle.history.proofs.Entries.{entry_refused}
use Rattle.claim_serial.specs.Serial.{mine, order, is_last}
use Rattle.claim_serial.proofs.FollowBegin.{live_begun}

pub mine_join : (final : ℕ → Bool) (i : ℕ) (p q : List Entry) → mine final i (p ++ q) ≡ mine final i p ++ mine final i q
unfolding mine
mine_join final i [] q = refl
mine_join final i (x ∷ p) q = rw (mine_join final i p q) (go (final x.transaction && same x.top i))
  where
    go : (b : Bool) → cond b (x ∷ (mine final i p ++ mine final i q)) (mine final i p ++ mine final i q) ≡ cond b (x ∷ mine final i p) (mine final i p) ++ mine final i q
    go true = refl
    go false = refl

pub order_join : (final : ℕ → Bool) (p q : List Entry) → order final (p ++ q) ≡ order final p ++ order final q
unfolding order
order_join final [] q = refl
order_join final (x ∷ p) q = rw (order_join final p q) (go (final x.transaction && is_last x))
  where
    go : (b : Bool) → cond b (x.top ∷ (order final p ++ order final q)) (order final p ++ order final q) ≡ cond b (x.top ∷ order final p) (order final p) ++ order final q
    go true = refl
    go false = refl

module _ (f : Form) where
  -- the entry of a word, the entries of a list of words
  abbrev pub entry_for : History → StateOf f → ℕ → List Entry
  entry_for h s w = entry (records f.geometry) h (decode f.geometry w) (step_of f s w).answer

  unfoldable pub entries_from : History → StateOf f → List ℕ → List Entry
  entries_from h s [] = []
  entries_from h s (w ∷ ws) = entry_for h s w ++ entries_from (told_of f h s w) (step_of f s w).state ws

  -- they are those of its rows
  pub entries_are : (h : History) (s : StateOf f) (ws : List ℕ) → entries f.geometry h (rows_from f s ws) ≡ entries_from h s ws
  unfolding entries entries_from rows_from
  entries_are h s [] = refl
  entries_are h s (w ∷ ws) =
      ap₂ ◌++◌ (ap (entry (records f.geometry) h (decode f.geometry w)) (answer_back f s w))
      (ap (λ (h' : History). entries f.geometry h' (rows_from f (step_of f s w).state ws)) (heard_is f h s w) ∙ entries_are (told_of f h s w) (step_of f s w).state ws)

  -- no number is borne by i
  abbrev pub Apart : StateOf f → History → ℕ → Type 0
  Apart s h i = (t : ℕ) → live s t ≡ true → h.bearer t ≢ i

  module _ (final : ℕ → Bool) (i : ℕ) where
    one_other : {s : StateOf f} (S : Sound f s) {h : History} {root : ℕ → Root} (T : Table s.bearer h root) (t : ℕ) (e : Event) (a : Answer) → live s t ≡ true → Apart s h i
        → mine final i (entry_of h e a (h.bearer t) ∷ []) ≡ []
    unfolding live mine entry_of
    one_other {s} S {h} T t e a l A =
        rw (top_is (rooted_of S) T t l, ne_false (h.bearer (last_of t (line_of s.bearer t))) i (A (last_of t (line_of s.bearer t)) (last_live (rooted_of S) T t l)), and-false (final (h.bearer t)))

    module _ {s : StateOf f} (S : Sound f s) {h : History} {root : ℕ → Root} (T : Table s.bearer h root) (W : Holder f s h) (A : Apart s h i) where
      abbrev n : ℕ
      n = records f.geometry

      -- what holds after an event
      pub record Later (e : Option Event) (o : OutcomeOf f) : Type 0 where
        pub sound : Sound f o.state
        pub root' : ℕ → Root
        pub table : Table o.state.bearer (told n h e o.answer) root'
        pub apart : Apart o.state (told n h e o.answer) i
        -- if it waits it goes on waiting
        pub spared : awaits (h.fate i) ≡ true → awaits ((told n h e o.answer).fate i) ≡ true

      abbrev Others : Event → OutcomeOf f → Type 0
      Others e o = Later (some e) o → mine final i (entry n h (some e) o.answer) ≡ []

      commit_other : (x k : ℕ) (a : Answer) → live s x ≡ true → mine final i (entry n h (some (commit x k)) a) ≡ []
      unfolding entry entry_by owner belongs bearer_of names accepted told effect_of effect after ending all_ending entry_of top_of
      commit_other x k (done v) l = one_other S T x (commit x k) (done v) l A
      commit_other x k (refused m) l = unfold mine in refl
      commit_other x k (cut v) l = one_other S T x (commit x k) (cut v) l A

      prepare_other : (x k j : ℕ) (a : Answer) → live s x ≡ true → mine final i (entry n h (some (prepare x k j)) a) ≡ []
      unfolding entry entry_by owner belongs bearer_of names accepted told effect_of effect after ending all_ending entry_of top_of
      prepare_other x k j (done v) l = one_other S T x (prepare x k j) (done v) l A
      prepare_other x k j (refused m) l = unfold mine in refl
      prepare_other x k j (cut v) l = one_other S T x (prepare x k j) (cut v) l A

      -- a decision that is stored is another's
      ruled_other : (d : Bool) (k j : ℕ) (a : Answer) → accepted a ≡ true → same (value_of a) 0 ≡ false → (w : ℕ) → ((v : ℕ) → awaits (h.fate v) ≡ same v w) → h.parent w ≡ 0 → w ≤ h.begun
          → ((v : ℕ) → awaits ((told n h (some (decide d k j)) a).fate v) ≡ false) → (awaits (h.fate i) ≡ true → awaits ((told n h (some (decide d k j)) a).fate i) ≡ true)
          → mine final i (entry n h (some (decide d k j)) a) ≡ []
      ruled_other d k j a ok made w only p le nobody spared =
          ap (mine final i) (ruled_entry n h d k j a ok made)
          ∙ (unfold mine entry_of in rw (waiting_is f h w only le, own_climbed h w p, ne_false w i (λ q. clash (spared (only i ∙ ap (λ (v : ℕ). same v w) (sym q) ∙ same_refl w)) (nobody i)), and-false (final w)))

      decide_other : (d : Bool) (k j : ℕ) (b : Bool) → is_for j (f.medium.prepared s.store) ≡ b → Others (decide d k j) (decides f s d k b)
      unfolding decides
      decide_other d k j false q B = unfold finished in ap (mine final i) (unruled_entry n h d k j (done 0) (unfold value_of in same_refl 0)) ∙ (unfold mine in refl)
      decide_other d k j true q B = unfold recovers in by_value (is_cases (same (value_of (concluded (raised s c.store) c c.crashed).answer) 0)) B
        where
          c : Cut f.medium.Store
          c = f.medium.decide s.store d k

          here : f.medium.prepared s.store ≡ some j
          here = for_some j (f.medium.prepared s.store) q

          o : OutcomeOf f
          o = concluded (raised s c.store) c c.crashed

          taken_it : accepted o.answer ≡ true
          taken_it = go c.crashed
            where
              go : (b : Bool) → accepted (concluded (raised s c.store) c b).answer ≡ true
              go true = unfold concluded accepted in refl
              go false = unfold concluded accepted in refl

          by_value : Is (same (value_of o.answer) 0) → Others (decide d k j) o
          by_value (yes' z) B = ap (mine final i) (unruled_entry n h d k j o.answer z) ∙ (unfold mine in refl)
          by_value (no' z) B = by W
            where
              by : Holder f s h → mine final i (entry n h (some (decide d k j)) o.answer) ≡ []
              by (vacant e nb) = let y : none ≡ some j = sym e ∙ here in let x : true ≡ false = cc in absurd (true≢false x)
              by (taken w v e only p le) = ruled_other d k j o.answer taken_it z w only p le (none_wait n h d k j o.answer taken_it z) B.spared

      begin_other : (p : ℕ) → Others (begin p) (finished (begun s (first_free s) p) (first_free s))
      unfolding finished entry entry_by owner belongs bearer_of names accepted told effect_of effect after value_of
      begin_other p B =
          let t : ℕ = first_free s in
          let h₁ : History = told n h (some (begin p)) (done t) in
          subst⁻¹ (λ (j : ℕ). mine final i (entry_of h₁ (begin p) (done t) j ∷ []) ≡ []) (sym (updated_same t (suc h.begun) h.bearer))
          (one_other B.sound B.table t (begin p) (done t) (live_begun s t p t ∙ rw (same_refl t)) B.apart)

      other_act : (e : Event) → refusal f s e ≡ none → Others e (act f s e)
      unfolding act finished entry entry_by owner belongs bearer_of names accepted told effect_of effect after ending entry_of top_of
      other_act (begin p) q B = begin_other p B
      other_act (lock t x a) q B = one_other S T t (lock t x a) (done 0) (lock_ok f s t x a q).alive A
      other_act (write t x o v) q B = one_other S T t (write t x o v) (done 0) (write_ok f s t x o v q).alive A
      other_act (read t x o) q B = one_other S T t (read t x o) _ (read_ok f s t x o q).alive A
      other_act (commit x k) q B = commit_other x k (act f s (commit x k)).answer (commit_ok f s x k q).alive
      other_act (abort x w) q B = one_other S T x (abort x w) (done 0) (abort_ok f s x w q).alive A
      other_act crash q B = unfold mine in refl
      other_act (recover k) q B = unfold mine in refl
      other_act (prepare x k j) q B = prepare_other x k j (act f s (prepare x k j)).answer (prepare_ok f s x k j q).as_commit.alive
      other_act (decide d k j) q B = decide_other d k j (is_for j (f.medium.prepared s.store)) refl B
      other_act (query j) q B = unfold mine in refl

      pub other_step : (e : Option Event) → Later e (step f s e) → mine final i (entry n h e (step f s e).answer) ≡ []
      unfolding step
      other_step none B = unfold entry mine in refl
      other_step (some e) B = go (judge_cases f s e) B
        where
          go : Judged f s e → Others e (step f s (some e))
          go (acts q k) = subst⁻¹ (λ (o : OutcomeOf f). Others e o) k (other_act e q)
          go (refuses m q k) = subst⁻¹ (λ (o : OutcomeOf f). Others e o) k (λ B. ap (mine final i) (entry_refused n h e m) ∙ (unfold mine in refl))

-- settled or lost: nothing more becomes of it
abbrev pub is_over : Root → Bool
is_over settled = true
is_over lost = true
is_over waiting = false
is_over (at a) = false

module _ (f : Form) (L : MediumLaws f.geometry f.medium) (final : ℕ → Bool) where
  turn_over : {s : StateOf f} (R : Reached f L s) (w : ℕ) (c : Root) → is_over c ≡ true → is_over (turn f s (decode f.geometry w) (step_of f s w).answer c) ≡ true
  unfolding future
  turn_over R w settled e = ap is_over (fair_run f L (w ∷ []) R).on_settled
  turn_over R w lost e = ap is_over (fair_run f L (w ∷ []) R).on_lost
  turn_over R w waiting e = absurd (false≢true e)
  turn_over R w (at a) e = absurd (false≢true e)

  -- a transaction that is over bears no number and doesn't wait; nor does one that isn't begun
  over_apart : (s : StateOf f) {h : History} {root : ℕ → Root} → Table s.bearer h root → (i : ℕ) → is_over (root i) ≡ true → Apart f s h i
  unfolding live
  over_apart s {root = root} T i e t l q = absurd (true≢false (sym e ∙ ap (λ (j : ℕ). is_over (root j)) (sym q) ∙ ap is_over (root_bearer T t l)))

  over_waits : (s : StateOf f) {h : History} {root : ℕ → Root} → Table s.bearer h root → (i : ℕ) → is_over (root i) ≡ true → awaits (h.fate i) ≡ false
  over_waits s {h} {root} T i e = go (h.fate i) (ap is_over (sym (T.one i)) ∙ e)
    where
      go : (c : Fate) → is_over (label root (h.parent i) c) ≡ true → awaits c ≡ false
      go (bearing t) q = unfold awaits in refl
      go committed q = unfold awaits in refl
      go stored q = unfold awaits in refl
      go waiting_fate q = absurd (false≢true q)
      go ended q = unfold awaits in refl

  pub unborn_apart : (s : StateOf f) {h : History} {root : ℕ → Root} → Table s.bearer h root → (i : ℕ) → h.begun < i → Apart f s h i
  unfolding live
  unborn_apart s {h = h} T i e t l q = let k : h.bearer t ≤ h.begun = bearer_known T t l in absurd (omega (arith, k, q, e))

  pub unborn_waits : (s : StateOf f) {h : History} {root : ℕ → Root} → Table s.bearer h root → (i : ℕ) → h.begun < i → awaits (h.fate i) ≡ false
  unfolding awaits
  unborn_waits s T i e = ap awaits (T.unborn i e)

  -- a transaction that is over has no later entries
  pub over_entries : {start : ℕ → Page} {s : StateOf f} {h : History} {root : ℕ → Root} (ws : List ℕ) (R : Reached f L s) (H : Holds f start s h root) → Holder f s h
      → (i : ℕ) → is_over (root i) ≡ true → i ≤ h.begun → mine final i (entries_from f h s ws) ≡ []
  unfolding entries_from
  over_entries [] R H W i e b = unfold mine in refl
  over_entries {start} {s} {h} {root} (w ∷ ws) R H W i e b =
      let A = step_after f L R.sound H (decode f.geometry w) (held_word f.geometry w) in
      let M = shift_step f L R.sound H W (decode f.geometry w) (held_word f.geometry w) in
      let R₁ = reached_word f L R w in
      let k : is_over (A.root' i) ≡ true = ap is_over (A.turned i b) ∙ turn_over R w (root i) e in
      let more : h.begun ≤ (told_of f h s w).begun = A.grown in
      mine_join final i (entry_for f h s w) _
      ∙ ap₂ ◌++◌ (other_step f final i R.sound H.table W (over_apart s H.table i e) (decode f.geometry w)
      (record { sound = R₁.sound; root' = A.root'; table = A.tells.table; apart = over_apart (step_of f s w).state A.tells.table i k; spared = λ z. clash z (over_waits s H.table i e) }))
      (over_entries {s = (step_of f s w).state} {h = told_of f h s w} {root = A.root'} ws R₁ A.tells M.holder i k (omega (arith, more, b)))
