-- What the prepared transaction changed stays as it is and stays locked, through every event, also crashes and recoveries, until a decision on it
-- makes a page write.
use mathlib.Core.Path.{◌≡◌, refl, sym, ap, subst, subst⁻¹, ◌∙◌}
use mathlib.Core.Bool.{Bool, true, false, not, ◌&&◌, false≢true}
use mathlib.Core.List.{List, [], ◌∷◌}
use mathlib.Core.Option.{Option, none, some}
use Prim.Native.Nat.{ℕ}
use Rattle.laws.specs.Tests.{same}
use Rattle.laws.proofs.Tests.{same-eq}
use Rattle.laws.proofs.Booleans.{or_cases, not-false, clash}
use Rattle.rules.specs.Event.{Access, Event, begin, lock, write, read, commit, abort, crash, recover, prepare, decide, query, decode}
use Rattle.rules.specs.State.{line_of, live, down}
use Rattle.rules.specs.Versions.{is_some}
use Rattle.rules.specs.Commit.{Cut}
use Rattle.rules.specs.Form.{Form}
use Rattle.rules.specs.Step.{Answer, value_of, has_child, is_busy, is_for, is_top, StateOf, OutcomeOf, changes, busy, reserved, refusal, begun, locked, wrote, ended, retaining, aborted, raised, concluded, finished, commits_top, commits_child, commits, recovers, decides, act, step}
use Rattle.rules.specs.Run.{play}
use Rattle.rules.specs.Sound.{Sound}
use Rattle.rules.proofs.Medium.{MediumLaws, changed_in, is_clear}
use Rattle.rules.proofs.Waiting.{Refused}
use Rattle.rules.proofs.Joint.{reserved_locked}
use Rattle.rules.proofs.Acceptance.{commit_ok, commit_clear, prepare_ok, Judged, acts, refuses, judge_cases}
use Rattle.rules.proofs.Reserved.{clear_of, for_some}
use Rattle.rules.proofs.Soundness.{Reached, reached_word}

-- a decision that made a page write
unfoldable pub decides_now : Option Event → Answer → Bool
decides_now none a = false
decides_now (some (begin p)) a = false
decides_now (some (lock t r m)) a = false
decides_now (some (write t r o v)) a = false
decides_now (some (read t r o)) a = false
decides_now (some (commit t k)) a = false
decides_now (some (abort t w)) a = false
decides_now (some crash) a = false
decides_now (some (recover k)) a = false
decides_now (some (prepare t k i)) a = false
decides_now (some (decide d k i)) a = not (same (value_of a) 0)
decides_now (some (query i)) a = false

module _ (f : Form) (M : MediumLaws f.geometry f.medium) where
  -- where something is pending one is prepared
  reserved_busy : (s : StateOf f) (r : ℕ) → reserved f s r ≡ true → busy f s ≡ true
  unfolding reserved busy
  reserved_busy s r e = go (f.medium.prepared s.store) refl
    where
      go : (o : Option ℕ) → f.medium.prepared s.store ≡ o → is_busy o ≡ true
      go none q = absurd (unfold is_some in false≢true (sym (ap is_some (M.free_pending s.store r q)) ∙ e))
      go (some i) q = unfold is_busy in refl

  module _ {s : StateOf f} (S : Sound f s) (on : busy f s ≡ true) where
    -- the same is pending
    abbrev Kept : StateOf f → Type 0
    Kept s' = (r : ℕ) → f.medium.pending s'.store r ≡ f.medium.pending s.store r

    -- after page writes
    kept_cut : (whole : StateOf f) (c : Cut f.medium.Store) (b : Bool) → whole.store ≡ c.store → ((r : ℕ) → f.medium.pending c.store r ≡ f.medium.pending s.store r) → Kept (concluded whole c b).state
    unfolding concluded down
    kept_cut whole c true e h r = h r
    kept_cut whole c false e h r = ap (λ (x : f.medium.Store). f.medium.pending x r) e ∙ h r

    by_commit : (x k : ℕ) (l : List ℕ) → s.up ≡ true → (is_top l ≡ true → (changes f s x && busy f s) ≡ false) → Kept (commits f s x k l).state
    unfolding commits commits_top commits_child finished ended is_top
    by_commit x k [] up h =
        let c = f.medium.commit s.store (s.version x) k in
        kept_cut (ended s (λ j. same j x) c.store) c c.crashed refl (M.commit_unmoved s.store (s.version x) k (clear_of f s x (S.calm up) (h refl))).same_pending
    by_commit x k (a ∷ []) up h =
        let c = f.medium.commit s.store (s.version x) k in
        kept_cut (ended s (λ j. same j x) c.store) c c.crashed refl (M.commit_unmoved s.store (s.version x) k (clear_of f s x (S.calm up) (h refl))).same_pending
    by_commit x k (a ∷ y ∷ l) up h = λ r. refl

    by_recover : (k : ℕ) → Kept (recovers f s (f.medium.recover s.store k)).state
    unfolding recovers raised
    by_recover k = let c = f.medium.recover s.store k in kept_cut (raised s c.store) c c.crashed refl (M.recover_unmoved s.store k).same_pending

    -- a prepare beside it is of a transaction that changed nothing, and makes no page write
    by_prepare : (x k i : ℕ) → is_clear f.geometry f.medium s.store (s.version x) ≡ true → Kept (commits_top f s x (f.medium.prepare s.store (s.version x) i k)).state
    unfolding commits_top ended is_clear busy
    by_prepare x k i clear =
        let c = f.medium.prepare s.store (s.version x) i k in
        let none_changed = or_cases (f.medium.emptied s.store) (same (changed_in f.geometry (s.version x)) 0) clear
        (λ e. clash on (unfold is_busy in ap is_busy (M.emptied_free s.store e))) (λ e. same-eq (changed_in f.geometry (s.version x)) 0 e) in
        kept_cut (ended s (λ j. same j x) c.store) c c.crashed refl (λ r. ap (λ (y : f.medium.Store). f.medium.pending y r) (M.prepare_none s.store (s.version x) i k none_changed).0)

    by_decide : (d : Bool) (k i : ℕ) (b : Bool) → is_for i (f.medium.prepared s.store) ≡ b → decides_now (some (decide d k i)) (decides f s d k b).answer ≡ false → Kept (decides f s d k b).state
    unfolding decides finished recovers raised
    by_decide d k i false q h = λ r. refl
    by_decide d k i true q h = let c = f.medium.decide s.store d k in go c.crashed h
      where
        first : (f.medium.decide s.store d k).made ≡ 0 → (r : ℕ) → f.medium.pending (f.medium.decide s.store d k).store r ≡ f.medium.pending s.store r
        first z r = ap (λ (y : f.medium.Store). f.medium.pending y r) (M.decide_first s.store d k i (for_some i (f.medium.prepared s.store) q) z)

        go : (b : Bool) → let c = f.medium.decide s.store d k in decides_now (some (decide d k i)) (concluded (raised s c.store) c b).answer ≡ false → Kept (concluded (raised s c.store) c b).state
        go true h = let c = f.medium.decide s.store d k in kept_cut (raised s c.store) c true refl (first (same-eq c.made 0 (not-false _ (unfold decides_now concluded value_of in h))))
        go false h = let c = f.medium.decide s.store d k in kept_cut (raised s c.store) c false refl (first (same-eq c.made 0 (not-false _ (unfold decides_now concluded value_of in h))))

    by_act : (e : Event) → refusal f s e ≡ none → decides_now (some e) (act f s e).answer ≡ false → Kept (act f s e).state
    unfolding act finished begun locked wrote ended retaining aborted down
    by_act (begin p) q h = λ r. refl
    by_act (lock t r a) q h = λ q'. refl
    by_act (write t r o v) q h = λ q'. refl
    by_act (read t r o) q h = λ q'. refl
    by_act (commit x k) q h = by_commit x k (line_of s.bearer x) (commit_ok f s x k q).up (commit_clear f s x k q)
    by_act (abort x w) q h = λ r. refl
    by_act crash q h = λ r. refl
    by_act (recover k) q h = by_recover k
    by_act (prepare x k i) q h = let ok = prepare_ok f s x k i q in by_prepare x k i (clear_of f s x (S.calm ok.as_commit.up) ok.clear)
    by_act (decide d k i) q h = by_decide d k i (is_for i (f.medium.prepared s.store)) refl h
    by_act (query i) q h = λ r. refl

    -- one event, or a bad one
    pub pending_stays : (e : Option Event) → decides_now e (step f s e).answer ≡ false → (r : ℕ) → f.medium.pending (step f s e).state.store r ≡ f.medium.pending s.store r
    pending_stays none h = λ r. unfold step in refl
    pending_stays (some e) h = go (judge_cases f s e)
      where
        go : Judged f s e → Kept (step f s (some e)).state
        go (acts q k) = subst⁻¹ (λ (o : OutcomeOf f). Kept o.state) k (by_act e q (subst (λ (o : OutcomeOf f). decides_now (some e) o.answer ≡ false) k h))
        go (refuses n q k) = subst⁻¹ (λ (o : OutcomeOf f). Kept o.state) k (λ r. refl)

  -- a list of words in which no decision makes a page write
  abbrev pub Undecided : StateOf f → List ℕ → Type 0
  Undecided s [] = Unit {0}
  Undecided s (w ∷ ws) = let e = decode f.geometry w in (decides_now e (step f s e).answer ≡ false) × Undecided (step f s e).state ws

  pub reserved_stays : (s : StateOf f) → Reached f M s → (ws : List ℕ) → Undecided s ws → (r : ℕ) → reserved f s r ≡ true → reserved f (play f s ws).state r ≡ true
  unfolding play
  reserved_stays s R [] U r h = h
  reserved_stays s R (w ∷ ws) U r h =
      let e = decode f.geometry w in
      reserved_stays (step f s e).state (reached_word f M R w) ws U.1 r (unfold reserved in (ap is_some (pending_stays R.sound (reserved_busy s r h) e U.0 r) ∙ h))

  -- THE LOCKS STAY: whatever was played since, who asks for such a record is refused, in every mode
  pub stays_locked : (s : StateOf f) → Reached f M s → (ws : List ℕ) → Undecided s ws → (r : ℕ) → reserved f s r ≡ true
      → let s' = (play f s ws).state in (t : ℕ) → s'.up ≡ true → live s' t ≡ true → has_child s' t ≡ false → (a : Access) → Refused f s' (lock t r a) 8
  stays_locked s R ws U r h t up alive childless a = reserved_locked f (play f s ws).state t up alive childless r a (reserved_stays s R ws U r h)
