-- One commit event over any medium: all versions of the transaction are settled or none, wherever it is cut, and all once it is answered done.
use mathlib.Core.Path.{◌≡◌, refl, ap, ◌∙◌}
use mathlib.Core.Bool.{Bool, true, false, ◌&&◌, true≢false}
use mathlib.Core.List.{List, [], ◌∷◌}
use mathlib.Core.Logic.{◌⊎◌, inl, inr}
use mathlib.Core.Option.{some}
use Prim.Native.Nat.{ℕ}
use Rattle.laws.specs.Tests.{same}
use Rattle.laws.proofs.Tests.{Is, is_cases, yes', no'}
use Rattle.rules.specs.Event.{commit}
use Rattle.rules.specs.State.{State, line_of, down}
use Rattle.rules.specs.Versions.{else}
use Rattle.rules.specs.Commit.{Cut}
use Rattle.rules.specs.Form.{Form}
use Rattle.rules.specs.Step.{Answer, done, refused, Outcome, OutcomeOf, StateOf, is_top, changes, busy, ended, concluded, finished, commits_top, commits_child, commits, act, step}
use Rattle.rules.specs.Sound.{Sound}
use Rattle.rules.proofs.Medium.{changed_in, stored, is_clear, MediumLaws}
use Rattle.rules.proofs.Acceptance.{CommitOk, commit_ok, commit_clear, Judged, acts, refuses, judge_cases}
use Rattle.rules.proofs.Reserved.{clear_of}

none_done : (S : Type 0) (o : Outcome S) (n v : ℕ) → o.answer ≡ refused n → o.answer ≡ done v → ⊥
none_done S o n v p q = go o.answer p q
  where
    go : (a : Answer) → a ≡ refused n → a ≡ done v → ⊥
    go a p q = let z : true ≡ false = cc in true≢false z

module _ {S : Type 0} where
  -- what is concluded with an answer done was not crashed
  done_whole : (whole : State S) (c : Cut S) (b : Bool) (v : ℕ) → (concluded whole c b).answer ≡ done v → b ≡ false
  unfolding concluded
  done_whole whole c true v e = let z : true ≡ false = cc in absurd (true≢false z)
  done_whole whole c false v e = refl

  concluded_store : (whole : State S) (c : Cut S) (b : Bool) → whole.store ≡ c.store → (concluded whole c b).state.store ≡ c.store
  unfolding concluded down
  concluded_store whole c true e = refl
  concluded_store whole c false e = e

module _ (f : Form) (M : MediumLaws f.geometry f.medium) (s : StateOf f) (S : Sound f s) where
  -- the settled records of a store: with all of t's versions; as they were
  abbrev pub All : ℕ → f.medium.Store → Type 0
  All t x = (r : ℕ) → f.medium.settled x r ≡ else (s.version t r) (f.medium.settled s.store r)

  abbrev pub None : f.medium.Store → Type 0
  None x = (r : ℕ) → f.medium.settled x r ≡ f.medium.settled s.store r

  as_before : (x : f.medium.Store) → x ≡ s.store → None x
  as_before x q r = ap (λ y. f.medium.settled y r) q

  -- a top transaction's commit that isn't refused may write
  top_clear : (t : ℕ) → CommitOk s t → (changes f s t && busy f s) ≡ false → is_clear f.geometry f.medium s.store (s.version t) ≡ true
  top_clear t ok c = clear_of f s t (S.calm ok.up) c

  top_store : (t : ℕ) (c : Cut f.medium.Store) → (commits_top f s t c).state.store ≡ c.store
  unfolding commits_top ended
  top_store t c = concluded_store (ended s (λ j. same j t) c.store) c c.crashed refl

  top_either : (t n : ℕ) → is_clear f.geometry f.medium s.store (s.version t) ≡ true
      → let c = f.medium.commit s.store (s.version t) n in All t (commits_top f s t c).state.store ⊎ None (commits_top f s t c).state.store
  top_either t n clear = rw (top_store t (f.medium.commit s.store (s.version t) n)) (go (is_cases (stored (changed_in f.geometry (s.version t)) (f.medium.commit s.store (s.version t) n).made)))
    where
      go : Is (stored (changed_in f.geometry (s.version t)) (f.medium.commit s.store (s.version t) n).made)
          → All t (f.medium.commit s.store (s.version t) n).store ⊎ None (f.medium.commit s.store (s.version t) n).store
      go (yes' q) = inl (λ r. M.commit_kept s.store (s.version t) n r clear (S.ranged t) q)
      go (no' q) = inr (λ r. M.commit_lost s.store (s.version t) n r clear q)

  line_either : (t n : ℕ) → CommitOk s t → (l : List ℕ) → (is_top l ≡ true → (changes f s t && busy f s) ≡ false)
      → All t (commits f s t n l).state.store ⊎ None (commits f s t n l).state.store
  unfolding commits commits_child finished ended is_top
  line_either t n ok [] c = top_either t n (top_clear t ok (c refl))
  line_either t n ok (a ∷ []) c = top_either t n (top_clear t ok (c refl))
  line_either t n ok (a ∷ y ∷ l) c = inr (as_before _ refl)

  -- ALL OR NONE
  pub commit_either : (t n : ℕ) → All t (step f s (some (commit t n))).state.store ⊎ None (step f s (some (commit t n))).state.store
  unfolding act
  commit_either t n = go (judge_cases f s (commit t n))
    where
      go : Judged f s (commit t n) → All t (step f s (some (commit t n))).state.store ⊎ None (step f s (some (commit t n))).state.store
      go (acts p z) = rw z (line_either t n (commit_ok f s t n p) (line_of s.bearer t) (commit_clear f s t n p))
      go (refuses m p z) = inr (as_before _ (ap (λ (o : OutcomeOf f). o.state.store) z))

  top_done : (t n v : ℕ) → CommitOk s t → is_clear f.geometry f.medium s.store (s.version t) ≡ true
      → (commits_top f s t (f.medium.commit s.store (s.version t) n)).answer ≡ done v → All t (commits_top f s t (f.medium.commit s.store (s.version t) n)).state.store
  unfolding commits_top ended
  top_done t n v ok clear e r =
      let c = f.medium.commit s.store (s.version t) n in
      let whole = M.commit_whole s.store (s.version t) n (S.calm ok.up) clear (done_whole _ c c.crashed v e) in
      ap (λ x. f.medium.settled x r) (concluded_store (ended s (λ j. same j t) c.store) c c.crashed refl)
      ∙ M.commit_kept s.store (s.version t) n r clear (S.ranged t) whole.1

  line_done : (t n v : ℕ) → CommitOk s t → (l : List ℕ) → (is_top l ≡ true → (changes f s t && busy f s) ≡ false) → l ≡ t ∷ [] → (commits f s t n l).answer ≡ done v
      → All t (commits f s t n l).state.store
  unfolding commits is_top
  line_done t n v ok [] c q e = top_done t n v ok (top_clear t ok (c refl)) e
  line_done t n v ok (a ∷ []) c q e = top_done t n v ok (top_clear t ok (c refl)) e
  line_done t n v ok (a ∷ y ∷ l) c q e = let z : true ≡ false = cc in absurd (true≢false z)

  -- ALL, once a top transaction's commit is answered done
  pub commit_done : (t n v : ℕ) → (step f s (some (commit t n))).answer ≡ done v → line_of s.bearer t ≡ t ∷ [] → All t (step f s (some (commit t n))).state.store
  unfolding act
  commit_done t n v e q = go (judge_cases f s (commit t n))
    where
      go : Judged f s (commit t n) → All t (step f s (some (commit t n))).state.store
      go (acts p z) = rw z (line_done t n v (commit_ok f s t n p) (line_of s.bearer t) (commit_clear f s t n p) q (rw z at e))
      go (refuses m p z) = absurd (none_done f.medium.Store (step f s (some (commit t n))) m v (ap (λ (o : OutcomeOf f). o.answer) z) e)
