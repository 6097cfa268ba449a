-- Every event leaves a store that bytes can spell.
use mathlib.Core.Path.{◌≡◌, refl}
use mathlib.Core.Bool.{Bool, true, false}
use mathlib.Core.List.{List, [], ◌∷◌}
use mathlib.Core.Option.{none, some}
use Prim.Native.Nat.{ℕ}
use Rattle.laws.specs.Tests.{same}
use Rattle.rules.specs.Event.{Event, begin, lock, write, read, commit, abort, crash, recover, prepare, decide, query}
use Rattle.rules.specs.State.{line_of, down}
use Rattle.rules.specs.Commit.{Cut}
use Rattle.rules.specs.Form.{Form}
use Rattle.rules.specs.Step.{is_for, StateOf, decides, begun, locked, wrote, ended, retaining, aborted, raised, concluded, finished, commits_top, commits_child, commits, recovers, act, step}
use Rattle.rules.specs.Sound.{Sound}
use Rattle.rules.proofs.Medium.{MediumLaws}
use Rattle.rules.proofs.Acceptance.{Judged, acts, refuses, judge_cases}

module _ (f : Form) (M : MediumLaws f.geometry f.medium) {s : StateOf f} (S : Sound f s) (shaped : M.Shaped s.store) where
  shaped_concluded : (whole : StateOf f) (c : Cut f.medium.Store) (b : Bool) → M.Shaped c.store → whole.store ≡ c.store → M.Shaped (concluded whole c b).state.store
  unfolding concluded down
  shaped_concluded whole c true h e = h
  shaped_concluded whole c false h e = rw e h

  shaped_commits : (x k : ℕ) (l : List ℕ) → M.Shaped (commits f s x k l).state.store
  unfolding commits commits_top commits_child finished ended
  shaped_commits x k [] =
      let c = f.medium.commit s.store (s.version x) k in
      shaped_concluded (ended s (λ j. same j x) c.store) c c.crashed (M.commit_shaped s.store (s.version x) k shaped (S.paged x)) refl
  shaped_commits x k (a ∷ []) =
      let c = f.medium.commit s.store (s.version x) k in
      shaped_concluded (ended s (λ j. same j x) c.store) c c.crashed (M.commit_shaped s.store (s.version x) k shaped (S.paged x)) refl
  shaped_commits x k (a ∷ y ∷ l) = shaped

  shaped_decides : (d : Bool) (k : ℕ) (b : Bool) → M.Shaped (decides f s d k b).state.store
  unfolding decides recovers raised finished
  shaped_decides d k true =
      let c = f.medium.decide s.store d k in
      shaped_concluded (raised s c.store) c c.crashed (M.decide_shaped s.store d k shaped) refl
  shaped_decides d k false = shaped

  pub shaped_act : (e : Event) → M.Shaped (act f s e).state.store
  unfolding act finished begun locked wrote ended retaining aborted down recovers raised commits_top
  shaped_act (begin p) = shaped
  shaped_act (lock t r a) = shaped
  shaped_act (write t r o v) = shaped
  shaped_act (read t r o) = shaped
  shaped_act (commit t k) = shaped_commits t k (line_of s.bearer t)
  shaped_act (abort t w) = shaped
  shaped_act crash = shaped
  shaped_act (recover k) =
      let c = f.medium.recover s.store k in
      shaped_concluded (raised s c.store) c c.crashed (M.recover_shaped s.store k shaped) refl
  shaped_act (prepare t k i) =
      let c = f.medium.prepare s.store (s.version t) i k in
      shaped_concluded (ended s (λ j. same j t) c.store) c c.crashed (M.prepare_shaped s.store (s.version t) i k shaped (S.paged t)) refl
  shaped_act (decide d k i) = shaped_decides d k (is_for i (f.medium.prepared s.store))
  shaped_act (query i) = shaped

  pub shaped_step : (e : Event) → M.Shaped (step f s (some e)).state.store
  shaped_step e = go (judge_cases f s e)
    where
      go : Judged f s e → M.Shaped (step f s (some e)).state.store
      go (acts q k) = rw k (shaped_act e)
      go (refuses n q k) = rw k shaped

  pub shaped_bad : M.Shaped (step f s none).state.store
  unfolding step
  shaped_bad = shaped
