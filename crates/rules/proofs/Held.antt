-- Over atomic pages, only a prepare and a decision move what the commit page says of a prepared transaction.
use mathlib.Core.Path.{◌≡◌, refl, ap, ◌∙◌}
use mathlib.Core.Bool.{Bool, true, false, ◌&&◌, false≢true}
use mathlib.Core.List.{List, [], ◌∷◌}
use mathlib.Core.Option.{Option, none, some}
use Prim.Native.Nat.{ℕ}
use Rattle.laws.specs.Tests.{same}
use Rattle.rules.specs.Geometry.{Geometry, Proper}
use Rattle.rules.specs.Store.{Pages, Prepared, read_prepared}
use Rattle.rules.specs.Event.{Event, begin, lock, write, read, commit, abort, crash, recover, prepare, decide, query}
use Rattle.rules.specs.State.{line_of, down}
use Rattle.rules.specs.Commit.{Cut, commit_at, recover_at}
use Rattle.rules.specs.Form.{atomic}
use Rattle.rules.specs.Step.{StateOf, is_top, begun, locked, wrote, ended, retaining, aborted, raised, concluded, finished, changes, busy, refusal, commits_top, commits_child, commits, recovers, act, step}
use Rattle.rules.specs.Sound.{Sound}
use Rattle.rules.proofs.Acceptance.{commit_ok, commit_clear, Judged, judge_cases, acts, refuses}
use Rattle.rules.proofs.AtomicCommits.{clear_held, recover_held}
use Rattle.rules.proofs.Reserved.{clear_of}

-- an event that prepares nothing and decides nothing
unfoldable pub is_plain : Event → Bool
is_plain (begin p) = true
is_plain (lock t r a) = true
is_plain (write t r o v) = true
is_plain (read t r o) = true
is_plain (commit t k) = true
is_plain (abort t w) = true
is_plain crash = true
is_plain (recover k) = true
is_plain (prepare t k i) = false
is_plain (decide d k i) = false
is_plain (query i) = true

module _ (g : Geometry) (proper : Proper g) {s : StateOf (atomic g)} (S : Sound (atomic g) s) where
  abbrev held : Pages → Option Prepared
  held p = read_prepared g (p 0)

  -- page writes that keep it
  kept : (whole : StateOf (atomic g)) (c : Cut Pages) (b : Bool) → whole.store ≡ c.store → held c.store ≡ held s.store → held (concluded whole c b).state.store ≡ held s.store
  unfolding concluded down
  kept whole c true e h = h
  kept whole c false e h = ap held e ∙ h

  by_top : (x k : ℕ) → s.up ≡ true → (changes (atomic g) s x && busy (atomic g) s) ≡ false → held (commits_top (atomic g) s x (commit_at g s.store (s.version x) k)).state.store ≡ held s.store
  unfolding commits_top ended
  by_top x k up h =
      let c = commit_at g s.store (s.version x) k in
      kept (ended s (λ j. same j x) c.store) c c.crashed refl (clear_held g proper s.store (s.version x) (clear_of (atomic g) s x (S.calm up) h) k)

  by_commit : (x k : ℕ) (l : List ℕ) → s.up ≡ true → (is_top l ≡ true → (changes (atomic g) s x && busy (atomic g) s) ≡ false) → held (commits (atomic g) s x k l).state.store ≡ held s.store
  unfolding commits commits_child finished ended is_top
  by_commit x k [] up h = by_top x k up (h refl)
  by_commit x k (a ∷ []) up h = by_top x k up (h refl)
  by_commit x k (a ∷ y ∷ l) up h = refl

  by_recover : (k : ℕ) → held (recovers (atomic g) s (recover_at g s.store k)).state.store ≡ held s.store
  unfolding recovers raised
  by_recover k = let c = recover_at g s.store k in kept (raised s c.store) c c.crashed refl (recover_held g proper s.store k)

  act_held : (e : Event) → is_plain e ≡ true → refusal (atomic g) s e ≡ none → held (act (atomic g) s e).state.store ≡ held s.store
  unfolding act finished is_plain begun locked wrote aborted ended retaining down
  act_held (begin p) h q = refl
  act_held (lock t r a) h q = refl
  act_held (write t r o v) h q = refl
  act_held (read t r o) h q = refl
  act_held (commit t k) h q = by_commit t k (line_of s.bearer t) (commit_ok (atomic g) s t k q).up (commit_clear (atomic g) s t k q)
  act_held (abort t w) h q = refl
  act_held crash h q = refl
  act_held (recover k) h q = by_recover k
  act_held (prepare t k i) h q = absurd (false≢true h)
  act_held (decide d k i) h q = absurd (false≢true h)
  act_held (query i) h q = refl

  pub step_held : (e : Event) → is_plain e ≡ true → held (step (atomic g) s (some e)).state.store ≡ held s.store
  step_held e h = go (judge_cases (atomic g) s e)
    where
      go : Judged (atomic g) s e → held (step (atomic g) s (some e)).state.store ≡ held s.store
      go (acts q k) = rw k (act_held e h q)
      go (refuses n q k) = rw k refl

  pub bad_held : held (step (atomic g) s none).state.store ≡ held s.store
  unfolding step
  bad_held = refl
