-- A portion of events, by the rules' play.
use Rattle.std.specs.Prelude.{◌≡◌, List, ◌++◌, ℕ, ◌*◌, drop}
use Rattle.rules.specs.Form.{Form}
use Rattle.rules.specs.Run.{Played, words, answer_bytes, play, events_in}
use Rattle.state_whole.specs.Whole.{Arrays, view, Intact}

module _ (f : Form) where
  -- what the rules make of the events
  unfoldable pub played : Arrays → List ℕ → Played f
  played x events = play f (view f x) (words f.geometry (events_in f events) events)

  -- The events have been played, from x to y: the end state, the answers with the bytes past the last event as they were, and the store's bytes.
  pub record PortionPlayed (x : Arrays) (events answers : List ℕ) (y : Arrays) (answers' : List ℕ) : Type 0 where
    pub state : view f y ≡ (played x events).state
    pub intact : Intact f y
    pub answered : answers' ≡ answer_bytes (played x events).answers ++ drop (2 * events_in f events) answers
    pub store : y.store ≡ f.medium.to_bytes (played x events).state.store
