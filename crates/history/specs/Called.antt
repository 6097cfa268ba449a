-- Demand 3, the central law and what crashes leave, of the calls of any operation that keeps a portion's promise, each on what the last one left: in
-- the bytes that went in and came out.
use Rattle.std.specs.Prelude.{ℕ, ◌≡◌, true, List, length}
use Rattle.rules.specs.State.{down}
use Rattle.rules.specs.Form.{Form}
use Rattle.rules.specs.Step.{StateOf}
use Rattle.rules.specs.Calls.{Call, left, joined_of, answers_of, AllPromised}
use Rattle.history.specs.History.{History}
use Rattle.history.specs.Claims.{restarts, state_after, history_after, ReadsOverlay}
use Rattle.history.specs.Demand3.{Row, rows, history, SurvivingOverlay, IndependentOfLostWrites, settled_in, start_of}

module _ (f : Form) {X : Type 0} where
  -- the events of the calls that answered 0, each with its two answer bytes
  unfoldable pub rows_called : List (Call X) → List Row
  rows_called cs = rows (joined_of f cs) (answers_of f cs)

  -- from a start with these store bytes
  unfoldable pub history_called : List ℕ → List (Call X) → History
  history_called store cs = history f.geometry (start_of f store) (rows_called cs)

  -- the state and the store's bytes that x stands for; x is written as a state is
  module _ (view : X → StateOf f) (bytes : X → List ℕ) (proper : X → Type 0) where
    -- a start, over a store of the right length
    pub record Starts (x : X) : Type 0 where
      pub at_start : view x ≡ down (f.medium.from_bytes (bytes x))
      pub written : proper x
      pub sized : length (bytes x) ≡ f.medium.size

    -- DEMAND 3, of these calls from x.
    pub record Demand3Called (x : X) (cs : List (Call X)) : Type 0 where
      pub surviving_writes : SurvivingOverlay (settled_in f (bytes x)) (history_called (bytes x) cs) (settled_in f (bytes (left x cs)))
      -- other calls from a start over the same store bytes, cut in any other way
      pub two_chains : (y : X) (ds : List (Call X)) → Starts y → bytes y ≡ bytes x → AllPromised f view bytes proper y ds
          → IndependentOfLostWrites f.geometry (start_of f (bytes x))
          (rows_called cs) (settled_in f (bytes (left x cs)))
          (rows_called ds) (settled_in f (bytes (left y ds)))

    -- the claim: of all calls from a start that keep the promise
    unfoldable pub Demand3CalledHolds : Type 0
    Demand3CalledHolds = (x : X) (cs : List (Call X)) → Starts x → AllPromised f view bytes proper x cs → Demand3Called x cs

    -- THE CENTRAL LAW, of what the calls from x left: their state and their history are those of the joined list, of which the law holds.
    pub record ReadsCalled (x : X) (cs : List (Call X)) : Type 0 where
      pub state_is : view (left x cs) ≡ state_after f (bytes x) (joined_of f cs)
      pub history_is : history_called (bytes x) cs ≡ history_after f (bytes x) (joined_of f cs)
      pub overlay : ReadsOverlay f (bytes x) (joined_of f cs)

    -- After more calls with crashes and recoveries only, also cut ones, the settled records are the start's, overlaid with the writes of those that had
    -- survived before.
    unfoldable pub CommitSurvivesCalled : X → List (Call X) → Type 0
    CommitSurvivesCalled x cs = (ds : List (Call X)) → AllPromised f view bytes proper (left x cs) ds → restarts f.geometry (joined_of f ds) ≡ true
        → SurvivingOverlay (settled_in f (bytes x)) (history_called (bytes x) cs) (settled_in f (bytes (left (left x cs) ds)))
