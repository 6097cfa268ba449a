-- As if one transaction at a time, of the calls of any operation that keeps a portion's promise, each on what the last one left.
use Rattle.std.specs.Prelude.{ℕ, ◌≡◌, true, false, List, []}
use Rattle.rules.specs.Form.{Form}
use Rattle.rules.specs.Step.{StateOf}
use Rattle.rules.specs.Calls.{Call, left, joined_of, AllPromised}
use Rattle.history.specs.Demand3.{settled_in}
use Rattle.history.specs.Called.{rows_called, Starts}
use Rattle.claim_serial.specs.OneAtATime.{Replays, in_order, replay}

-- the state and the store's bytes that x stands for; x is written as a state is
module _ (f : Form) {X : Type 0} (view : X → StateOf f) (bytes : X → List ℕ) (proper : X → Type 0) where
  -- of calls from x, and of others from y whose joined list is their replay
  pub record OneCallAtATime (x : X) (cs : List (Call X)) (y : X) (ds : List (Call X)) : Type 0 where
    pub right : f.medium.damaged (f.medium.from_bytes (bytes x)) ≡ false → Replays (in_order f (bytes x) (rows_called f cs)) (rows_called f ds)
    pub or_nothing : f.medium.damaged (f.medium.from_bytes (bytes x)) ≡ true → in_order f (bytes x) (rows_called f cs) ≡ []
    pub records_same : (r : ℕ) → settled_in f (bytes (left y ds)) r ≡ settled_in f (bytes (left x cs)) r

  -- the claim: of all calls from a start that keep the promise, cut in any way
  unfoldable pub OneCallAtATimeHolds : Type 0
  OneCallAtATimeHolds = (x : X) (cs : List (Call X)) → Starts f view bytes proper x → AllPromised f view bytes proper x cs
      → (y : X) (ds : List (Call X)) → Starts f view bytes proper y → AllPromised f view bytes proper y ds
      → bytes y ≡ bytes x → joined_of f ds ≡ replay f (bytes x) (rows_called f cs) → OneCallAtATime x cs y ds
