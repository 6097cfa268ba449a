-- Calls of a portion, each on what the last one left, from the start. In edition 1, and where pages tear: all that follows is said of a form.
use Rattle.std.specs.Prelude.{◌≡◌, true, false, List, [], ◌≢◌, ℕ, ◌*◌, length, take}
use Rattle.rules.specs.State.{mem}
use Rattle.rules.specs.Run.{events_in, run}
use Rattle.rules.specs.Sound.{Sound}
use Rattle.rules.specs.Portion.{all_events, all_zero, AllFit, Fits}
use Rattle.rules.specs.Calls.{Call, lents, results, left, joined_of, answers_of, Promised, AllPromised}
use Rattle.rules.specs.Form.{Form}
use Rattle.rules.specs.Editions.{work_bytes}
use Rattle.history.specs.Called.{rows_called, Demand3Called, ReadsCalled, CommitSurvivesCalled}
use Rattle.claim_serial.specs.OneAtATime.{replay}
use Rattle.claim_serial.specs.Called.{OneCallAtATime}
use Rattle.open_lent.specs.Portions.{LentState, kept, state_in, store_bytes_in, Encoded, zeros}

module _ (f : Form) where
  -- A CALL SINGLES OUT its answer and every byte but those of the working buffer: two calls on x with the same buffers.
  pub record AlikeCalls (c d : Call LentState) : Type 0 where
    pub answer : c.answer ≡ d.answer
    pub engine : c.after.engine ≡ d.after.engine
    pub store : c.after.store ≡ d.after.store
    pub answers : c.answers ≡ d.answers
    -- of the working buffer the live versions
    pub state : state_in f c.after ≡ state_in f d.after

  unfoldable pub SingledOut : Type 0
  SingledOut = (x : LentState) (c d : Call LentState) → c.lent ≡ d.lent → Promised f (state_in f) store_bytes_in (Encoded f) x c → Promised f (state_in f) store_bytes_in (Encoded f) x d → AlikeCalls c d

  -- THE STRUCT IS A FUNCTION OF THE STATE: what is written as a state is, and stands for the same sound state, is the same in every byte.
  unfoldable pub WrittenOneWay : Type 0
  WrittenOneWay = (x y : LentState) → Encoded f x → Encoded f y → Sound f (state_in f x) → state_in f x ≡ state_in f y → x.engine ≡ y.engine

  -- A REFUSED CALL leaves every byte: of the state, the working buffer, the store and the answers.
  unfoldable pub RefusedUntouched : Type 0
  RefusedUntouched = (x : LentState) (c : Call LentState) → Promised f (state_in f) store_bytes_in (Encoded f) x c → c.answer ≢ 0 → (c.after ≡ x) × (c.answers ≡ c.lent.answers)

  -- AN EMPTY PORTION of a sound state answers 0, and all but the working buffer stays; of that the live versions stay.
  pub record LeftAlone (x : LentState) (c : Call LentState) : Type 0 where
    pub answer : c.answer ≡ 0
    pub engine : c.after.engine ≡ x.engine
    pub store : c.after.store ≡ x.store
    pub answers : c.answers ≡ c.lent.answers
    pub state : state_in f c.after ≡ state_in f x

  unfoldable pub EmptyTaken : Type 0
  EmptyTaken = (x : LentState) (c : Call LentState) → Encoded f x → Sound f (state_in f x) → c.lent.events ≡ [] → length c.lent.work ≡ work_bytes
      → Promised f (state_in f) store_bytes_in (Encoded f) x c → LeftAlone x c

  -- calls from all zeros, over a store and a working buffer of the right length
  pub record FromStart (work store : List ℕ) (cs : List (Call LentState)) : Type 0 where
    pub stores : length store ≡ f.medium.size
    pub works : length work ≡ work_bytes
    pub calls : AllPromised f (state_in f) store_bytes_in (Encoded f) (kept zeros work store) cs

  -- what holds of them: none is refused with 25; over the joined list demand 3, and that all is as if one transaction came at a time; the central law of
  -- what they left, and what is settled after more calls with crashes and recoveries only
  pub record CalledWell (work store : List ℕ) (cs : List (Call LentState)) : Type 0 where
    pub never_25 : mem 25 (results cs) ≡ false
    pub demand_3 : Demand3Called f (state_in f) store_bytes_in (Encoded f) (kept zeros work store) cs
    -- other calls, whose joined list is the replay
    pub one_at_a_time : (work' : List ℕ) (ds : List (Call LentState)) → FromStart work' store ds → joined_of f ds ≡ replay f store (rows_called f cs)
        → OneCallAtATime f (state_in f) store_bytes_in (Encoded f) (kept zeros work store) cs (kept zeros work' store) ds
    pub reads : ReadsCalled f (state_in f) store_bytes_in (Encoded f) (kept zeros work store) cs
    pub crashes : CommitSurvivesCalled f (state_in f) store_bytes_in (Encoded f) (kept zeros work store) cs

  unfoldable pub CallsHold : Type 0
  CallsHold = (work store : List ℕ) (cs : List (Call LentState)) → FromStart work store cs → CalledWell work store cs

  -- CUTTING A LIST ANYWHERE gives the answers and the store of its whole run, and the state of one call with the whole list.
  pub record AsRun (work store : List ℕ) (cs : List (Call LentState)) (one : Call LentState) : Type 0 where
    pub played : all_zero (results cs) ≡ true
    pub same_answers : answers_of f cs ≡ take (2 * events_in f (all_events (lents cs))) (run f store (all_events (lents cs)) one.lent.work one.lent.answers).answers
    pub same_store : (left (kept zeros work store) cs).store ≡ (run f store (all_events (lents cs)) one.lent.work one.lent.answers).store
    pub same_engine : (left (kept zeros work store) cs).engine ≡ one.after.engine
    pub same_state : state_in f (left (kept zeros work store) cs) ≡ state_in f one.after

  unfoldable pub CutAnywhere : Type 0
  CutAnywhere = (work store : List ℕ) (cs : List (Call LentState)) → FromStart work store cs → AllFit f (lents cs)
      → (one : Call LentState) → one.lent.events ≡ all_events (lents cs) → Fits f one.lent
      → Promised f (state_in f) store_bytes_in (Encoded f) (kept zeros one.lent.work store) one → AsRun work store cs one
