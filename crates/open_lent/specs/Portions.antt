-- The promise of a portion: what the caller keeps between two calls, the state that it stands for, and when it is written as a state is.
use Rattle.std.specs.Prelude.{◌≡◌, List, ℕ, replicate}
use Rattle.rules.specs.Step.{StateOf}
use Rattle.rules.specs.Calls.{Call, Promised}
use Rattle.rules.specs.Form.{Form}
use Rattle.state_whole.specs.Whole as state
use Rattle.state_whole.specs.Whole.{Formed}
use Rattle.engine_portion.specs.Portion.{arrays_of}
use Rattle.engine_portion.specs.declared.Engine.{Engine}

-- what is lent as a state, the working buffer and the store
pub record LentState : Type 0 where
  pub engine : Engine
  pub work : List ℕ
  pub store : List ℕ

abbrev pub kept : Engine → List ℕ → List ℕ → LentState
kept engine work store = record { engine = engine; work = work; store = store }

-- the store's bytes
abbrev pub store_bytes_in : LentState → List ℕ
store_bytes_in x = x.store

module _ (f : Form) where
  -- the state that it stands for
  unfoldable pub state_in : LentState → StateOf f
  state_in x = state.view f (arrays_of x.engine x.work x.store)

  -- In the one encoding that a state has: the lengths are right, the lines are those of the parents and depths, who has a lock in write mode has it in any
  -- mode, and every field that carries no information is 0.
  pub record Encoded (x : LentState) : Type 0 where
    pub form : Formed f (arrays_of x.engine x.work x.store)
    pub bare : x.engine.spare ≡ replicate 3 0

-- a call with these buffers on x gave this answer, and left y and these answers
abbrev pub call : LentState → List ℕ → List ℕ → ℕ → LentState → List ℕ → Call LentState
call x events answers answer y answers' =
    record { lent = record { events = events; work = x.work; answers = answers }; answer = answer; after = y; answers = answers' }

-- its promise
abbrev pub PortionedAs : Form → LentState → List ℕ → List ℕ → ℕ → LentState → List ℕ → Type 0
PortionedAs f x events answers answer y answers' = Promised f (state_in f) store_bytes_in (Encoded f) x (call x events answers answer y answers')

-- all zeros
abbrev pub zeros : Engine
zeros = record {
  line = replicate 24 0;
  held = replicate 32 0;
  retained = replicate 32 0;
  writers = replicate 16 0;
  parent = replicate 24 0;
  depth = replicate 24 0;
  up = 0;
  spare = replicate 3 0;
}
