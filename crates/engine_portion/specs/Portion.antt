-- The arrays of a state that is lent; and the engine's state, as it is lent.
use Rattle.std.specs.Prelude.{List, ℕ}
use Rattle.state_whole.specs.Whole.{Arrays, arrays}
use Rattle.state_whole.specs.declared.State.{State}
use Rattle.engine_portion.specs.declared.Engine.{Engine}

abbrev pub arrays_of : Engine → List ℕ → List ℕ → Arrays
arrays_of e work store = arrays e.up e.parent e.depth e.line e.held e.retained e.writers work store

-- the state that is lent, without its spare bytes
abbrev pub state_lent : Engine → State 16 32
state_lent e = record { line = e.line; held = e.held; retained = e.retained; writers = e.writers; parent = e.parent; depth = e.depth; up = e.up }

-- a state as it is lent, with spare bytes
abbrev pub lent_as : State 16 32 → List ℕ → Engine
lent_as s spare = record { line = s.line; held = s.held; retained = s.retained; writers = s.writers; parent = s.parent; depth = s.depth; up = s.up; spare = spare }
