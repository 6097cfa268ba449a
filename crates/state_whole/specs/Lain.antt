-- The engine's state, as the arrays that it stands for, and how long its arrays are.
use Rattle.std.specs.Prelude.{◌≡◌, List, ℕ, ◌*◌, ◌≤◌, length}
use Rattle.state_whole.specs.Whole.{Arrays, arrays}
use Rattle.state_whole.specs.declared.State.{State}

-- a state with the working buffer's and the store's bytes
abbrev pub arrays_in : {records places : ℕ} → State records places → List ℕ → List ℕ → Arrays
arrays_in s work store = arrays s.up s.parent s.depth s.line s.held s.retained s.writers work store

-- at most 64 records; two places for each in held and retained, one in writers; 24 places in the others
abbrev pub WellSized : {records places : ℕ} → State records places → Type 0
WellSized {records} {places} s =
    (records ≤ 64) × (places ≡ 2 * records) × (length s.held ≡ 2 * records) × (length s.retained ≡ 2 * records) × (length s.writers ≡ records)
    × (length s.parent ≡ 24) × (length s.depth ≡ 24) × (length s.line ≡ 24)
