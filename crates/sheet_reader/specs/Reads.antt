-- What the readers promise.
use Rattle.std.specs.Prelude.{◌≡◌, List, ℕ, ◌≤◌, ◌<◌, length, Ok, Err}
use Rattle.std.specs.declared.result.Result.{Result}
use Rattle.sheet_text.specs.Sheet.{Sheet, events, Taken, Fault}
use Rattle.sheet_text.specs.Scan.{Scan, Stands, Stuck}
use Rattle.sheet_reader.specs.declared.Cursor.{Cursor}
use Rattle.sheet_reader.specs.declared.BadByte.{BadByte}

-- from `at` the reading has come further, and stands as q says of the events that are free
pub record Read (s : List ℕ) (at : ℕ) (q : ℕ → Scan) (c : Cursor) : Type 0 where
  pub further : at < c.at
  pub within : c.at ≤ length s
  pub stands : Stands s c.at (q c.room)

abbrev pub Reads : List ℕ → ℕ → (ℕ → Scan) → Result Cursor BadByte → Type 0
Reads s at q (Ok c) = Read s at q c
Reads s at q (Err b) = Stuck s b.at

-- the text of a taken sheet with n events
pub record Whole (s : List ℕ) (n : ℕ) : Type 0 where
  pub sheet : Sheet
  pub taken : Taken s sheet
  pub long : length (events sheet) ≡ n

-- what a check says of a text
abbrev pub Checks : List ℕ → Result ℕ BadByte → Type 0
Checks s (Ok n) = Whole s n
Checks s (Err b) = Fault s b.at
