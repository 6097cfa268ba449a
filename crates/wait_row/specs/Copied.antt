-- A lent list of waiting rows as a plain array.
use Rattle.std.specs.Prelude.{List, ◌++◌, map, ℕ, ◌+◌, ◌*◌, ◌-◌, ◌<◌, length, get_or, take, replicate}
use Rattle.wait_row.specs.declared.Row.{Row}
use Rattle.wait_row.specs.declared.Rows.{Rows}

-- a row as one number: transaction, record and mode, a byte each
abbrev pub word_of : Row → ℕ
word_of r = r.transaction * 65536 + r.«record» * 256 + r.mode

-- the first n rows, and zeros up to 24
unfoldable pub words_to : ℕ → List Row → List ℕ
words_to n rows = take n (map word_of rows) ++ replicate (24 - n) 0

unfoldable pub copied_to : ℕ → List Row → Rows
copied_to n rows = record { words = words_to n rows; count = length rows }

-- at most 24 are taken
unfoldable pub least : ℕ → ℕ
least n = 24 - (24 - n)

-- what is copied: the first 24 rows, the rest zeros, and how many rows there are
unfoldable pub copied_of : List Row → Rows
copied_of rows = copied_to (least (length rows)) rows

-- what an unread place is taken for
abbrev pub zero_row : Row
zero_row = record { transaction = 0; «record» = 0; mode = 0 }

-- the fields are bytes, so that a row can be told from its word
pub record Small (r : Row) : Type 0 where
  pub transaction : r.transaction < 256
  pub rec : r.«record» < 256
  pub mode : r.mode < 256

-- the first n rows are so
abbrev pub Smalls : ℕ → List Row → Type 0
Smalls n rows = (j : ℕ) → j < n → Small (get_or rows j zero_row)

unfoldable pub open_copied : Unit {0}
unfolding words_to copied_to least copied_of
open_copied = tt
