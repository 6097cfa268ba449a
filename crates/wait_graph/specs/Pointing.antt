-- Pointings in the engine's arrays: sets of transactions.
use Rattle.std.specs.Prelude.{Bool, not, cond, ◌&&◌, ◌||◌, List, Result, Ok, Err, ℕ, zero, suc, ◌/◌, ◌%◌, ◌<◌, get_or}
use Rattle.laws.specs.Tests.{same, under}
use Rattle.laws.specs.Counting.{any}
use Rattle.rules.specs.Geometry.{transactions}
use Rattle.rules.specs.Event.{Access, access_of}
use Rattle.state_array.specs.View.{Owners}
use Rattle.state_array.specs.Kin.{child_in}
use Rattle.state_array.specs.Changes.{barring}
use Rattle.rules.specs.Waiting.{WaitingRow}
use Rattle.wait_graph.specs.declared.RowRefusal.{RowRefusal}
use Rattle.wait_graph.specs.declared.RowRefusal.TheVariants.{BadMode, NotLive, NoRecord}

-- a row in a word: transaction, record and mode, a byte each
abbrev pub row_of : ℕ → WaitingRow
row_of w = record { transaction = w / 65536; rec = w / 256 % 256; mode = w % 256 }

-- who blocks t at a place of the locks
unfoldable pub blockers_at : Owners → Owners → (ℕ → Bool) → ℕ → ℕ → ℕ → Bool
blockers_at held retained above t k b = (not (same b t) && held k b) || (not (above b) && retained k b)

-- who is pointed to, where these block and the waiter's line is above
unfoldable pub pointed_to : Owners → (ℕ → Bool) → (ℕ → Bool) → ℕ → Bool
pointed_to line above by u = any transactions (λ b. by b && ((not (above u) && line b u) || same u b))

-- t waits for the lock of r
unfoldable pub waited_on : Owners → Owners → Owners → Access → ℕ → ℕ → ℕ → Bool
waited_on line held retained a t r = pointed_to line (line t) (blockers_at held retained (line t) t (barring a r))

-- each transaction number points to its live children
abbrev pub child_points : List ℕ → List ℕ → Owners
child_points parent depth t u = under t transactions && child_in parent depth t u

-- one row
unfoldable pub row_in : Owners → Owners → Owners → WaitingRow → ℕ → ℕ → Bool
row_in line held retained w t u = same t w.transaction && waited_on line held retained (access_of w.mode) w.transaction w.rec u

-- rows, beside what else is pointed to
unfoldable pub rows_in : Owners → Owners → Owners → Owners → List ℕ → ℕ → ℕ → ℕ → Bool
rows_in first line held retained words n t u = first t u || any n (λ i. row_in line held retained (row_of (get_or words i 0)) t u)

-- a row whose transaction, record and mode there are
pub record RowInRange (w : WaitingRow) : Type 0 where
  pub transaction : w.transaction < 24
  pub rec : w.rec < 16
  pub mode : w.mode < 2

-- a row's refusal, or 0, by who is live
unfoldable pub row_refusal : (ℕ → Bool) → WaitingRow → ℕ
row_refusal lives w = cond (not (lives w.transaction)) 5 (cond (not (under w.rec 16)) 23 (cond (under 1 w.mode) 1 0))

-- row by row, n rows from i on
unfoldable pub rows_refusal : (ℕ → Bool) → List ℕ → ℕ → ℕ → ℕ
rows_refusal lives words i zero = 0
rows_refusal lives words i (suc n) = cond (same (row_refusal lives (row_of (get_or words i 0))) 0) (rows_refusal lives words (suc i) n) (row_refusal lives (row_of (get_or words i 0)))

-- the number of a refusal
unfoldable pub number_of_refusal : RowRefusal → ℕ
number_of_refusal BadMode = 1
number_of_refusal NotLive = 5
number_of_refusal NoRecord = 23

-- what a check of rows answers: 0 where they are taken
unfoldable pub refused_with : Result (Unit {0}) RowRefusal → ℕ
refused_with (Ok u) = 0
refused_with (Err r) = number_of_refusal r
