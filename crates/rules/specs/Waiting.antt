-- Transactions that wait for each other (document 02, L8): who blocks a lock, who points to whom (the wait-for graph), what a cycle is (a ring of
-- pointings), when the report is refused, and what it shows.
use Rattle.std.specs.Prelude.{◌≡◌, Bool, true, false, not, ◌&&◌, ◌||◌, List, [], ◌∷◌, ◌++◌, ℕ, ◌-◌, ◌≤◌, length, replicate}
use Rattle.laws.specs.Tests.{same, under}
use Rattle.laws.specs.Counting.{any}
use Rattle.rules.specs.Geometry.{records, transactions}
use Rattle.rules.specs.Event.{Access, access_of}
use Rattle.rules.specs.State.{State, live, line_of, mem, parent_in}
use Rattle.rules.specs.Locks.{bars}
use Rattle.rules.specs.Form.{Form}
use Rattle.rules.specs.Step.{StateOf}

-- a transaction waits for the lock of a record, with mode 0 to write, 1 to read
pub record WaitingRow : Type 0 where
  pub transaction : ℕ
  pub rec : ℕ
  pub mode : ℕ

abbrev pub most_rows : ℕ
most_rows = 24

-- the first points to the second
abbrev pub Pointings : Type 0
Pointings = ℕ → ℕ → Bool

module _ {S : Type 0} (s : State S) where
  -- b blocks w from the lock of record r: it holds it in a mode that bars and is not w, or retains it so and is neither w nor an ancestor of w
  unfoldable pub blocks : Access → ℕ → ℕ → ℕ → Bool
  blocks a w r b = (not (same b w) && bars a (s.held r b)) || (not (mem b (line_of s.bearer w)) && bars a (s.retained r b))

  -- who waits points to each that blocks it, and to that one's ancestors which are neither the waiter nor its ancestors
  unfoldable pub waits_for : Access → ℕ → ℕ → ℕ → Bool
  waits_for a w r u = any transactions (λ b. blocks a w r b && ((not (mem u (line_of s.bearer w)) && mem u (line_of s.bearer b)) || same u b))

  unfoldable pub row_points : WaitingRow → Pointings
  row_points w t u = same t w.transaction && waits_for (access_of w.mode) w.transaction w.rec u

  -- every live transaction points to its live children
  unfoldable pub is_child : Pointings
  is_child t u = live s t && (live s u && same (parent_in (s.bearer u)) t)

  unfoldable pub points_to : List WaitingRow → Pointings
  points_to [] t u = is_child t u
  points_to (w ∷ ws) t u = row_points w t u || points_to ws t u

-- from a, through each of l in order, to z
unfoldable pub leads : Pointings → ℕ → List ℕ → ℕ → Bool
leads p a [] z = p a z
leads p a (x ∷ l) z = p a x && leads p x l z

-- none stands in the list twice
unfoldable pub distinct : List ℕ → Bool
distinct [] = true
distinct (x ∷ l) = not (mem x l) && distinct l

-- each points to the next, the last to the first, and none stands there twice
unfoldable pub is_cycle : Pointings → List ℕ → Bool
is_cycle p [] = false
is_cycle p (x ∷ l) = distinct (x ∷ l) && leads p x l x

-- What the report shows, as a length and the bytes of a ring: there is no cycle, or this is one, with zeros after.
pub data Found (p : Pointings) (n : ℕ) (ring : List ℕ) : Type 0 where
  acyclic : ((l : List ℕ) → is_cycle p l ≡ false) → n ≡ 0 → ring ≡ replicate transactions 0 → Found p n ring
  cyclic : (l : List ℕ) → is_cycle p l ≡ true → length l ≤ transactions → n ≡ length l → ring ≡ l ++ replicate (transactions - length l) 0 → Found p n ring

module _ (f : Form) (s : StateOf f) where
  -- a row's refusals: its transaction isn't live, there is no such record, no such mode
  unfoldable pub row_refusals : WaitingRow → List (ℕ × Bool)
  row_refusals w =
      (5, not (live s w.transaction)) ∷
      (23, not (under w.rec (records f.geometry))) ∷
      (1, under 1 w.mode) ∷
      []

  -- row by row
  unfoldable pub rows_refusals : List WaitingRow → List (ℕ × Bool)
  rows_refusals [] = []
  rows_refusals (w ∷ ws) = row_refusals w ++ rows_refusals ws

  -- in the order in which they are tried: the state isn't sound, there are too many rows, and then row by row
  unfoldable pub report_refusals : Bool → List WaitingRow → List (ℕ × Bool)
  report_refusals sound rows =
      (25, not sound) ∷
      (26, under most_rows (length rows)) ∷
      rows_refusals rows

-- opens the definitions of this module: for what is proved by computing
unfoldable pub open_waiting : Unit {0}
unfolding blocks waits_for row_points is_child points_to leads distinct is_cycle row_refusals rows_refusals report_refusals
open_waiting = tt
