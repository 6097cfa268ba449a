-- The first row that is refused.
use mathlib.Core.Path.{◌≡◌}
use Prim.Native.Nat.{ℕ, ◌-◌, ◌<◌, ◌≤◌}
use lib.ListN.{length, get_or}
use Rattle.state_array.specs.Kin.{lives_in}
use Rattle.wait_graph.specs.Pointing.{row_of, rows_refusal, RowInRange}
use Rattle.wait_graph.proofs.check_rows.Given as goal

abbrev pub invariant-loop-w : goal.invariant-loop-w
invariant-loop-w l =
    (l.w-index ≤ length l.words)
    × (rows_refusal (lives_in l.depth) l.words 0 (length l.words) ≡ rows_refusal (lives_in l.depth) l.words l.w-index (length l.words - l.w-index))
    × ((j : ℕ) → j < l.w-index → RowInRange (row_of (get_or l.words j 0)))
