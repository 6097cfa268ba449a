-- Row by row.
use Prim.Native.Nat.{◌≤◌}
use lib.ListN.{length}
use Rattle.leaf_set.specs.Sets.{sets}
use Rattle.state_array.specs.Changes.{Rows}
use Rattle.wait_graph.specs.Pointing.{child_points, rows_in}
use Rattle.wait_graph.proofs.pointings.Given as goal

abbrev pub invariant-loop-w : goal.invariant-loop-w
invariant-loop-w l = (l.w-index ≤ length l.words) × Rows 24 (rows_in (child_points l.parent l.depth) (sets l.line) (sets l.held) (sets l.retained) l.words l.w-index) l.points
