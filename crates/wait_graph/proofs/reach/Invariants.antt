-- One that may block after the other.
use mathlib.Core.Path.{◌≡◌}
use Prim.Native.Nat.{◌≤◌}
use Rattle.laws.specs.Bits.{bits}
use Rattle.leaf_set.specs.Sets.{sets}
use Rattle.wait_graph.proofs.Reaching.{reached_to}
use Rattle.wait_graph.proofs.reach.Given as goal

abbrev pub invariant-loop-b : goal.invariant-loop-b
invariant-loop-b l = (l.b ≤ 24) × (bits l.m ≡ reached_to l.b (sets l.line) (bits l.above) (bits l.by))
