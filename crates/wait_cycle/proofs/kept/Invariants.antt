-- Number by number.
use mathlib.Core.Bool.{false}
use Prim.Native.Nat.{◌≤◌}
use Rattle.laws.specs.Bits.{bits}
use Rattle.leaf_set.specs.Sets.{sets}
use Rattle.state_array.proofs.Sweep.{Swept}
use Rattle.wait_cycle.specs.Search.{goes_on}
use Rattle.wait_cycle.proofs.kept.Given as goal

abbrev pub invariant-loop-t : goal.invariant-loop-t
invariant-loop-t l = (l.t ≤ 24) × Swept (bits l.k) (λ u. false) (goes_on (sets l.points) (bits l.m)) l.t
