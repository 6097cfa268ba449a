-- The path grows within the core until one comes again: the numbers seen are as many as its steps.
use Prim.Native.Nat.{◌-◌}
use Rattle.laws.specs.Bits.{bits}
use Rattle.leaf_set.specs.Sets.{sets}
use Rattle.wait_cycle.proofs.Walking.{Going}
use Rattle.wait_cycle.proofs.walk.Given as goal

abbrev pub invariant-loop-path : goal.invariant-loop-path
invariant-loop-path l = Going (sets l.points) (bits l.core) l.path l.seen l.n l.t

abbrev pub decreases-loop-path : goal.decreases-loop-path
decreases-loop-path l = 24 - l.n
