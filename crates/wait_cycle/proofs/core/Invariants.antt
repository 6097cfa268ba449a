-- What is left has every cycle, and falls until all of it is left.
use mathlib.Core.Path.{◌≡◌}
use Rattle.laws.specs.Bits.{bits}
use Rattle.laws.specs.Counting.{count}
use Rattle.rules.specs.Geometry.{transactions}
use Rattle.leaf_set.specs.Sets.{sets}
use Rattle.wait_cycle.specs.Search.{goes_on, Holds}
use Rattle.wait_cycle.proofs.core.Given as goal

abbrev pub invariant-loop-m : goal.invariant-loop-m
invariant-loop-m l = Holds (sets l.points) (bits l.m) × (bits l.next ≡ goes_on (sets l.points) (bits l.m))

abbrev pub decreases-loop-m : goal.decreases-loop-m
decreases-loop-m l = count transactions (bits l.m)
