-- The sweep hands over place after place.
use Prim.Native.Nat.{◌≤◌}
use lib.ListN.{length}
use Rattle.leaf_set.specs.Sets.{sets}
use Rattle.state_array.specs.Changes.{inheriting}
use Rattle.state_array.proofs.Sweep.{Upto}
use Rattle.state_lock.proofs.inherit.Given as goal

abbrev pub invariant-loop-k : goal.invariant-loop-k
invariant-loop-k l =
    (l.k ≤ length l.held) × Upto (length l.held) (inheriting l.t l.p (sets l.held) (sets l.initial.retained)) l.retained l.initial.retained l.k
