-- The sweep takes those that are gone out of place after place.
use Prim.Native.Nat.{◌≤◌}
use Rattle.laws.specs.Bits.{bits}
use Rattle.leaf_set.specs.Sets.{sets}
use Rattle.state_array.specs.Changes.{leaving}
use Rattle.state_array.proofs.Sweep.{Upto}
use Rattle.state_lock.proofs.leave.Given as goal

abbrev pub invariant-loop-place : goal.invariant-loop-place
invariant-loop-place l =
    (l.place-index ≤ l.n) × Upto l.n (leaving (bits l.gone) (sets l.initial.s)) l.s l.initial.s l.place-index
