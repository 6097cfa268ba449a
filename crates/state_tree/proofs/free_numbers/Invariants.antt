-- The sweep over the 24 numbers frees those that are gone.
use Prim.Native.Nat.{◌≤◌}
use Rattle.state_array.proofs.Sweep.{Clearing}
use Rattle.laws.specs.Bits.{bits}
use Rattle.state_tree.proofs.free_numbers.Given as goal

abbrev pub invariant-loop-j : goal.invariant-loop-j
invariant-loop-j l =
    (l.j ≤ 24) × Clearing (bits l.gone) l.parent l.initial.parent l.j × Clearing (bits l.gone) l.depth l.initial.depth l.j × Clearing (bits l.gone) l.line l.initial.line l.j
