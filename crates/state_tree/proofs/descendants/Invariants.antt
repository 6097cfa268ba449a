-- The loop collects, number by number, who has t on its line.
use mathlib.Core.Bool.{false}
use Prim.Native.Nat.{◌≤◌}
use Rattle.state_array.proofs.Sweep.{Swept}
use Rattle.laws.specs.Bits.{bits}
use Rattle.leaf_set.specs.Sets.{sets}
use Rattle.state_tree.proofs.descendants.Given as goal

abbrev pub invariant-loop-j : goal.invariant-loop-j
invariant-loop-j l =
    (l.j ≤ 24) × Swept (bits l.m) (λ k. false) (λ u. sets l.line u l.t) l.j
