-- The loop collects, number by number, who is live.
use mathlib.Core.Bool.{false, not}
use Prim.Native.Nat.{◌≤◌}
use lib.ListN.{get_or}
use Rattle.laws.specs.Tests.{same}
use Rattle.laws.specs.Bits.{bits}
use Rattle.state_array.proofs.Sweep.{Swept}
use Rattle.state_tree.proofs.live_set.Given as goal

abbrev pub invariant-loop-j : goal.invariant-loop-j
invariant-loop-j l =
    (l.j ≤ 24) × Swept (bits l.m) (λ k. false) (λ u. not (same (get_or l.depth u 0) 0)) l.j
