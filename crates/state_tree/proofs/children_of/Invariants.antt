-- The loop puts number after number into the set of its parent. Seen from one parent, its set is filled in order.
use mathlib.Core.Path.{◌≡◌}
use mathlib.Core.Bool.{false, not, ◌&&◌}
use Prim.Native.Nat.{ℕ, ◌≤◌}
use lib.ListN.{length, get_or}
use Rattle.laws.specs.Tests.{same}
use Rattle.leaf_set.specs.Sets.{sets}
use Rattle.state_array.proofs.Sweep.{Swept}
use Rattle.state_tree.proofs.children_of.Given as goal

abbrev pub invariant-loop-j : goal.invariant-loop-j
invariant-loop-j l =
    (l.j ≤ 24) × (length l.children ≡ 32) × ((q : ℕ) → Swept (sets l.children q) (λ k. false) (λ u. not (same (get_or l.depth u 0) 0) && same (get_or l.parent u 0) q) l.j)
