-- The sweep over the records lifts one row after the other.
use mathlib.Core.Path.{◌≡◌}
use Prim.Native.Nat.{◌*◌, ◌≤◌}
use lib.ListN.{length}
use Rattle.leaf_set.specs.Sets.{sets}
use Rattle.rules.specs.Store.{pages_of}
use Rattle.rules.specs.Editions.{depths}
use Rattle.state_array.specs.Changes.{handed}
use Rattle.state_array.proofs.Sweep.{Swept, Upto}
use Rattle.state_version.specs.Parts.{lifted}
use Rattle.state_version.proofs.hand_up.Given as goal

abbrev pub invariant-loop-r : goal.invariant-loop-r
invariant-loop-r l =
    (l.r ≤ l.n) × (length l.work ≡ 512 * l.n) × Upto l.n (handed l.t l.p (sets l.initial.writers)) l.writers l.initial.writers l.r × Swept (pages_of l.work) (pages_of l.initial.work) (lifted (sets l.initial.writers) l.t l.d (pages_of l.initial.work)) (l.r * depths)
