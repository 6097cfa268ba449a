-- `write_versions` sweeps over the records. The loop's invariant: the page writes of the records below r are made as far as the count allows.
use mathlib.Core.Path.{◌≡◌}
use Prim.Native.Nat.{◌+◌, ◌*◌, ◌≤◌}
use lib.ListN.{length}
use Rattle.rules.specs.Geometry.{Geometry, records}
use Rattle.rules.specs.Store.{named}
use Rattle.store_write.specs.Phase.{WritesPhase, store_of, stride_of}
use Rattle.store_commit.specs.Phase.{sweep, copies, top_slot}
use Rattle.store_commit.proofs.write_versions.Given as goal

abbrev pub invariant-loop-r : goal.invariant-loop-r
invariant-loop-r l =
    (l.r ≤ l.n) × (length l.store ≡ stride_of l.tears * (1 + (l.n + l.n))) × (l.rest ≤ l.left)
    × ((g : Geometry) → records g ≡ l.n → WritesPhase l.tears l.left (sweep (named g l.map) (copies l.first (top_slot l.work)) l.r) (store_of l.tears l.initial.store) (store_of l.tears l.store) l.rest)
