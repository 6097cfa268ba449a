-- `bring_all_home` sweeps over the records. The loop's invariant: the page writes of the records below r are made as far as the count
-- allows, and the commit page and the intention pages are as they were, so that the next page that goes home is the one of the start.
use mathlib.Core.Path.{◌≡◌}
use Prim.Native.Nat.{◌+◌, ◌*◌, ◌≤◌}
use lib.ListN.{length}
use Rattle.rules.specs.Geometry.{Geometry, records}
use Rattle.rules.specs.Store.{named}
use Rattle.store_write.specs.Phase.{WritesPhase, store_of, stride_of, shown_in}
use Rattle.store_commit.specs.Phase.{sweep, copies}
use Rattle.store_commit.proofs.Sweeps.{Kept}
use Rattle.store_commit.proofs.bring_all_home.Given as goal

abbrev pub invariant-loop-r : goal.invariant-loop-r
invariant-loop-r l =
    (l.r ≤ l.n) × (length l.store ≡ stride_of l.tears * (1 + (l.n + l.n))) × (l.rest ≤ l.left)
    × ((g : Geometry) → records g ≡ l.n
    → Kept l.tears (1 + l.n) (store_of l.tears l.initial.store) (store_of l.tears l.store)
    × WritesPhase l.tears l.left (sweep (named g l.map) (copies (1 + l.n) (λ j. shown_in l.tears (store_of l.tears l.initial.store) (1 + j))) l.r) (store_of l.tears l.initial.store) (store_of l.tears l.store) l.rest)
