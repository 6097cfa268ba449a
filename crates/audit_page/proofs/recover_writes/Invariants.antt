-- `recover_writes` has the two phases of a recovery; over an empty commit page it writes nothing. The loop's invariant: the page writes of the records
-- below r are made as far as the count allows, and the pages up to the last intention page are as they were.
use mathlib.Core.Bool.{false}
use mathlib.Core.Path.{◌≡◌}
use Prim.Native.Nat.{◌+◌, ◌≤◌}
use lib.ListN.{length}
use Rattle.rules.specs.Store.{pages_of, named}
use Rattle.rules.specs.Editions.{geometry1}
use Rattle.store_write.specs.Phase.{WritesPhase}
use Rattle.store_commit.specs.Phase.{sweep, copies}
use Rattle.store_commit.proofs.Sweeps.{Kept}
use Rattle.audit_page.proofs.recover_writes.Given as goal

abbrev pub invariant-loop-r : goal.invariant-loop-r
invariant-loop-r l =
    (l.r ≤ 16) × (length l.store ≡ 1056) × Kept false 17 (pages_of l.initial.store) (pages_of l.store) × WritesPhase false l.k (sweep (named geometry1 l.map) (copies 17 (λ j. pages_of l.initial.store (1 + j))) l.r) (pages_of l.initial.store) (pages_of l.store) l.rest
