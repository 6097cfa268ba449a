-- `write_records` sweeps over the sixteen records. The loop's invariant: the page writes of the records below r are made as far as the count allows.
use mathlib.Core.Bool.{false}
use mathlib.Core.Path.{◌≡◌}
use Prim.Native.Nat.{◌≤◌}
use lib.ListN.{length}
use Rattle.rules.specs.Store.{pages_of, named}
use Rattle.rules.specs.Editions.{geometry1}
use Rattle.audit_rules.specs.Plain.{Ledger}
use Rattle.audit_link.specs.Links.{Linked}
use Rattle.store_write.specs.Phase.{WritesPhase}
use Rattle.store_commit.specs.Phase.{sweep, copies}
use Rattle.audit_page.specs.Changed.{changed_page}
use Rattle.audit_page.proofs.write_records.Given as goal

abbrev pub invariant-loop-r : goal.invariant-loop-r
invariant-loop-r v =
    (v.r ≤ 16) × (length v.store ≡ 1056) × ((l : Ledger) → Linked l v.view.links.now.parent v.view.links.now.fate → WritesPhase false v.left (sweep (named geometry1 v.map) (copies v.first (changed_page l v.start v.view.owner.now v.view.list.events.now v.view.list.n v.view.me)) v.r) (pages_of v.initial.store) (pages_of v.store) v.rest)
