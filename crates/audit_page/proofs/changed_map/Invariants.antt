-- So far the map has a bit for each record below r, set where it was changed.
use mathlib.Core.Path.{◌≡◌}
use Prim.Native.Nat.{◌≤◌}
use Rattle.laws.specs.Tests.{same}
use Rattle.audit_link.specs.Links.{Linked}
use Rattle.history.specs.History.{stands_with, writes_to}
use Rattle.rules.specs.Store.{bits_from}
use Rattle.audit_rules.specs.Plain.{Ledger}
use Rattle.audit_scan.specs.Scans.{writes_up_to}
use Rattle.audit_page.proofs.changed_map.Given as goal

abbrev pub invariant-loop-r : goal.invariant-loop-r
invariant-loop-r v =
    (v.r ≤ 16) × ((l : Ledger) → Linked l v.view.links.now.parent v.view.links.now.fate → v.map ≡ bits_from v.r (λ q. writes_to (λ i. same (stands_with l.story i) v.view.me) q (writes_up_to v.view.owner.now v.view.list.events.now v.view.list.n)))
