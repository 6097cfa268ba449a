-- So far the page has the writes laid over it that show, of the events before k.
use mathlib.Core.Path.{◌≡◌}
use Prim.Native.Nat.{◌≤◌}
use Rattle.history.specs.History.{overlaid}
use Rattle.audit_rules.specs.Plain.{Ledger}
use Rattle.audit_link.specs.Links.{Linked, shows_to}
use Rattle.audit_scan.specs.Scans.{writes_up_to}
use Rattle.audit_scan.proofs.View.page_of.Given as goal

abbrev pub invariant-loop-k : goal.invariant-loop-k
invariant-loop-k v =
    (v.k ≤ v.self.list.n) × ((l : Ledger) → Linked l v.self.links.now.parent v.self.links.now.fate → v.page ≡ overlaid (shows_to l v.self.me) v.r (writes_up_to v.self.owner.now v.self.list.events.now v.k) v.initial.page)
