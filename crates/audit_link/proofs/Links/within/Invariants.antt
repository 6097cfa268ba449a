-- Whether a lies on the way from here is whether it lies on the way from i.
use mathlib.Core.Path.{◌≡◌}
use mathlib.Core.Bool.{not, ◌&&◌}
use Prim.Native.Nat.{◌≤◌}
use Rattle.audit_link.specs.Links.{entry_at}
use Rattle.history.specs.History.{climbs}
use Rattle.laws.specs.Tests.{same}
use Rattle.audit_link.proofs.Links.within.Given as goal

abbrev pub invariant-loop-at : goal.invariant-loop-at
invariant-loop-at l =
    ((not (same l.a 0) && climbs (entry_at l.self.parent) l.at l.a l.at) ≡ (not (same l.a 0) && climbs (entry_at l.self.parent) l.i l.a l.i)) × (l.at ≤ l.i)

abbrev pub decreases-loop-at : goal.decreases-loop-at
decreases-loop-at l = l.at
