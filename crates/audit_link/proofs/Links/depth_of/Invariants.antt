-- What is counted so far, with this transaction, and the height above it come to the height of i.
use mathlib.Core.Path.{◌≡◌}
use Prim.Native.Nat.{◌+◌, ◌≤◌, ◌<◌}
use Rattle.audit_link.specs.Links.{entry_at}
use Rattle.audit_rules.specs.Plain.{height}
use Rattle.audit_link.proofs.Links.depth_of.Given as goal

abbrev pub invariant-loop-j : goal.invariant-loop-j
invariant-loop-j l =
    (l.d + height (entry_at l.self.parent) l.at l.at ≡ 1 + height (entry_at l.self.parent) l.i l.i) × (0 < l.at) × (l.at ≤ l.i) × (l.d + l.at ≤ l.i + 1)

abbrev pub decreases-loop-j : goal.decreases-loop-j
decreases-loop-j l = l.at
