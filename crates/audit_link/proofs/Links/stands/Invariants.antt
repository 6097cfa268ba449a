-- The way from here ends where the way from i does.
use mathlib.Core.Path.{◌≡◌}
use Prim.Native.Nat.{◌≤◌}
use Rattle.audit_link.specs.Links.{entry_at, up_in, is_locks}
use Rattle.audit_rules.specs.Plain.{rises}
use Rattle.audit_link.proofs.Links.stands.Given as goal

abbrev pub invariant-loop-left : goal.invariant-loop-left
invariant-loop-left l =
    (rises (entry_at l.self.parent) (up_in l.self.fate (is_locks l.left)) l.at l.at ≡ rises (entry_at l.self.parent) (up_in l.self.fate (is_locks l.left)) l.i l.i) × (l.at ≤ l.i)

abbrev pub decreases-loop-left : goal.decreases-loop-left
decreases-loop-left l = l.at
