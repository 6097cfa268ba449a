-- The walk goes up until it meets a writer or nobody is left; it has steps enough for any depth. Where there is no writer, nobody is left at once.
use Prim.Native.Nat.{◌≤◌}
use Rattle.rules.specs.Editions.{depths}
use Rattle.state_version.proofs.Walk.{Walk}
use Rattle.state_version.proofs.source.Given as goal

abbrev pub invariant-loop-n : goal.invariant-loop-n
invariant-loop-n l = (l.n ≤ depths) × Walk l.parent l.depth l.w l.start l.c l.n
