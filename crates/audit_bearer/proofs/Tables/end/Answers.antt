-- Two entries are set, and the others stay.
use native.Mathlib.Omega.{arith}
use Rattle.audit_bearer.proofs.Tables.end.Goals as goal

pub bounds-self-i : goal.bounds-self-i
bounds-self-i c = omega (arith, c.requires.1 c.args.t, c.requires.3)
