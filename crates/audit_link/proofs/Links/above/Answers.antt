-- The entry of i, which is earlier than i.
use native.Mathlib.Omega.{arith}
use Rattle.audit_link.specs.Links.{entry_at}
use Rattle.audit_link.proofs.Links.above.Goals as goal

pub returns : goal.returns
unfolding entry_at
returns c = let e = c.one.ensures in (e.0, omega (arith, e.0, c.requires.1 c.args.i), e.1)
