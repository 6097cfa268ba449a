-- By whether there is one.
use mathlib.Core.Path.{sym, refl}
use native.Mathlib.Omega.{arith}
use Rattle.audit_link.specs.Links.{one_of}
use Rattle.audit_link.proofs.one.Goals as goal

pub returns-then-entry-eq0 : goal.returns-then-entry-eq0
unfolding one_of
returns-then-entry-eq0 c = (sym c.if-entry-eq0.true, tt)

pub returns : goal.returns
unfolding one_of
returns c = (refl, omega arith)
