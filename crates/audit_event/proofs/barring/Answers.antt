-- By whether write mode is asked for.
use mathlib.Core.Path.{sym, refl}
use Rattle.laws.proofs.Tests.{same_refl, ne_false}
use Rattle.audit_scan.specs.Scans.{is_any}
use Rattle.audit_event.proofs.barring.Goals as goal

pub returns-then-value-eq0 : goal.returns-then-value-eq0
unfolding is_any
returns-then-value-eq0 c = rw (c.if-value-eq0.true, same_refl 0) refl

pub returns : goal.returns
unfolding is_any
returns c = sym (ne_false c.args.value 0 c.if-value-eq0.false)
