-- By which modes count.
use mathlib.Core.Path.{refl}
use Rattle.laws.specs.Tests.{same}
use Rattle.audit_scan.specs.Scans.{is_any}
use Rattle.audit_scan.proofs.Modes.counts.Goals as goal

pub returns-in-Any : goal.returns-in-Any
unfolding is_any
returns-in-Any c = rw c.in-Any.is refl

pub returns-in-Writing : goal.returns-in-Writing
unfolding is_any same
returns-in-Writing c = rw c.in-Writing.is refl
