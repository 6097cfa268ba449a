-- By what is asked for: the locks, or the data.
use Rattle.audit_link.specs.Links.{open_links}
use Rattle.audit_link.proofs.Ways.{committed_is}
use Rattle.laws.specs.Tests.{same, open_tests}
use mathlib.Core.Path.{refl}
use Rattle.audit_link.proofs.goes_up.Goals as goal

pub returns-in-Locks : goal.returns-in-Locks
unfolding open_links open_tests
returns-in-Locks c = rw c.in-Locks.is refl

pub returns-in-Data : goal.returns-in-Data
unfolding open_links same
returns-in-Data c = rw c.in-Data.is (committed_is c.args.f)
