-- The fields that are compared are those of the event that the word stands for.
use Rattle.laws.specs.Tests.{same}
use Rattle.audit_scan.specs.Scans.{is_any}
use Rattle.audit_scan.proofs.More.{locks_is}
use Rattle.audit_scan.proofs.locks.Goals as goal

pub returns : goal.returns
unfolding same
returns c = rw c.counts.ensures (locks_is c.args.e c.args.r (is_any c.args.modes) c.requires)
