-- The fields that are compared are those of the event that the word stands for.
use Rattle.laws.specs.Tests.{same}
use Rattle.laws.proofs.Tests.{same-eq}
use Rattle.laws.proofs.Booleans.{and_left}
use Rattle.audit_scan.proofs.More.{writes_is}
use Rattle.audit_scan.proofs.writes.Goals as goal

pub returns : goal.returns
unfolding same
returns c = (writes_is c.args.e c.args.r c.requires, λ b. same-eq c.args.e.kind 3 (and_left (same c.args.e.kind 3) (same c.args.e.rec c.args.r) b))
