-- Both bytes are compared.
use Rattle.laws.specs.Tests.{same}
use borrow.Author.Rules.{rules}
use Rattle.audit_verdict.proofs.answered.Goals as goal

pub returns : goal.returns
unfolding same
returns c = search rules
