-- Byte by byte.
use borrow.Author.Rules.{rules}
use Rattle.laws.specs.Tests.{same}
use Rattle.open_lent.proofs.Portions.{bare_decided}
use Rattle.open_lent.proofs.is_bare.Goals as goal

pub returns : goal.returns
unfolding same
returns c = bare_decided c.args.spare (search rules)
