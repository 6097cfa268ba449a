-- By the status byte.
use borrow.Author.Rules.{rules}
use Rattle.laws.specs.Tests.{same}
use Rattle.store_pair.proofs.is_good.Goals as goal

pub returns : goal.returns
unfolding same
returns c = search rules
