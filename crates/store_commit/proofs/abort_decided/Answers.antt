-- `abort_decided` is one page write.
use lib.Pow.{pow_pos}
use Rattle.laws.specs.Tests.{same}
use Rattle.store_commit.proofs.Prepares.{struck_leaves}
use Rattle.store_commit.proofs.abort_decided.Goals as goal

pub mark-a-requires : goal.mark-a-requires
mark-a-requires c = (c.requires.0, pow_pos c.args.n, c.requires.1)

pub returns : goal.returns
unfolding same
returns c = λ g L. struck_leaves g (c.mark-a.ensures.0 g L)
