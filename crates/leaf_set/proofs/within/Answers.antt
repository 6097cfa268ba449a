-- One law of bits.
use Rattle.laws.specs.Tests.{same}
use Rattle.laws.proofs.Bits.{within_is}
use Rattle.leaf_set.proofs.within.Goals as goal

pub returns : goal.returns
unfolding same
returns c = within_is 24 _ _
