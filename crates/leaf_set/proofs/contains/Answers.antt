-- By computing.
use mathlib.Core.Path.{refl}
use Rattle.laws.specs.Tests.{same}
use Rattle.laws.specs.Bits.{bits}
use Rattle.leaf_set.proofs.contains.Goals as goal

pub returns : goal.returns
unfolding bits same
returns c = refl
