-- Some bit of the 24 low ones is set exactly if the word's remainder by 2 ^ 24 isn't 0.
use mathlib.Core.Path.{sym}
use Rattle.laws.specs.Tests.{same}
use Rattle.leaf_set.specs.Sets.{sets}
use Rattle.laws.proofs.Lowest.{any_low}
use Rattle.state_tree.proofs.has_child.Goals as goal

pub returns : goal.returns
unfolding same sets
returns c = sym (any_low 24 _)
