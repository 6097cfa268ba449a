-- The set of the live and that of the children of p lose t.
use mathlib.Core.Path.{refl}
use Rattle.leaf_set.specs.Sets.{sets}
use Rattle.state_tree.proofs.remove_child.Goals as goal

pub returns : goal.returns
unfolding sets
returns c = (c.without.ensures, record { word = c.without-2.result; is = refl; holds = c.without-2.ensures })
