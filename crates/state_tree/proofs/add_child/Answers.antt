-- The set of the live and that of the children of p each have f besides.
use mathlib.Core.Path.{refl}
use Rattle.leaf_set.specs.Sets.{sets}
use Rattle.state_tree.proofs.add_child.Goals as goal

pub returns : goal.returns
unfolding sets
returns c = (c.with.ensures, record { word = c.with-2.result; is = refl; holds = c.with-2.ensures })
