-- The three entries of f are those given; the line is the one above with f.
use mathlib.Core.Path.{refl}
use Rattle.state_tree.proofs.give_number.Goals as goal

pub returns : goal.returns
returns c = (refl, refl, record { word = c.with.result; is = refl; holds = c.with.ensures })
