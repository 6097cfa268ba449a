-- The set at the place is looked at.
use mathlib.Core.Path.{ap, ◌∙◌}
use Rattle.leaf_set.specs.Sets.{sets}
use Rattle.state_lock.proofs.is_at.Goals as goal

pub returns : goal.returns
unfolding sets
returns c = c.contains.ensures ∙ ap (sets c.args.s.now c.args.k) c.number.ensures.0
