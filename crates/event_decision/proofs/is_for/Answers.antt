-- One of the two tests is by the map, one by the identity.
use mathlib.Core.Path.{refl}
use Rattle.laws.specs.Tests.{same}
use Rattle.event_decision.proofs.is_for.Goals as goal

pub returns : goal.returns
unfolding same
returns c = refl
