-- The number of the slot, within the working buffer.
use mathlib.Core.Path.{refl}
use native.Mathlib.Omega.{arith}
use Rattle.state_array.specs.View.{slot}
use Rattle.state_version.proofs.slot_of.Goals as goal

pub returns : goal.returns
unfolding slot
returns c = (refl, omega arith)
