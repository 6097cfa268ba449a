-- Who retains the lock beside a write-mode retainer that isn't above it is looked beneath; of another nothing is promised.
use mathlib.Core.Path.{ap₂, ◌∙◌}
use mathlib.Core.Bool.{Bool, not, ◌&&◌}
use Rattle.laws.proofs.Booleans.{clash}
use Rattle.sound_state.proofs.beneath_of.Goals as goal

pub returns-then-retains-below_writers : goal.returns-then-retains-below_writers
returns-then-retains-below_writers c = λ e q. c.descendants.ensures

pub returns : goal.returns
returns c = λ e q. clash (ap₂ (λ (a b : Bool). a && not b) (c.contains-retains.ensures ∙ e) (c.within-below_writers.ensures ∙ q)) c.if-retains-below_writers.false
