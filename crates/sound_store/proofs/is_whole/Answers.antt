-- Both copies are good, and their pages are the same.
use mathlib.Core.Path.{ap₂}
use mathlib.Core.Bool.{Bool, ◌&&◌}
use Rattle.rules.specs.Pairs.{is_whole}
use Rattle.sound_store.proofs.is_whole.Goals as goal

pub returns : goal.returns
unfolding is_whole
returns c = ap₂ (λ (x y : Bool). x && y) c.first_good.ensures (ap₂ (λ (x y : Bool). x && y) c.second_good.ensures c.is_alike.ensures)
