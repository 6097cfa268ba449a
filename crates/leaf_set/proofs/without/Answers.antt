-- A set less a set of one.
use mathlib.Core.Path.{ap, ◌∙◌}
use mathlib.Core.Bool.{Bool, not, ◌&&◌}
use Prim.Native.Nat.{ℕ}
use Rattle.laws.specs.Bits.{bits}
use Rattle.leaf_set.proofs.without.Goals as goal

pub returns : goal.returns
returns c = c.minus.ensures ∙ ap {B = ℕ → Bool} (λ (f : ℕ → Bool) k. not (f k) && bits c.args.s k) c.single.ensures
