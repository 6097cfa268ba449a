-- The bits of a union.
use mathlib.Core.Path.{ap, ◌∙◌, fun_ext}
use mathlib.Core.Bool.{Bool, ◌||◌}
use Prim.Native.Nat.{ℕ}
use Rattle.laws.specs.Bits.{bits}
use Rattle.laws.proofs.Bits.{bits-or}
use Rattle.leaf_set.proofs.with.Goals as goal

pub returns : goal.returns
returns c = fun_ext (bits-or _ _) ∙ ap {B = ℕ → Bool} (λ (f : ℕ → Bool) k. bits c.args.s k || f k) c.single.ensures
