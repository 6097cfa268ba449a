-- What two digits stand for, as an offset.
use mathlib.Core.Path.{ap}
use Prim.Native.Nat.{ℕ, ◌%◌}
use native.Mathlib.Omega.{arith}
use Rattle.sheet_text.specs.Emit.{offset_of}
use Rattle.sheet_list.proofs.offset_at.Goals as goal

pub returns : goal.returns
unfolding offset_of
returns c = (ap (λ (n : ℕ). n % 32) c.two_digits.ensures.0, omega arith)
