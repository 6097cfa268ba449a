-- Sixteen times the first, and the second.
use mathlib.Core.Path.{ap₂}
use Prim.Native.Nat.{ℕ, ◌+◌, ◌*◌}
use native.Mathlib.Omega.{arith}
use Rattle.sheet_text.specs.Emit.{pair_of}
use Rattle.sheet_list.proofs.two_digits.Goals as goal

pub returns : goal.returns
unfolding pair_of
returns c = (ap₂ (λ (a b : ℕ). 16 * a + b) c.digit_value-a.ensures.0 c.digit_value-b.ensures.0, omega arith)
