-- The trailing zeros of a word count up to its lowest bit.
use mathlib.Core.Path.{sym, subst}
use Prim.Native.Nat.{ℕ, ◌<◌}
use mathlib.Core.Bool.{true}
use mathlib.Core.Path.{◌≡◌}
use native.Mathlib.Omega.{arith}
use lib.Count.{trailing_le}
use Rattle.laws.specs.Bits.{bits}
use Rattle.laws.proofs.Lowest.{trailing_is}
use Rattle.wait_cycle.proofs.Walking.{lowest_low}
use Rattle.wait_cycle.proofs.first_of.Goals as goal

pub overflow_cast-result : goal.overflow_cast-result
overflow_cast-result c = omega (arith, trailing_le 32 c.args.m)

pub returns : goal.returns
returns c = subst (λ (r : ℕ). (r < 24) × (bits c.args.m r ≡ true)) (sym (trailing_is 32 c.args.m)) (lowest_low (bits c.args.m) c.requires)
