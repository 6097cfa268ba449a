-- The lesser of n and 24.
use native.Mathlib.Omega.{arith}
use Rattle.wait_row.specs.Copied.{least}
use Rattle.wait_row.proofs.taken.Goals as goal

pub returns : goal.returns
unfolding least
returns c = let e = c.min.ensures in omega arith
