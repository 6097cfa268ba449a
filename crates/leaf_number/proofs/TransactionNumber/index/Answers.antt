-- A number in range is its own; any other counts as the last.
use native.Mathlib.Omega.{arith}
use Rattle.leaf_number.specs.Named.{transaction_of}
use Rattle.leaf_number.proofs.TransactionNumber.index.Goals as goal

pub returns : goal.returns
unfolding transaction_of
returns c = let e = c.min.ensures in (omega arith, omega arith)
