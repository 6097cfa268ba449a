-- A number in range is its own; any other counts as the last.
use native.Mathlib.Omega.{arith}
use Rattle.leaf_number.specs.Named.{record_of}
use Rattle.leaf_number.proofs.RecordNumber.index.Goals as goal

pub returns : goal.returns
unfolding record_of
returns c = let e = c.min.ensures in (omega arith, omega arith)
