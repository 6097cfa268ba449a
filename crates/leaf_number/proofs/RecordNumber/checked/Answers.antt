-- By the test of the number.
use native.Mathlib.Omega.{arith}
use Rattle.leaf_number.proofs.Named.{record_below, record_past}
use Rattle.leaf_number.proofs.RecordNumber.checked.Goals as goal

pub returns-then-n-count : goal.returns-then-n-count
returns-then-n-count c = record_below c.args.count c.args.n (omega arith)

pub returns-else-n-count : goal.returns-else-n-count
returns-else-n-count c = record_past c.args.count c.args.n (omega arith)
