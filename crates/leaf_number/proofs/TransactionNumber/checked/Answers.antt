-- By the test of the number.
use native.Mathlib.Omega.{arith}
use Rattle.leaf_number.proofs.Named.{transaction_below, transaction_past}
use Rattle.leaf_number.proofs.TransactionNumber.checked.Goals as goal

pub returns-then-n-lt-COUNT : goal.returns-then-n-lt-COUNT
returns-then-n-lt-COUNT c = transaction_below c.args.n (omega arith)

pub returns-else-n-lt-COUNT : goal.returns-else-n-lt-COUNT
returns-else-n-lt-COUNT c = transaction_past c.args.n (omega arith)
