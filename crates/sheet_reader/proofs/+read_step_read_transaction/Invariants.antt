-- The cycle of the two readers: each reads on, so that the bytes that are left fall; the transaction's reader hands its place on to the step's, so its
-- measure is one more.
use Prim.Native.Nat.{◌+◌, ◌-◌, ◌≤◌}
use lib.ListN.{length}
use Rattle.sheet_text.specs.Scan.{Stands, between}
use Rattle.sheet_reader.proofs.+read_step_read_transaction.Given as goal

abbrev pub decreases-read_step : goal.decreases-read_step
decreases-read_step l = (length l.s.now - l.at) + (length l.s.now - l.at)

abbrev pub decreases-read_transaction : goal.decreases-read_transaction
decreases-read_transaction l = (length l.s.now - l.at) + (length l.s.now - l.at) + 1

abbrev pub invariant-read_transaction-loop-c : goal.invariant-read_transaction-loop-c
invariant-read_transaction-loop-c l = (l.c.at ≤ length l.s) × (l.at ≤ l.c.at) × Stands l.s l.c.at (between l.levels l.c.room)

abbrev pub decreases-read_transaction-loop-c : goal.decreases-read_transaction-loop-c
decreases-read_transaction-loop-c l = length l.s - l.c.at
