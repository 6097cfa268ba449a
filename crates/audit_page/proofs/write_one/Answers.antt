-- `write_one` is one page write: made where something is left of the count, else the count is spent.
use native.Mathlib.Omega.{arith}
use Rattle.store_write.proofs.Phases.{phase_one, phase_spent}
use Rattle.audit_page.proofs.write_one.Goals as goal

pub returns-then-left-gt0 : goal.returns-then-left-gt0
returns-then-left-gt0 c = phase_one (omega arith) c.put_page.ensures

pub returns : goal.returns
returns c = phase_spent (omega arith)
