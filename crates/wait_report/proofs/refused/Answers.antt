-- A refused report leaves the ring that came in.
use mathlib.Core.Path.{refl}
use Rattle.wait_report.proofs.refused.Goals as goal

pub returns : goal.returns
returns c = (refl, refl)
