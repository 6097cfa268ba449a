-- The arrays are those that are named.
use mathlib.Core.Path.{refl}
use Rattle.audit_bearer.specs.Tables.{tables}
use Rattle.audit_bearer.proofs.Tables.blank.Goals as goal

pub returns : goal.returns
unfolding tables
returns c = refl
