-- The verdict is the call's.
use Rattle.nekahuiro.proofs.nekahuiro_audit.Goals as goal

pub returns : goal.returns
returns c = c.audit.ensures
