-- The depot's turn is the call's.
use Rattle.nekahuiro.proofs.nekahuiro_depot.Goals as goal

pub returns : goal.returns
returns c = c.depot.ensures
