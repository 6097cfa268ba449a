-- The vote is the call's.
use Rattle.nekahuiro.proofs.nekahuiro_vote.Goals as goal

pub returns : goal.returns
returns c = c.vote.ensures
