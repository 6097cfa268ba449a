-- Where some lock has more than one transaction, lock by lock; elsewhere each goes with itself.
use Rattle.sound_clause.proofs.Decides.{decides-true}
use Rattle.sound_state.proofs.Sole.{shares_sole}
use Rattle.sound_state.proofs.are_shares.Goals as goal

pub returns-then-is_some_crowded : goal.returns-then-is_some_crowded
returns-then-is_some_crowded c = c.are_shares_each.ensures

pub returns : goal.returns
returns c = λ lined. let a = c.args in
    decides-true (shares_sole a.line.now a.held.now a.retained.now lined (c.is_some_crowded.ensures c.if-is_some_crowded.false))
