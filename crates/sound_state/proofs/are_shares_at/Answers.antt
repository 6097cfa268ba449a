-- Where more than one transaction has the lock, each one's share is tested; a single one goes with itself.
use Rattle.leaf_set.specs.Sets.{sets}
use Rattle.state_array.specs.View.{any_mode, write_mode}
use Rattle.sound_clause.proofs.Decides.{decides-true}
use Rattle.sound_state.proofs.Beneath.{shares_alone}
use Rattle.sound_state.proofs.are_shares_at.Goals as goal

pub returns-then-is_crowded_at : goal.returns-then-is_crowded_at
unfolding sets any_mode write_mode
returns-then-is_crowded_at c = λ lined. c.are_shares_of.ensures

pub returns : goal.returns
returns c = λ lined. let a = c.args in
    decides-true (shares_alone a.line.now a.held.now a.retained.now a.r lined (c.is_crowded_at.ensures c.if-is_crowded_at.false))
