-- Every row of the depot's turn and of the gateway's vote holds: by computing.
use lib.Dec.{T}
use Rattle.laws.specs.Tests.{open_tests}
use Rattle.depot_agreement.specs.Depot.{open_depot}
use Rattle.depot_agreement.specs.Messages.{open_messages}
use Rattle.depot_message.specs.Codes.{open_depot_codes}
use Rattle.depot_message.specs.Votes.{open_votes}
use Rattle.depot_message.specs.DepotTrials.{all_turn, turn_trials, all_vote, vote_trials}

pub turn_trials_hold : T (all_turn turn_trials)
unfolding open_depot open_depot_codes
turn_trials_hold = tt

pub vote_trials_hold : T (all_vote vote_trials)
unfolding open_tests open_messages open_depot_codes open_votes
vote_trials_hold = tt
