-- Every row on one event holds: by computing.
use lib.Dec.{T}
use Rattle.laws.specs.Tests.{open_tests}
use Rattle.laws.specs.Counting.{open_counting}
use Rattle.laws.specs.Functions.{open_functions}
use Rattle.rules.specs.Geometry.{open_geometry}
use Rattle.rules.specs.Event.{open_event}
use Rattle.rules.specs.Step.{open_step}
use Rattle.history.specs.History.{open_history}
use Rattle.history.specs.Demand3.{open_demand}
use Rattle.history.specs.Claims.{open_claims}
use Rattle.history.specs.NameTrials.{all_name, name_trials, all_belong, belong_trials, all_accept, accept_trials, all_restart, restart_trials}

pub name_trials_hold : T (all_name name_trials)
unfolding open_history
name_trials_hold = tt

pub belong_trials_hold : T (all_belong belong_trials)
unfolding open_tests open_counting open_functions open_step open_history
belong_trials_hold = tt

pub accept_trials_hold : T (all_accept accept_trials)
unfolding open_tests open_history open_demand
accept_trials_hold = tt

pub restart_trials_hold : T (all_restart restart_trials)
unfolding open_tests open_geometry open_event open_claims
restart_trials_hold = tt
