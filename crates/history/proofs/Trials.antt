-- Every trial of the history holds: by computing.
use lib.Dec.{T}
use Rattle.laws.specs.Tests.{open_tests}
use Rattle.laws.specs.Counting.{open_counting}
use Rattle.laws.specs.Functions.{open_functions}
use Rattle.laws.specs.Bytes.{open_bytes}
use Rattle.rules.specs.Store.{open_store}
use Rattle.rules.specs.Step.{open_step}
use Rattle.rules.specs.Versions.{open_versions}
use Rattle.history.specs.History.{nothing_yet, starting, open_history}
use Rattle.history.specs.Trials.{history_trials_pass, history_trials, pending3, start_trials}

pub trials_hold : T (history_trials_pass nothing_yet history_trials)
unfolding open_tests open_counting open_functions open_bytes open_store open_step open_history
trials_hold = tt

-- with a transaction that is prepared in the start store
pub start_trials_hold : T (history_trials_pass (starting 16 pending3) start_trials)
unfolding open_tests open_counting open_functions open_bytes open_store open_versions open_step open_history
start_trials_hold = tt
