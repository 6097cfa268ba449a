-- Every row of the table of waiting transactions holds: by computing.
use lib.Dec.{T}
use Rattle.laws.specs.Tests.{open_tests}
use Rattle.laws.specs.Counting.{open_counting}
use Rattle.laws.specs.Functions.{open_functions}
use Rattle.laws.specs.Bytes.{open_bytes}
use Rattle.rules.specs.Geometry.{open_geometry}
use Rattle.rules.specs.Store.{open_store}
use Rattle.rules.specs.Event.{open_event}
use Rattle.rules.specs.State.{open_state}
use Rattle.rules.specs.Locks.{open_locks}
use Rattle.rules.specs.Versions.{open_versions}
use Rattle.rules.specs.Commit.{open_commit}
use Rattle.rules.specs.Step.{open_step}
use Rattle.rules.specs.Run.{open_run}
use Rattle.rules.specs.Waiting.{open_waiting}
use Rattle.trials.specs.WaitingTrials.{waiting_trials_pass, waiting_trials}

pub waiting_trials_hold : T (waiting_trials_pass waiting_trials)
unfolding open_tests open_counting open_functions open_bytes open_geometry open_store open_event open_state open_locks open_versions open_commit open_step open_run open_waiting
waiting_trials_hold = tt
