-- Every trial of the serial list holds: by computing.
use lib.Dec.{T}
use Rattle.laws.specs.Tests.{open_tests}
use Rattle.laws.specs.Counting.{open_counting}
use Rattle.laws.specs.Functions.{open_functions}
use Rattle.laws.specs.Bytes.{open_bytes}
use Rattle.rules.specs.Geometry.{open_geometry}
use Rattle.rules.specs.Event.{open_event}
use Rattle.rules.specs.Store.{open_store}
use Rattle.rules.specs.State.{open_state}
use Rattle.rules.specs.Locks.{open_locks}
use Rattle.rules.specs.Versions.{open_versions}
use Rattle.rules.specs.Commit.{open_commit}
use Rattle.rules.specs.Step.{open_step}
use Rattle.rules.specs.Run.{open_run}
use Rattle.history.specs.History.{open_history}
use Rattle.history.specs.Demand3.{open_demand}
use Rattle.history.specs.Claims.{open_claims}
use Rattle.history.specs.Entries.{open_entries}
use Rattle.claim_serial.specs.Serial.{open_serial}
use Rattle.claim_serial.specs.OneAtATime.{open_one}
use Rattle.claim_serial.specs.Trials.{fresh_store, committed_store, damaged_store, prepared_store, played_answers, serial_trial_passes, serial_trials_pass, serial_trials}

pub trials_hold : T (serial_trials_pass serial_trials)
unfolding open_tests open_counting open_functions open_bytes open_geometry open_event open_store open_state open_locks open_versions open_commit open_step open_run open_history open_demand open_claims open_entries open_serial open_one fresh_store committed_store damaged_store prepared_store played_answers serial_trial_passes serial_trials_pass
trials_hold = tt
