-- Each tear at each write of a commit and of a recovery, and torn again: by computing, table by table.
use lib.Dec.{T}
use Rattle.laws.specs.Tests.{open_tests}
use Rattle.laws.specs.Counting.{open_counting}
use Rattle.laws.specs.Functions.{open_functions}
use Rattle.laws.specs.Bytes.{open_bytes}
use Rattle.rules.specs.Geometry.{open_geometry}
use Rattle.rules.specs.Store.{open_store}
use Rattle.rules.specs.Event.{open_event}
use Rattle.rules.specs.State.{open_state}
use Rattle.rules.specs.Locks.{open_locks}
use Rattle.rules.specs.Versions.{open_versions}
use Rattle.rules.specs.Commit.{open_commit}
use Rattle.rules.specs.Pairs.{open_pairs}
use Rattle.rules.specs.Step.{open_step}
use Rattle.rules.specs.Run.{open_run}
use Rattle.rules.specs.Age.{open_age}
use Rattle.rules.specs.Editions.{edition_pairs}
use Rattle.trials_pairs.specs.TornRows.{all_hold}
use Rattle.trials_pairs.specs.TornTrials.{commit_rows, whole_rows, recovery_rows, again_rows}

commits_hold : T (all_hold edition_pairs commit_rows)
unfolding open_tests open_counting open_functions open_bytes open_geometry open_store open_event open_state open_locks open_versions open_commit open_pairs open_step open_run open_age commit_rows
commits_hold = tt

wholes_hold : T (all_hold edition_pairs whole_rows)
unfolding open_tests open_counting open_functions open_bytes open_geometry open_store open_event open_state open_locks open_versions open_commit open_pairs open_step open_run open_age whole_rows
wholes_hold = tt

recoveries_hold : T (all_hold edition_pairs recovery_rows)
unfolding open_tests open_counting open_functions open_bytes open_geometry open_store open_event open_state open_locks open_versions open_commit open_pairs open_step open_run open_age recovery_rows
recoveries_hold = tt

again_hold : T (all_hold edition_pairs again_rows)
unfolding open_tests open_counting open_functions open_bytes open_geometry open_store open_event open_state open_locks open_versions open_commit open_pairs open_step open_run open_age again_rows
again_hold = tt

-- THE CLAIM
pub torn_hold : T (all_hold edition_pairs commit_rows) × T (all_hold edition_pairs whole_rows) × T (all_hold edition_pairs recovery_rows) × T (all_hold edition_pairs again_rows)
torn_hold = (commits_hold, wholes_hold, recoveries_hold, again_hold)
