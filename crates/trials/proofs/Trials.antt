-- Every row of the tables of edition 1 holds: by computing, table by table.
use lib.Dec.{T}
use Rattle.laws.specs.Tests.{open_tests}
use Rattle.laws.specs.Counting.{open_counting}
use Rattle.laws.specs.Functions.{open_functions}
use Rattle.laws.specs.Bytes.{open_bytes}
use Rattle.rules.specs.Geometry.{open_geometry}
use Rattle.rules.specs.Store.{open_store}
use Rattle.rules.specs.Event.{open_event}
use Rattle.rules.specs.State.{open_state}
use Rattle.rules.specs.Locks.{open_locks}
use Rattle.rules.specs.Versions.{open_versions}
use Rattle.rules.specs.Commit.{open_commit}
use Rattle.rules.specs.Step.{open_step}
use Rattle.rules.specs.Run.{open_run}
use Rattle.rules.specs.Age.{open_age}
use Rattle.rules.specs.Editions.{edition1}
use Rattle.trials_rows.specs.Rows.{all_pass, AllHold, numbers1}
use Rattle.trials_rows.specs.CommonTrials.{common_trials}
use Rattle.trials_rows.specs.EdgeTrials.{edge_trials}
use Rattle.trials.specs.WordTrials.{word_trials}
use Rattle.trials.specs.PageTrials.{page_trials, age_trials, bit_trials}
use Rattle.trials.specs.PreparedTrials.{prepared_trials}
use Rattle.trials.specs.Trials.{first_trials, trials}

first_hold : T (all_pass edition1 numbers1 first_trials)
unfolding open_tests open_counting open_functions open_bytes open_geometry open_store open_event open_state open_locks open_versions open_commit open_step open_run open_age first_trials
first_hold = tt

common_hold : T (all_pass edition1 numbers1 common_trials)
unfolding open_tests open_counting open_functions open_bytes open_geometry open_store open_event open_state open_locks open_versions open_commit open_step open_run open_age common_trials
common_hold = tt

edges_hold : T (all_pass edition1 numbers1 edge_trials)
unfolding open_tests open_counting open_functions open_bytes open_geometry open_store open_event open_state open_locks open_versions open_commit open_step open_run open_age edge_trials
edges_hold = tt

words_hold : T (all_pass edition1 numbers1 word_trials)
unfolding open_tests open_counting open_functions open_bytes open_geometry open_store open_event open_state open_locks open_versions open_commit open_step open_run open_age word_trials
words_hold = tt

pages_hold : T (all_pass edition1 numbers1 page_trials)
unfolding open_tests open_counting open_functions open_bytes open_geometry open_store open_event open_state open_locks open_versions open_commit open_step open_run open_age page_trials
pages_hold = tt

ages_hold : T (all_pass edition1 numbers1 age_trials)
unfolding open_tests open_counting open_functions open_bytes open_geometry open_store open_event open_state open_locks open_versions open_commit open_step open_run open_age age_trials
ages_hold = tt

bits_hold : T (all_pass edition1 numbers1 bit_trials)
unfolding open_tests open_counting open_functions open_bytes open_geometry open_store open_event open_state open_locks open_versions open_commit open_step open_run open_age bit_trials
bits_hold = tt

prepared_hold : T (all_pass edition1 numbers1 prepared_trials)
unfolding open_tests open_counting open_functions open_bytes open_geometry open_store open_event open_state open_locks open_versions open_commit open_step open_run open_age prepared_trials
prepared_hold = tt

-- THE CLAIM
pub trials_hold : AllHold edition1 numbers1 trials
trials_hold = (first_hold, (common_hold, (edges_hold, (words_hold, (pages_hold, (ages_hold, (bits_hold, (prepared_hold, tt))))))))
