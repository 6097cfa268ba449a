-- Every row of the tables of edition 2 holds: by computing, table by table.
use lib.Dec.{T}
use Rattle.laws.specs.Tests.{open_tests}
use Rattle.laws.specs.Counting.{open_counting}
use Rattle.laws.specs.Functions.{open_functions}
use Rattle.laws.specs.Bytes.{open_bytes}
use Rattle.rules.specs.Geometry.{open_geometry}
use Rattle.rules.specs.Store.{open_store}
use Rattle.rules.specs.Event.{open_event}
use Rattle.rules.specs.State.{open_state}
use Rattle.rules.specs.Locks.{open_locks}
use Rattle.rules.specs.Versions.{open_versions}
use Rattle.rules.specs.Commit.{open_commit}
use Rattle.rules.specs.Step.{open_step}
use Rattle.rules.specs.Run.{open_run}
use Rattle.rules.specs.Age.{open_age}
use Rattle.rules.specs.Editions.{edition2}
use Rattle.trials_rows.specs.Rows.{all_pass, AllHold, all_go, AllGo}
use Rattle.trials_rows.specs.CommonTrials.{common_trials}
use Rattle.trials_rows.specs.EdgeTrials.{edge_trials}
use Rattle.trials_edition2.specs.Edition2Trials.{numbers2, word_trials2, byte_trials2, commit_trials2, page_trials2, length_trials2, age_trials2, bit_trials2, trials2, played2}

bytes_hold : T (all_pass edition2 numbers2 byte_trials2)
unfolding open_tests open_counting open_functions open_bytes open_geometry open_store open_event open_state open_locks open_versions open_commit open_step open_run open_age byte_trials2
bytes_hold = tt

pages_hold : T (all_pass edition2 numbers2 page_trials2)
unfolding open_tests open_counting open_functions open_bytes open_geometry open_store open_event open_state open_locks open_versions open_commit open_step open_run open_age page_trials2
pages_hold = tt

lengths_hold : T (all_pass edition2 numbers2 length_trials2)
unfolding open_tests open_counting open_functions open_bytes open_geometry open_store open_event open_state open_locks open_versions open_commit open_step open_run open_age length_trials2
lengths_hold = tt

ages_hold : T (all_pass edition2 numbers2 age_trials2)
unfolding open_tests open_counting open_functions open_bytes open_geometry open_store open_event open_state open_locks open_versions open_commit open_step open_run open_age age_trials2
ages_hold = tt

bits_hold : T (all_pass edition2 numbers2 bit_trials2)
unfolding open_tests open_counting open_functions open_bytes open_geometry open_store open_event open_state open_locks open_versions open_commit open_step open_run open_age bit_trials2
bits_hold = tt

common_goes : T (all_go edition2 numbers2 common_trials)
unfolding open_tests open_counting open_functions open_bytes open_geometry open_store open_event open_state open_locks open_versions open_commit open_step open_run open_age common_trials
common_goes = tt

edges_go : T (all_go edition2 numbers2 edge_trials)
unfolding open_tests open_counting open_functions open_bytes open_geometry open_store open_event open_state open_locks open_versions open_commit open_step open_run open_age edge_trials
edges_go = tt

words_go : T (all_go edition2 numbers2 word_trials2)
unfolding open_tests open_counting open_functions open_bytes open_geometry open_store open_event open_state open_locks open_versions open_commit open_step open_run open_age word_trials2
words_go = tt

commits_go : T (all_go edition2 numbers2 commit_trials2)
unfolding open_tests open_counting open_functions open_bytes open_geometry open_store open_event open_state open_locks open_versions open_commit open_step open_run open_age commit_trials2
commits_go = tt

-- THE CLAIM
pub trials2_hold : AllHold edition2 numbers2 trials2 × AllGo edition2 numbers2 played2
trials2_hold = ((bytes_hold, (pages_hold, (lengths_hold, (ages_hold, (bits_hold, tt))))), (common_goes, (edges_go, (words_go, (commits_go, tt)))))
