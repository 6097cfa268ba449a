-- Every row of pairs holds: by computing, table by table.
use lib.Dec.{T}
use Rattle.laws.specs.Tests.{open_tests}
use Rattle.laws.specs.Counting.{open_counting}
use Rattle.laws.specs.Functions.{open_functions}
use Rattle.laws.specs.Bytes.{open_bytes}
use Rattle.rules.specs.Geometry.{open_geometry}
use Rattle.rules.specs.Store.{open_store}
use Rattle.rules.specs.Event.{open_event}
use Rattle.rules.specs.State.{open_state}
use Rattle.rules.specs.Locks.{open_locks}
use Rattle.rules.specs.Versions.{open_versions}
use Rattle.rules.specs.Commit.{open_commit}
use Rattle.rules.specs.Pairs.{open_pairs}
use Rattle.rules.specs.Step.{open_step}
use Rattle.rules.specs.Run.{open_run}
use Rattle.rules.specs.Age.{open_age}
use Rattle.rules.specs.Editions.{edition_pairs}
use Rattle.trials_rows.specs.Rows.{all_pass, AllHold, all_go, AllGo}
use Rattle.trials_rows.specs.CommonTrials.{common_trials}
use Rattle.trials_rows.specs.EdgeTrials.{edge_trials}
use Rattle.trials_pairs.specs.TornRows.{numbers_pairs, all_hold, all_so}
use Rattle.trials_pairs.specs.PairTrials.{vector_trials, pair_word_trials, mend_rows, calm_rows, lost_trials, length_trials, pair_age_trials, trials_of_pairs, played_pairs}

mends_hold : T (all_hold edition_pairs mend_rows)
unfolding open_tests open_counting open_functions open_bytes open_geometry open_store open_event open_state open_locks open_versions open_commit open_pairs open_step open_run open_age mend_rows
mends_hold = tt

losts_hold : T (all_pass edition_pairs numbers_pairs lost_trials)
unfolding open_tests open_counting open_functions open_bytes open_geometry open_store open_event open_state open_locks open_versions open_commit open_pairs open_step open_run open_age lost_trials
losts_hold = tt

calms_hold : T (all_so edition_pairs calm_rows)
unfolding open_tests open_counting open_functions open_bytes open_geometry open_store open_event open_state open_locks open_versions open_commit open_pairs open_step open_run open_age calm_rows
calms_hold = tt

lengths_hold : T (all_pass edition_pairs numbers_pairs length_trials)
unfolding open_tests open_counting open_functions open_bytes open_geometry open_store open_event open_state open_locks open_versions open_commit open_pairs open_step open_run open_age length_trials
lengths_hold = tt

ages_hold : T (all_pass edition_pairs numbers_pairs pair_age_trials)
unfolding open_tests open_counting open_functions open_bytes open_geometry open_store open_event open_state open_locks open_versions open_commit open_pairs open_step open_run open_age pair_age_trials
ages_hold = tt

common_goes : T (all_go edition_pairs numbers_pairs common_trials)
unfolding open_tests open_counting open_functions open_bytes open_geometry open_store open_event open_state open_locks open_versions open_commit open_pairs open_step open_run open_age common_trials
common_goes = tt

edges_go : T (all_go edition_pairs numbers_pairs edge_trials)
unfolding open_tests open_counting open_functions open_bytes open_geometry open_store open_event open_state open_locks open_versions open_commit open_pairs open_step open_run open_age edge_trials
edges_go = tt

vectors_go : T (all_go edition_pairs numbers_pairs vector_trials)
unfolding open_tests open_counting open_functions open_bytes open_geometry open_store open_event open_state open_locks open_versions open_commit open_pairs open_step open_run open_age vector_trials
vectors_go = tt

words_go : T (all_go edition_pairs numbers_pairs pair_word_trials)
unfolding open_tests open_counting open_functions open_bytes open_geometry open_store open_event open_state open_locks open_versions open_commit open_pairs open_step open_run open_age pair_word_trials
words_go = tt

-- THE CLAIM
pub pairs_hold : T (all_hold edition_pairs mend_rows) × T (all_so edition_pairs calm_rows) × AllHold edition_pairs numbers_pairs trials_of_pairs × AllGo edition_pairs numbers_pairs played_pairs
pairs_hold = (mends_hold, calms_hold, (losts_hold, (lengths_hold, (ages_hold, tt))), (common_goes, (edges_go, (vectors_go, (words_go, tt)))))
