-- Every trial of the entries holds: by computing.
use lib.Dec.{T}
use Rattle.laws.specs.Tests.{open_tests}
use Rattle.laws.specs.Counting.{open_counting}
use Rattle.laws.specs.Functions.{open_functions}
use Rattle.laws.specs.Bytes.{open_bytes}
use Rattle.rules.specs.Store.{open_store}
use Rattle.rules.specs.Step.{open_step}
use Rattle.rules.specs.Versions.{open_versions}
use Rattle.history.specs.History.{nothing_yet, starting, open_history}
use Rattle.history.specs.Entries.{open_entries}
use Rattle.history.specs.Trials.{pending3}
use Rattle.history.specs.EntryTrials.{entry_trials_pass, entry_trials, entry_start_trials}

pub entry_trials_hold : T (entry_trials_pass nothing_yet entry_trials)
unfolding open_tests open_counting open_functions open_bytes open_store open_step open_history open_entries
entry_trials_hold = tt

pub start_entry_trials_hold : T (entry_trials_pass (starting 16 pending3) entry_start_trials)
unfolding open_tests open_counting open_functions open_bytes open_store open_versions open_step open_history open_entries
start_entry_trials_hold = tt
