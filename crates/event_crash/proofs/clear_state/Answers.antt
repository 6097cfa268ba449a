-- Everything is cleared.
use Rattle.state_array.proofs.Kin.{kin_none}
use Rattle.event_crash.proofs.clear_state.Goals as goal

pub returns-clause-derived_sets : goal.returns-clause-derived_sets
returns-clause-derived_sets g c = kin_none
