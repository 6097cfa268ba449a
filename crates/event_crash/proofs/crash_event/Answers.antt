-- Everything is cleared.
use Rattle.rules.specs.Editions.{geometry_of, form_in}
use Rattle.event_crash.proofs.Falls.{crash_steps}
use Rattle.event_crash.proofs.crash_event.Goals as goal

pub returns-clause-stepped : goal.returns-clause-stepped
returns-clause-stepped g c =
    λ edition tears work store I. crash_steps (form_in tears (geometry_of edition)) _ I.form _ c.requires.4 _ _ _ _ _ _ _ c.clear_state.ensures.up_after
