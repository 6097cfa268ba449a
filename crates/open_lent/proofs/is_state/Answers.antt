-- Both tests.
use Rattle.sound_clause.proofs.Decides.{decides_and}
use Rattle.open_lent.proofs.is_state.Goals as goal

pub returns : goal.returns
returns o c = λ edition work N long. decides_and (c.is_sound-sound.ensures edition work N long) c.is_bare-bare.ensures
