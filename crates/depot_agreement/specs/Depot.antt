-- The depot: its states for an identity, what comes to it, and the constant table of its next state and its reply (document 02, L9).
use Rattle.std.specs.Prelude.{Bool, true, false, ℕ}
use Rattle.std.proofs.Math.Option.{Option, none, some}

pub data Stage : Type 0 where
  idle asked committed aborted : Stage

-- an identity is given; the gateway's yes and no; the depot waits no longer
pub data Input : Type 0 where
  start yes no give_up : Input

-- what goes to the gateway
pub data Order : Type 0 where
  to_prepare to_commit to_abort : Order

-- the next state with the reply, or refused with a number and without effect
pub data Turn : Type 0 where
  goes : Stage → Order → Turn
  refused : ℕ → Turn

unfoldable pub table : Stage → Input → Turn
table idle start = goes asked to_prepare
table idle yes = refused 27
table idle no = refused 27
table idle give_up = refused 27
table asked start = refused 27
table asked yes = goes committed to_commit
table asked no = goes aborted to_abort
table asked give_up = goes aborted to_abort
table committed start = goes asked to_prepare
table committed yes = goes committed to_commit
table committed no = goes committed to_commit
table committed give_up = refused 27
table aborted start = goes asked to_prepare
table aborted yes = goes aborted to_abort
table aborted no = goes aborted to_abort
table aborted give_up = refused 27

-- the decision that the depot holds: to commit (true), or to abort
unfoldable pub decision : Stage → Option Bool
decision idle = none
decision asked = none
decision committed = some true
decision aborted = some false

-- opens the definitions of this module: for what is proved by computing
unfoldable pub open_depot : Unit {0}
unfolding table decision
open_depot = tt
