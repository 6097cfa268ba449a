-- The depot's states, messages and replies as numbers, and what its turn leaves: by the table of document 02, L9.
use Rattle.std.proofs.Math.Option.{Option, none, some}
use Rattle.std.specs.Prelude.{ℕ, zero, suc, ◌/◌, ◌%◌, Ok, Err}
use Rattle.std.specs.declared.result.Result.{Result}
use Rattle.depot_agreement.specs.Depot.{Stage, idle, asked, committed, aborted, Input, start, yes, no, give_up, Order, to_prepare, to_commit, to_abort, Turn, goes, refused, table}
use Rattle.depot_message.specs.declared.Refusal.{Refusal}
use Rattle.depot_message.specs.declared.Refusal.TheVariants.{NoTurn}

unfoldable pub stage_of : ℕ → Option Stage
stage_of zero = some idle
stage_of (suc zero) = some asked
stage_of (suc (suc zero)) = some committed
stage_of (suc (suc (suc zero))) = some aborted
stage_of (suc (suc (suc (suc n)))) = none

unfoldable pub stage_code : Stage → ℕ
stage_code idle = 0
stage_code asked = 1
stage_code committed = 2
stage_code aborted = 3

unfoldable pub message_of : ℕ → Option Input
message_of zero = some start
message_of (suc zero) = some yes
message_of (suc (suc zero)) = some no
message_of (suc (suc (suc zero))) = some give_up
message_of (suc (suc (suc (suc n)))) = none

unfoldable pub message_code : Input → ℕ
message_code start = 0
message_code yes = 1
message_code no = 2
message_code give_up = 3

unfoldable pub reply_of : ℕ → Option Order
reply_of zero = some to_prepare
reply_of (suc zero) = some to_commit
reply_of (suc (suc zero)) = some to_abort
reply_of (suc (suc (suc n))) = none

unfoldable pub reply_code : Order → ℕ
reply_code to_prepare = 0
reply_code to_commit = 1
reply_code to_abort = 2

-- what a call leaves: its answer, and the two bytes that are lent to it
pub record Left : Type 0 where
  pub answer : ℕ
  pub state : ℕ
  pub reply : ℕ

-- a state or a message that there isn't is refused too
unfoldable pub turn_of : Option Stage → Option Input → Turn
turn_of none x = refused 27
turn_of (some s) none = refused 27
turn_of (some s) (some x) = table s x

-- the next state and the reply are written; a refusal writes nothing
unfoldable pub depot_left_by : ℕ → ℕ → Turn → Left
depot_left_by state reply (goes s q) = record { answer = 0; state = stage_code s; reply = reply_code q }
depot_left_by state reply (refused n) = record { answer = n; state = state; reply = reply }

unfoldable pub depot_left : ℕ → ℕ → ℕ → Left
depot_left state message reply = depot_left_by state reply (turn_of (stage_of state) (message_of message))

unfoldable pub turn_refusal : Refusal → ℕ
turn_refusal NoTurn = 27

-- what an entry of the code's table leaves: the next state times 4, and the reply
unfoldable pub entry_left : ℕ → ℕ → Result ℕ Refusal → Left
entry_left state reply (Ok e) = record { answer = 0; state = e / 4; reply = e % 4 }
entry_left state reply (Err r) = record { answer = turn_refusal r; state = state; reply = reply }

-- opens the definitions of this module: for what is proved by computing
unfoldable pub open_depot_codes : Unit {0}
unfolding stage_of stage_code message_of message_code reply_of reply_code turn_of depot_left_by depot_left turn_refusal entry_left
open_depot_codes = tt
