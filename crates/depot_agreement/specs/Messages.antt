-- What gateway and depot tell each other, each with an identity, and what the gateway's events and their answers tell of the decisions that it
-- holds: for prepared transactions only.
use Rattle.std.specs.Prelude.{Bool, true, false, ℕ}
use Rattle.std.proofs.Math.Option.{Option, none, some}
use Rattle.laws.specs.Tests.{same}
use Rattle.rules.specs.Event.{Event, begin, lock, write, read, commit, abort, crash, recover, prepare, decide, query}
use Rattle.rules.specs.Step.{Answer, done, refused as refused_with, cut, value_of}
use Rattle.depot_agreement.specs.Depot.{Input, yes, no, Order, to_prepare, to_commit, to_abort}

-- an order of the depot; the gateway's yes (true) or no
pub data Message : Type 0 where
  order : ℕ → Order → Message
  vote : ℕ → Bool → Message

unfoldable pub about : Message → ℕ
about (order i q) = i
about (vote i b) = i

unfoldable pub input_of : Bool → Input
input_of true = yes
input_of false = no

-- the event by which the gateway follows an order; its board chooses the transaction and the count
unfoldable pub following : Order → ℕ → ℕ → ℕ → Event
following to_prepare t k i = prepare t k i
following to_commit t k i = decide true k i
following to_abort t k i = decide false k i

-- an event that comes of no order: any but a prepare and a decide, and a bad one
unfoldable pub is_own : Option Event → Bool
is_own none = true
is_own (some (begin p)) = true
is_own (some (lock t r a)) = true
is_own (some (write t r o v)) = true
is_own (some (read t r o)) = true
is_own (some (commit t k)) = true
is_own (some (abort t w)) = true
is_own (some crash) = true
is_own (some (recover k)) = true
is_own (some (prepare t k i)) = false
is_own (some (decide d k i)) = false
is_own (some (query i)) = true

-- a prepare answers 0
unfoldable pub is_done : Answer → Bool
is_done (done v) = true
is_done (refused_with n) = false
is_done (cut v) = false

-- The gateway's reply: yes if a prepare answers 0 or a query's value is 1, else no.
unfoldable pub reply : Option Event → Answer → Option Message
reply none a = none
reply (some (begin p)) a = none
reply (some (lock t r m)) a = none
reply (some (write t r o v)) a = none
reply (some (read t r o)) a = none
reply (some (commit t k)) a = none
reply (some (abort t w)) a = none
reply (some crash) a = none
reply (some (recover k)) a = none
reply (some (prepare t k i)) a = some (vote i (is_done a))
reply (some (decide d k i)) a = none
reply (some (query i)) a = some (vote i (same (value_of a) 1))

-- What an event with its answer tells: a transaction is prepared with an identity; the one that is prepared with it is decided on, so.
pub data News : Type 0 where
  nothing : News
  taken : ℕ → News
  ended : ℕ → Bool → News

-- by the page writes that were made: without one a prepare just commits, and a decide ends nothing
unfoldable pub taken_by : ℕ → Bool → News
taken_by i true = nothing
taken_by i false = taken i

unfoldable pub ended_by : ℕ → Bool → Bool → News
ended_by i d true = nothing
ended_by i d false = ended i d

unfoldable pub prepare_news : ℕ → Answer → News
prepare_news i (done v) = taken_by i (same v 0)
prepare_news i (refused_with n) = nothing
prepare_news i (cut v) = nothing

unfoldable pub news : Option Event → Answer → News
news none a = nothing
news (some (begin p)) a = nothing
news (some (lock t r m)) a = nothing
news (some (write t r o v)) a = nothing
news (some (read t r o)) a = nothing
news (some (commit t k)) a = nothing
news (some (abort t w)) a = nothing
news (some crash) a = nothing
news (some (recover k)) a = nothing
news (some (prepare t k i)) a = prepare_news i a
news (some (decide d k i)) a = ended_by i d (same (value_of a) 0)
news (some (query i)) a = nothing

-- opens the definitions of this module: for what is proved by computing
unfoldable pub open_messages : Unit {0}
unfolding about input_of following is_own is_done reply taken_by ended_by prepare_news news
open_messages = tt
