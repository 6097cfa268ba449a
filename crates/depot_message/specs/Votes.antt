-- The gateway's vote on an event by its kind and the two bytes of its answer, whatever these are: document 02, L9, "yes if a prepare answers 0
-- or a query's value is 1, else no".
use Rattle.std.specs.Prelude.{Bool, cond, ◌&&◌, ◌||◌, ℕ}
use Rattle.std.proofs.Math.Option.{Option, none, some}
use Rattle.laws.specs.Tests.{same}
use Rattle.depot_agreement.specs.Messages.{Message, order, vote, input_of}
use Rattle.depot_message.specs.Codes.{message_code}

-- yes, no as messages to the depot
unfoldable pub said : Bool → ℕ
said b = message_code (input_of b)

-- a prepare or a query: the gateway votes on no other event
unfoldable pub has_vote : ℕ → Bool
has_vote kind = same kind 9 || same kind 11

-- a prepare that is answered 0; a query that is answered 0 with value 1
unfoldable pub is_yes : ℕ → ℕ → ℕ → Bool
is_yes kind number value = (same kind 9 && same number 0) || (same kind 11 && (same number 0 && same value 1))

-- the vote, or 0
unfoldable pub vote_on : ℕ → ℕ → ℕ → ℕ
vote_on kind number value = cond (has_vote kind) (said (is_yes kind number value)) 0

-- the number of what the gateway sends, 0 where it sends no vote
unfoldable pub vote_code : Option Message → ℕ
vote_code none = 0
vote_code (some (order i q)) = 0
vote_code (some (vote i b)) = said b

-- opens the definitions of this module: for what is proved by computing
unfoldable pub open_votes : Unit {0}
unfolding said has_vote is_yes vote_on vote_code
open_votes = tt
