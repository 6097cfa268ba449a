-- A state or a message that there isn't; an entry that is 0; an entry that isn't.
use native.Mathlib.Omega.{arith}
use Rattle.depot_message.specs.Codes.{entry_left, turn_refusal}
use Rattle.depot_message.proofs.Entries.{no_state, no_message, none_at, some_at}
use Rattle.depot_message.proofs.entry.Goals as goal

pub returns-then-state-ge4 : goal.returns-then-state-ge4
unfolding entry_left turn_refusal
returns-then-state-ge4 c = λ q. no_state c.args.state c.args.message q c.if-state-ge4.true

pub returns-then-message-ge4 : goal.returns-then-message-ge4
unfolding entry_left turn_refusal
returns-then-message-ge4 c = λ q. no_message c.args.state c.args.message q c.if-message-ge4.true

pub returns-in-0 : goal.returns-in-0
unfolding entry_left turn_refusal
returns-in-0 c = λ q. none_at c.args.state c.args.message q c.place.result (omega arith) (omega arith) c.place.ensures.0 c.in-0.is

pub returns-in_default : goal.returns-in_default
unfolding entry_left
returns-in_default c = λ q. some_at c.args.state c.args.message q c.place.result (omega arith) (omega arith) c.place.ensures.0 (λ e. omega arith)
