-- Yes is 1, no is 2.
use mathlib.Core.Path.{refl}
use Rattle.depot_agreement.specs.Messages.{input_of}
use Rattle.depot_message.specs.Codes.{message_code}
use Rattle.depot_message.specs.Votes.{said}
use Rattle.depot_message.proofs.word.Goals as goal

pub returns-then-yes : goal.returns-then-yes
unfolding said input_of message_code
returns-then-yes c = rw c.if-yes.true refl

pub returns-else-yes : goal.returns-else-yes
unfolding said input_of message_code
returns-else-yes c = rw c.if-yes.false refl
