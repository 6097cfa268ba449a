-- The variant's own number.
use Rattle.depot_message.proofs.Entries.{number_is}
use Rattle.depot_message.proofs.U8FromRefusal.from.Goals as goal

pub returns : goal.returns
returns c = number_is c.args.r
