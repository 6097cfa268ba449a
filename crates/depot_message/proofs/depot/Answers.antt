-- What an entry leaves, and what a refusal leaves.
use Rattle.depot_message.specs.Codes.{entry_left}
use Rattle.depot_message.proofs.Entries.{leaves}
use Rattle.depot_message.proofs.depot.Goals as goal

pub returns-in-Ok : goal.returns-in-Ok
unfolding entry_left
returns-in-Ok c = let a = c.args in leaves (rw c.in-Ok.is at c.entry.ensures a.reply.now)

pub returns-in-Err : goal.returns-in-Err
unfolding entry_left
returns-in-Err c = let a = c.args in rw c.from.ensures (leaves (rw c.in-Err.is at c.entry.ensures a.reply.now))
