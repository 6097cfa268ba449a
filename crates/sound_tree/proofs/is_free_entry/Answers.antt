-- The law of the clause.
use Rattle.laws.specs.Tests.{same}
use Rattle.sound_clause.proofs.Clauses.{vacant_decided}
use Rattle.sound_tree.proofs.is_free_entry.Goals as goal

pub returns : goal.returns
unfolding same
returns c = let a = c.args in vacant_decided a.parent.now a.line.now a.t
