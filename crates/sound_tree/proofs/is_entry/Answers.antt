-- The law of a free number, or of one that is borne.
use native.Mathlib.Omega.{arith}
use Rattle.sound_clause.proofs.Clauses.{entry_vacant, entry_seated}
use Rattle.sound_tree.proofs.is_entry.Goals as goal

pub returns-then-depth-t-eq0 : goal.returns-then-depth-t-eq0
returns-then-depth-t-eq0 c = let a = c.args in entry_vacant a.parent.now a.depth.now a.line.now a.t c.if-depth-t-eq0.true c.is_free_entry.ensures

pub returns-else-depth-t-eq0 : goal.returns-else-depth-t-eq0
returns-else-depth-t-eq0 c = let a = c.args in let n = c.if-depth-t-eq0.false in entry_seated a.parent.now a.depth.now a.line.now a.t (omega arith) c.is_live_entry.ensures
