-- So far each entry is right.
use native.Mathlib.Omega.{arith}
use borrow.Author.Rules.{rules}
use Rattle.sound_clause.specs.Clauses.{TableEntry}
use Rattle.sound_clause.proofs.Decides.{decides-none, decides_more, decides_bound}
use Rattle.sound_state.proofs.is_tree.Goals as goal

pub loop-t-init : goal.loop-t-init
loop-t-init c = (search rules, decides-none _)

pub loop-t-preserved : goal.loop-t-preserved
loop-t-preserved c = let a = c.args in let l = c.loop-t in (search rules, decides_more (TableEntry a.parent.now a.depth.now a.line.now) l.t l.invariant.1 c.is_entry-ok.ensures)

pub returns : goal.returns
returns c = let a = c.args in let l = c.loop-t in decides_bound (TableEntry a.parent.now a.depth.now a.line.now) l.t 24 (omega arith) l.invariant.1
