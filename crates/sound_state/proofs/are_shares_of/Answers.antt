-- So far what each transaction has of the lock is right.
use native.Mathlib.Omega.{arith}
use borrow.Author.Rules.{rules}
use Rattle.sound_clause.proofs.Decides.{decides-none, decides_more, decides_bound}
use Rattle.sound_state.proofs.are_shares_of.Invariants.{ShareAt}
use Rattle.sound_state.proofs.are_shares_of.Goals as goal

pub loop-t-init : goal.loop-t-init
loop-t-init c = (search rules, decides-none _)

pub loop-t-preserved : goal.loop-t-preserved
loop-t-preserved c = let a = c.args in let l = c.loop-t in
    (search rules, decides_more (ShareAt a.line.now a.held a.held_writing a.retained a.retained_writing) l.t l.invariant.1 c.is_share_of-ok.ensures)

pub returns : goal.returns
returns c = let a = c.args in let l = c.loop-t in
    decides_bound (ShareAt a.line.now a.held a.held_writing a.retained a.retained_writing) l.t 24 (omega arith) l.invariant.1
