-- So far what each transaction has of each lock is right.
use native.Mathlib.Omega.{arith}
use borrow.Author.Rules.{rules}
use Rattle.sound_clause.specs.Clauses.{SharesOf}
use Rattle.sound_clause.proofs.Decides.{decides-none, decides_more, decides_bound}
use Rattle.sound_state.proofs.are_shares_each.Goals as goal

pub loop-r-init : goal.loop-r-init
loop-r-init c = (search rules, λ lined. decides-none _)

pub loop-r-preserved : goal.loop-r-preserved
loop-r-preserved c = let a = c.args in let l = c.loop-r in (
  search rules,
  λ lined. decides_more (SharesOf a.line.now a.held.now a.retained.now) l.r (l.invariant.1 lined) (c.are_shares_at-ok.ensures (lined l.r (omega arith))),
)

pub returns : goal.returns
returns c = λ lined. let a = c.args in let l = c.loop-r in
    decides_bound (SharesOf a.line.now a.held.now a.retained.now) l.r 16 (omega arith) (l.invariant.1 lined)
