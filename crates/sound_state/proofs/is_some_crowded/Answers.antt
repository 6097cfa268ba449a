-- So far at most one transaction has each lock, unless one was found that has more.
use native.Mathlib.Omega.{arith}
use borrow.Author.Rules.{rules}
use Rattle.sound_state.specs.Sole.{SoleOf}
use Rattle.sound_state.proofs.Sole.{no_more}
use Rattle.sound_state.proofs.is_some_crowded.Goals as goal

pub loop-r-init : goal.loop-r-init
loop-r-init c = (search rules, λ e k h. absurd (omega arith))

pub loop-r-preserved : goal.loop-r-preserved
loop-r-preserved c = let a = c.args in let l = c.loop-r in
    (search rules, no_more (SoleOf a.held.now a.retained.now) l.some c.is_crowded_at-some.result l.r l.invariant.1 c.is_crowded_at-some.ensures)

pub returns : goal.returns
returns c = let l = c.loop-r in λ e k h. l.invariant.1 e k (omega arith)
