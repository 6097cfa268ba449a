-- The sweep over the 24 numbers frees those that are gone.
use native.Mathlib.Omega.{arith}
use borrow.Author.Rules.{rules}
use Rattle.state_array.proofs.Sweep.{clearing_none, clearing_more, clearing_all}
use Rattle.state_tree.proofs.free_numbers.Goals as goal

pub loop-j-init : goal.loop-j-init
loop-j-init c = (search rules, clearing_none _ _ c.requires.0, clearing_none _ _ c.requires.1, clearing_none _ _ c.requires.2)

pub loop-j-preserved : goal.loop-j-preserved
loop-j-preserved c =
    let l = c.loop-j in
    let e = c.free_if.ensures in
    (search rules, clearing_more _ l.parent _ _ l.j l.invariant.1 (omega arith) e.0, clearing_more _ l.depth _ _ l.j l.invariant.2 (omega arith) e.1, clearing_more _ l.line _ _ l.j l.invariant.3 (omega arith) e.2)

pub returns : goal.returns
returns c = let l = c.loop-j in (clearing_all _ _ _ l.j l.invariant.1 (omega arith), clearing_all _ _ _ l.j l.invariant.2 (omega arith), clearing_all _ _ _ l.j l.invariant.3 (omega arith))
