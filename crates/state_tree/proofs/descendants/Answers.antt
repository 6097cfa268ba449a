-- The loop collects, number by number, who has t on its line.
use mathlib.Core.Path.{sym}
use native.Mathlib.Omega.{arith}
use borrow.Author.Rules.{rules}
use Rattle.state_array.proofs.Sweep.{swept_all, fills_more}
use Rattle.leaf_set.specs.Sets.{sets}
use Rattle.laws.proofs.Bits.{bits-zero}
use Rattle.leaf_set.proofs.Sets.{sets_past}
use Rattle.state_tree.proofs.descendants.Goals as goal

pub loop-j-init : goal.loop-j-init
loop-j-init c = (search rules, record { below = λ k h. absurd (omega arith); above = λ k h. bits-zero k })

pub loop-j-preserved : goal.loop-j-preserved
unfolding sets
loop-j-preserved c =
    let l = c.loop-j in
    let a = c.args in
    (search rules, fills_more (λ u. sets a.line.now u a.t) l.m _ l.j _ l.invariant.1 c.contains.ensures c.with_if-m.ensures)

pub returns : goal.returns
returns c = let l = c.loop-j in let a = c.args in swept_all l.invariant.1 (λ k h. sym (sets_past a.line.now k a.t (omega arith)))
