-- One that may block after the other.
use mathlib.Core.Path.{refl}
use native.Mathlib.Omega.{arith}
use Rattle.laws.specs.Bits.{bits}
use Rattle.leaf_set.specs.Sets.{sets}
use Rattle.wait_graph.proofs.Reaching.{reached-none, reached_more, reached-all}
use borrow.Author.Rules.{rules}
use Rattle.wait_graph.proofs.reach.Goals as goal

pub loop-b-init : goal.loop-b-init
loop-b-init c = (search rules, reached-none (sets c.args.line.now) (bits c.args.above) (bits c.args.by))

pub loop-b-preserved : goal.loop-b-preserved
unfolding sets
loop-b-preserved c =
    let l = c.loop-b in
    let a = c.args in
    (search rules, reached_more l.b (sets a.line.now) (bits a.above) (bits a.by) l.m c.reach_one-m.result _ _ l.invariant.1 c.contains-blocking.ensures refl c.reach_one-m.ensures)

pub returns : goal.returns
returns c = let l = c.loop-b in let a = c.args in reached-all (sets a.line.now) (bits a.above) (bits a.by) l.m l.b (omega arith) l.invariant.1
