-- Number by number.
use mathlib.Core.Path.{sym}
use native.Mathlib.Omega.{arith}
use Rattle.laws.specs.Bits.{bits}
use Rattle.laws.proofs.Bits.{bits-zero}
use Rattle.leaf_set.specs.Sets.{sets}
use Rattle.state_array.proofs.Sweep.{swept_all, fills_more}
use Rattle.wait_cycle.specs.Search.{goes_on}
use Rattle.wait_cycle.proofs.Cycling.{goes_past}
use borrow.Author.Rules.{rules}
use Rattle.wait_cycle.proofs.kept.Goals as goal

pub loop-t-init : goal.loop-t-init
loop-t-init c = (search rules, record { below = λ k h. absurd (omega arith); above = λ k h. bits-zero k })

pub loop-t-preserved : goal.loop-t-preserved
loop-t-preserved c =
    let l = c.loop-t in
    let a = c.args in
    (search rules, fills_more (goes_on (sets a.points.now) (bits a.m)) l.k _ l.t c.goes_on.result l.invariant.1 c.goes_on.ensures c.with_if-k.ensures)

pub returns : goal.returns
returns c =
    let l = c.loop-t in
    let a = c.args in
    swept_all l.invariant.1 (λ k h. sym (goes_past a.points.now (bits a.m) k (omega (arith, c.requires))))
