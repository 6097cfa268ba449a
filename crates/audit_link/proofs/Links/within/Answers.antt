-- Whether a lies on the way from here is whether it lies on the way from i.
use mathlib.Core.Path.{◌∙◌}
use native.Mathlib.Omega.{arith}
use Rattle.laws.specs.Tests.{same}
use Rattle.audit_link.specs.Links.{one_of}
use Rattle.audit_link.proofs.Ways.{way_next, way_top, way_met}
use Rattle.audit_link.proofs.Links.within.Goals as goal

pub loop-at-smaller : goal.loop-at-smaller
unfolding one_of
loop-at-smaller c = let e = c.in-Some.ensures in omega (arith, e.1, e.2)

pub loop-at-preserved : goal.loop-at-preserved
unfolding one_of
loop-at-preserved c =
    let a = c.args in
    let l = c.loop-at in
    let e = c.in-Some.ensures in
    (way_next a.self.now.parent c.requires.1 a.a l.at c.in-Some.j c.loop-at-test.true e.2 e.0 ∙ l.invariant.0, omega (arith, e.1, l.invariant.1))

pub returns-in-None : goal.returns-in-None
unfolding one_of
returns-in-None c =
    let a = c.args in
    let l = c.loop-at in
    way_top a.self.now.parent c.requires.1 a.a l.at c.loop-at-test.true c.in-None.ensures.0 ∙ l.invariant.0

pub returns : goal.returns
unfolding same
returns c =
    let a = c.args in
    let l = c.loop-at in
    way_met a.self.now.parent c.requires.1 a.a ∙ rw c.loop-at-test.false at l.invariant.0
