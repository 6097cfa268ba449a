-- What is counted so far, with this transaction, and the height above it come to the height of i.
use native.Mathlib.Omega.{arith}
use Rattle.audit_link.specs.Links.{one_of}
use Rattle.audit_link.proofs.Ways.{height_none, height_next, height_top}
use Rattle.audit_link.proofs.Links.depth_of.Goals as goal

pub returns-then-i-eq0 : goal.returns-then-i-eq0
returns-then-i-eq0 c = rw c.if-i-eq0.true (height_none c.args.self.now.parent c.requires.1)

pub loop-j-smaller : goal.loop-j-smaller
unfolding one_of
loop-j-smaller c = let e = c.in-Some.ensures in omega (arith, e.1, e.2)

pub loop-j-preserved : goal.loop-j-preserved
unfolding one_of
loop-j-preserved c =
    let l = c.loop-j in
    let v = l.invariant in
    let e = c.in-Some.ensures in
    let s = height_next c.args.self.now.parent c.requires.1 l.at c.in-Some.j v.1 e.0 in
    (omega (arith, s, v.0), e.2, omega (arith, e.1, v.2), omega (arith, e.1, e.2, v.3))

pub returns : goal.returns
unfolding one_of
returns c =
    let l = c.loop-j in
    let s = height_top c.args.self.now.parent c.requires.1 l.at l.invariant.1 c.in_default.ensures.0 in
    omega (arith, s, l.invariant.0)
