-- The path grows within the core until one comes again: the numbers seen are as many as its steps.
use mathlib.Core.Path.{refl, ◌∙◌, sym}
use native.Mathlib.Omega.{arith}
use Rattle.laws.specs.Bits.{bits}
use Rattle.leaf_set.specs.Sets.{sets}
use Rattle.wait_cycle.proofs.Walking.{going_first, going_low, going_more, going_done, going_short, next_some, next_is}
use Rattle.wait_cycle.proofs.walk.Goals as goal

pub first_of-t-requires : goal.first_of-t-requires
first_of-t-requires c = c.requires.1

pub loop-path-init : goal.loop-path-init
loop-path-init c = going_first (sets c.args.points.now) (bits c.args.core) _ c.first_of-t.result refl c.first_of-t.ensures.0 c.first_of-t.ensures.1

pub contains-requires : goal.contains-requires
contains-requires c = omega (arith, c.loop-path.invariant.low)

pub bounds-path-n : goal.bounds-path-n
bounds-path-n c = going_low c.loop-path.invariant (sym c.contains.ensures ∙ c.loop-path-test.true)

pub with-seen-requires : goal.with-seen-requires
with-seen-requires c = omega (arith, c.loop-path.invariant.low)

pub overflow_add-n : goal.overflow_add-n
overflow_add-n c =
    let l = c.loop-path in
    record { fits = omega (arith, going_short l.invariant) }

pub offset_bounds-points-t : goal.offset_bounds-points-t
offset_bounds-points-t c =
    let l = c.loop-path in
    record { fits = omega (arith, l.invariant.low) }

pub bounds-points-t : goal.bounds-points-t
bounds-points-t c =
    let l = c.loop-path in
    omega (arith, l.invariant.low)

pub first_of-t-requires-in-loop-path : goal.first_of-t-requires-in-loop-path
first_of-t-requires-in-loop-path c =
    let l = c.loop-path in
    let a = c.args in
    next_some a.points.now a.core l.t c.requires.0 l.invariant.low l.invariant.inside

pub loop-path-smaller : goal.loop-path-smaller
loop-path-smaller c =
    let contains = c.contains in
    let if1 = c.loop-path-test in
    let l = c.loop-path in
    omega (arith, going_low l.invariant (sym contains.ensures ∙ if1.true))

pub loop-path-preserved : goal.loop-path-preserved
loop-path-preserved c =
    let contains = c.contains in
    let if1 = c.loop-path-test in
    let l = c.loop-path in
    let a = c.args in
    let q = next_is a.points.now a.core l.t c.first_of-t-in-loop-path.result c.first_of-t-in-loop-path.ensures.1 in
    going_more l.invariant c.with-seen.result c.first_of-t-in-loop-path.result (sym contains.ensures ∙ if1.true) c.with-seen.ensures c.first_of-t-in-loop-path.ensures.0 q.1 q.0

pub returns : goal.returns
returns c = let l = c.loop-path in going_done l.invariant (sym c.contains.ensures ∙ c.loop-path-test.false) (going_short l.invariant)
