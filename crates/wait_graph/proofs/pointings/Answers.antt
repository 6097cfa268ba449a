-- Row by row.
use mathlib.Core.Path.{◌≡◌, sym, ap}
use native.Mathlib.Omega.{arith}
use lib.ListN.{length}
use Rattle.leaf_set.specs.Sets.{sets}
use Rattle.wait_graph.specs.Pointing.{child_points, rows_in}
use Rattle.wait_graph.proofs.Reaching.{rows_none, rows_more, rows_as}
use borrow.Author.Rules.{rules}
use Rattle.wait_graph.proofs.pointings.Goals as goal

pub to_children-points-requires : goal.to_children-points-requires
to_children-points-requires c = (c.requires.0, c.requires.1, c.requires.2)

pub loop-w-init : goal.loop-w-init
loop-w-init c =
    let a = c.args in
    (search rules, rows_as c.to_children-points.ensures (sym (rows_none (child_points a.parent.now a.depth.now) (sets a.line.now) (sets a.held.now) (sets a.retained.now) a.words.now)))

pub point-requires : goal.point-requires
point-requires c =
    let l = c.loop-w in
    let h = c.requires in
    (h.3 l.w-index c.loop-w-test.true, l.invariant.1.long)

pub loop-w-preserved : goal.loop-w-preserved
loop-w-preserved c =
    let l = c.loop-w in
    let a = c.args in
    (search rules, rows_as c.point.ensures (rows_more (child_points a.parent.now a.depth.now) (sets a.line.now) (sets a.held.now) (sets a.retained.now) a.words.now l.w-index (sets l.points) l.invariant.1.are))

pub returns : goal.returns
returns c =
    let l = c.loop-w in
    let a = c.args in
    let e : l.w-index ≡ length a.words.now = omega arith in
    rows_as l.invariant.1 (ap (rows_in (child_points a.parent.now a.depth.now) (sets a.line.now) (sets a.held.now) (sets a.retained.now) a.words.now) e)
