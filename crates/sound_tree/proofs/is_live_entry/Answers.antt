-- The law of the clause, over the depths and lines that were read.
use Rattle.laws.specs.Tests.{same}
use Rattle.sound_clause.proofs.Clauses.{seated_decided}
use Rattle.sound_tree.proofs.is_live_entry.Goals as goal

pub returns : goal.returns
unfolding same
returns c =
    let depth_at = c.depth_at-d in
    let depth_at2 = c.depth_at-above in
    let a = c.args in
    let e = c.with-due.ensures in
    seated_decided a.parent.now a.depth.now a.line.now a.t _ _ _ _ _ depth_at.ensures.0 depth_at2.ensures.0 c.line_at-own.ensures c.line_at.ensures e
