-- The two tests are those of the rules.
use lib.IntN.{pos}
use mathlib.Core.Path.{◌≡◌}
use mir.Facts.{to_z-of_z}
use mir.Syntax.{w64}
use mir.Val.{to_z, of_z}
use Rattle.leaf_age.specs.Meaning.{judged_age}
use Rattle.leaf_age.proofs.Laws.{is_ahead, is_live, is_stale, widened}
use Rattle.leaf_age.proofs.judge.Goals as goal

pub returns-then-age-lt0 : goal.returns-then-age-lt0
unfolding judged_age
returns-then-age-lt0 c = let back = to_z-of_z c.ranges.age in rw back (is_ahead _ _ (rw back at c.if-age-lt0.true))

pub returns-then-age-from : goal.returns-then-age-from
unfolding judged_age
returns-then-age-from c =
    let back = to_z-of_z c.ranges.age in
    let wide : to_z w64 (of_z w64 c.from.result) ≡ pos c.args.limit = rw c.from.ensures (widened c.ranges.limit) in
    rw back (is_live _ _ (rw back at c.if-age-lt0.false) (rw (back, wide) at c.if-age-from.true))

pub returns : goal.returns
unfolding judged_age
returns c =
    let back = to_z-of_z c.ranges.age in
    let wide : to_z w64 (of_z w64 c.from.result) ≡ pos c.args.limit = rw c.from.ensures (widened c.ranges.limit) in
    rw back (is_stale _ _ (rw back at c.if-age-lt0.false) (rw (back, wide) at c.if-age-from.false))
