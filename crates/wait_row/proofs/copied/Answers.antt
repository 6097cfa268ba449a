-- The rows below i are copied; there are at most 24 of them, and no more than there are rows.
use Rattle.std.proofs.Common.{◌≡◌, ◌<◌, length, add-one, arith, rules, below_more, refl}
use Rattle.wait_row.specs.Copied.{least, words_to, copied_to, copied_of}
use Rattle.wait_row.proofs.Copying.{one_more, least_small, least_within}
use Rattle.wait_row.proofs.copied.Goals as goal

pub loop-i-init : goal.loop-i-init
unfolding words_to
loop-i-init c = (omega arith, refl, λ j h. absurd (omega arith))

pub offset_bounds-rows-i : goal.offset_bounds-rows-i
offset_bounds-rows-i c =
    let low = least_small (length c.args.rows.now) in
    let k : c.loop-i.i < 24 = omega arith in
    search rules

pub bounds-rows-i : goal.bounds-rows-i
bounds-rows-i c = let within = least_within (length c.args.rows.now) in omega arith

pub offset_bounds-words-i : goal.offset_bounds-words-i
offset_bounds-words-i c =
    let low = least_small (length c.args.rows.now) in
    let k : c.loop-i.i < 24 = omega arith in
    search rules

pub bounds-words-i : goal.bounds-words-i
bounds-words-i c = let low = least_small (length c.args.rows.now) in omega arith

pub loop-i-preserved : goal.loop-i-preserved
loop-i-preserved c =
    let l = c.loop-i in
    let ys = c.args.rows.now in
    let small = least_small (length ys) in
    let within = least_within (length ys) in
    let e = c.word.ensures in (
      omega arith,
      rw (add-one l.i, l.invariant.1, e.0) (one_more ys l.i (omega arith) (omega arith)),
      below_more _ _ l.invariant.2 e.1,
    )

pub returns : goal.returns
unfolding copied_of copied_to
returns c =
    let l = c.loop-i in
    let done : l.i ≡ least (length c.args.rows.now) = omega arith in
    rw (← done) (rw (← l.invariant.1) refl, l.invariant.2)
