-- By the tests.
use mathlib.Core.Path.{sym}
use Prim.Native.Nat.{◌/◌}
use native.Mathlib.Omega.{arith}
use Rattle.state_array.specs.Kin.{lives_in}
use Rattle.wait_graph.specs.Pointing.{row_of, number_of_refusal, refused_with}
use Rattle.wait_graph.proofs.Reaching.{number_dead, number_record, number_mode, number_fine, dead_past, dead_zero, lives_more}
use Rattle.wait_graph.proofs.check_row.Goals as goal

pub returns-then-t-ge24-clause-refusal : goal.returns-then-t-ge24-clause-refusal
unfolding refused_with number_of_refusal
returns-then-t-ge24-clause-refusal c =
    let a = c.args in
    sym (number_dead (lives_in a.depth.now) (row_of a.w) (dead_past a.depth.now (a.w / 65536) (omega (arith, c.requires))))

pub returns-then-depth-t-eq0-clause-refusal : goal.returns-then-depth-t-eq0-clause-refusal
unfolding refused_with number_of_refusal
returns-then-depth-t-eq0-clause-refusal c =
    let a = c.args in
    sym (number_dead (lives_in a.depth.now) (row_of a.w) (dead_zero a.depth.now (a.w / 65536) c.if-depth-t-eq0.true))

pub returns-then-w-gt15-clause-refusal : goal.returns-then-w-gt15-clause-refusal
unfolding refused_with number_of_refusal
returns-then-w-gt15-clause-refusal c =
    let a = c.args in
    sym (number_record (lives_in a.depth.now) (row_of a.w) (lives_more a.depth.now (a.w / 65536) c.if-depth-t-eq0.false) c.if-w-gt15.true)

pub returns-then-w-gt1-clause-refusal : goal.returns-then-w-gt1-clause-refusal
unfolding refused_with number_of_refusal
returns-then-w-gt1-clause-refusal c =
    let a = c.args in
    sym (number_mode (lives_in a.depth.now) (row_of a.w) (lives_more a.depth.now (a.w / 65536) c.if-depth-t-eq0.false) (omega arith) c.if-w-gt1.true)

pub returns-clause-refusal : goal.returns-clause-refusal
unfolding refused_with
returns-clause-refusal c =
    let a = c.args in
    sym (number_fine (lives_in a.depth.now) (row_of a.w) (lives_more a.depth.now (a.w / 65536) c.if-depth-t-eq0.false) (omega arith) c.if-w-gt1.false)
