-- The first row that is refused.
use mathlib.Core.Path.{◌≡◌, sym, ap, ◌∙◌}
use Prim.Native.Nat.{◌-◌}
use native.Mathlib.Omega.{arith}
use lib.ListN.{length}
use borrow.Author.Count.{below_more}
use borrow.Author.Rules.{rules}
use Rattle.state_array.specs.Kin.{lives_in}
use Rattle.std.proofs.Common.{Err}
use Rattle.std.proofs.lemmas.Grind.{common_steps}
use Rattle.wait_graph.specs.Pointing.{rows_refusal, number_of_refusal, refused_with}
use Rattle.wait_graph.proofs.Reaching.{numbers_next, numbers_stop, numbers_end, number_some}
use Rattle.wait_graph.proofs.check_rows.Goals as goal

pub loop-w-init : goal.loop-w-init
loop-w-init c =
    let a = c.args in
    let n = length a.words.now in
    let e : n ≡ n - 0 = omega arith in
    (search rules, ap (rows_refusal (lives_in a.depth.now) a.words.now 0) e, λ j h. absurd (omega arith))

pub returns-in_err-check_row-clause-refusal : goal.returns-in_err-check_row-clause-refusal
unfolding refused_with
returns-in_err-check_row-clause-refusal c =
    let l = c.loop-w in
    let a = c.args in
    let r = c.in_err-check_row.field-0.0 in
    let passed : c.from_residual.result ≡ Err r = grind (arith, common_steps) in
    ap refused_with passed
    ∙ sym (l.invariant.1 ∙ numbers_stop (lives_in a.depth.now) a.words.now l.w-index (length a.words.now) (number_of_refusal r) c.loop-w-test.true (sym c.in_err-check_row.ensures.refusal) (number_some r))

pub loop-w-preserved : goal.loop-w-preserved
unfolding refused_with
loop-w-preserved c =
    let l = c.loop-w in
    let a = c.args in
    let e = c.in_ok-check_row.ensures in (
      search rules,
      l.invariant.1 ∙ numbers_next (lives_in a.depth.now) a.words.now l.w-index (length a.words.now) c.loop-w-test.true (sym e.refusal),
      below_more _ _ l.invariant.2 e.in_range,
    )

pub returns-clause-refusal : goal.returns-clause-refusal
unfolding refused_with
returns-clause-refusal c =
    let l = c.loop-w in
    let a = c.args in
    sym (l.invariant.1 ∙ numbers_end (lives_in a.depth.now) a.words.now l.w-index (length a.words.now) (omega arith))
