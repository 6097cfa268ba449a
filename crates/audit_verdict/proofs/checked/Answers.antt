-- The refusals in their order; where none applies the lengths are right and nothing is of two-phase commit.
use mathlib.Core.Path.{◌≡◌, sym, ap₂, ◌∙◌}
use mathlib.Core.Bool.{Bool, false, ◌||◌}
use Prim.Native.Nat.{◌*◌, ◌/◌, ◌<◌}
use native.Mathlib.Omega.{arith}
use lib.ListN.{length}
use Rattle.laws.specs.Tests.{same, under}
use Rattle.laws.proofs.Tests.{lt-under, under-lt}
use Rattle.laws.proofs.Booleans.{refute}
use Rattle.audit_verdict.specs.Codes.{refused_by, refusal_of}
use Rattle.audit_verdict.proofs.Ending.{sizes, short, fit, first_22, first_20, first_21, first_30, first_0}
use Rattle.audit_verdict.proofs.checked.Goals as goal

pub returns-then-start-end : goal.returns-then-start-end
unfolding same under refused_by refusal_of
returns-then-start-end c =
    let a = c.args in
    (first_22 a.start.now a.events.now a.answers.now a.end.now c.if-start-end.true, tt)

pub returns-then-size : goal.returns-then-size
unfolding same under refused_by refusal_of
returns-then-size c =
    let a = c.args in
    (first_20 a.start.now a.events.now a.answers.now a.end.now c.if-start-end.false c.if-size.true, tt)

pub returns-then-answers-n : goal.returns-then-answers-n
unfolding same under refused_by refusal_of
returns-then-answers-n c =
    let a = c.args in
    let h : length a.answers.now < 2 * (length a.events.now / 4) = c.if-answers-n.true in
    (first_21 a.start.now a.events.now a.answers.now a.end.now c.if-start-end.false c.if-size.false (lt-under (length a.answers.now) (2 * (length a.events.now / 4)) h), tt)

pub two_phase-requires : goal.two_phase-requires
unfolding same under
two_phase-requires c =
    let a = c.args in
    short a.start.now a.events.now a.answers.now a.end.now c.if-size.false

pub prepared-requires : goal.prepared-requires
unfolding same under
prepared-requires c =
    let if1 = c.if-start-end in
    let a = c.args in
    (sizes a.start.now a.events.now a.answers.now a.end.now if1.false).0

pub returns-then-two_phase-prepared : goal.returns-then-two_phase-prepared
unfolding same under refused_by refusal_of
returns-then-two_phase-prepared c =
    let if1 = c.if-start-end in
    let if2 = c.if-size in
    let if3 = c.if-answers-n in
    let a = c.args in
    let f : under (length a.answers.now) (2 * (length a.events.now / 4)) ≡ false = refute (under (length a.answers.now) (2 * (length a.events.now / 4))) (λ d. let g = under-lt (length a.answers.now) (2 * (length a.events.now / 4)) d in let h = if3.false in absurd (omega (arith, g, h))) in
    (first_30 a.start.now a.events.now a.answers.now a.end.now if1.false if2.false f (sym (ap₂ (λ (x y : Bool). x || y) c.two_phase.ensures c.prepared.ensures) ∙ c.if-two_phase-prepared.true), tt)

pub returns : goal.returns
unfolding same under refused_by refusal_of
returns c =
    let if1 = c.if-start-end in
    let if2 = c.if-size in
    let if3 = c.if-answers-n in
    let a = c.args in
    let f : under (length a.answers.now) (2 * (length a.events.now / 4)) ≡ false = refute (under (length a.answers.now) (2 * (length a.events.now / 4))) (λ d. let g = under-lt (length a.answers.now) (2 * (length a.events.now / 4)) d in let h = if3.false in absurd (omega (arith, g, h))) in
    (first_0 a.start.now a.events.now a.answers.now a.end.now if1.false if2.false f (sym (ap₂ (λ (x y : Bool). x || y) c.two_phase.ensures c.prepared.ensures) ∙ c.if-two_phase-prepared.false), fit a.start.now a.events.now a.answers.now a.end.now if1.false if2.false f)
