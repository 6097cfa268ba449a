-- The tests in the order of the refusals.
use borrow.Author.Rules.{rules}
use mathlib.Core.Path.{◌≡◌, sym, ap, ◌∙◌}
use Rattle.std.specs.Prelude.{Err}
use Rattle.store_length.specs.Lengths.{length_told}
use Rattle.store_length.proofs.Lengths.{buffers_of, run_by, refused_part, refused_long, refused_answers, refused_not}
use Rattle.store_length.proofs.refusal.Goals as goal

pub returns-in_err-buffers : goal.returns-in_err-buffers
unfolding length_told
returns-in_err-buffers c =
    let a = c.args in
    let err : c.from_residual.result ≡ Err c.in_err-buffers.field-0.0 = search rules in
    ap length_told err ∙ run_by a.tears a.records a.word a.store a.events a.work a.answers (sym c.buffers.ensures ∙ ap length_told c.in_err-buffers.was)

pub returns-then-events-word-ne0 : goal.returns-then-events-word-ne0
unfolding length_told
returns-then-events-word-ne0 c =
    let a = c.args in
    let b = buffers_of a.tears a.records a.store a.work (sym (ap length_told c.in_ok-buffers.was) ∙ c.buffers.ensures) in
    refused_part a.tears a.records a.word a.store a.events a.work a.answers b.0 b.1 c.if-events-word-ne0.true

pub returns-then-word-events : goal.returns-then-word-events
unfolding length_told
returns-then-word-events c =
    let a = c.args in
    let b = buffers_of a.tears a.records a.store a.work (sym (ap length_told c.in_ok-buffers.was) ∙ c.buffers.ensures) in
    refused_long a.tears a.records a.word a.store a.events a.work a.answers b.0 b.1 c.if-events-word-ne0.false (search rules)

pub returns-then-answers-events : goal.returns-then-answers-events
unfolding length_told
returns-then-answers-events c =
    let a = c.args in
    let b = buffers_of a.tears a.records a.store a.work (sym (ap length_told c.in_ok-buffers.was) ∙ c.buffers.ensures) in
    refused_answers a.tears a.records a.word a.store a.events a.work a.answers b.0 b.1 c.if-events-word-ne0.false (search rules) (search rules)

pub returns : goal.returns
unfolding length_told
returns c =
    let a = c.args in
    let b = buffers_of a.tears a.records a.store a.work (sym (ap length_told c.in_ok-buffers.was) ∙ c.buffers.ensures) in
    refused_not a.tears a.records a.word a.store a.events a.work a.answers b.0 b.1 c.if-events-word-ne0.false (search rules) (search rules)
