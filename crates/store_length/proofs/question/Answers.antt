-- The tests in the order of the refusals.
use borrow.Author.Rules.{rules}
use mathlib.Core.Path.{◌≡◌, sym, ap, ◌∙◌}
use Rattle.std.specs.Prelude.{Err}
use Rattle.store_length.specs.Lengths.{length_told}
use Rattle.store_length.proofs.Lengths.{buffers_of, question_by, asks_event, asks_write, asks_well}
use Rattle.store_length.proofs.question.Goals as goal

pub returns-in_err-buffers : goal.returns-in_err-buffers
unfolding length_told
returns-in_err-buffers c =
    let a = c.args in
    let err : c.from_residual.result ≡ Err c.in_err-buffers.field-0.0 = search rules in
    ap length_told err ∙ question_by a.tears a.records a.word a.stored a.event a.working a.write (sym c.buffers.ensures ∙ ap length_told c.in_err-buffers.was)

pub returns-then-event-word : goal.returns-then-event-word
unfolding length_told
returns-then-event-word c =
    let a = c.args in
    let b = buffers_of a.tears a.records a.stored a.working (sym (ap length_told c.in_ok-buffers.was) ∙ c.buffers.ensures) in
    asks_event a.tears a.records a.word a.stored a.event a.working a.write b.0 b.1 c.if-event-word.true

pub returns-then-write-write_size : goal.returns-then-write-write_size
unfolding length_told
returns-then-write-write_size c =
    let a = c.args in
    let b = buffers_of a.tears a.records a.stored a.working (sym (ap length_told c.in_ok-buffers.was) ∙ c.buffers.ensures) in
    asks_write a.tears a.records a.word a.stored a.event a.working a.write b.0 b.1 c.if-event-word.false (λ e. c.if-write-write_size.true (e ∙ sym c.write_size.ensures))

pub returns : goal.returns
unfolding length_told
returns c =
    let a = c.args in
    let b = buffers_of a.tears a.records a.stored a.working (sym (ap length_told c.in_ok-buffers.was) ∙ c.buffers.ensures) in
    asks_well a.tears a.records a.word a.stored a.event a.working a.write b.0 b.1 c.if-event-word.false (c.if-write-write_size.false ∙ c.write_size.ensures)
