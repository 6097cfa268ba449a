-- The lengths decide; where they are right a portion from the start is the list's run, and the page write is the one that the rules plan on the state
-- that it leaves.
use mathlib.Core.Path.{◌≡◌, refl, sym, ap, ◌∙◌}
use mathlib.Core.Bool.{false, true≢false}
use mathlib.Core.Logic.{inr}
use native.Mathlib.Omega.{arith}
use lib.ListN.{length}
use Rattle.rules.specs.Geometry.{records, page_count}
use Rattle.rules.specs.Event.{decode}
use Rattle.rules.specs.Editions.{geometry2, edition2, second}
use Rattle.leaf_commit_page.proofs.Places.{layout2}
use Rattle.state_whole.proofs.Parents.{parent_named}
use Rattle.store_length.proofs.Lengths.{lengths_of, question_of, told_ok, told_err}
use Rattle.engine_page_write.proofs.Numbered.{word_is}
use Rattle.nekahuiro_edition2.proofs.PageWrites.{list_refused, event_refused, list_asked}
use Rattle.nekahuiro_edition2.proofs.nekahuiro_page_write_edition2.Goals as goal

pub refusal-unplayed-requires : goal.refusal-unplayed-requires
refusal-unplayed-requires c = (omega arith, omega arith, omega arith)

pub returns-in-Err : goal.returns-in-Err
returns-in-Err c =
    let a = c.args in
    let told = told_err c.refusal-unplayed.result c.in-Err.wrong c.in-Err.is c.refusal-unplayed.ensures c.from.ensures in
    list_refused a.store.now a.events.now a.work.now a.answers.now a.event.now a.index a.write.now c.from.result told.0 told.1

pub question-asks-requires : goal.question-asks-requires
question-asks-requires c = omega arith

pub returns-in-Err-asks : goal.returns-in-Err-asks
returns-in-Err-asks c =
    let refusal = c.refusal-unplayed in
    let a = c.args in
    let told = told_err c.question-asks.result c.in-Err-asks.wrong c.in-Err-asks.is c.question-asks.ensures c.from-in-Err-asks.ensures in
    event_refused a.store.now a.events.now a.work.now a.answers.now a.event.now a.index a.write.now (told_ok refusal.result c.in_default.field-0 c.in_default.is refusal.ensures) c.from-in-Err-asks.result told.0 told.1

pub from_start-ended-requires : goal.from_start-ended-requires
from_start-ended-requires c =
    let refusal = c.refusal-unplayed in
    let l = lengths_of false 64 8 _ _ _ _ (told_ok refusal.result c.in_default.field-0 c.in_default.is refusal.ensures) in
    (l.store, l.work, l.short, l.room)

pub word_at-word-requires : goal.word_at-word-requires
word_at-word-requires c =
    let question = c.question-asks in
    let h = (question_of false 64 8 _ _ _ _ (told_ok question.result c.in_default-asks.field-0 c.in_default-asks.is question.ensures)).event in
    (omega arith, omega (arith, h))

pub slice_bounds-page_write-end : goal.slice_bounds-page_write-end
unfolding records
slice_bounds-page_write-end c =
    let from_start = c.from_start-ended in
    let h : length from_start.result.writers ≡ 64 = from_start.ensures.leads.intact.form.writerss in
    sym h

pub of_word-requires : goal.of_word-requires
of_word-requires c =
    let table = c.table-table in
    table.ensures

pub page_write-requires : goal.page_write-requires
unfolding records page_count
page_write-requires c =
    let question = c.question-asks in
    let from_start = c.from_start-ended in
    let I = from_start.ensures.leads.intact in
    (inr refl, (λ e. absurd (true≢false (sym e))), c.of_word.ensures.1.joint, I.form.parents, I.form.depths, I.form.writerss, I.form.works, I.form.stores, (question_of false 64 8 _ _ _ _ (told_ok question.result c.in_default-asks.field-0 c.in_default-asks.is question.ensures)).write, parent_named edition2 _ I)

pub returns : goal.returns
unfolding records
returns c =
    let refusal = c.refusal-unplayed in
    let question = c.question-asks in
    let from_start = c.from_start-ended in
    let word_at = c.word_at-word in
    let of_word = c.of_word in
    let a = c.args in
    let fits = told_ok refusal.result c.in_default.field-0 c.in_default.is refusal.ensures in
    let asked = told_ok question.result c.in_default-asks.field-0 c.in_default-asks.is question.ensures in
    let E = from_start.ensures in
    list_asked a.store.now a.events.now a.work.now a.answers.now a.event.now a.index a.write.now fits asked E.before _ _ E.begun E.leads (E.leads.intact.form.works ∙ sym (lengths_of false 64 8 _ _ _ _ fits).work) _
    (ap (decode geometry2) (sym (word_at.ensures ∙ word_is 8 a.event.now (question_of false 64 8 _ _ _ _ asked).event)) ∙ of_word.ensures.0) _ _
    (c.page_write.ensures second E.line E.held E.retained (record { many = layout2.many; two_phase = refl; torn = refl }) E.leads.intact)
