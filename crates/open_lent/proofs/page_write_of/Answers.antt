-- The lengths decide, then the gate; where both pass, the write is the one that the rules plan.
use mathlib.Core.Path.{refl, sym, ◌∙◌}
use mathlib.Core.Logic.{inl}
use Rattle.rules.specs.Editions.{geometry_of, form_in, edition_of}
use Rattle.state_whole.proofs.Parents.{parent_named}
use Rattle.engine_list.proofs.Words.{four_of}
use Rattle.store_length.proofs.Lengths.{question_of, told_ok, told_err}
use Rattle.open_lent.specs.Portions.{kept}
use Rattle.open_lent.proofs.PageWrites.{write_size_lem, writers_long, question_refused_lem, state_refused, question_answered}
use Rattle.state_whole.proofs.Parameters.{flag}
use Rattle.open_lent.proofs.Portions.{taken}
use Rattle.open_lent.proofs.page_write_of.Goals as goal

pub returns-in-Err : goal.returns-in-Err
returns-in-Err o c =
    let a = c.args in
    let told = told_err c.question-asks.result c.in-Err.wrong c.in-Err.is c.question-asks.ensures c.from.ensures in
    question_refused_lem (flag o.row.TEARS) (edition_of 16 (flag o.row.JOINT) (flag o.row.TEARS)) c.requires.many (kept a.e a.work.now a.store.now) a.event.now a.write.now a.index c.from.result told.0 told.1

pub is_state-requires : goal.is_state-requires
is_state-requires o c =
    (question_of (flag o.row.TEARS) 16 4 _ _ _ _ (told_ok c.question-asks.result c.in_default.field-0 c.in_default.is c.question-asks.ensures)).store

pub returns-then-not-is_state : goal.returns-then-not-is_state
returns-then-not-is_state o c =
    let question = c.question-asks in
    let a = c.args in
    let edition = edition_of 16 (flag o.row.JOINT) (flag o.row.TEARS) in
    let N = c.requires in
    let fits = told_ok question.result c.in_default.field-0 c.in_default.is question.ensures in
    let l = question_of (flag o.row.TEARS) 16 4 _ _ _ _ fits in
    state_refused (flag o.row.TEARS) edition N.many (kept a.e a.work.now a.store.now) a.event.now a.write.now a.index fits _ (taken (flag o.row.TEARS) edition a.e _ a.work.now a.store.now _ c.state.ensures (c.is_state.ensures edition a.work.now N l.work)) (c.if-not-is_state.true)

pub event_of-asked-requires : goal.event_of-asked-requires
event_of-asked-requires o c =
    let question = c.question-asks in
    (question_of (flag o.row.TEARS) 16 4 _ _ _ _ (told_ok question.result c.in_default.field-0 c.in_default.is question.ensures)).event

pub page_write-requires : goal.page_write-requires
page_write-requires o c =
    let question = c.question-asks in
    let is_state = c.is_state in
    let if2 = c.if-not-is_state in
    let event_of = c.event_of-asked in
    let a = c.args in
    let edition = edition_of 16 (flag o.row.JOINT) (flag o.row.TEARS) in
    let N = c.requires in
    let l = question_of (flag o.row.TEARS) 16 4 _ _ _ _ (told_ok question.result c.in_default.field-0 c.in_default.is question.ensures) in
    let I = ((taken (flag o.row.TEARS) edition a.e _ a.work.now a.store.now _ c.state.ensures (is_state.ensures edition a.work.now N l.work)).yes (if2.false)).0 in
    let t = event_of.ensures edition (four_of edition N.many) N.torn in
    (inl refl, (λ _. refl), (λ k. sym N.two_phase ∙ t.1.joint k), I.form.parents, I.form.depths, writers_long (flag o.row.TEARS) edition N.many _ I, l.work, l.store, l.write ∙ sym (write_size_lem (flag o.row.TEARS)), parent_named (form_in (flag o.row.TEARS) (geometry_of edition)) _ I)

pub returns : goal.returns
returns o c =
    let question = c.question-asks in
    let is_state = c.is_state in
    let if2 = c.if-not-is_state in
    let event_of = c.event_of-asked in
    let a = c.args in
    let edition = edition_of 16 (flag o.row.JOINT) (flag o.row.TEARS) in
    let N = c.requires in
    let fits = told_ok question.result c.in_default.field-0 c.in_default.is question.ensures in
    let l = question_of (flag o.row.TEARS) 16 4 _ _ _ _ fits in
    let D = taken (flag o.row.TEARS) edition a.e _ a.work.now a.store.now _ c.state.ensures (is_state.ensures edition a.work.now N l.work) in
    question_answered (flag o.row.TEARS) edition N.many (kept a.e a.work.now a.store.now) a.event.now a.write.now a.index fits _ D (if2.false) _
    (event_of.ensures edition (four_of edition N.many) N.torn).0 _ _
    (c.page_write.ensures edition a.e.line a.e.held a.e.retained N (D.yes (if2.false)).0)
