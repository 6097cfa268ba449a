-- The lengths decide; where they are right a portion from the start is the run.
use borrow.Author.Rules.{rules}
use mathlib.Core.Path.{◌≡◌, sym, subst⁻¹, ◌∙◌}
use Rattle.store_length.proofs.Lengths.{lengths_of, told_ok, told_err}
use Rattle.rules.specs.Editions.{geometry_of, form_in, edition_of}
use Rattle.event_crash.proofs.Editions.{served_of, size_is}
use Rattle.engine_list.proofs.Words.{four_of}
use Rattle.open_run.proofs.Running.{run_refused, run_played, from_start}
use Rattle.rules.specs.State.{down}
use Rattle.state_whole.specs.declared.State.{State}
use Rattle.state_whole.specs.Lain.{arrays_in}
use Rattle.state_whole.specs.Whole.{view, Intact}
use Rattle.state_whole.proofs.Parameters.{flag}
use Rattle.open_lent.proofs.run_of.Goals as goal

pub returns-in-Err : goal.returns-in-Err
returns-in-Err o c =
    let a = c.args in
    let edition = edition_of 16 (flag o.row.JOINT) (flag o.row.TEARS) in
    let g = geometry_of edition in
    let N = c.requires in
    let told = told_err c.refusal-n.result c.in-Err.wrong c.in-Err.is c.refusal-n.ensures c.from.ensures in
    run_refused (flag o.row.TEARS) 16 4 g N.many (four_of edition N.many) (served_of edition).deep a.store.now a.events.now a.work.now a.answers.now c.from.result told.0 told.1

pub portion-requires : goal.portion-requires
portion-requires o c =
    let a = c.args in
    let edition = edition_of 16 (flag o.row.JOINT) (flag o.row.TEARS) in
    let N = c.requires in
    let g = geometry_of edition in
    let l = lengths_of (flag o.row.TEARS) 16 4 _ _ _ _ (told_ok c.refusal-n.result c.in_default.field-0 c.in_default.is c.refusal-n.ensures) in
    let begun = c.start.ensures edition (flag o.row.JOINT) (flag o.row.TEARS) N a.work.now a.store.now l.work (l.store ∙ sym (size_is (flag o.row.TEARS) g 16 N.many)) in
    (subst⁻¹ (λ (s : State 16 32). Intact (form_in (flag o.row.TEARS) g) (arrays_in s a.work.now a.store.now)) c.state-s.ensures begun.0, N, l.short, l.room)

pub returns : goal.returns
returns o c =
    let a = c.args in
    let edition = edition_of 16 (flag o.row.JOINT) (flag o.row.TEARS) in
    let N = c.requires in
    let g = geometry_of edition in
    let none = told_ok c.refusal-n.result c.in_default.field-0 c.in_default.is c.refusal-n.ensures in
    let l = lengths_of (flag o.row.TEARS) 16 4 _ _ _ _ none in
    let begun = c.start.ensures edition (flag o.row.JOINT) (flag o.row.TEARS) N a.work.now a.store.now l.work (l.store ∙ sym (size_is (flag o.row.TEARS) g 16 N.many)) in
    let begins = subst⁻¹ (λ (s : State 16 32). view (form_in (flag o.row.TEARS) g) (arrays_in s a.work.now a.store.now) ≡ down ((form_in (flag o.row.TEARS) g).medium.from_bytes a.store.now)) c.state-s.ensures begun.1 in
    run_played (flag o.row.TEARS) 16 4 g N.many (four_of edition N.many) (served_of edition).deep a.store.now a.events.now a.work.now a.answers.now _ _ _ none (from_start (form_in (flag o.row.TEARS) g) a.store.now a.events.now a.answers.now _ _ _ begins c.portion.ensures) (search rules)
