-- The verdict by its number and its place.
use mathlib.Core.Path.{refl, sym}
use Rattle.audit_rules.specs.Audit.{belongs, wrong_event, wrong_page, refuses}
use Rattle.audit_verdict.specs.Codes.{number_in, place_in, audit_refusal, verdict_in}
use Rattle.audit_verdict.proofs.Ending.{told}
use Rattle.audit_verdict.proofs.audit.Goals as goal

pub returns-in-Ok-Belongs : goal.returns-in-Ok-Belongs
unfolding number_in place_in verdict_in
returns-in-Ok-Belongs c =
    let i = c.in-Ok-Belongs in
    told _ belongs _ _ c.args.place.now (sym (rw i.field-0-is at i.ensures)) refl refl

pub returns-in-Ok-WrongEvent : goal.returns-in-Ok-WrongEvent
unfolding number_in place_in verdict_in
returns-in-Ok-WrongEvent c =
    let i = c.in-Ok-WrongEvent in
    told _ (wrong_event i.k) _ _ c.args.place.now (sym (rw i.field-0-is at i.ensures)) refl refl

pub returns-in-Ok-WrongPage : goal.returns-in-Ok-WrongPage
unfolding number_in place_in verdict_in
returns-in-Ok-WrongPage c =
    let i = c.in-Ok-WrongPage in
    told _ (wrong_page i.p) _ _ c.args.place.now (sym (rw i.field-0-is at i.ensures)) refl refl

pub returns-in-Err : goal.returns-in-Err
unfolding number_in place_in verdict_in
returns-in-Err c =
    told _ (refuses (audit_refusal c.in-Err.refusal)) _ _ c.args.place.now (sym c.in-Err.ensures) c.from.ensures refl
