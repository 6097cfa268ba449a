-- The answer's case as its number and age.
use mathlib.Core.Path.{ap₂, ◌∙◌}
use Rattle.rules.specs.Age.{age_of}
use Rattle.rules.specs.Editions.{form_in}
use Rattle.store_record.proofs.Ages.{answered_judged, answered_refused}
use Rattle.store_record.proofs.tell.Goals as goal

pub returns-in-Ok : goal.returns-in-Ok
returns-in-Ok c =
    let new = c.new in
    let new2 = c.new-2 in
    let age_of_lem = c.age_of-told in
    λ g L j.
    let told = age_of_lem in
    answered_judged _ _ _ told.result c.in-Ok.judged c.leave.result c.in-Ok.is
    (told.ensures g L j ∙ ap₂ (age_of (form_in c.args.tears g) _ _) new.ensures new2.ensures)
    c.leave.ensures

pub returns-in-Err : goal.returns-in-Err
returns-in-Err c =
    let new = c.new in
    let new2 = c.new-2 in
    let age_of_lem = c.age_of-told in
    λ g L j.
    let told = age_of_lem in
    answered_refused _ _ told.result c.in-Err.refusal c.from.result c.in-Err.is
    (told.ensures g L j ∙ ap₂ (age_of (form_in c.args.tears g) _ _) new.ensures new2.ensures)
    c.from.ensures
