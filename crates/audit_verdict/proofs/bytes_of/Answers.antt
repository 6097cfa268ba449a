-- By what is answered.
use mathlib.Core.Path.{refl, ap, ◌∙◌}
use Rattle.std.specs.Prelude.{Ok}
use Rattle.audit_event.specs.Step.{open_answers}
use Rattle.audit_verdict.proofs.bytes_of.Goals as goal

pub returns-in-Ok-Whole : goal.returns-in-Ok-Whole
unfolding open_answers
returns-in-Ok-Whole c = let i = c.in-Ok-Whole in rw (i.is ∙ ap Ok (rw i.is at i.field-0-is)) (refl, refl)

pub returns-in-Ok-Cut : goal.returns-in-Ok-Cut
unfolding open_answers
returns-in-Ok-Cut c = let i = c.in-Ok-Cut in rw (i.is ∙ ap Ok (rw i.is at i.field-0-is)) (refl, refl)

pub returns-in-Err : goal.returns-in-Err
unfolding open_answers
returns-in-Err c = rw c.in-Err.is (c.from.ensures, refl)
