-- By whether the state is sound, store aside.
use mathlib.Core.Path.{sym, ◌∙◌}
use mathlib.Core.Bool.{true≢false, false≢true}
use Rattle.open_lent.proofs.report_of.Goals as goal

pub report_sound-requires : goal.report_sound-requires
report_sound-requires c = (c.is_state_aside.ensures.yes c.if-is_state_aside.true).0

pub returns-then-is_state_aside : goal.returns-then-is_state_aside
returns-then-is_state_aside c =
    let s = c.is_state_aside in
    let t = c.if-is_state_aside.true in
    record { sound = s.result; found = s.ensures; refused = λ q. absurd (true≢false (sym t ∙ q)); judged = λ _. c.report_sound.ensures; untouched = c.report_sound.ensures.untouched }

pub returns : goal.returns
returns c =
    let s = c.is_state_aside in
    let t = c.if-is_state_aside.false in
    record { sound = s.result; found = s.ensures; refused = λ _. c.refused.ensures.1; judged = λ q. absurd (false≢true (sym t ∙ q)); untouched = λ _. c.refused.ensures.0 }
