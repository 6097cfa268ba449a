-- Each case leaves its age and answers its number.
use borrow.Author.Rules.{rules}
use mathlib.Core.Path.{refl, ◌∙◌}
use mir.Syntax.{w64}
use mir.Facts.{to_z-of_z}
use Rattle.leaf_age.specs.Meaning.{judged_age}
use Rattle.store_record.specs.Ages.{age_number, age_left}
use Rattle.store_record.proofs.leave.Goals as goal

pub returns-in-Live : goal.returns-in-Live
unfolding judged_age age_number age_left
returns-in-Live c = rw c.in-Live.is (refl, to_z-of_z {w = w64} {z = c.value.result} (search rules) ∙ c.value.ensures)

pub returns-in-Ahead : goal.returns-in-Ahead
unfolding judged_age age_number age_left
returns-in-Ahead c = rw c.in-Ahead.is (refl, to_z-of_z {w = w64} {z = c.value-in-Ahead.result} (search rules) ∙ c.value-in-Ahead.ensures)

pub returns-in-Stale : goal.returns-in-Stale
unfolding judged_age age_number age_left
returns-in-Stale c = rw c.in-Stale.is (refl, to_z-of_z {w = w64} {z = c.value-in-Stale.result} (search rules) ∙ c.value-in-Stale.ensures)
