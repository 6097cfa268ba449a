-- What is taken out of the lent state is put back.
use mathlib.Core.Path.{subst, subst⁻¹}
use Rattle.rules.specs.Editions.{geometry_of, form_in, edition_of}
use Rattle.state_whole.specs.declared.State.{State}
use Rattle.engine_portion.specs.declared.Engine.{Engine}
use Rattle.engine_portion.specs.Portion.{lent_as}
use Rattle.open_lent.specs.Portions.{kept, PortionedAs}
use Rattle.state_whole.proofs.Parameters.{flag}
use Rattle.open_lent.proofs.portion_of.Goals as goal

pub returns : goal.returns
returns o c =
    let a = c.args in
    let f = form_in (flag o.row.TEARS) (geometry_of (edition_of 16 (flag o.row.JOINT) (flag o.row.TEARS))) in
    subst⁻¹ (λ (y : Engine). PortionedAs f (kept a.e a.work.now a.store.now) a.events.now a.answers.now c.played_on-number.result (kept y c.played_on-number.new.work c.played_on-number.new.store) c.played_on-number.new.answers) c.of.ensures
    (subst (λ (s : State 16 32). PortionedAs f (kept (lent_as s a.e.spare) a.work.now a.store.now) a.events.now a.answers.now c.played_on-number.result (kept (lent_as c.played_on-number.new.s a.e.spare) c.played_on-number.new.work c.played_on-number.new.store) c.played_on-number.new.answers) c.state-s.ensures c.played_on-number.ensures)
