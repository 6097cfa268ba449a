-- `due_event` refuses the kinds that it doesn't know, and leaves the others to `plain_event`.
use mathlib.Core.Path.{refl}
use native.Mathlib.Omega.{arith}
use Rattle.rules.specs.Editions.{edition1}
use Rattle.history.specs.Demand3.{settled_in}
use Rattle.audit_event.specs.Step.{open_answers}
use Rattle.audit_event.proofs.Refuses.{other_is}
use Rattle.audit_event.proofs.due_event.Goals as goal

pub returns-then-e-gt8 : goal.returns-then-e-gt8
unfolding open_answers
returns-then-e-gt8 c =
    let a = c.args in
    let s = a.tables.now in
    let p = c.requires in
    other_is (settled_in edition1 a.start.now) s.owner s.links.parent s.links.fate s.bearer a.list.events.now a.store.now s.begun a.list.n s.up a.e a.e.kind refl c.if-e-gt8.true p.3.kind p.4

pub plain_event-requires : goal.plain_event-requires
plain_event-requires c = let p = c.requires in (p.0, p.1, p.2, p.3, p.4, omega (arith, c.if-e-gt8.false))

pub returns : goal.returns
returns c = c.plain_event.ensures
