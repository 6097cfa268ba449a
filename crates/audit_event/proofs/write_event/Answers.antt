-- Refused where it does not hold the lock to write; else the event is noted as that transaction's.
use Rattle.audit_scan.specs.Scans.{is_any}
use Rattle.audit_bearer.specs.Tables.{tables}
use Rattle.audit_event.specs.Step.{open_answers}
use Rattle.audit_event.proofs.Owns.{write_9, write_0, write_told}
use mathlib.Core.Path.{◌∙◌}
use Rattle.audit_event.proofs.write_event.Goals as goal

pub returns-then-holds : goal.returns-then-holds
unfolding tables open_answers is_any
returns-then-holds c =
    λ start store t o v B R alone.
    let a = c.args in
    let s = a.tables.now in
    let list = a.list in
    let told = write_told start s.owner s.links.parent s.links.fate s.bearer list.events.now store s.begun list.n t a.me a.r c.holds.result c.holds.ensures ∙ c.if-holds.true in
    rw R.up (write_0 start s.owner s.links.parent s.links.fate s.bearer list.events.now store s.begun list.n t a.me (rw R.up at R) (rw R.up at alone) a.r o v told (rw R.up at B) c.requires.0.1)

pub returns : goal.returns
unfolding tables open_answers is_any
returns c =
    λ start store t o v B R alone.
    let a = c.args in
    let s = a.tables.now in
    let list = a.list in
    let told = write_told start s.owner s.links.parent s.links.fate s.bearer list.events.now store s.begun list.n t a.me a.r c.holds.result c.holds.ensures ∙ c.if-holds.false in
    rw R.up (write_9 start s.owner s.links.parent s.links.fate s.bearer list.events.now store s.begun list.n t a.me (rw R.up at R) (rw R.up at alone) a.r o v told (rw R.up at B))
