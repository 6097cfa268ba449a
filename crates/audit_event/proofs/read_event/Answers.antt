-- Refused where it does not hold the lock; else the byte of the page that the history shows it.
use Rattle.audit_scan.specs.Scans.{is_any}
use Rattle.audit_page.proofs.Ledgers.{linked}
use Rattle.audit_bearer.specs.Tables.{tables}
use Rattle.audit_event.specs.Step.{open_answers}
use Rattle.audit_event.proofs.Owns.{read_9, read_0, read_told, read_byte}
use Rattle.rules.specs.Editions.{edition1}
use Rattle.history.specs.Demand3.{settled_in}
use mathlib.Core.Path.{◌∙◌}
use mathlib.Core.Bool.{true}
use Rattle.audit_event.proofs.read_event.Goals as goal

pub returns-then-holds : goal.returns-then-holds
unfolding tables open_answers is_any
returns-then-holds c =
    λ store t B R alone.
    let a = c.args in
    let s = a.tables.now in
    let list = a.list in
    let start = settled_in edition1 a.start.now in
    let told = read_told start s.owner s.links.parent s.links.fate s.bearer list.events.now store s.begun list.n t a.me a.r c.holds.result c.holds.ensures ∙ c.if-holds.true in
    let seen = c.page_of-page.ensures _ (linked s.owner s.links.parent s.links.fate s.bearer list.events.now s.begun list.n true) in
    let byte = read_byte start s.owner s.links.parent s.links.fate s.bearer list.events.now store s.begun list.n t a.me a.r a.o c.page_of-page.result c.settled_page.result seen c.settled_page.ensures in
    rw R.up (read_0 start s.owner s.links.parent s.links.fate s.bearer list.events.now store s.begun list.n t a.me (rw R.up at R) (rw R.up at alone) a.r a.o _ told byte (rw R.up at B))

pub returns : goal.returns
unfolding tables open_answers is_any
returns c =
    λ store t B R alone.
    let a = c.args in
    let s = a.tables.now in
    let list = a.list in
    let start = settled_in edition1 a.start.now in
    let told = read_told start s.owner s.links.parent s.links.fate s.bearer list.events.now store s.begun list.n t a.me a.r c.holds.result c.holds.ensures ∙ c.if-holds.false in
    rw R.up (read_9 start s.owner s.links.parent s.links.fate s.bearer list.events.now store s.begun list.n t a.me (rw R.up at R) (rw R.up at alone) a.r a.o told (rw R.up at B))
