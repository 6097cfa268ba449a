-- Refused where some lock bars it; else the event is noted as that transaction's.
use Rattle.audit_page.proofs.Ledgers.{linked}
use Rattle.rules.specs.Event.{access_of}
use Rattle.audit_bearer.specs.Tables.{tables}
use Rattle.audit_event.specs.Step.{open_answers}
use Rattle.audit_event.proofs.Owns.{lock_8, lock_0, lock_told}
use mathlib.Core.Path.{◌∙◌}
use mathlib.Core.Bool.{true}
use Rattle.audit_event.proofs.lock_event.Goals as goal

pub returns-then-barred : goal.returns-then-barred
unfolding tables open_answers
returns-then-barred c =
    λ start store t B R alone.
    let a = c.args in
    let s = a.tables.now in
    let list = a.list in
    let hit = rw c.barring.ensures at (c.barred.ensures _ (linked s.owner s.links.parent s.links.fate s.bearer list.events.now s.begun list.n true)) in
    let told = lock_told start s.owner s.links.parent s.links.fate s.bearer list.events.now store s.begun list.n t a.me a.r a.value c.barred.result hit ∙ c.if-barred.true in
    rw R.up (lock_8 start s.owner s.links.parent s.links.fate s.bearer list.events.now store s.begun list.n t a.me (rw R.up at R) (rw R.up at alone) a.r (access_of a.value) told (rw R.up at B))

pub returns : goal.returns
unfolding tables open_answers
returns c =
    λ start store t B R alone.
    let a = c.args in
    let s = a.tables.now in
    let list = a.list in
    let hit = rw c.barring.ensures at (c.barred.ensures _ (linked s.owner s.links.parent s.links.fate s.bearer list.events.now s.begun list.n true)) in
    let told = lock_told start s.owner s.links.parent s.links.fate s.bearer list.events.now store s.begun list.n t a.me a.r a.value c.barred.result hit ∙ c.if-barred.false in
    rw R.up (lock_0 start s.owner s.links.parent s.links.fate s.bearer list.events.now store s.begun list.n t a.me (rw R.up at R) (rw R.up at alone) a.r (access_of a.value) told (rw R.up at B) c.requires.0.1)
