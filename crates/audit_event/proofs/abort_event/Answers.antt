-- All within the transaction end, and its own fate is set after: what the rules' abort comes to in the tables.
use native.Mathlib.Omega.{arith}
use Rattle.std.specs.Int.{from_bool}
use Rattle.audit_link.specs.Links.{one_of}
use Rattle.audit_bearer.specs.Tables.{tables}
use Rattle.audit_event.specs.Step.{open_answers}
use Rattle.audit_event.proofs.Aborts.{abort_0}
use Rattle.audit_event.proofs.Dones.{report_byte, report_small}
use Rattle.audit_event.proofs.abort_event.Goals as goal

pub end_within-requires : goal.end_within-requires
end_within-requires c = let t = c.requires.0 in (t.bearers, t.long, t.wide, t.earlier, c.requires.2)

pub returns : goal.returns
unfolding tables open_answers one_of
returns c =
    λ start events store n t B bears room.
    let a = c.args in
    let s = a.tables.now in
    let e = c.end_within.ensures in
    let stay = e.4 in
    let up = c.requires.3 in
    let v = from_bool a.report in
    let m = report_byte a.report in
    let I = e.0 s.begun room B.consistent.matched in
    rw (c.from.ensures, stay.0, stay.1, stay.2, stay.3, up)
    (rw m at (abort_0 start s.owner s.links.parent s.links.fate s.bearer events store s.begun n t a.me v (report_small a.report) (rw m (rw up at B)) bears (λ z. omega (arith, z, c.requires.2)) room I.0 I.1))
