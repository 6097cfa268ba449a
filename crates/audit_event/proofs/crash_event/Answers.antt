-- All end.
use Rattle.audit_link.specs.Links.{one_of}
use Rattle.audit_bearer.specs.Tables.{tables}
use Rattle.audit_event.specs.Step.{open_answers}
use Rattle.audit_event.proofs.Aborts.{crash_0}
use Rattle.audit_event.proofs.crash_event.Goals as goal

pub end_within-requires : goal.end_within-requires
end_within-requires c = let t = c.requires in (t.bearers, t.long, t.wide, t.earlier, tt)

pub returns : goal.returns
unfolding tables open_answers one_of
returns c =
    λ start events store n B room.
    let s = c.args.tables.now in
    let e = c.end_within.ensures in
    let I = e.0 s.begun room B.consistent.matched in
    let stay = e.4 in
    rw (stay.0, stay.1, stay.2) (crash_0 start s.owner s.links.parent s.links.fate s.bearer events store s.begun n s.up B I.0 I.1)
