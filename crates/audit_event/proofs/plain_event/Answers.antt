-- By the kind, in the order of the refusals: a bad event, crash and recover, down, begin, a number that nobody bears, all others.
use mathlib.Core.Path.{refl, sym}
use native.Mathlib.Omega.{arith}
use Rattle.audit_link.specs.Links.{one_of, entry_at}
use Rattle.audit_bearer.specs.Tables.{tables}
use Rattle.history.specs.Demand3.{settled_in}
use Rattle.rules.specs.Editions.{edition1}
use Rattle.leaf_event.specs.Meaning.{meaning}
use Rattle.leaf_event.proofs.Meaning.{means_begin, means_crash, means_recover}
use Rattle.audit_event.specs.Step.{open_answers}
use Rattle.audit_event.proofs.Refuses.{bad_is, up_is, down_is, unknown_is}
use Rattle.audit_event.proofs.Bounds.{bounds_of, in_order}
use Rattle.audit_bearer.proofs.Matching.{number_small}
use Rattle.audit_event.proofs.plain_event.Goals as goal

pub returns-then-kind-eq0 : goal.returns-then-kind-eq0
unfolding open_answers
returns-then-kind-eq0 c =
    let a = c.args in
    let s = a.tables.now in
    bad_is (settled_in edition1 a.start.now) s.owner s.links.parent s.links.fate s.bearer a.list.events.now a.store.now s.begun a.list.n s.up a.e c.if-kind-eq0.true c.requires.4

pub crash_event-requires : goal.crash_event-requires
crash_event-requires c =
    let a = c.args in
    let s = a.tables.now in
    in_order s a.list.n (bounds_of s.owner s.links.parent s.links.fate s.bearer a.list.events.now s.begun a.list.n (meaning a.e) s.up c.requires.0.1 c.requires.4)

pub returns-then-kind-eq7 : goal.returns-then-kind-eq7
returns-then-kind-eq7 c =
    let a = c.args in
    let s = a.tables.now in
    let b = bounds_of s.owner s.links.parent s.links.fate s.bearer a.list.events.now s.begun a.list.n (meaning a.e) s.up c.requires.0.1 c.requires.4 in
    let m = means_crash a.e c.if-kind-eq7.true in
    rw m (c.crash_event.ensures (settled_in edition1 a.start.now) a.list.events.now a.store.now a.list.n (rw m at c.requires.4) b.room)

pub returns-then-tables : goal.returns-then-tables
unfolding tables open_answers
returns-then-tables c =
    let a = c.args in
    let s = a.tables.now in
    let up = c.if-tables.true in
    rw up (up_is (settled_in edition1 a.start.now) s.owner s.links.parent s.links.fate s.bearer a.list.events.now a.store.now s.begun a.list.n a.e c.if-kind-eq8.true (rw up at c.requires.4))

pub recover_event-requires : goal.recover_event-requires
recover_event-requires c =
    let a = c.args in
    let s = a.tables.now in
    (c.requires.2, in_order s a.list.n (bounds_of s.owner s.links.parent s.links.fate s.bearer a.list.events.now s.begun a.list.n (meaning a.e) s.up c.requires.0.1 c.requires.4), c.if-tables.false)

pub returns-then-kind-eq8 : goal.returns-then-kind-eq8
returns-then-kind-eq8 c =
    let a = c.args in
    let s = a.tables.now in
    let b = bounds_of s.owner s.links.parent s.links.fate s.bearer a.list.events.now s.begun a.list.n (meaning a.e) s.up c.requires.0.1 c.requires.4 in
    let m = means_recover a.e c.if-kind-eq8.true in
    rw m (c.recover_event.ensures (settled_in edition1 a.start.now) a.list.events.now a.list.n b.room (rw m at c.requires.4))

pub returns-then-not-tables : goal.returns-then-not-tables
unfolding tables open_answers
returns-then-not-tables c =
    let a = c.args in
    let s = a.tables.now in
    let up = c.if-not-tables.true in
    rw up (down_is (settled_in edition1 a.start.now) s.owner s.links.parent s.links.fate s.bearer a.list.events.now a.store.now s.begun a.list.n a.e a.e.kind refl (omega (arith, c.if-kind-eq0.false)) (omega (arith, c.requires.5, c.if-kind-eq7.false, c.if-kind-eq8.false)) (rw up at c.requires.4))

pub begin_event-requires : goal.begin_event-requires
begin_event-requires c =
    let a = c.args in
    let s = a.tables.now in
    let b = bounds_of s.owner s.links.parent s.links.fate s.bearer a.list.events.now s.begun a.list.n (meaning a.e) s.up c.requires.0.1 c.requires.4 in
    (in_order s a.list.n b, b.matched, b.more, c.if-not-tables.false)

pub returns-then-kind-eq1 : goal.returns-then-kind-eq1
returns-then-kind-eq1 c =
    let a = c.args in
    let m = means_begin a.e c.if-kind-eq1.true in
    rw m (c.begin_event.ensures (settled_in edition1 a.start.now) a.list.events.now a.store.now a.list.n (rw m at c.requires.4))

pub bearer_of-requires : goal.bearer_of-requires
bearer_of-requires c =
    let a = c.args in
    let s = a.tables.now in
    let b = bounds_of s.owner s.links.parent s.links.fate s.bearer a.list.events.now s.begun a.list.n (meaning a.e) s.up c.requires.0.1 c.requires.4 in
    (b.matched.long, b.bearers)

pub returns-in-None : goal.returns-in-None
unfolding entry_at one_of tables open_answers
returns-in-None c =
    let a = c.args in
    let s = a.tables.now in
    let up = c.if-not-tables.false in
    rw up (unknown_is (settled_in edition1 a.start.now) s.owner s.links.parent s.links.fate s.bearer a.list.events.now a.store.now s.begun a.list.n a.e (sym c.in-None.ensures.0) a.e.kind refl (omega (arith, c.if-kind-eq0.false, c.if-kind-eq1.false)) (omega (arith, c.requires.5, c.if-kind-eq7.false, c.if-kind-eq8.false)) (rw up at c.requires.4))

pub named_event-requires : goal.named_event-requires
unfolding entry_at one_of
named_event-requires c =
    let a = c.args in
    let s = a.tables.now in
    let p = c.requires in
    let e = c.in-Some.ensures in
    let b = bounds_of s.owner s.links.parent s.links.fate s.bearer a.list.events.now s.begun a.list.n (meaning a.e) s.up c.requires.0.1 c.requires.4 in
    (p.0, in_order s a.list.n b, p.1, p.2, p.3, e.1.1, e.1.0, omega (arith, c.if-kind-eq0.false, c.if-kind-eq1.false), omega (arith, p.5, c.if-kind-eq7.false, c.if-kind-eq8.false), number_small b.matched a.e.transaction (λ z. omega (arith, z, e.0, e.1.0)), c.if-not-tables.false)

pub returns-in-Some : goal.returns-in-Some
unfolding entry_at one_of tables
returns-in-Some c =
    let a = c.args in
    let s = a.tables.now in
    let e = c.in-Some.ensures in
    let b = bounds_of s.owner s.links.parent s.links.fate s.bearer a.list.events.now s.begun a.list.n (meaning a.e) s.up c.requires.0.1 c.requires.4 in
    c.named_event.ensures b.room c.requires.4 (record { up = c.if-not-tables.false; bears = sym e.0; some = λ z. omega (arith, z, e.1.0) })
