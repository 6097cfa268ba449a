-- The tables stand for the history so far, and the walk from here says what the whole walk says; an answer that is not due ends it.
use Prim.Native.Nat.{◌<◌}
use native.Mathlib.Omega.{arith}
use Rattle.rules.specs.Store.{pages_of}
use Rattle.rules.specs.Run.{words}
use Rattle.rules.specs.Editions.{geometry1, edition1}
use Rattle.history.specs.Demand3.{settled_in}
use Rattle.audit_rules.specs.Plain.{blank_ledger}
use Rattle.audit_rules.specs.Walk.{walk}
use Rattle.audit_bearer.specs.Tables.{place_among}
use Rattle.audit_verdict.proofs.Blank.{zeros_consistent}
use Rattle.audit_verdict.proofs.Walks.{walk_start, walk_again, walk_wrong, walk_end, consistent_next}
use borrow.Author.Rules.{rules}
use Rattle.audit_verdict.proofs.walk.Goals as goal

pub loop-k-init : goal.loop-k-init
loop-k-init c =
    let a = c.args in
    (omega arith, c.requires.4, rw c.blank-tables.ensures zeros_consistent, rw c.blank-tables.ensures (walk_start (settled_in edition1 a.start.now) a.answers.now a.events.now a.n a.store.now))

pub due_event-due-requires : goal.due_event-due-requires
due_event-due-requires c =
    let table = c.table-table in
    let loop_test = c.loop-k-test in
    let a = c.args in
    let p = c.requires.0 in
    let p1 = c.requires.1 in
    let p2 = c.requires.2 in
    let p4 = c.requires.4 in
    let l = c.loop-k in
    let i = l.invariant.0 in
    let i1 = l.invariant.1 in
    let q : l.k < a.n = loop_test.true in
    ((table.ensures, omega (arith, p, q), omega (arith, p1, q)), c.requires.3, l.invariant.1, c.event_at.ensures.1, record { comes = c.event_at.ensures.0; consistent = l.invariant.2 })

pub answered-requires : goal.answered-requires
answered-requires c =
    let loop_test = c.loop-k-test in
    let a = c.args in
    let p = c.requires.0 in
    let p1 = c.requires.1 in
    let p2 = c.requires.2 in
    let p4 = c.requires.4 in
    let l = c.loop-k in
    let i = l.invariant.0 in
    let i1 = l.invariant.1 in
    let q : l.k < a.n = loop_test.true in
    (omega (arith, p, q), omega (arith, p2, q))

pub returns-then-not-answered : goal.returns-then-not-answered
unfolding place_among
returns-then-not-answered c =
    let loop_test = c.loop-k-test in
    let event_at_lem = c.event_at in
    let due_event = c.due_event-due in
    let a = c.args in
    let p = c.requires.0 in
    let p1 = c.requires.1 in
    let p2 = c.requires.2 in
    let p4 = c.requires.4 in
    let l = c.loop-k in
    let i = l.invariant.0 in
    let i1 = l.invariant.1 in
    let q : l.k < a.n = loop_test.true in
    (q, omega (arith, q), walk_wrong (settled_in edition1 a.start.now) a.answers.now a.events.now a.n (walk edition1 (settled_in edition1 a.start.now) a.answers.now blank_ledger (pages_of a.store.now) 0 (words geometry1 a.n a.events.now)) l.k _ _ l.store _ _ _ _ _ _ q event_at_lem.ensures.0 due_event.ensures c.answered.ensures (c.if-not-answered.true) l.invariant.3)

pub overflow_step-k : goal.overflow_step-k
overflow_step-k c =
    let loop_test = c.loop-k-test in
    let a = c.args in
    let p = c.requires.0 in
    let p1 = c.requires.1 in
    let p2 = c.requires.2 in
    let p4 = c.requires.4 in
    let l = c.loop-k in
    let i = l.invariant.0 in
    let i1 = l.invariant.1 in
    let q : l.k < a.n = loop_test.true in
    omega (arith, p, q)

pub loop-k-preserved : goal.loop-k-preserved
loop-k-preserved c =
    let loop_test = c.loop-k-test in
    let event_at_lem = c.event_at in
    let due_event = c.due_event-due in
    let a = c.args in
    let p = c.requires.0 in
    let p1 = c.requires.1 in
    let p2 = c.requires.2 in
    let p4 = c.requires.4 in
    let l = c.loop-k in
    let i = l.invariant.0 in
    let i1 = l.invariant.1 in
    let q : l.k < a.n = loop_test.true in
    (omega (arith, q), search rules, consistent_next _ l.k due_event.ensures.consistent, walk_again (settled_in edition1 a.start.now) a.answers.now a.events.now a.n (walk edition1 (settled_in edition1 a.start.now) a.answers.now blank_ledger (pages_of a.store.now) 0 (words geometry1 a.n a.events.now)) l.k _ _ l.store _ _ _ _ _ q event_at_lem.ensures.0 due_event.ensures c.answered.ensures (c.if-not-answered.false) l.invariant.3)

pub returns : goal.returns
unfolding place_among
returns c =
    let a = c.args in
    let l = c.loop-k in
    let i = l.invariant.0 in
    (tt, omega arith, walk_end (settled_in edition1 a.start.now) a.answers.now a.events.now a.n (walk edition1 (settled_in edition1 a.start.now) a.answers.now blank_ledger (pages_of a.store.now) 0 (words geometry1 a.n a.events.now)) l.k _ l.store (omega arith) l.invariant.3)
