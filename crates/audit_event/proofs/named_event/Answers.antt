-- By the kind, and by whether it has a live child: an abort first, then a commit, then what works on a record.
use Rattle.rules.specs.Event.{abort}
use mathlib.Core.Option.{some}
use Rattle.audit_rules.specs.Plain.{borne, is_parent}
use mathlib.Core.Path.{refl, sym, ap, ◌∙◌}
use mathlib.Core.Bool.{Bool}
use native.Mathlib.Omega.{arith}
use Rattle.laws.specs.Tests.{same}
use Rattle.audit_bearer.specs.Tables.{tables, ledger_of}
use Rattle.history.specs.Demand3.{settled_in}
use Rattle.rules.specs.Editions.{edition1}
use Rattle.leaf_event.proofs.Meaning.{means_commit, means_abort}
use Rattle.audit_event.specs.Step.{open_answers}
use Rattle.audit_event.proofs.Dones.{report_is}
use Rattle.audit_event.proofs.Refuses.{waits_is, stays_is}
use Rattle.audit_event.proofs.named_event.Goals as goal

pub returns-then-kind-eq6 : goal.returns-then-kind-eq6
unfolding tables same
returns-then-kind-eq6 c =
    λ room B R. let a = c.args in let m = means_abort a.e c.if-kind-eq6.true ∙ ap (λ (w : Bool). some (abort a.e.transaction w)) (report_is a.e.value) in rw m (c.abort_event.ensures (settled_in edition1 a.start.now) a.list.events.now a.store.now a.list.n a.e.transaction (rw m at B) R.bears room)

pub returns-then-child : goal.returns-then-child
unfolding is_parent borne ledger_of tables open_answers
returns-then-child c =
    λ room B R.
    let a = c.args in
    let s = a.tables.now in
    let up = c.requires.10 in
    rw up (stays_is (settled_in edition1 a.start.now) s.owner s.links.parent s.links.fate s.bearer a.list.events.now a.store.now s.begun a.list.n a.e a.me (rw up at R) (sym c.is_parent-child.ensures ∙ c.if-child.true) c.if-kind-eq5.true (rw up at B))

pub commit_event-requires : goal.commit_event-requires
commit_event-requires c = let p = c.requires in (p.0, p.1, p.5, p.2, p.3, p.9, p.10)

pub returns-then-kind-eq5 : goal.returns-then-kind-eq5
unfolding is_parent borne ledger_of tables
returns-then-kind-eq5 c =
    λ room B R. let a = c.args in let m = means_commit a.e c.if-kind-eq5.true in rw m (c.commit_event.ensures room (rw m at B) R (sym c.is_parent-child.ensures ∙ c.if-child.false))

pub returns-then-child-2 : goal.returns-then-child-2
unfolding is_parent borne ledger_of tables open_answers
returns-then-child-2 c =
    λ room B R.
    let a = c.args in
    let s = a.tables.now in
    let up = c.requires.10 in
    rw up (waits_is (settled_in edition1 a.start.now) s.owner s.links.parent s.links.fate s.bearer a.list.events.now a.store.now s.begun a.list.n a.e a.me (rw up at R) (sym c.is_parent-child.ensures ∙ c.if-child-2.true) a.e.kind refl c.requires.7 (omega (arith, c.requires.8, c.if-kind-eq6.false, c.if-kind-eq5.false)) (rw up at B))

pub record_event-requires : goal.record_event-requires
record_event-requires c =
    let p = c.requires in
    (p.0, p.1, p.2, p.4, p.5, p.6, p.7, omega (arith, p.8, c.if-kind-eq6.false, c.if-kind-eq5.false))

pub returns : goal.returns
unfolding is_parent borne ledger_of tables
returns c = λ room B R. c.record_event.ensures c.args.store.now B R (sym c.is_parent-child.ensures ∙ c.if-child-2.false)
