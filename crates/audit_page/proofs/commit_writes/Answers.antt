-- `commit_writes` has the four phases of a commit, each with the count that the one before it left; a transaction that changed nothing writes nothing.
use Rattle.leaf_commit_page.proofs.Places.{layout1}
use Rattle.rules.specs.Editions.{geometry1}
use borrow.Author.Rules.{rules}
use mathlib.Core.Logic.{inl}
use mathlib.Core.Path.{◌∙◌, refl}
use mathlib.Core.Bool.{true, false}
use mathlib.Core.List.{[]}
use native.Mathlib.Omega.{arith}
use Rattle.laws.specs.Tests.{same}
use Rattle.rules.specs.Store.{pages_of}
use Rattle.rules.specs.Editions.{edition1}
use Rattle.history.specs.Demand3.{settled_in}
use Rattle.audit_rules.specs.Plain.{changes_by}
use Rattle.audit_bearer.specs.Tables.{tables, ledger_of}
use Rattle.store_write.proofs.Phases.{within, phase_page}
use Rattle.store_commit.proofs.Plans.{commit_none, by_commit}
use Rattle.audit_page.specs.Changed.{made_in, is_cut, changed_page}
use Rattle.audit_page.proofs.Ledgers.{linked}
use Rattle.audit_page.proofs.Halves.{halves_leave}
use Rattle.audit_page.proofs.Versions.{ones_are, versions_are, small_map}
use Rattle.audit_page.proofs.commit_writes.Goals as goal

pub returns-then-map-eq0 : goal.returns-then-map-eq0
unfolding made_in is_cut
returns-then-map-eq0 c =
    λ bearer begun t bears. let a = c.args in let l = ledger_of (tables a.view.owner.now a.view.links.now.parent a.view.links.now.fate bearer begun true) a.view.list.events.now a.view.list.n in let K = linked a.view.owner.now a.view.links.now.parent a.view.links.now.fate bearer a.view.list.events.now begun a.view.list.n true in let m = c.changed_map-map.ensures.0 l K in let map = c.changed_map-map.result in let are = versions_are a.start.now a.view.owner.now a.view.links.now.parent a.view.links.now.fate bearer a.view.list.events.now begun a.view.list.n t a.view.me map bears m in let v = changes_by edition1 (settled_in edition1 a.start.now) l.story t in let new = changed_page l a.start.now a.view.owner.now a.view.list.events.now a.view.list.n a.view.me in let small = c.changed_map-map.ensures.1 in let ones = c.ones-ones.ensures.0 geometry1 (small_map map small) ∙ ones_are a.start.now a.view.owner.now a.view.links.now.parent a.view.links.now.fate bearer a.view.list.events.now begun a.view.list.n t a.view.me map bears m in (by_commit false geometry1 a.store.now a.store.now v a.k 0 _ (commit_none geometry1 16 layout1.many map v new are false (pages_of a.store.now) a.k c.if-map-eq0.true), ones)

pub write_intentions-a-requires : goal.write_intentions-a-requires
write_intentions-a-requires c =
    let changed_map = c.changed_map-map in
    let p = c.requires in
    (p.0, p.1, p.2, p.3, changed_map.ensures.1)

pub write_records-b-requires : goal.write_records-b-requires
write_records-b-requires c =
    let p = c.requires in
    (p.0, p.1, p.2, search rules, omega arith)

pub commit_page-requires : goal.commit_page-requires
commit_page-requires c = (inl refl, omega arith)

pub write_one-c-requires : goal.write_one-c-requires
write_one-c-requires c = (omega arith, search rules depth 7)

pub overflow_sub-k : goal.overflow_sub-k
overflow_sub-k c =
    let write_intentions = c.write_intentions-a in
    let write_records = c.write_records-b in
    let a = c.args in
    let l = ledger_of (tables a.view.owner.now a.view.links.now.parent a.view.links.now.fate [] 0 true) a.view.list.events.now a.view.list.n in
    let K = linked a.view.owner.now a.view.links.now.parent a.view.links.now.fate [] a.view.list.events.now 0 a.view.list.n true in
    let x = within (write_intentions.ensures l K) in
    let y = within (write_records.ensures l K) in
    let z = within c.write_one-c.ensures in
    omega (arith, x, y, z)

pub shape_of-store : goal.shape_of-store
shape_of-store c = search rules depth 9

pub returns : goal.returns
unfolding same
returns c =
    let changed_map = c.changed_map-map in
    let at_ones = c.ones-ones in
    let if1 = c.if-map-eq0 in
    let write_intentions = c.write_intentions-a in
    let write_records = c.write_records-b in
    let commit_page = c.commit_page in
    λ bearer begun t bears. let a = c.args in let l = ledger_of (tables a.view.owner.now a.view.links.now.parent a.view.links.now.fate bearer begun true) a.view.list.events.now a.view.list.n in let K = linked a.view.owner.now a.view.links.now.parent a.view.links.now.fate bearer a.view.list.events.now begun a.view.list.n true in let m = changed_map.ensures.0 l K in let map = changed_map.result in let are = versions_are a.start.now a.view.owner.now a.view.links.now.parent a.view.links.now.fate bearer a.view.list.events.now begun a.view.list.n t a.view.me map bears m in let v = changes_by edition1 (settled_in edition1 a.start.now) l.story t in let new = changed_page l a.start.now a.view.owner.now a.view.list.events.now a.view.list.n a.view.me in let small = changed_map.ensures.1 in let ones = at_ones.ensures.0 geometry1 (small_map map small) ∙ ones_are a.start.now a.view.owner.now a.view.links.now.parent a.view.links.now.fate bearer a.view.list.events.now begun a.view.list.n t a.view.me map bears m in (rw (c.counted.ensures.0, c.counted.ensures.1) (halves_leave map v new are small if1.false (write_intentions.ensures l K) (write_records.ensures l K) (phase_page (commit_page.ensures geometry1 layout1) c.write_one-c.ensures)), ones)
