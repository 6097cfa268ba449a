-- `write_record` is the page write of one record: made where the map names the record and something is left of the count.
use mathlib.Core.Path.{sym, ap, ◌∙◌}
use Prim.Native.Nat.{◌+◌}
use native.Mathlib.Omega.{arith}
use Rattle.laws.specs.Functions.{updated}
use Rattle.rules.specs.Store.{Page, pages_of, named}
use Rattle.rules.specs.Editions.{geometry1}
use Rattle.audit_page.proofs.Rows.{row_written, row_left, some_left}
use Rattle.history.specs.History.{overlaid}
use Rattle.audit_link.specs.Links.{shows_to}
use Rattle.audit_scan.specs.Scans.{writes_up_to}
use Rattle.audit_page.specs.Changed.{changed_page}
use Rattle.leaf_commit_page.proofs.Places.{layout1}
use Rattle.audit_page.proofs.write_record.Goals as goal

pub overflow_sub-result : goal.overflow_sub-result
overflow_sub-result c =
    let names = c.names in
    let if1 = c.if-names-left in
    let h = some_left names.result c.args.left if1.true in
    omega arith

pub returns-then-names-left : goal.returns-then-names-left
unfolding changed_page
returns-then-names-left c =
    let names = c.names in
    let if1 = c.if-names-left in
    let settled_page_lem = c.settled_page in
    let page_of = c.page_of-seen in
    λ l K. let a = c.args in row_written (named geometry1 a.map) a.first (changed_page l a.start.now a.view.owner.now a.view.list.events.now a.view.list.n a.view.me) a.r a.left _ (sym (names.ensures geometry1 layout1.many)) if1.true (c.put_page.ensures ∙ ap (λ (p : Page). updated (a.first + a.r) p (pages_of a.store.now)) (page_of.ensures l K ∙ ap (overlaid (shows_to l a.view.me) a.r (writes_up_to a.view.owner.now a.view.list.events.now a.view.list.n)) settled_page_lem.ensures))

pub returns : goal.returns
returns c =
    λ l K. let a = c.args in row_left (named geometry1 a.map) a.first (changed_page l a.start.now a.view.owner.now a.view.list.events.now a.view.list.n a.view.me) a.r a.left _ (sym (c.names.ensures geometry1 layout1.many)) c.if-names-left.false
