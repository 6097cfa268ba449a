-- `recover_record` is the page write of one record's home page: made where the map names the record and something is left of the count.
use mathlib.Core.Path.{sym, ap, ◌∙◌}
use Prim.Native.Nat.{◌+◌}
use native.Mathlib.Omega.{arith}
use Rattle.laws.specs.Functions.{updated}
use Rattle.rules.specs.Store.{Page, pages_of, named}
use Rattle.rules.specs.Editions.{geometry1}
use Rattle.audit_page.proofs.Rows.{row_written, row_left, some_left}
use Rattle.leaf_commit_page.proofs.Places.{layout1}
use Rattle.audit_page.proofs.recover_record.Goals as goal

pub overflow_sub-result : goal.overflow_sub-result
overflow_sub-result c =
    let names = c.names in
    let if1 = c.if-names-left in
    let h = some_left names.result c.args.left if1.true in
    omega arith

pub returns-then-names-left : goal.returns-then-names-left
returns-then-names-left c =
    let names = c.names in
    let if1 = c.if-names-left in
    let get_page = c.get_page-planned in
    let a = c.args in
    row_written (named geometry1 a.map) 17 (λ j. pages_of a.store.now (1 + j)) a.r a.left _ (sym (names.ensures geometry1 layout1.many)) if1.true (c.put_page.ensures ∙ ap (λ (p : Page). updated (17 + a.r) p (pages_of a.store.now)) get_page.ensures)

pub returns : goal.returns
returns c =
    let a = c.args in
    row_left (named geometry1 a.map) 17 (λ j. pages_of a.store.now (1 + j)) a.r a.left _ (sym (c.names.ensures geometry1 layout1.many)) c.if-names-left.false
