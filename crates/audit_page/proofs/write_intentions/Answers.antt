-- `write_intentions` is a sweep over the records, and one page write with what it left of the count.
use mathlib.Core.Logic.{inl}
use mathlib.Core.Path.{refl}
use Rattle.leaf_commit_page.proofs.Places.{layout1}
use Rattle.rules.specs.Editions.{geometry1}
use borrow.Author.Rules.{rules}
use Rattle.store_write.proofs.Phases.{phase_then, phase_page}
use Rattle.audit_page.proofs.write_intentions.Goals as goal

pub commit_page-requires : goal.commit_page-requires
commit_page-requires c = (inl refl, search rules)

pub returns : goal.returns
returns c =
    let write_records = c.write_records-rest in
    let commit_page = c.commit_page in
    λ l K. phase_then (write_records.ensures l K) (phase_page (commit_page.ensures geometry1 layout1) c.write_one.ensures)
