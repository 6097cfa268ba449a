-- The plan, and the write in it.
use mathlib.Core.Path.{sym}
use Rattle.rules.specs.Editions.{geometry_of}
use Rattle.claim_device.specs.Asked.{said_of}
use Rattle.event_crash.proofs.Editions.{layout_of}
use Rattle.engine_page_write.specs.Phases.{nothing, writes_of}
use Rattle.engine_page_write.proofs.Numbered.{told_write, told_none}
use Rattle.engine_page_write.proofs.Planned.{nothing_at, told_as}
use Rattle.engine_page_write.proofs.page_write.Goals as goal

pub returns-in_default : goal.returns-in_default
unfolding said_of
returns-in_default c =
    let a = c.args in
    λ edition line held retained N I.
    let g = geometry_of edition in
    told_as a.tears a.index a.write.now (c.in_default.ensures.plans edition line held retained a.work.now N I).writes (told_none (writes_of a.tears g a.records nothing a.work.now a.store.now) a.tears a.index _ c.page_number-i.ensures a.write.now (nothing_at a.tears g a.records a.work.now a.store.now _))

pub numbered_page-requires : goal.numbered_page-requires
numbered_page-requires c =
    let bound = c.in-Some.ensures.map_bound in
    (c.requires.0, bound.0, bound.1, c.requires.6, c.requires.7)

pub returns-in_default-numbered_page : goal.returns-in_default-numbered_page
unfolding said_of
returns-in_default-numbered_page c =
    let a = c.args in
    λ edition line held retained N I. told_as a.tears a.index a.write.now (c.in-Some.ensures.plans edition line held retained a.work.now N I).writes (told_none _ a.tears a.index _ c.page_number-i.ensures a.write.now (sym (c.in_default-numbered_page.ensures (geometry_of edition) (layout_of edition _ _ _ N))))

pub returns : goal.returns
unfolding said_of
returns c =
    let a = c.args in
    λ edition line held retained N I. told_as a.tears a.index a.write.now (c.in-Some.ensures.plans edition line held retained a.work.now N I).writes (told_write _ a.tears a.index _ c.page_number-i.ensures a.write.now _ _ _ (sym (c.in-Some-numbered_page.ensures (geometry_of edition) (layout_of edition _ _ _ N))) c.put_write.ensures)
