-- `recover_writes` has the two phases of a recovery; over an empty commit page it writes nothing. The loop's invariant: the page writes of the records
-- below r are made as far as the count allows, and the pages up to the last intention page are as they were.
use mathlib.Core.Bool.{false}
use Rattle.leaf_commit_page.proofs.Places.{layout1}
use borrow.Author.Rules.{rules}
use mathlib.Core.Logic.{inl}
use mathlib.Core.Path.{◌≡◌, refl}
use Prim.Native.Nat.{◌+◌}
use native.Mathlib.Omega.{arith}
use Rattle.laws.specs.Tests.{same}
use Rattle.laws.specs.Counting.{those}
use Rattle.rules.specs.Store.{pages_of, named}
use Rattle.rules.specs.Editions.{geometry1}
use Rattle.store_commit.specs.Phase.{sweep}
use Rattle.store_write.proofs.Phases.{phase_none, as_spent, phase_page}
use Rattle.store_commit.proofs.Sweeps.{kept-none, kept_then, kept_row, home_more}
use Rattle.store_commit.proofs.Plans.{recover_none, recover_leaves, by_recovery}
use Rattle.audit_page.specs.Changed.{made_in, is_cut}
use Rattle.audit_page.proofs.recover_writes.Goals as goal

pub returns-then-map-eq0 : goal.returns-then-map-eq0
unfolding made_in is_cut
returns-then-map-eq0 c =
    let a = c.args in
    by_recovery false geometry1 a.store.now a.store.now a.k 0 _ (recover_none geometry1 16 layout1.many false a.map a.k (pages_of a.store.now) c.requires.1 refl c.if-map-eq0.true)

pub loop-r-init : goal.loop-r-init
unfolding sweep those
loop-r-init c = (search rules, search rules, kept-none, phase_none)

pub loop-r-preserved : goal.loop-r-preserved
loop-r-preserved c =
    let a = c.args in
    let at = c.loop-r in
    (omega arith, search rules, kept_then at.invariant.2 (kept_row 17 (λ j. pages_of at.store (1 + j)) at.r at.rest (named geometry1 a.map) c.recover_record-rest.ensures), home_more (named geometry1 a.map) 17 at.r a.k (omega arith) at.invariant.3 at.invariant.2 c.recover_record-rest.ensures)

pub commit_page-requires : goal.commit_page-requires
commit_page-requires c = (inl refl, omega arith)

pub returns : goal.returns
unfolding same
returns c =
    let if1 = c.if-map-eq0 in
    let loop = c.loop-r in
    let commit_page = c.commit_page in
    let a = c.args in
    let e : loop.r ≡ 16 = omega arith in
    rw (c.counted.ensures.0, c.counted.ensures.1) (by_recovery false geometry1 a.store.now c.write_one-d.new.store a.k _ _ (as_spent loop.rest (recover_leaves geometry1 16 layout1.many false a.map a.k (pages_of a.store.now) c.requires.1 refl if1.false (rw e at loop.invariant.3) (phase_page (commit_page.ensures geometry1 layout1) c.write_one-d.ensures))))
