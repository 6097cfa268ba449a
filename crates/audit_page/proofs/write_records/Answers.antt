-- `write_records` sweeps over the sixteen records. The loop's invariant: the page writes of the records below r are made as far as the count allows.
use borrow.Author.Rules.{rules}
use mathlib.Core.Path.{◌≡◌}
use native.Mathlib.Omega.{arith}
use Rattle.laws.specs.Counting.{those}
use Rattle.rules.specs.Store.{named}
use Rattle.rules.specs.Editions.{geometry1}
use Rattle.store_commit.specs.Phase.{sweep, copies}
use Rattle.store_write.proofs.Phases.{phase_none}
use Rattle.store_commit.proofs.Sweeps.{phase_more}
use Rattle.audit_page.specs.Changed.{changed_page}
use Rattle.audit_page.proofs.write_records.Goals as goal

pub loop-r-init : goal.loop-r-init
unfolding sweep those
loop-r-init c = (search rules, search rules, λ l K. phase_none)

pub loop-r-preserved : goal.loop-r-preserved
loop-r-preserved c =
    let a = c.args in
    let at = c.loop-r in
    (omega arith, search rules, λ l K. phase_more (named geometry1 a.map) (copies a.first (changed_page l a.start.now a.view.owner.now a.view.list.events.now a.view.list.n a.view.me)) at.r (at.invariant.2 l K) (c.write_record-rest.ensures l K))

pub returns : goal.returns
returns c = let e : c.loop-r.r ≡ 16 = omega arith in λ l K. rw e at (c.loop-r.invariant.2 l K)
