-- `write_versions` sweeps over the records. The loop's invariant: the page writes of the records below r are made as far as the count allows.
use borrow.Author.Rules.{rules}
use mathlib.Core.Path.{◌≡◌, subst}
use Prim.Native.Nat.{ℕ}
use native.Mathlib.Omega.{arith}
use Rattle.laws.specs.Counting.{those}
use Rattle.rules.specs.Store.{named}
use Rattle.store_write.specs.Phase.{WritesPhase, store_of}
use Rattle.store_commit.specs.Phase.{sweep, copies, top_slot}
use Rattle.store_write.proofs.Phases.{phase_none}
use Rattle.store_commit.proofs.Sweeps.{phase_more}
use Rattle.store_commit.proofs.write_versions.Goals as goal

pub loop-r-init : goal.loop-r-init
unfolding sweep those
loop-r-init c = (search rules, search rules, search rules, λ g m. phase_none)

pub loop-r-preserved : goal.loop-r-preserved
loop-r-preserved c =
    let a = c.args in
    let at = c.loop-r in (
      omega arith,
      search rules,
      omega arith,
      λ g m. phase_more (named g a.map) (copies a.first (top_slot a.work.now)) at.r (at.invariant.3 g m) (c.write_version-rest.ensures.0 g m),
    )

pub returns : goal.returns
returns c =
    let at = c.loop-r in
    let a = c.args in
    let e : at.r ≡ a.n = omega arith in
    (λ g m. subst (λ (k : ℕ). WritesPhase a.tears a.left (sweep (named g a.map) (copies a.first (top_slot a.work.now)) k) (store_of a.tears a.store.now) (store_of a.tears at.store) at.rest) e (at.invariant.3 g m), at.invariant.2)
