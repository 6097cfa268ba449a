-- `bring_all_home` sweeps over the records. The loop's invariant: the page writes of the records below r are made as far as the count
-- allows, and the commit page and the intention pages are as they were, so that the next page that goes home is the one of the start.
use borrow.Author.Rules.{rules}
use mathlib.Core.Path.{◌≡◌, subst}
use Prim.Native.Nat.{ℕ, ◌+◌}
use native.Mathlib.Omega.{arith}
use Rattle.laws.specs.Counting.{those}
use Rattle.rules.specs.Store.{named}
use Rattle.store_write.specs.Phase.{WritesPhase, store_of, shown_in}
use Rattle.store_commit.specs.Phase.{sweep, copies}
use Rattle.store_write.proofs.Phases.{phase_none}
use Rattle.store_commit.proofs.Sweeps.{kept-none, kept_then, kept_row, home_more}
use Rattle.store_commit.proofs.bring_all_home.Goals as goal

pub loop-r-init : goal.loop-r-init
unfolding sweep those
loop-r-init c = (search rules, search rules, search rules, λ g m. (kept-none, phase_none))

pub loop-r-preserved : goal.loop-r-preserved
loop-r-preserved c =
    let a = c.args in
    let at = c.loop-r in (
      omega arith,
      search rules,
      omega arith,
      λ g m. (
        kept_then (at.invariant.3 g m).0 (kept_row (1 + a.n) (λ j. shown_in a.tears (store_of a.tears at.store) (1 + j)) at.r at.rest (named g a.map) (c.bring_home-rest.ensures.0 g m)),
        home_more (named g a.map) (1 + a.n) at.r a.left (omega arith) (at.invariant.3 g m).1 (at.invariant.3 g m).0 (c.bring_home-rest.ensures.0 g m),
      ),
    )

pub returns : goal.returns
returns c =
    let at = c.loop-r in
    let a = c.args in
    let e : at.r ≡ a.n = omega arith in
    let s = store_of a.tears a.store.now in
    (λ g m. subst (λ (k : ℕ). WritesPhase a.tears a.left (sweep (named g a.map) (copies (1 + a.n) (λ j. shown_in a.tears s (1 + j))) k) s (store_of a.tears at.store) at.rest) e (at.invariant.3 g m).1, at.invariant.2)
