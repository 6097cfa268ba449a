-- The sweep takes those that are gone out of place after place.
use mathlib.Core.Path.{refl, ap}
use mathlib.Core.Bool.{Bool}
use Prim.Native.Nat.{ℕ}
use native.Mathlib.Omega.{arith}
use borrow.Author.Rules.{rules}
use Rattle.laws.specs.Bits.{bits}
use Rattle.leaf_set.specs.Sets.{sets}
use Rattle.state_array.specs.Changes.{less, leaving}
use Rattle.state_array.proofs.Sweep.{upto_none, upto_more, upto_all, leaving_past}
use Rattle.state_lock.proofs.leave.Goals as goal

pub loop-place-init : goal.loop-place-init
loop-place-init c = (search rules, upto_none c.args.n _ _ c.requires)

pub loop-place-preserved : goal.loop-place-preserved
unfolding sets less leaving
loop-place-preserved c =
    let l = c.loop-place in
    let a = c.args in (
      search rules,
      upto_more a.n _ l.s a.s.now _ l.place-index _ l.invariant.1 (omega arith) (record { word = _; is = refl; holds = c.minus.ensures }) (ap {B = ℕ → Bool} (less (bits a.gone)) (l.invariant.1.swept.above l.place-index (omega arith))),
    )

pub returns : goal.returns
returns c =
    let l = c.loop-place in
    let a = c.args in
    upto_all a.n _ _ _ _ l.invariant.1 (λ k h. leaving_past (bits a.gone) a.s.now k (omega arith))
