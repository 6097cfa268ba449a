-- The sweep over the records lifts one row after the other.
use mathlib.Core.Path.{sym, ap, ◌∙◌}
use mathlib.Core.Bool.{Bool}
use Prim.Native.Nat.{ℕ}
use native.Mathlib.Omega.{arith}
use borrow.Author.Rules.{rules}
use Rattle.leaf_set.specs.Sets.{sets}
use Rattle.leaf_set.proofs.Sets.{sets_past}
use Rattle.rules.specs.Store.{pages_of}
use Rattle.state_array.specs.Changes.{replacing, handed}
use Rattle.state_array.proofs.Sweep.{swept_none, swept_all, upto_none, upto_next, upto_all, handed_past}
use Rattle.state_version.proofs.Lifting.{lifts_row, lifts_past}
use Rattle.state_version.proofs.hand_up.Goals as goal

pub loop-r-init : goal.loop-r-init
loop-r-init c =
    (search rules, search rules, upto_none c.args.n _ _ c.requires.5, swept_none (pages_of c.args.work.now) _)

pub loop-r-preserved : goal.loop-r-preserved
unfolding handed
loop-r-preserved c =
    let hand_up_row_lem = c.hand_up_row in
    let l = c.loop-r in
    let a = c.args in
    let e = hand_up_row_lem.ensures in
    let q = l.invariant.2.swept.above l.r (omega arith) in (
      search rules,
      search rules,
      upto_next a.n _ l.writers a.writers.now _ l.r _ l.invariant.2 (record { are = e.1.are; long = e.1.long ∙ l.invariant.2.long }) (ap (λ (z : ℕ → Bool). replacing (z a.t) z a.t a.p) q),
      lifts_row (sets a.writers.now) a.t a.d (pages_of a.work.now) (omega arith) (omega arith) l.r (pages_of l.work) _ l.invariant.3 _ (sym (ap (λ (z : ℕ → Bool). z a.t) q)) e.0,
    )

pub returns : goal.returns
returns c =
    let l = c.loop-r in
    let a = c.args in (
      swept_all l.invariant.3 (λ k h. lifts_past (sets a.writers.now) a.t a.d (pages_of a.work.now) (omega arith) (omega arith) a.n k (λ r g. sets_past a.writers.now r a.t (omega arith)) (omega arith)),
      upto_all a.n _ _ _ _ l.invariant.2 (λ k h. handed_past a.writers.now a.t a.p k (omega arith)),
    )
