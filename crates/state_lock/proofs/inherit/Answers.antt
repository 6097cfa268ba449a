-- The sweep hands over place after place.
use lib.ListN.{length}
use mathlib.Core.Path.{refl, sym, subst, ap, ap₂, ◌∙◌}
use mathlib.Core.Bool.{Bool, ◌||◌}
use Prim.Native.Nat.{ℕ}
use native.Mathlib.Omega.{arith}
use borrow.Author.Rules.{rules}
use Rattle.leaf_set.specs.Sets.{sets}
use Rattle.state_array.specs.Changes.{replacing, inheriting, Rows}
use Rattle.state_array.proofs.Sweep.{upto_none, upto_more, upto_all, inheriting_past}
use Rattle.state_lock.proofs.inherit.Goals as goal

pub loop-k-init : goal.loop-k-init
loop-k-init c =
    (search rules, upto_none (length c.args.held.now) _ _ (sym c.requires.2))

pub loop-k-preserved : goal.loop-k-preserved
unfolding sets inheriting
loop-k-preserved c =
    let l = c.loop-k in
    let a = c.args in (
      search rules,
      upto_more (length a.held.now) _ l.retained a.retained.now _ l.k _ l.invariant.1 (omega arith) (record { word = _; is = refl; holds = c.replace.ensures ∙ ap₂ (λ (x y : Bool). replacing (x || y) (sets l.retained l.k) a.t a.p) c.contains.ensures c.contains-in-loop-k.ensures })
          (ap (λ (z : ℕ → Bool). replacing (sets a.held.now l.k a.t || z a.t) z a.t a.p) (l.invariant.1.swept.above l.k (omega arith))),
    )

pub returns : goal.returns
returns c =
    let l = c.loop-k in
    let a = c.args in
    let long = c.requires.2 in
    subst (λ (n : ℕ). Rows n (inheriting a.t a.p (sets a.held.now) (sets a.retained.now)) l.retained) c.requires.2
    (upto_all (length a.held.now) _ _ _ _ l.invariant.1 (λ k h. inheriting_past a.held.now a.retained.now a.t a.p k (omega arith) (omega arith)))
