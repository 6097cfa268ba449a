-- The loop puts number after number into the set of its parent. Seen from one parent, its set is filled in order.
use mathlib.Core.Path.{◌≡◌, refl, ap}
use mathlib.Core.Bool.{Bool, not, ◌&&◌, ◌||◌}
use Prim.Native.Nat.{ℕ}
use native.Mathlib.Omega.{arith}
use lib.ListN.{get_or, get_or-eq_default}
use borrow.Author.Rules.{rules}
use Rattle.laws.specs.Tests.{same}
use Rattle.laws.proofs.Tests.{same_refl}
use Rattle.leaf_set.specs.Sets.{sets}
use Rattle.state_array.proofs.Sweep.{swept_all, fills_more}
use Rattle.state_array.proofs.Kin.{none-sets}
use Rattle.state_tree.proofs.children_of.Goals as goal

pub loop-j-init : goal.loop-j-init
loop-j-init c = (search rules, refl, λ q. record { below = λ k h. absurd (omega arith); above = λ k h. none-sets 32 q k })

pub add_child_if-requires : goal.add_child_if-requires
add_child_if-requires c =
    let l = c.loop-j in
    (c.requires.2 l.j, omega arith, l.invariant.1)

pub loop-j-preserved : goal.loop-j-preserved
unfolding same sets
loop-j-preserved c =
    let l = c.loop-j in
    let a = c.args in
    let b : ℕ → ℕ → Bool = λ q u. not (same (get_or a.depth.now u 0) 0) && same (get_or a.parent.now u 0) q in
    let r : sets c.add_child_if.new.children ≡ (λ q k. sets l.children q k || (same k l.j && b q l.j)) = c.add_child_if.ensures.are in (
      search rules,
      c.add_child_if.ensures.long,
      λ q. fills_more (b q) (get_or l.children q 0) _ l.j (b q l.j) (l.invariant.2 q) refl
          (ap (λ (o : ℕ → ℕ → Bool). o q) r),
    )

pub returns : goal.returns
returns c = let l = c.loop-j in let a = c.args in (
  l.invariant.1,
  λ p h. swept_all (l.invariant.2 p) (λ k g. let z : get_or a.depth.now k 0 ≡ 0 = get_or-eq_default a.depth.now 0 (omega arith) in rw (z, same_refl 0)),
)
