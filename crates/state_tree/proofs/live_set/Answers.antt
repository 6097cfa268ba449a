-- The loop collects, number by number, who is live.
use mathlib.Core.Path.{◌≡◌, refl}
use mathlib.Core.Bool.{not, ◌&&◌, ◌||◌}
use native.Mathlib.Omega.{arith}
use lib.ListN.{get_or, get_or-eq_default}
use borrow.Author.Rules.{rules}
use Rattle.laws.specs.Tests.{same}
use Rattle.laws.specs.Bits.{bits}
use Rattle.laws.proofs.Tests.{same_refl}
use Rattle.laws.proofs.Bits.{bits-zero}
use Rattle.state_array.proofs.Sweep.{swept_all, fills_more}
use Rattle.state_tree.proofs.live_set.Goals as goal

pub loop-j-init : goal.loop-j-init
loop-j-init c = (search rules, record { below = λ k h. absurd (omega arith); above = λ k h. bits-zero k })

pub loop-j-preserved : goal.loop-j-preserved
unfolding same
loop-j-preserved c =
    let l = c.loop-j in
    let a = c.args in
    let q : bits c.with_if-m.result ≡ (λ k. bits l.m k || (same k l.j && not (same (get_or a.depth.now l.j 0) 0))) = c.with_if-m.ensures in (
      search rules,
      fills_more (λ u. not (same (get_or a.depth.now u 0) 0)) l.m _ l.j (not (same (get_or a.depth.now l.j 0) 0)) l.invariant.1 refl q,
    )

pub returns : goal.returns
returns c = let l = c.loop-j in let a = c.args in
    swept_all l.invariant.1 (λ k h. let z : get_or a.depth.now k 0 ≡ 0 = get_or-eq_default a.depth.now 0 (omega arith) in rw (z, same_refl 0))
