-- Of atomic pages what the cut lost. Of pages that can tear, where a crash came what the cut tells, else what it lost, in whole writes.
use mathlib.Core.Path.{sym, ap, ◌∙◌}
use mathlib.Core.Bool.{Bool, cond}
use Prim.Native.Nat.{ℕ, ◌+◌, ◌-◌, ◌/◌, ◌%◌}
use native.Mathlib.Omega.{arith}
use Rattle.laws.proofs.Tests.{lt-under}
use Rattle.rules.specs.Pairs.{counted}
use Rattle.rules.proofs.Cuts.{not_lt_under}
use Rattle.store_write.specs.Phase.{made_of}
use Rattle.store_write.proofs.Phases.{counted_half}
use Rattle.store_write.proofs.made.Goals as goal

pub returns-then-not-tears : goal.returns-then-not-tears
returns-then-not-tears c = let a = c.args in ap (λ (b : Bool). made_of b a.k a.last a.left) (sym (c.if-not-tears.true))

pub returns-then-last-lt4 : goal.returns-then-last-lt4
returns-then-last-lt4 c =
    let a = c.args in
    ap (λ (v : ℕ). a.k / 4 + v) (counted_half (a.k % 4) (omega arith))
    ∙ sym (ap (λ (b : Bool). cond b (a.k / 4 + counted (a.k % 4)) ((a.k - a.left) / 4)) (lt-under a.last 4 c.if-last-lt4.true))
    ∙ ap (λ (b : Bool). made_of b a.k a.last a.left) (sym (c.if-not-tears.false))

pub returns : goal.returns
returns c =
    let a = c.args in
    sym (ap (λ (b : Bool). cond b (a.k / 4 + counted (a.k % 4)) ((a.k - a.left) / 4)) (not_lt_under a.last 4 (omega arith)))
    ∙ ap (λ (b : Bool). made_of b a.k a.last a.left) (sym (c.if-not-tears.false))
