-- By the test.
use mathlib.Core.Path.{ap, sym, ◌∙◌, fun_ext}
use mathlib.Core.Bool.{Bool, not, ◌&&◌, ◌||◌, or-false}
use Prim.Native.Nat.{ℕ}
use Rattle.laws.specs.Bits.{bits}
use Rattle.laws.specs.Tests.{same}
use Rattle.laws.proofs.Bits.{bits-or}
use Rattle.wait_graph.proofs.reach_one.Goals as goal

pub returns-then-blocking : goal.returns-then-blocking
returns-then-blocking c =
    let a = c.args in
    fun_ext (λ u. bits-or a.m c.with.result u ∙ ap (λ (p : ℕ → Bool). bits a.m u || p u) c.with.ensures ∙ ap (λ (p : ℕ → Bool). bits a.m u || (p u || same u a.b)) c.minus.ensures
    ∙ ap (λ (x : Bool). bits a.m u || (x && ((not (bits a.above u) && bits a.line u) || same u a.b))) (sym c.if-blocking.true))

pub returns : goal.returns
returns c =
    let a = c.args in
    fun_ext (λ u. sym (or-false (bits a.m u)) ∙ ap (λ (x : Bool). bits a.m u || (x && ((not (bits a.above u) && bits a.line u) || same u a.b))) (sym c.if-blocking.false))
