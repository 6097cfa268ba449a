-- One member more, or none, by the test.
use mathlib.Core.Path.{sym, ap, ◌∙◌, fun_ext}
use mathlib.Core.Bool.{Bool, ◌&&◌, ◌||◌, or-false, and-false, and-true}
use Rattle.laws.specs.Bits.{bits}
use Rattle.laws.specs.Tests.{same}
use Rattle.state_tree.proofs.with_if.Goals as goal

pub returns-then-b : goal.returns-then-b
returns-then-b c = let a = c.args in c.with.ensures ∙ fun_ext (λ k. ap (λ (b : Bool). bits a.s k || b) (sym (and-true (same k a.j)) ∙ ap (λ (b : Bool). same k a.j && b) (sym c.if-b.true)))

pub returns : goal.returns
returns c = let a = c.args in fun_ext (λ k. sym (or-false (bits a.s k)) ∙ ap (λ (b : Bool). bits a.s k || b) (sym (and-false (same k a.j)) ∙ ap (λ (b : Bool). same k a.j && b) (sym c.if-b.false)))
