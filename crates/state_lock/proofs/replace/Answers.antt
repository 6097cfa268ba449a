-- Without t, and with p where t had a part.
use mathlib.Core.Path.{sym, ap, ◌∙◌, fun_ext}
use mathlib.Core.Bool.{Bool, not, ◌&&◌, ◌||◌, or-false, and-false, and-true}
use Prim.Native.Nat.{ℕ}
use Rattle.state_array.specs.Changes.{replacing}
use Rattle.laws.specs.Bits.{bits}
use Rattle.laws.specs.Tests.{same}
use Rattle.state_lock.proofs.replace.Goals as goal

pub returns-then-had : goal.returns-then-had
unfolding replacing
returns-then-had c = let a = c.args in c.with.ensures ∙ ap {B = ℕ → Bool} (λ (f : ℕ → Bool) k. f k || same k a.p) c.without-rest.ensures ∙ fun_ext (λ k. ap (λ (b : Bool). (not (same k a.t) && bits a.s k) || b) (sym (and-true (same k a.p)) ∙ ap (λ (b : Bool). same k a.p && b) (sym c.if-had.true)))

pub returns : goal.returns
unfolding replacing
returns c = let a = c.args in c.without-rest.ensures ∙ fun_ext (λ k. sym (or-false _) ∙ ap (λ (b : Bool). (not (same k a.t) && bits a.s k) || b) (sym (and-false (same k a.p)) ∙ ap (λ (b : Bool). same k a.p && b) (sym c.if-had.false)))
