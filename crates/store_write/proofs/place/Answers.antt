-- By the medium. The product of the sum is the sum of the products.
use native.Mathlib.Omega.{arith}
use mathlib.Core.Path.{◌≡◌, sym, ap, ◌∙◌}
use mathlib.Core.Bool.{Bool}
use Prim.Native.Nat.{◌+◌, ◌*◌}
use Rattle.store_write.specs.Phase.{place_of}
use Rattle.store_write.proofs.place.Goals as goal

pub returns-then-tears : goal.returns-then-tears
returns-then-tears c =
    let a = c.args in
    let sum : 66 * a.first + 66 * a.n + 1 ≡ 66 * (a.first + a.n) + 1 = omega arith in
    sum ∙ ap (λ (b : Bool). place_of b (a.first + a.n)) (sym c.if-tears.true)

pub returns : goal.returns
returns c =
    let a = c.args in
    let sum : 32 * a.first + 32 * a.n ≡ 32 * (a.first + a.n) = omega arith in
    sum ∙ ap (λ (b : Bool). place_of b (a.first + a.n)) (sym c.if-tears.false)
