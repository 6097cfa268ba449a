-- By the medium: atomic pages have no copies that could be bad.
use mathlib.Core.Path.{sym, ap, subst, ◌∙◌}
use mathlib.Core.Bool.{Bool}
use Prim.Native.Nat.{◌*◌, ◌≤◌}
use lib.ListN.{length}
use Rattle.store_write.specs.Phase.{store_of, stride_of, lost_in}
use Rattle.store_write.proofs.any_lost.Goals as goal

pub any_lost-requires : goal.any_lost-requires
any_lost-requires c =
    let a = c.args in
    let P = c.requires in
    (P.0, subst (λ (b : Bool). stride_of b * a.n ≤ length a.store.now) c.if-tears.true P.1)

pub returns-then-tears : goal.returns-then-tears
returns-then-tears c =
    let a = c.args in
    c.any_lost.ensures ∙ ap (λ (b : Bool). lost_in b a.n (store_of b a.store.now)) (sym c.if-tears.true)

pub returns : goal.returns
returns c =
    let a = c.args in
    ap (λ (b : Bool). lost_in b a.n (store_of b a.store.now)) (sym c.if-tears.false)
