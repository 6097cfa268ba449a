-- By the medium.
use mathlib.Core.Path.{sym, ap, subst, ◌∙◌}
use mathlib.Core.Bool.{Bool}
use Prim.Native.Nat.{◌+◌, ◌*◌, ◌≤◌}
use lib.ListN.{length}
use Rattle.store_write.specs.Phase.{store_of, stride_of, shown_in}
use Rattle.store_write.proofs.get_page.Goals as goal

pub shown_page-requires : goal.shown_page-requires
shown_page-requires c =
    let a = c.args in
    let P = c.requires in
    (P.0, subst (λ (b : Bool). stride_of b * a.n + stride_of b ≤ length a.store.now) c.if-tears.true P.1)

pub returns-then-tears : goal.returns-then-tears
returns-then-tears c =
    let a = c.args in
    c.shown_page.ensures ∙ ap (λ (b : Bool). shown_in b (store_of b a.store.now) a.n) (sym c.if-tears.true)

pub get_page-requires : goal.get_page-requires
get_page-requires c =
    let a = c.args in
    let P = c.requires in
    (P.0, subst (λ (b : Bool). stride_of b * a.n + stride_of b ≤ length a.store.now) c.if-tears.false P.1)

pub returns : goal.returns
returns c =
    let a = c.args in
    c.get_page.ensures ∙ ap (λ (b : Bool). shown_in b (store_of b a.store.now) a.n) (sym c.if-tears.false)
