-- By the medium: atomic pages need no mending.
use mathlib.Core.Path.{◌≡◌, refl, subst, subst⁻¹}
use mathlib.Core.Bool.{Bool}
use Prim.Native.Nat.{◌*◌}
use lib.ListN.{length}
use Rattle.store_write.specs.Phase.{store_of, stride_of, mended_in}
use Rattle.store_write.proofs.mend.Goals as goal

pub mend_all-requires : goal.mend_all-requires
mend_all-requires c =
    let a = c.args in
    let P = c.requires in
    (P.0, subst (λ (b : Bool). length a.store.now ≡ stride_of b * a.n) c.if-tears.true P.1)

pub returns-then-tears : goal.returns-then-tears
returns-then-tears c =
    let if1 = c.if-tears in
    let a = c.args in
    let w = c.mend_all in
    subst⁻¹ (λ (b : Bool). store_of b w.new.bytes ≡ mended_in b (store_of b a.store.now)) if1.true w.ensures

pub returns-else-tears : goal.returns-else-tears
returns-else-tears c =
    let a = c.args in
    subst⁻¹ (λ (b : Bool). store_of b a.store.now ≡ mended_in b (store_of b a.store.now)) c.if-tears.false refl
