-- By the medium. Of atomic pages: made where something is left of the cut, else the cut is spent.
use mathlib.Core.Path.{subst, subst⁻¹}
use mathlib.Core.Bool.{Bool}
use mathlib.Core.List.{[], ◌∷◌}
use Prim.Native.Nat.{◌+◌, ◌-◌, ◌*◌, ◌≤◌}
use native.Mathlib.Omega.{arith}
use lib.ListN.{length}
use Rattle.rules.specs.Commit.{sets}
use Rattle.store_write.specs.Phase.{WritesPhase, store_of, stride_of}
use Rattle.store_write.proofs.Phases.{phase_one, phase_spent}
use Rattle.store_write.proofs.write_counted.Goals as goal

pub write_counted-requires : goal.write_counted-requires
write_counted-requires c =
    let a = c.args in
    let P = c.requires in
    (P.0, subst (λ (b : Bool). stride_of b * a.n + stride_of b ≤ length a.store.now) c.if-tears.true P.1)

pub returns-then-tears : goal.returns-then-tears
returns-then-tears c =
    let if1 = c.if-tears in
    let a = c.args in
    let w = c.write_counted in (
      subst⁻¹ (λ (b : Bool). WritesPhase b a.left (sets a.n a.page ∷ []) (store_of b a.store.now) (store_of b w.new.bytes) w.result)
          if1.true (record { store = w.ensures.0; count = w.ensures.1 }),
      omega (arith, w.ensures.1),
    )

pub put_page-requires : goal.put_page-requires
put_page-requires c =
    let a = c.args in
    let P = c.requires in
    (P.0, subst (λ (b : Bool). stride_of b * a.n + stride_of b ≤ length a.store.now) c.if-tears.false P.1)

pub returns-then-left-gt0 : goal.returns-then-left-gt0
returns-then-left-gt0 c =
    let if1 = c.if-tears in
    let a = c.args in
    let w = c.put_page in (
      subst⁻¹ (λ (b : Bool). WritesPhase b a.left (sets a.n a.page ∷ []) (store_of b a.store.now) (store_of b w.new.bytes) (a.left - 1))
          if1.false (phase_one (omega arith) w.ensures),
      omega arith,
    )

pub returns : goal.returns
returns c =
    let a = c.args in (
      subst⁻¹ (λ (b : Bool). WritesPhase b a.left (sets a.n a.page ∷ []) (store_of b a.store.now) (store_of b a.store.now) a.left)
          c.if-tears.false (phase_spent (omega arith)),
      omega arith,
    )
