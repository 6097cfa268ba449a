-- The commit page, an intention page for each record, and the home pages of the records before.
use mathlib.Core.Path.{◌≡◌, ap, subst⁻¹, ◌∙◌}
use Prim.Native.Nat.{ℕ, ◌+◌, ◌*◌, ◌≤◌}
use native.Mathlib.Omega.{arith}
use Rattle.leaf_number.specs.Named.{record_of}
use Rattle.store_write.specs.Phase.{stride_of, place_of}
use Rattle.engine_step.proofs.Lengths.{place_within}
use Rattle.engine_step.proofs.home_at.Goals as goal

pub returns : goal.returns
returns c =
    let a = c.args in
    let e = c.index.ensures.0 in
    let q : 1 + a.records + c.index.result ≡ 1 + (a.records + record_of a.r) = omega (arith, e) in
    let p = c.place.ensures ∙ ap (place_of a.tears) q in
    (p, subst⁻¹ (λ (m : ℕ). m + 32 ≤ stride_of a.tears * (1 + (a.records + a.records))) p (place_within a.tears a.records (record_of a.r) c.requires.0))
