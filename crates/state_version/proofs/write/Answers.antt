-- The version is made, then one byte of it is changed.
use Rattle.state_version.proofs.Seen.{written_byte}
use mathlib.Core.Path.{ap₂, subst⁻¹, ◌∙◌}
use Prim.Native.Nat.{ℕ, ◌<◌}
use native.Mathlib.Omega.{arith}
use lib.ListN.{get_or}
use Rattle.state_array.specs.View.{slot}
use Rattle.leaf_number.specs.Named.{transaction_of, record_of}
use Rattle.state_version.proofs.write.Goals as goal

pub slot_of-requires : goal.slot_of-requires
slot_of-requires c =
    (omega arith, subst⁻¹ (λ (i : ℕ). 0 < get_or c.args.depth.now i 0) c.index-2.ensures.0 c.requires.5, c.requires.6.shallow c.index-2.result)

pub returns : goal.returns
returns c =
    let make_version_lem = c.make_version in
    let index = c.index in
    let index2 = c.index-2 in
    let slot_of = c.slot_of in
    let a = c.args in
    written_byte (slot (record_of a.r) (get_or a.depth.now (transaction_of a.t) 0)) _ (transaction_of a.t) (record_of a.r) a.o a.v _ _ _ _ _ _ make_version_lem.ensures (slot_of.ensures.0 ∙ ap₂ (λ (i j : ℕ). slot i (get_or a.depth.now j 0)) index.ensures.0 index2.ensures.0) c.put_byte.ensures
