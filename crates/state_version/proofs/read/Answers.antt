-- The byte is read where the walk ends: in a slot or on the home page.
use mathlib.Core.Path.{refl, sym, ap, ◌∙◌}
use mathlib.Core.List.{List}
use Prim.Native.Nat.{ℕ}
use native.Mathlib.Omega.{arith}
use lib.ListN.{get_or, take, drop}
use Rattle.rules.specs.Store.{pages_of}
use Rattle.std.proofs.Common.{None}
use Rattle.state_version.specs.Parts.{climb_told}
use Rattle.state_array.specs.View.{seen}
use Rattle.state_version.proofs.Seen.{seen_home, seen_slot}
use Rattle.leaf_number.specs.Named.{transaction_of}
use Rattle.state_version.proofs.read.Goals as goal

pub returns-in-None : goal.returns-in-None
returns-in-None c =
    let index = c.index-i in
    let a = c.args in
    c.byte_at.ensures ∙ ap (λ (p : List ℕ). get_or p a.o 0) (sym (seen_home a.parent.now a.depth.now a.writers.now a.work.now (take 32 (drop a.at a.store.now)) (transaction_of a.t) index.result (climb_told None) c.in-None.ensures.climbed refl))
    ∙ ap (λ (r : ℕ). get_or (seen a.parent.now a.depth.now a.writers.now a.work.now (take 32 (drop a.at a.store.now)) (transaction_of a.t) r) a.o 0) index.ensures.0

pub slot_of-requires : goal.slot_of-requires
slot_of-requires c =
    let C = c.in-Some.ensures.climbed in
    let k = C.level in
    let m = c.requires.5.shallow c.in-Some.c.at in
    let below = c.in-Some.ensures.left in
    (omega arith, omega arith, omega arith)

pub returns-in-Some : goal.returns-in-Some
returns-in-Some c =
    let index = c.index-i in
    let a = c.args in
    c.get_byte.ensures ∙ ap (λ (n : ℕ). get_or (pages_of a.work.now n) a.o 0) c.slot_of.ensures.0 ∙ ap (λ (p : List ℕ). get_or p a.o 0) (sym (seen_slot a.parent.now a.depth.now a.writers.now a.work.now (take 32 (drop a.at a.store.now)) (transaction_of a.t) index.result c.in-Some.c c.in-Some.ensures.climbed c.in-Some.ensures.left))
    ∙ ap (λ (r : ℕ). get_or (seen a.parent.now a.depth.now a.writers.now a.work.now (take 32 (drop a.at a.store.now)) (transaction_of a.t) r) a.o 0) index.ensures.0
