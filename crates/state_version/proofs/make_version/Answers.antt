-- The slot takes the page that is seen from there; a version that is there already stays.
use mathlib.Core.Path.{◌≡◌, refl, sym, ap, ap₂, subst⁻¹, ◌∙◌}
use mathlib.Core.Bool.{Bool, true, ◌||◌}
use mathlib.Core.List.{List}
use Prim.Native.Nat.{ℕ, ◌<◌}
use native.Mathlib.Omega.{arith}
use lib.ListN.{get_or, take, drop}
use Rattle.laws.specs.Functions.{updated}
use Rattle.laws.proofs.Updated.{updated_self}
use Rattle.leaf_set.specs.Sets.{sets}
use Rattle.rules.specs.Store.{pages_of}
use Rattle.state_array.specs.View.{slot, seen}
use Rattle.state_array.proofs.Joined.{sets_joined, joined_self}
use Rattle.state_version.proofs.Seen.{seen_home, seen_slot, seen_own, written_as}
use borrow.Author.Rules.{rules}
use Rattle.laws.specs.Tests.{same}
use Rattle.leaf_number.specs.Named.{transaction_of}
use Rattle.std.proofs.Common.{None}
use Rattle.state_version.specs.Parts.{climb_told}
use Rattle.state_version.proofs.make_version.Goals as goal

pub returns-then-contains : goal.returns-then-contains
unfolding sets
returns-then-contains c =
    let number = c.number-n in
    let index = c.index-i in
    let a = c.args in
    let t = transaction_of a.t in
    let i = index.result in
    let e : sets a.writers.now i t ≡ true = ap (sets a.writers.now i) (sym number.ensures.0) ∙ sym c.contains.ensures ∙ c.if-contains.true in
    written_as (seen a.parent.now a.depth.now a.writers.now a.work.now (take 32 (drop a.at a.store.now)) t) (get_or a.depth.now t 0) index.ensures.0 (record {
      has = joined_self a.writers.now t i e;
      page = updated_self (slot i (get_or a.depth.now t 0)) (pages_of a.work.now) ∙ ap (λ (p : List ℕ). updated (slot i (get_or a.depth.now t 0)) p (pages_of a.work.now)) (sym (seen_own a.parent.now a.depth.now a.writers.now a.work.now (take 32 (drop a.at a.store.now)) t i e (omega arith)));
      long = search rules;
    })

pub slot_of-to-requires : goal.slot_of-to-requires
slot_of-to-requires c =
    (omega arith, subst⁻¹ (λ (i : ℕ). 0 < get_or c.args.depth.now i 0) c.index.ensures.0 c.requires.4, c.requires.5.shallow c.index.result)

pub returns-in-None : goal.returns-in-None
unfolding sets
returns-in-None c =
    let number = c.number-n in
    let index = c.index-i in
    let index2 = c.index in
    let slot_of = c.slot_of-to in
    let with = c.with in
    let a = c.args in
    let t = transaction_of a.t in
    let i = index.result in
    let n = slot i (get_or a.depth.now t 0) in
    written_as (seen a.parent.now a.depth.now a.writers.now a.work.now (take 32 (drop a.at a.store.now)) t) (get_or a.depth.now t 0) index.ensures.0 (record {
      has = sets_joined a.writers.now t i _ (omega (arith, c.requires.0)) (with.ensures ∙ ap {B = ℕ → Bool} (λ (n : ℕ) (k : ℕ). sets a.writers.now i k || same k n) number.ensures.0);
      page = c.bring.ensures ∙ ap (λ (m : ℕ). updated m (take 32 (drop a.at a.store.now)) (pages_of a.work.now)) (slot_of.ensures.0 ∙ ap (λ (j : ℕ). slot i (get_or a.depth.now j 0)) index2.ensures.0)
          ∙ ap (λ (p : List ℕ). updated n p (pages_of a.work.now)) (sym (seen_home a.parent.now a.depth.now a.writers.now a.work.now (take 32 (drop a.at a.store.now)) t i (climb_told None) c.in-None.ensures.climbed refl));
      long = search rules;
    })

pub slot_of-requires : goal.slot_of-requires
slot_of-requires c =
    let index = c.index-i in
    let C = c.in-Some.ensures.climbed in
    let k = C.level in
    let m = c.requires.5.shallow c.in-Some.c.at in
    let below = c.in-Some.ensures.left in
    (omega (arith, index.ensures), omega arith, omega arith)

pub returns-in-Some : goal.returns-in-Some
unfolding sets
returns-in-Some c =
    let number = c.number-n in
    let index = c.index-i in
    let index2 = c.index in
    let slot_of = c.slot_of-to in
    let with = c.with in
    let slot_of2 = c.slot_of in
    let a = c.args in
    let t = transaction_of a.t in
    let i = index.result in
    let n = slot i (get_or a.depth.now t 0) in
    written_as (seen a.parent.now a.depth.now a.writers.now a.work.now (take 32 (drop a.at a.store.now)) t) (get_or a.depth.now t 0) index.ensures.0 (record {
      has = sets_joined a.writers.now t i _ (omega (arith, c.requires.0)) (with.ensures ∙ ap {B = ℕ → Bool} (λ (n : ℕ) (k : ℕ). sets a.writers.now i k || same k n) number.ensures.0);
      page = c.copy_page.ensures ∙ ap₂ (λ (i j : ℕ). updated i (pages_of a.work.now j) (pages_of a.work.now)) (slot_of.ensures.0 ∙ ap (λ (j : ℕ). slot i (get_or a.depth.now j 0)) index2.ensures.0) slot_of2.ensures.0
          ∙ ap (λ (p : List ℕ). updated n p (pages_of a.work.now)) (sym (seen_slot a.parent.now a.depth.now a.writers.now a.work.now (take 32 (drop a.at a.store.now)) t i c.in-Some.c c.in-Some.ensures.climbed c.in-Some.ensures.left));
      long = search rules;
    })
