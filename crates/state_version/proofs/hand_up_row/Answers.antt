-- The child's version of one record, if it has one, is copied one slot up and its writer is the parent.
use mathlib.Core.Path.{◌≡◌, sym, ap, ap₂, ◌∙◌}
use mathlib.Core.Bool.{Bool, true, false, cond, ◌||◌}
use Prim.Native.Nat.{ℕ, ◌-◌}
use native.Mathlib.Omega.{arith}
use borrow.Author.Rules.{rules}
use Rattle.laws.specs.Tests.{same}
use Rattle.laws.specs.Functions.{updated}
use Rattle.leaf_set.specs.Sets.{sets}
use Rattle.rules.specs.Store.{pages_of}
use Rattle.state_array.specs.View.{slot}
use Rattle.state_array.proofs.Joined.{sets_handed, handed-none}
use Rattle.state_version.proofs.hand_up_row.Goals as goal

pub returns-then-contains : goal.returns-then-contains
unfolding sets
returns-then-contains c =
    let contains = c.contains in
    let if1 = c.if-contains in
    let slot_of = c.slot_of in
    let slot_of2 = c.slot_of-then-contains in
    let copy_page_lem = c.copy_page in
    let a = c.args in
    let s = a.work.now in
    let m = slot a.r a.d in
    let n = slot a.r (a.d - 1) in
    let e : sets a.writers.now a.r a.t ≡ true = sym contains.ensures ∙ if1.true in (
      copy_page_lem.ensures ∙ ap₂ (λ (i j : ℕ). updated i (pages_of s j) (pages_of s)) slot_of2.ensures.0 slot_of.ensures.0
          ∙ sym (ap (λ (b : Bool). cond b (updated n (pages_of s m) (pages_of s)) (pages_of s)) e),
      record {
        are = sets_handed a.writers.now a.t a.p a.r _ (omega arith) e (c.with.ensures ∙ ap {B = ℕ → Bool} (λ (f : ℕ → Bool) k. f k || same k a.p) c.without.ensures);
        long = search rules;
      },
    )

pub returns-else-contains : goal.returns-else-contains
unfolding sets
returns-else-contains c =
    let a = c.args in
    let s = a.work.now in
    let e : sets a.writers.now a.r a.t ≡ false = sym c.contains.ensures ∙ c.if-contains.false in (
      sym (ap (λ (b : Bool). cond b (updated (slot a.r (a.d - 1)) (pages_of s (slot a.r a.d)) (pages_of s)) (pages_of s)) e),
      record { are = handed-none (sets a.writers.now) a.t a.p a.r e; long = search rules },
    )
