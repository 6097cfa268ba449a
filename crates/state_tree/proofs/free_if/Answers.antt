-- Where the number is gone its three entries become zero.
use mathlib.Core.Path.{◌≡◌, sym, ap, ◌∙◌}
use mathlib.Core.Bool.{Bool, cond}
use mathlib.Core.List.{List}
use Prim.Native.Nat.{ℕ, ◌<◌}
use lib.ListN.{length, set}
use lib.Seq.{ext_get_or}
use Rattle.laws.specs.Tests.{same}
use Rattle.state_array.specs.Changes.{places, Cleared}
use Rattle.state_array.proofs.Sweep.{cleared_one}
use Rattle.state_tree.proofs.free_if.Goals as goal

-- one place is cleared: 0 is written there
cleared_is : (l l' : List ℕ) (t : ℕ) → length l ≡ 24 → t < 24 → Cleared (λ k. same k t) l l' → l' ≡ set l t 0
unfolding places
cleared_is l l' t e h C =
    let D = cleared_one l t e h in
    ext_get_or 0 l' (set l t 0) (C.long ∙ sym D.long) (λ i g. ap (λ (f : ℕ → ℕ). f i) (C.are ∙ sym D.are))

pub returns-then-contains : goal.returns-then-contains
returns-then-contains c =
    let a = c.args in
    let e = sym (sym c.contains.ensures ∙ c.if-contains.true) in
    let f = c.free_number.ensures in (
      cleared_is a.parent.now _ a.j c.requires.1 c.requires.0 f.0 ∙ ap (λ (b : Bool). cond b (set a.parent.now a.j 0) a.parent.now) e,
      cleared_is a.depth.now _ a.j c.requires.2 c.requires.0 f.1 ∙ ap (λ (b : Bool). cond b (set a.depth.now a.j 0) a.depth.now) e,
      cleared_is a.line.now _ a.j c.requires.3 c.requires.0 f.2 ∙ ap (λ (b : Bool). cond b (set a.line.now a.j 0) a.line.now) e,
    )

pub returns-else-contains : goal.returns-else-contains
returns-else-contains c =
    let a = c.args in
    let e = sym (sym c.contains.ensures ∙ c.if-contains.false) in (
      ap (λ (b : Bool). cond b (set a.parent.now a.j 0) a.parent.now) e,
      ap (λ (b : Bool). cond b (set a.depth.now a.j 0) a.depth.now) e,
      ap (λ (b : Bool). cond b (set a.line.now a.j 0) a.line.now) e,
    )
