-- By the test of the map.
use mathlib.Core.Path.{sym, ap, ◌∙◌}
use mathlib.Core.Bool.{Bool, cond}
use Prim.Native.Nat.{ℕ, ◌+◌}
use native.Mathlib.Nat.{add-zero}
use borrow.Author.Tests.{eq-eqb, ne_eqb}
use Rattle.laws.specs.Tests.{same}
use Rattle.leaf_commit_page.specs.Layout.{head_of}
use Rattle.leaf_commit_page.proofs.head.Goals as goal

pub returns-then-map-eq0 : goal.returns-then-map-eq0
unfolding same
returns-then-map-eq0 c =
    let n = c.args.n in
    c.edition_of-edition.ensures.0 ∙ sym (ap (λ (b : Bool). head_of n + cond b 0 5) (eq-eqb _ _ c.if-map-eq0.true) ∙ add-zero (head_of n))

pub returns-else-map-eq0 : goal.returns-else-map-eq0
unfolding same
returns-else-map-eq0 c = let n = c.args.n in ap (λ (x : ℕ). x + 5) c.edition_of-edition.ensures.0 ∙ sym (ap (λ (b : Bool). head_of n + cond b 0 5) (ne_eqb _ _ c.if-map-eq0.false))
