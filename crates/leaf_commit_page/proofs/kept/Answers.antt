-- By the test of the map.
use mathlib.Core.Path.{refl}
use borrow.Author.Tests.{eq-eqb, ne_eqb}
use Rattle.laws.specs.Tests.{same}
use Rattle.leaf_commit_page.proofs.kept.Goals as goal

pub returns-then-map-eq0 : goal.returns-then-map-eq0
unfolding same
returns-then-map-eq0 c = rw (eq-eqb _ _ c.if-map-eq0.true) refl

pub returns-else-map-eq0 : goal.returns-else-map-eq0
unfolding same
returns-else-map-eq0 c = rw (ne_eqb _ _ c.if-map-eq0.false) refl
