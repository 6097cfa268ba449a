-- By the test of the number of records.
use mathlib.Core.Path.{sym, ap}
use mathlib.Core.Bool.{Bool, cond}
use borrow.Author.Tests.{eq-eqb, ne_eqb}
use native.Mathlib.Omega.{arith}
use Rattle.laws.specs.Tests.{same}
use Rattle.leaf_commit_page.specs.Layout.{count_factor}
use Rattle.leaf_commit_page.proofs.place.Goals as goal

pub returns-then-n-eq64 : goal.returns-then-n-eq64
unfolding count_factor same
returns-then-n-eq64 c = (sym (ap (λ (b : Bool). cond b 2 8) (eq-eqb _ _ c.if-n-eq64.true)), omega arith)

pub returns-else-n-eq64 : goal.returns-else-n-eq64
unfolding count_factor same
returns-else-n-eq64 c = (sym (ap (λ (b : Bool). cond b 2 8) (ne_eqb _ _ c.if-n-eq64.false)), omega arith)
