-- By the medium.
use mathlib.Core.Path.{sym, ap}
use mathlib.Core.Bool.{Bool}
use Rattle.laws.specs.Tests.{under}
use Rattle.store_write.specs.Phase.{write_share}
use Rattle.store_write.proofs.is_cut.Goals as goal

pub returns-then-tears : goal.returns-then-tears
unfolding under
returns-then-tears c = let a = c.args in ap (λ (b : Bool). under a.last (write_share b)) (sym c.if-tears.true)

pub returns : goal.returns
unfolding under
returns c = let a = c.args in ap (λ (b : Bool). under a.last (write_share b)) (sym c.if-tears.false)
