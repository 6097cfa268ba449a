-- By whether anything was left.
use mathlib.Core.Path.{refl, sym}
use Rattle.laws.proofs.Tests.{same_refl, ne_false}
use Rattle.audit_page.specs.Changed.{made_in, is_cut}
use Rattle.audit_page.proofs.counted.Goals as goal

pub returns-then-left-eq0 : goal.returns-then-left-eq0
unfolding made_in is_cut
returns-then-left-eq0 c = (refl, rw (c.if-left-eq0.true, same_refl 0) refl)

pub returns : goal.returns
unfolding made_in is_cut
returns c = (refl, sym (ne_false c.args.left 0 c.if-left-eq0.false))
