-- By the page writes: whole, or cut behind the commit page, it survives.
use mathlib.Core.Path.{refl}
use native.Mathlib.Omega.{arith}
use Rattle.laws.specs.Tests.{under}
use Rattle.laws.proofs.Booleans.{refute}
use Rattle.laws.proofs.Tests.{lt-under, under-lt}
use Rattle.audit_page.specs.Changed.{made_in, is_cut}
use Rattle.audit_event.proofs.fate_after.Goals as goal

pub returns-in-Whole : goal.returns-in-Whole
unfolding is_cut
returns-in-Whole c = rw c.in-Whole.is refl

pub returns-then-w-made : goal.returns-then-w-made
unfolding made_in is_cut
returns-then-w-made c = let w = c.args.w in rw (c.in-Cut.is, lt-under w.ones c.in-Cut.made (omega (arith, c.if-w-made.true))) refl

pub returns-else-w-made : goal.returns-else-w-made
unfolding made_in is_cut
returns-else-w-made c =
    let w = c.args.w in
    rw (c.in-Cut.is, refute (under w.ones c.in-Cut.made) (λ d. let k = under-lt w.ones c.in-Cut.made d in omega (arith, k, c.if-w-made.false))) refl
