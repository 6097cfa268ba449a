-- Everyone, or by who is within a.
use mathlib.Core.Path.{refl, ◌∙◌}
use Prim.Native.Nat.{◌<◌}
use native.Mathlib.Omega.{arith}
use Rattle.laws.specs.Tests.{open_tests}
use Rattle.laws.proofs.Tests.{ne_false}
use Rattle.audit_link.specs.Links.{one_of}
use Rattle.audit_bearer.specs.Tables.{takes}
use Rattle.audit_bearer.proofs.Tables.takes.Goals as goal

pub returns-in-None : goal.returns-in-None
unfolding one_of takes open_tests
returns-in-None c = rw c.in-None.is refl

pub returns-in-Some : goal.returns-in-Some
unfolding one_of takes
returns-in-Some c =
    let j = c.in-Some.j in
    let some : 0 < j = rw c.in-Some.is at c.requires.2 in
    rw c.in-Some.is (c.within.ensures ∙ rw (ne_false j 0 (λ q. omega (arith, q, some))) refl)
