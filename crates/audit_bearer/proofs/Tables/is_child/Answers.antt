-- By who bears the number: nobody, or one whose parent is compared.
use mathlib.Core.Path.{refl}
use native.Mathlib.Omega.{arith}
use Rattle.laws.specs.Tests.{same}
use Rattle.laws.proofs.Tests.{same_refl, ne_false}
use Rattle.audit_link.specs.Links.{one_of, entry_at}
use Rattle.audit_bearer.proofs.Tables.is_child.Goals as goal

pub returns-in-None : goal.returns-in-None
unfolding one_of entry_at
returns-in-None c = rw (← c.in-None.ensures.0, same_refl 0)

pub bounds-self-u : goal.bounds-self-u
unfolding one_of
bounds-self-u c = omega (arith, c.in-Some.ensures.0, c.requires.1 c.args.t)

pub offset_bounds-self-u : goal.offset_bounds-self-u
unfolding one_of
offset_bounds-self-u c = omega (arith, c.in-Some.ensures.0, c.requires.1 c.args.t)

pub returns-in-Some : goal.returns-in-Some
unfolding same one_of entry_at
returns-in-Some c =
    let a = c.args in
    let e = c.in-Some.ensures in
    rw (← e.0, ne_false c.in-Some.u 0 (λ q. omega (arith, q, e.1))) refl
