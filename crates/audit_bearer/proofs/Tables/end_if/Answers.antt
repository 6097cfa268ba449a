-- By who bears the number: nobody, one that is taken, or one that is not.
use mathlib.Core.Path.{sym, refl, ◌∙◌}
use native.Mathlib.Omega.{arith}
use Rattle.laws.proofs.Tests.{same_refl, ne_false}
use Rattle.audit_link.specs.Links.{one_of}
use Rattle.audit_bearer.proofs.Tables.end_if.Goals as goal

pub returns-in_default : goal.returns-in_default
unfolding one_of
returns-in_default c = let z = c.in_default.ensures.0 in (rw (← z, same_refl 0) refl, rw (← z, same_refl 0) refl, (refl, refl, refl, refl))

pub takes-requires : goal.takes-requires
unfolding one_of
takes-requires c = (omega (arith, c.in-Some.ensures.0, c.requires.1 c.args.t), c.requires.4, c.requires.5)

pub returns-then-takes : goal.returns-then-takes
unfolding one_of
returns-then-takes c =
    let e = c.in-Some.ensures in
    let z = ne_false c.in-Some.i 0 (λ q. omega (arith, q, e.1)) in
    let h = sym c.takes.ensures ∙ c.if-takes.true in
    (rw (← e.0, z, h) (rw e.0 c.end.ensures.0), rw (← e.0, z, h) c.end.ensures.1, c.end.ensures.2)

pub returns-else-takes : goal.returns-else-takes
unfolding one_of
returns-else-takes c =
    let e = c.in-Some.ensures in
    let z = ne_false c.in-Some.i 0 (λ q. omega (arith, q, e.1)) in
    let h = sym c.takes.ensures ∙ c.if-takes.false in
    (rw (← e.0, z, h) refl, rw (← e.0, z, h) refl, (refl, refl, refl, refl))
