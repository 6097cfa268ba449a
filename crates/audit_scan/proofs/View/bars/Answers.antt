-- By the owner of event k: none, or one whose lock is a lock of r that blocks, or not.
use mathlib.Core.Path.{sym, ap, ◌∙◌}
use mathlib.Core.Bool.{and-false, and-true}
use native.Mathlib.Omega.{arith}
use lib.ListN.{get_or}
use Rattle.laws.proofs.Tests.{same_refl, ne_false}
use Rattle.audit_rules.specs.Plain.{grant_blocks}
use Rattle.audit_link.specs.Links.{one_of}
use Rattle.audit_scan.proofs.View.bars.Goals as goal

pub returns-in-None : goal.returns-in-None
unfolding one_of
returns-in-None c = λ l K. rw (← c.in-None.ensures.0, same_refl 0)

pub returns-then-locks : goal.returns-then-locks
unfolding one_of
returns-then-locks c =
    let e = c.in-Some.ensures in
    λ l K. let a = c.args in let z = ne_false (get_or a.self.owner.now a.k 0) 0 (λ q. omega (arith, e.0, e.1.0, q)) in let t = sym c.locks.ensures ∙ c.if-locks.true in rw (z, c.event_at.ensures.0, t) (c.blocks-then-locks.ensures l K ∙ ap (grant_blocks l a.self.me) e.0 ∙ sym (and-true _))

pub returns-else-locks : goal.returns-else-locks
returns-else-locks c =
    λ l K. let t = sym c.locks.ensures ∙ c.if-locks.false in rw (c.event_at.ensures.0, t, and-false, and-false)
