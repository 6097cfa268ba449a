-- By the owner of event k: none, or one whose event is a write of r, and stands with the one that is asked for.
use mathlib.Core.Path.{sym, ap, ◌∙◌}
use mathlib.Core.Bool.{and-false, and-true}
use Prim.Native.Nat.{ℕ}
use native.Mathlib.Omega.{arith}
use lib.ListN.{get_or}
use Rattle.laws.specs.Tests.{same}
use Rattle.laws.proofs.Tests.{same_refl, ne_false}
use Rattle.history.specs.History.{stands_with}
use Rattle.audit_link.specs.Links.{one_of, is_locks}
use Rattle.audit_link.proofs.Ways.{stands_are}
use Rattle.audit_scan.proofs.View.own_write.Goals as goal

pub returns-in-None : goal.returns-in-None
unfolding one_of
returns-in-None c = λ l K. rw (← c.in-None.ensures.0, same_refl 0)

pub returns-then-writes : goal.returns-then-writes
unfolding same one_of is_locks
returns-then-writes c =
    let e = c.in-Some.ensures in
    λ l K. let a = c.args in let z = ne_false (get_or a.self.owner.now a.k 0) 0 (λ q. omega (arith, e.0, e.1.0, q)) in let t = sym c.writes.ensures.0 ∙ c.if-writes.true in rw (z, c.event_at.ensures.0, t) (ap (λ (j : ℕ). same j a.self.me) (c.stands.ensures.0 ∙ sym (stands_are l a.self.links.now.parent a.self.links.now.fate K c.in-Some.i) ∙ ap (stands_with l.story) e.0) ∙ sym (and-true _))

pub returns-else-writes : goal.returns-else-writes
returns-else-writes c =
    λ l K. let t = sym c.writes.ensures.0 ∙ c.if-writes.false in rw (c.event_at.ensures.0, t, and-false, and-false)
