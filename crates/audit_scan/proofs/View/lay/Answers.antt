-- By the owner of event k: none, or one whose event is a write of r that shows, and then sets one byte.
use mathlib.Core.Path.{◌≡◌, sym, ap, ◌∙◌}
use mathlib.Core.Bool.{true, false, and-false}
use native.Mathlib.Omega.{arith}
use lib.ListN.{get_or}
use Rattle.laws.proofs.Tests.{same_refl, ne_false}
use Rattle.audit_link.specs.Links.{one_of, shows_to}
use Rattle.audit_scan.proofs.More.{byte_is}
use Rattle.audit_scan.proofs.View.lay.Goals as goal

pub returns-in_default : goal.returns-in_default
unfolding one_of
returns-in_default c = λ l K. rw (← c.in_default.ensures.0, same_refl 0)

pub returns-then-shows : goal.returns-then-shows
unfolding one_of
returns-then-shows c =
    let e = c.in-Some.ensures in
    let event_at = c.event_at-e in
    let writes = c.writes in
    let if2 = c.if-writes in
    λ l K. let a = c.args in let z = ne_false (get_or a.self.owner.now a.k 0) 0 (λ q. omega (arith, e.0, e.1.0, q)) in let t = sym writes.ensures.0 ∙ if2.true in let s : shows_to l a.self.me (get_or a.self.owner.now a.k 0) ≡ true = ap (shows_to l a.self.me) (sym e.0) ∙ sym (c.shows.ensures l K) ∙ c.if-shows.true in rw (z, event_at.ensures.0, t, s) (sym (byte_is event_at.result a.page.now (writes.ensures.1 if2.true)))

pub returns-else-shows : goal.returns-else-shows
unfolding one_of
returns-else-shows c =
    λ l K. let a = c.args in let s : shows_to l a.self.me (get_or a.self.owner.now a.k 0) ≡ false = ap (shows_to l a.self.me) (sym c.in-Some.ensures.0) ∙ sym (c.shows.ensures l K) ∙ c.if-shows.false in rw (s, and-false)

pub returns-else-writes : goal.returns-else-writes
returns-else-writes c =
    λ l K. let t = sym c.writes.ensures.0 ∙ c.if-writes.false in rw (c.event_at-e.ensures.0, t, and-false, and-false)
