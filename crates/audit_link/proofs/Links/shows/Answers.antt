-- By where the write of i stands: with one that survives, or else on the reader's line or off it.
use lib.ListN.{get_or}
use Rattle.laws.proofs.Tests.{same_refl, ne_false}
use mathlib.Core.Path.{sym, ◌∙◌}
use Rattle.audit_link.specs.Links.{is_locks}
use Rattle.audit_link.proofs.Ways.{shows_is}
use Rattle.audit_link.proofs.Links.shows.Goals as goal

pub returns-then-self-j-eq3 : goal.returns-then-self-j-eq3
unfolding is_locks
returns-then-self-j-eq3 c =
    λ l K. let a = c.args in let j = c.stands-j.result in sym (shows_is l a.self.now.parent a.self.now.fate K a.reader a.i j c.stands-j.ensures.0 ∙ rw (c.if-self-j-eq3.true, same_refl 3))

pub returns : goal.returns
unfolding is_locks
returns c =
    let stands = c.stands-j in
    λ l K. let a = c.args in let j = stands.result in c.within.ensures ∙ sym (shows_is l a.self.now.parent a.self.now.fate K a.reader a.i j stands.ensures.0 ∙ rw (ne_false (get_or a.self.now.fate j 0) 3 c.if-self-j-eq3.false))
