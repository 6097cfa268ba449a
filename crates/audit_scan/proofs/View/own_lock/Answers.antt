-- By the owner of event k: another, or the one that is asked for.
use mathlib.Core.Path.{◌≡◌}
use mathlib.Core.Bool.{true}
use lib.ListN.{get_or}
use Rattle.laws.specs.Tests.{same}
use Rattle.laws.proofs.Tests.{same_refl, ne_false}
use Rattle.audit_scan.proofs.View.own_lock.Goals as goal

pub returns-then-self-k : goal.returns-then-self-k
returns-then-self-k c =
    let a = c.args in
    rw (ne_false (get_or a.self.owner.now a.k 0) a.self.me (λ q. c.if-self-k.true q))

pub returns : goal.returns
returns c =
    let a = c.args in
    let s : same (get_or a.self.owner.now a.k 0) a.self.me ≡ true = rw c.if-self-k.false (same_refl a.self.me) in
    rw (s, c.event_at.ensures.0) c.locks.ensures
