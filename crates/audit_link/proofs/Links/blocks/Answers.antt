-- By where the lock of i stands: with one that has ended, with i itself, or with an ancestor of i.
use lib.ListN.{get_or}
use Rattle.laws.proofs.Tests.{lt-under, under-lt, same_refl, ne_false}
use Rattle.laws.proofs.Booleans.{refute}
use mathlib.Core.Path.{◌≡◌, sym, ap, ◌∙◌}
use mathlib.Core.Bool.{not}
use native.Mathlib.Omega.{arith}
use Rattle.audit_link.specs.Links.{is_locks}
use Rattle.audit_link.proofs.Ways.{way_is}
use Rattle.laws.specs.Tests.{same, under}
use Rattle.audit_link.proofs.Links.blocks.Goals as goal

pub returns-then-self-j-lt32 : goal.returns-then-self-j-lt32
unfolding is_locks
returns-then-self-j-lt32 c =
    λ l K. let a = c.args in let j = c.stands-j.result in sym (way_is l a.self.now.parent a.self.now.fate K a.asker a.i j c.stands-j.ensures.0 ∙ rw (lt-under (get_or a.self.now.fate j 0) 32 (omega arith)))

pub returns-then-j-i : goal.returns-then-j-i
unfolding same is_locks
returns-then-j-i c =
    let stands = c.stands-j in
    λ l K. let a = c.args in let j = stands.result in let e : j ≡ a.i = c.if-j-i.true in let high = refute (under (get_or a.self.now.fate j 0) 32) (λ d. let k = under-lt (get_or a.self.now.fate j 0) 32 d in omega arith) in sym (way_is l a.self.now.parent a.self.now.fate K a.asker a.i j stands.ensures.0 ∙ rw (high, e, same_refl a.i))

pub returns : goal.returns
unfolding is_locks
returns c =
    let stands = c.stands-j in
    λ l K. let a = c.args in let j = stands.result in let high = refute (under (get_or a.self.now.fate j 0) 32) (λ d. let k = under-lt (get_or a.self.now.fate j 0) 32 d in omega arith) in ap not c.within.ensures ∙ sym (way_is l a.self.now.parent a.self.now.fate K a.asker a.i j stands.ensures.0 ∙ rw (high, ne_false j a.i c.if-j-i.false))
