-- By the kind: lock, write, read.
use mathlib.Core.Path.{◌≡◌}
use native.Mathlib.Omega.{arith}
use Rattle.history.specs.Demand3.{settled_in}
use Rattle.rules.specs.Editions.{edition1}
use Rattle.leaf_event.proofs.Meaning.{means_lock, means_write, means_read}
use Rattle.audit_event.proofs.record_event.Goals as goal

pub returns-then-kind-eq2 : goal.returns-then-kind-eq2
returns-then-kind-eq2 c =
    λ store B R alone. let a = c.args in let m = means_lock a.e c.if-kind-eq2.true in rw m (c.lock_event.ensures (settled_in edition1 a.start.now) store a.e.transaction (rw m at B) R alone)

pub returns-then-kind-eq3 : goal.returns-then-kind-eq3
returns-then-kind-eq3 c =
    λ store B R alone. let a = c.args in let m = means_write a.e c.if-kind-eq3.true in rw m (c.write_event.ensures (settled_in edition1 a.start.now) store a.e.transaction a.e.offset a.e.value (rw m at B) R alone)

pub returns : goal.returns
returns c =
    let if1 = c.if-kind-eq2 in
    let if2 = c.if-kind-eq3 in
    λ store B R alone. let a = c.args in let q : a.e.kind ≡ 4 = omega (arith, c.requires.6, c.requires.7, if1.false, if2.false) in let m = means_read a.e q in rw m (c.read_event.ensures store a.e.transaction (rw m at B) R alone)
