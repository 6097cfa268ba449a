-- The asker joins the set in any mode, and to write that in write mode.
use mathlib.Core.Path.{sym, ap, ◌∙◌}
use mathlib.Core.Bool.{Bool}
use Prim.Native.Nat.{◌+◌, ◌*◌}
use native.Mathlib.Omega.{arith}
use lib.ListN.{set, length-set}
use borrow.Author.Rules.{rules}
use Rattle.leaf_set.specs.Sets.{sets}
use Rattle.state_array.specs.Changes.{access_when, joined, joined_for}
use Rattle.state_array.proofs.Joined.{sets_joined}
use Rattle.state_lock.proofs.Granting.{joined_as}
use Rattle.state_lock.proofs.hold.Goals as goal

pub bounds-held-write : goal.bounds-held-write
bounds-held-write c =
    let index = c.index-i in
    let a = c.args in
    let i = index.result in
    let e = length-set a.held.now (2 * i) c.with.result in
    omega arith

pub bounds-held-write-then-not-reading : goal.bounds-held-write-then-not-reading
bounds-held-write-then-not-reading c =
    let index = c.index-i in
    let with = c.with in
    let a = c.args in
    let i = index.result in
    let e = length-set a.held.now (2 * i) with.result in
    omega arith

pub returns-then-not-reading : goal.returns-then-not-reading
unfolding sets joined_for access_when
returns-then-not-reading c =
    let number = c.number-n in
    let index = c.index-i in
    let with = c.with in
    let a = c.args in
    let n = number.result in
    let i = index.result in
    let v = with.result in
    joined_as (access_when a.reading) n _ i _ a.held.now _ number.ensures.0 index.ensures.0 (record {
      are = sets_joined (set a.held.now (2 * i) v) n (2 * i + 1) _ (omega (arith, length-set a.held.now (2 * i) v)) c.with-then-not-reading.ensures
          ∙ ap (joined n (2 * i + 1)) (sets_joined a.held.now n (2 * i) v (omega arith) with.ensures)
          ∙ sym (ap (λ (b : Bool). joined_for (access_when b) n i (sets a.held.now)) (c.if-not-reading.true));
      long = search rules;
    })

pub returns-else-not-reading : goal.returns-else-not-reading
unfolding sets joined_for access_when
returns-else-not-reading c =
    let number = c.number-n in
    let index = c.index-i in
    let a = c.args in
    let n = number.result in
    let i = index.result in
    joined_as (access_when a.reading) n _ i _ a.held.now _ number.ensures.0 index.ensures.0 (record {
      are = sets_joined a.held.now n (2 * i) _ (omega arith) c.with.ensures
          ∙ sym (ap (λ (b : Bool). joined_for (access_when b) n i (sets a.held.now)) (c.if-not-reading.false));
      long = search rules;
    })
