-- The law of the clause, over the tests that were made.
use Rattle.sound_clause.proofs.Clauses.{share_decided}
use Rattle.sound_lock.proofs.is_share.Goals as goal

pub returns : goal.returns
returns c =
    let contains = c.contains-holds in
    let contains2 = c.contains-writes in
    let contains3 = c.contains-retains in
    let within = c.within-below_writers in
    let single = c.single in
    let a = c.args in
    share_decided a.above a.beneath a.held a.held_writing a.retained a.retained_writing a.t _
    contains.ensures contains2.ensures contains3.ensures
    single.ensures within.ensures c.within-alone.ensures c.within-below_all.ensures c.within-aligned.ensures
