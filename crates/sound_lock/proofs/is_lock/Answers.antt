-- The law of the clause, over the tests that were made.
use Rattle.sound_clause.proofs.Clauses.{lock_decided}
use Rattle.sound_lock.proofs.is_lock.Goals as goal

pub returns : goal.returns
returns c =
    let is_set = c.is_set-numbered in
    let within = c.within-holders_live in
    let within2 = c.within-retainers_live in
    let a = c.args in
    lock_decided a.live a.held a.held_writing a.retained a.retained_writing a.writers is_set.ensures
    within.ensures within2.ensures c.within-held_nested.ensures c.within-retained_nested.ensures
    c.within-by_lock.ensures
