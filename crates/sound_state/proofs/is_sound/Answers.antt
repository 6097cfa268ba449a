-- The law that the clauses together are the encoding of a sound state.
use mathlib.Core.Path.{subst}
use mathlib.Core.Bool.{Bool}
use Prim.Native.Nat.{ℕ}
use Rattle.rules.specs.Editions.{geometry_of}
use Rattle.event_crash.proofs.Editions.{served_of}
use Rattle.sound_clause.specs.Decides.{Decides}
use Rattle.sound_clause.specs.Clauses.{Locks}
use Rattle.sound_state.proofs.Whole.{whole_decided}
use Rattle.sound_state.proofs.is_sound.Goals as goal

pub returns : goal.returns
returns c =
    let is_tree = c.is_tree-tree in
    let live_set = c.live_set-live in
    λ edition work N long. let a = c.args in
    let S = served_of edition in
    whole_decided a.tears (geometry_of edition) N.many (record { few = S.few; deep = S.deep }) a.up a.parent.now a.depth.now a.line.now a.held.now a.retained.now a.writers.now work a.store.now c.requires long
    is_tree.ensures
    (subst (λ (f : ℕ → Bool). Decides c.are_locks-locks.result (Locks f a.held.now a.retained.now a.writers.now)) live_set.ensures c.are_locks-locks.ensures)
    c.are_shares-shares.ensures (c.is_status_sound-phase.ensures edition a.depth.now N live_set.ensures)
