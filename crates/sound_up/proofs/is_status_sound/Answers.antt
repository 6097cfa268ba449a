-- The law of the clause, over whether the store is emptied and what its commit page says of a prepared transaction.
use mathlib.Core.Path.{refl, sym, ap, ◌∙◌}
use mathlib.Core.Logic.{inl}
use Prim.Native.Nat.{◌+◌}
use borrow.Author.Rules.{rules}
use Rattle.laws.specs.Tests.{same}
use Rattle.rules.specs.Store.{Page, read_commit, read_prepared, is_emptied}
use Rattle.rules.specs.Editions.{geometry_of}
use Rattle.leaf_commit_page.specs.Heard.{overheard}
use Rattle.event_crash.proofs.Editions.{layout_of}
use Rattle.sound_clause.proofs.Clauses.{idle_decided, phase_decided}
use Rattle.sound_store.proofs.Calm.{first_page, emptied_page}
use Rattle.sound_up.proofs.is_status_sound.Goals as goal

pub is_emptied-empty-requires : goal.is_emptied-empty-requires
is_emptied-empty-requires c = (inl refl, search rules)

pub get_page-requires : goal.get_page-requires
get_page-requires c =
    let a = c.args in
    (search rules, first_page a.tears (16 + 16) c.requires.2)

pub prepared_map-map-requires : goal.prepared_map-map-requires
prepared_map-map-requires c =
    λ g L e. let a = c.args in ap (λ (p : Page). is_emptied (read_commit g p)) c.get_page.ensures ∙ emptied_page a.tears g a.store.now (sym (c.is_emptied-empty.ensures g L) ∙ e)

pub returns : goal.returns
unfolding same
returns c =
    let within = c.within-idle in
    let is_emptied_lem = c.is_emptied-empty in
    λ edition depth N lives. let a = c.args in let g = geometry_of edition in let L = layout_of edition 16 a.joint a.tears N in phase_decided a.tears g a.up depth a.held.now a.retained.now a.store.now c.prepared_map-map.result (is_emptied_lem.ensures g L) (c.prepared_map-map.ensures g L N.two_phase ∙ ap (λ (p : Page). (overheard (read_prepared g p)).map) c.get_page.ensures) (idle_decided a.live depth lives within.ensures) (c.are_unlocked-unlocked.ensures g N.many)
