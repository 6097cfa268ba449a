-- For another nothing; else the page writes of the decision, what is prepared then, and the crash if one came.
use mathlib.Core.Path.{sym}
use mathlib.Core.Bool.{false}
use Rattle.rules.specs.Editions.{geometry_of}
use Rattle.event_crash.proofs.Editions.{layout_of}
use Rattle.state_whole.proofs.Reserves.{reserves_same}
use Rattle.event_decision.proofs.Decisions.{for_prepared, decide_other, decide_steps, decide_cut}
use borrow.Author.Rules.{rules}
use Rattle.event_decision.proofs.decide_event.Goals as goal

pub returns-then-not-is_for-clause-stepped : goal.returns-then-not-is_for-clause-stepped
returns-then-not-is_for-clause-stepped g c =
    λ edition work N I u H. (decide_other false (geometry_of edition) _ I u _ _ _ H _ c.is_for.ensures _ _ c.if-not-is_for.true, H)

pub decide_pages-m-requires : goal.decide_pages-m-requires
decide_pages-m-requires g c =
    (c.requires.known.0, c.requires.known.2, c.requires.pages)

pub read_held-p-requires : goal.read_held-p-requires
read_held-p-requires g c =
    (c.requires.known.0, c.requires.known.1, search rules)

pub returns-then-m-clause-stepped : goal.returns-then-m-clause-stepped
returns-then-m-clause-stepped g c =
    λ edition work N I u H.
    let G = layout_of edition _ _ _ N in
    let ours = c.if-not-is_for.false in
    let L = c.decide_pages-m.ensures _ G (for_prepared false (geometry_of edition) _ _ _ _ _ H c.is_for.ensures ours) in
    (decide_cut false (geometry_of edition) _ I u _ _ _ H _ c.is_for.ensures _ _ ours _ _ _ L (search rules) c.if-m.true _ c.requires.sized.4 _ _ _ _ _ _ _ c.clear_state.ensures.up_after, reserves_same false (geometry_of edition) _ _ _ _ _ (sym (c.read_held-p.ensures.0 _ G N.two_phase)) c.clear_state.ensures.prepared.0 c.clear_state.ensures.prepared.1)

pub returns-clause-stepped : goal.returns-clause-stepped
returns-clause-stepped g c =
    λ edition work N I u H.
    let G = layout_of edition _ _ _ N in
    let ours = c.if-not-is_for.false in
    let L = c.decide_pages-m.ensures _ G (for_prepared false (geometry_of edition) _ _ _ _ _ H c.is_for.ensures ours) in
    (decide_steps false (geometry_of edition) _ I u _ _ _ H _ c.is_for.ensures _ _ ours _ _ _ L (search rules) c.if-m.false, sym (c.read_held-p.ensures.0 _ G N.two_phase))
