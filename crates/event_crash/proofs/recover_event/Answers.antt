-- The refusals of a recovery; then its page writes.
use Rattle.rules.specs.Editions.{geometry_of, form_in}
use Rattle.event_crash.proofs.Editions.{layout_of}
use Rattle.event_crash.proofs.Falls.{damaged_is, whole_is, map_is, recover_refuses_3, recover_refuses_4, recover_cut, recover_steps}
use Rattle.laws.proofs.Booleans.{not-true, not-false}
use borrow.Author.Rules.{rules}
use Rattle.event_crash.proofs.recover_event.Goals as goal

pub returns-then-s-eq1-clause-stepped : goal.returns-then-s-eq1-clause-stepped
returns-then-s-eq1-clause-stepped g c =
    λ edition parent depth line held retained writers work N I. recover_refuses_3 (form_in _ (geometry_of edition)) _ I c.args.k c.if-s-eq1.true

pub returns-then-not-c-clause-stepped : goal.returns-then-not-c-clause-stepped
returns-then-not-c-clause-stepped g c =
    λ edition parent depth line held retained writers work N I. recover_refuses_4 (form_in _ (geometry_of edition)) _ I c.args.k c.if-s-eq1.false (damaged_is _ (geometry_of edition) _ _ (c.read_map-c.ensures.0 _ (layout_of edition _ _ _ N) N.two_phase) (not-true _ c.if-not-c.true))

pub returns-then-m-clause-stepped : goal.returns-then-m-clause-stepped
returns-then-m-clause-stepped g c =
    λ edition parent depth line held retained writers work N I. let L = c.read_map-c.ensures.0 _ (layout_of edition _ _ _ N) N.two_phase in
    recover_cut (form_in _ (geometry_of edition)) _ I c.args.k c.if-s-eq1.false (whole_is _ (geometry_of edition) _ _ L (not-false _ c.if-not-c.false)) _ _ _ (search rules) (c.recover_pages-m.ensures _ (layout_of edition _ _ _ N) (map_is _ (geometry_of edition) _ _ L)) c.if-m.true

pub returns-clause-stepped : goal.returns-clause-stepped
returns-clause-stepped g c =
    λ edition parent depth line held retained writers work N I. let L = c.read_map-c.ensures.0 _ (layout_of edition _ _ _ N) N.two_phase in
    recover_steps (form_in _ (geometry_of edition)) _ I c.args.k c.if-s-eq1.false (whole_is _ (geometry_of edition) _ _ L (not-false _ c.if-not-c.false)) _ _ _ (search rules) (c.recover_pages-m.ensures _ (layout_of edition _ _ _ N) (map_is _ (geometry_of edition) _ _ L)) c.if-m.false
