-- The tests of a recovery.
use mathlib.Core.Path.{refl}
use Rattle.laws.proofs.Booleans.{not-true, not-false}
use Rattle.rules.specs.Editions.{geometry_of}
use Rattle.event_crash.proofs.Editions.{layout_of}
use Rattle.engine_page_write.specs.Phases.{nothing}
use Rattle.engine_page_write.proofs.Planned.{recovery_up, recovery_damaged, recovery_plans, nothing_small, recovery_small}
use Rattle.engine_page_write.proofs.recovery_plan.Goals as goal

pub returns-then-up-eq1 : goal.returns-then-up-eq1
returns-then-up-eq1 c = record {
  plans = (λ edition parent depth line held retained writers work k N I. recovery_up c.args.tears (geometry_of edition) _ N.many _ I k _ refl c.if-up-eq1.true);
  map_bound = nothing_small _ nothing refl;
}

pub returns-then-not-c : goal.returns-then-not-c
returns-then-not-c c =
    let if1 = c.if-up-eq1 in
    let read_map = c.read_map-c in record {
      plans = (λ edition parent depth line held retained writers work k N I. recovery_damaged c.args.tears (geometry_of edition) _ N.many _ I k if1.false _ (read_map.ensures.0 (geometry_of edition) (layout_of edition _ _ _ N) N.two_phase) _ refl (not-true _ c.if-not-c.true));
      map_bound = nothing_small _ nothing refl;
    }

pub returns : goal.returns
returns c =
    let if1 = c.if-up-eq1 in
    let read_map = c.read_map-c in record {
      plans = (λ edition parent depth line held retained writers work k N I. recovery_plans c.args.tears (geometry_of edition) _ N.many _ I k if1.false _ (read_map.ensures.0 (geometry_of edition) (layout_of edition _ _ _ N) N.two_phase) _ c.of_recovery.ensures (not-false _ c.if-not-c.false));
      map_bound = recovery_small _ _ _ c.of_recovery.ensures read_map.ensures.1;
    }
