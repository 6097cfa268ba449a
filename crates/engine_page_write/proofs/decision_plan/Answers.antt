-- While up, and of the prepared identity.
use mathlib.Core.Path.{refl}
use Rattle.rules.specs.Editions.{geometry_of}
use Rattle.engine_page_write.specs.Phases.{nothing}
use Rattle.engine_page_write.proofs.Planned.{decision_down, decision_other, decision_plans, nothing_small, decision_small}
use Rattle.engine_page_write.proofs.decision_plan.Goals as goal

pub returns-then-up-ne1 : goal.returns-then-up-ne1
returns-then-up-ne1 c = record {
  plans = (λ edition joint tears parent depth line held retained writers work store k N I H. decision_down tears (geometry_of edition) _ N.many _ I c.args.commits k c.args.i _ refl c.if-up-ne1.true);
  map_bound = nothing_small _ nothing refl;
}

pub returns-then-not-is_for : goal.returns-then-not-is_for
returns-then-not-is_for c =
    let if1 = c.if-up-ne1 in record {
      plans = (λ edition joint tears parent depth line held retained writers work store k N I H. decision_other tears (geometry_of edition) _ N.many _ I c.args.commits k c.args.i if1.false _ _ H _ c.is_for.ensures _ refl (c.if-not-is_for.true));
      map_bound = nothing_small _ nothing refl;
    }

pub returns : goal.returns
returns c =
    let if1 = c.if-up-ne1 in record {
      plans = (λ edition joint tears parent depth line held retained writers work store k N I H. decision_plans tears (geometry_of edition) _ N.many _ I c.args.commits k c.args.i if1.false _ _ H _ c.is_for.ensures _ c.of_decision.ensures (c.if-not-is_for.false));
      map_bound = decision_small _ _ _ _ c.of_decision.ensures c.requires;
    }
