-- By the kind of the event.
use mathlib.Core.Path.{refl, sym, ap, ◌∙◌}
use mathlib.Core.Bool.{Bool}
use mathlib.Core.Option.{some}
use native.Mathlib.Omega.{arith}
use Rattle.laws.specs.Tests.{same}
use Rattle.laws.proofs.Tests.{same-eq}
use Rattle.rules.specs.Event.{decide}
use Rattle.rules.specs.Editions.{geometry_of}
use Rattle.event_crash.proofs.Editions.{layout_of}
use Rattle.leaf_commit_page.proofs.Places.{known_small}
use Rattle.leaf_event.proofs.Meaning.{means_recover, means_decide}
use Rattle.engine_step.proofs.Numbers.{transaction_is, no_transaction}
use Rattle.engine_page_write.specs.Phases.{nothing, plan_told}
use Rattle.engine_page_write.proofs.Planned.{plans_as, by_number, decision_of_lem, settles, still_plans, unnamed_plans, nothing_small}
use Rattle.engine_page_write.proofs.plan_of.Goals as goal

pub read_held-held-requires : goal.read_held-held-requires
read_held-held-requires c =
    (c.requires.0, c.requires.1, c.requires.6)

pub recovery_plan-requires : goal.recovery_plan-requires
recovery_plan-requires c =
    (c.requires.0, c.requires.1, c.requires.6)

pub returns-then-kind-eq8 : goal.returns-then-kind-eq8
returns-then-kind-eq8 c = record {
  plans = (λ edition line held retained work N I. let e = c.args.e in plans_as c.args.tears (geometry_of edition) _ N.many _ _ _ _ (means_recover e c.if-kind-eq8.true) (c.recovery_plan.ensures.plans edition _ _ line held retained _ work e.count N I));
  map_bound = c.recovery_plan.ensures.map_bound;
}

pub decision_plan-requires : goal.decision_plan-requires
decision_plan-requires c =
    let read_held = c.read_held-held in
    read_held.ensures.1

pub returns-then-kind-eq10 : goal.returns-then-kind-eq10
unfolding same
returns-then-kind-eq10 c =
    let read_held = c.read_held-held in record {
      plans = (λ edition line held retained work N I. let e = c.args.e in plans_as c.args.tears (geometry_of edition) _ N.many _ _ _ _ (means_decide e c.if-kind-eq10.true ∙ ap (λ (d : Bool). some (decide d e.count e.value)) (decision_of_lem e.offset)) (c.decision_plan.ensures.plans edition _ c.args.tears _ _ line held retained _ work _ e.count N I (sym (read_held.ensures.0 (geometry_of edition) (layout_of edition _ _ _ N) N.two_phase))));
      map_bound = c.decision_plan.ensures.map_bound;
    }

pub top_plan-requires : goal.top_plan-requires
unfolding same
top_plan-requires c =
    ((known_small _ c.requires.0).0, λ q. c.requires.1 (c.requires.2 (let z = same-eq c.args.e.kind 9 q in omega (arith, z))), c.requires.3, c.requires.4, c.requires.5, c.requires.7)

pub returns-then-kind : goal.returns-then-kind
unfolding same
returns-then-kind c =
    let read_held = c.read_held-held in
    let if3 = c.if-kind in record {
      plans = (λ edition line held retained work N I. let e = c.args.e in plans_as c.args.tears (geometry_of edition) _ N.many _ _ _ _ (settles e if3.true) (by_number c.args.tears (geometry_of edition) _ N.many _ _ e.count _ _ _ _ (transaction_is e.transaction _ c.in_ok-t.ensures) (c.top_plan.ensures.plans edition _ c.args.tears line held retained work _ e.count _ N I (sym (read_held.ensures.0 (geometry_of edition) (layout_of edition _ _ _ N) N.two_phase)))));
      map_bound = c.top_plan.ensures.map_bound;
    }

pub returns-in_err-t : goal.returns-in_err-t
unfolding same
returns-in_err-t c =
    let if3 = c.if-kind in record {
      plans = (λ edition line held retained work N I. let e = c.args.e in unnamed_plans c.args.tears (geometry_of edition) _ N.many _ I e _ (ap plan_told c.from_residual.ensures) if3.true (no_transaction e.transaction c.in_err-t.ensures));
      map_bound = nothing_small _ (plan_told c.from_residual.result) (ap plan_told c.from_residual.ensures);
    }

pub returns : goal.returns
unfolding same
returns c =
    let if1 = c.if-kind-eq8 in record {
      plans = (λ edition line held retained work N I. let e = c.args.e in still_plans c.args.tears (geometry_of edition) _ N.many _ e _ refl if1.false c.if-kind-eq10.false c.if-kind.false);
      map_bound = nothing_small _ nothing refl;
    }
