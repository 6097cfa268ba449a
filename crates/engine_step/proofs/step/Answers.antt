-- The tests that every kind shares, in the order of the refusals; then the event by its kind.
use mathlib.Core.Path.{sym, ap, subst, ◌∙◌}
use mathlib.Core.Bool.{Bool}
use Prim.Native.Nat.{ℕ, ◌^◌, ◌<◌}
use native.Mathlib.Omega.{arith}
use mathlib.Core.Option.{some}
use Rattle.rules.specs.Event.{decide}
use Rattle.leaf_event.proofs.Meaning.{means_bad, means_begin, means_crash, means_recover, means_decide, means_query}
use Rattle.engine_step.proofs.ByKind.{from_rest, to_abort, to_commit, down_steps, unknown_steps, keeps, keeps_reserved, decided_whole}
use Rattle.engine_step.proofs.Numbers.{transaction_is, no_transaction}
use Rattle.state_whole.proofs.Reserves.{reserves_same}
use Rattle.state_whole.proofs.Steps.{retold, unmoved, sources, not_live_past}
use Rattle.state_whole.proofs.Rules.{bad_refused}
use Rattle.rules.specs.Step.{step}
use Rattle.rules.specs.Editions.{geometry_of, form_in, InNumbers}
use Rattle.event_crash.proofs.Editions.{known_of, joint_of, whole_of}
use Rattle.event_commit.proofs.Commits.{whole_length}
use Rattle.event_decision.proofs.Decisions.{map_small}
use Rattle.engine_step.proofs.Lengths.{well_sized, store_length}
use borrow.Author.Rules.{rules}
use Rattle.engine_step.proofs.step.Goals as goal

pub returns-then-kind-eq0-clause-fact : goal.returns-then-kind-eq0-clause-fact
returns-then-kind-eq0-clause-fact g c =
    keeps _ _ _ _ c.requires.numbers.0 _ _ c.args.e _ c.requires.word.1 c.requires.word.0 c.requires.intact (unmoved (form_in _ (geometry_of _)) _ _ 1 c.requires.intact.form (ap (step (form_in _ (geometry_of _)) _) (means_bad c.args.e c.if-kind-eq0.true) ∙ bad_refused (form_in _ (geometry_of _)) _))

pub crash_event-requires : goal.crash_event-requires
crash_event-requires g c =
    (search rules, well_sized _ _ _ c.requires.numbers.0 _ _ _ c.requires.intact.form c.requires.numbers.1)

pub returns-then-kind-eq7-clause-fact : goal.returns-then-kind-eq7-clause-fact
returns-then-kind-eq7-clause-fact g c =
    keeps _ _ _ _ c.requires.numbers.0 _ _ c.args.e _ c.requires.word.1 c.requires.word.0 c.requires.intact (retold (form_in _ (geometry_of _)) _ _ _ _ _ (means_crash c.args.e c.if-kind-eq7.true) (c.crash_event.ensures.stepped _ _ _ _ c.requires.intact))

pub returns-then-kind-eq7-clause-reserves : goal.returns-then-kind-eq7-clause-reserves
returns-then-kind-eq7-clause-reserves g c =
    let w = c.crash_event.ensures.prepared in
    reserves_same _ _ _ _ _ _ _ c.requires.reserves w.0 w.1

pub recover_event-requires : goal.recover_event-requires
recover_event-requires g c =
    let N = c.requires.numbers.0 in
    (search rules, ((known_of _ _ _ _ N, joint_of _ _ _ _ N), store_length _ _ _ _ N _ c.requires.intact.form))

pub returns-then-kind-eq8-clause-fact : goal.returns-then-kind-eq8-clause-fact
returns-then-kind-eq8-clause-fact g c =
    keeps _ _ _ _ c.requires.numbers.0 _ _ c.args.e _ c.requires.word.1 c.requires.word.0 c.requires.intact (retold (form_in _ (geometry_of _)) _ _ _ _ _ (means_recover c.args.e c.if-kind-eq8.true) (from_rest (form_in _ (geometry_of _)) _ _ _ _ _ _ _ c.recover_event.ensures.rest (c.recover_event.ensures.stepped _ _ _ _ _ _ _ _ c.requires.numbers.0 c.requires.intact)))

pub returns-then-kind-eq8-clause-reserves : goal.returns-then-kind-eq8-clause-reserves
returns-then-kind-eq8-clause-reserves g c =
    keeps_reserved _ _ _ _ c.requires.numbers.0 _ _ c.args.e _ _ _ (λ z. omega arith) (λ z. omega arith) c.requires.intact c.requires.reserves (retold (form_in _ (geometry_of _)) _ _ _ _ _ (means_recover c.args.e c.if-kind-eq8.true) (from_rest (form_in _ (geometry_of _)) _ _ _ _ _ _ _ c.recover_event.ensures.rest (c.recover_event.ensures.stepped _ _ _ _ _ _ _ _ c.requires.numbers.0 c.requires.intact)))

pub returns-then-s-ne1-clause-fact : goal.returns-then-s-ne1-clause-fact
returns-then-s-ne1-clause-fact g c =
    let R = c.requires.word.0.kind in
    keeps _ _ _ _ c.requires.numbers.0 _ _ c.args.e _ c.requires.word.1 c.requires.word.0 c.requires.intact (down_steps (form_in _ (geometry_of _)) _ c.args.e c.requires.intact (omega arith) R c.if-kind-eq7.false c.if-kind-eq8.false c.if-s-ne1.true)

pub begin_event-requires : goal.begin_event-requires
begin_event-requires g c =
    let z = well_sized _ _ _ c.requires.numbers.0 _ _ _ c.requires.intact.form c.requires.numbers.1 in
    (search rules, ((z.5, z.6, z.7), (c.requires.word.0.transaction, ((sources (form_in _ (geometry_of _)) _ c.requires.intact).shallow, c.requires.derived_sets))))

pub returns-then-kind-eq1-clause-fact : goal.returns-then-kind-eq1-clause-fact
returns-then-kind-eq1-clause-fact g c =
    keeps _ _ _ _ c.requires.numbers.0 _ _ c.args.e _ c.requires.word.1 c.requires.word.0 c.requires.intact (retold (form_in _ (geometry_of _)) _ _ _ _ _ (means_begin c.args.e c.if-kind-eq1.true) (from_rest (form_in _ (geometry_of _)) _ _ _ _ _ _ _ c.begin_event.ensures.rest.0 (c.begin_event.ensures.stepped _ _ _ _ _ _ _ _ c.requires.intact c.if-s-ne1.false)))

pub decide_event-requires : goal.decide_event-requires
decide_event-requires g c =
    let F = c.requires.intact.form in
    let N = c.requires.numbers.0 in
    (search rules, (well_sized _ _ _ c.requires.numbers.0 _ _ _ c.requires.intact.form c.requires.numbers.1, ((known_of _ _ _ _ N, joint_of _ _ _ _ N, subst (λ (m : ℕ). c.args.d.now.reserved < 2 ^ m) N.many (map_small _ (geometry_of _) _ _ _ c.requires.reserves)), (whole_length _ _ _ (whole_of _ _ _ _ N (c.requires.word.1 (omega arith))) (store_length _ _ _ _ N _ F), c.requires.derived_sets))))

pub returns-then-e-eq0-clause-fact : goal.returns-then-e-eq0-clause-fact
returns-then-e-eq0-clause-fact g c =
    let N = c.requires.numbers.0 in
    let whole = whole_of _ _ _ _ N (c.requires.word.1 (omega arith)) in
    let P = decided_whole _ (geometry_of _) _ _ _ _ _ _ _ _ whole (c.decide_event.ensures.stepped _ _ (subst (InNumbers _ g.row.RECORDS _) whole N)) c.requires.intact c.if-s-ne1.false c.requires.reserves in
    let means = means_decide c.args.e c.if-kind-eq10.true ∙ ap (λ (d : Bool). some (decide d c.args.e.count c.args.e.value)) (to_abort c.args.e.offset c.if-e-eq0.true) in
    keeps _ _ _ _ c.requires.numbers.0 _ _ c.args.e _ c.requires.word.1 c.requires.word.0 c.requires.intact (retold (form_in _ (geometry_of _)) _ _ _ _ _ means P.0)

pub returns-then-e-eq0-clause-reserves : goal.returns-then-e-eq0-clause-reserves
returns-then-e-eq0-clause-reserves g c =
    let N = c.requires.numbers.0 in
    let whole = whole_of _ _ _ _ N (c.requires.word.1 (omega arith)) in
    (decided_whole _ (geometry_of _) _ _ _ _ _ _ _ _ whole (c.decide_event.ensures.stepped _ _ (subst (InNumbers _ g.row.RECORDS _) whole N)) c.requires.intact c.if-s-ne1.false c.requires.reserves).1

pub decide_event-requires-then-kind-eq10 : goal.decide_event-requires-then-kind-eq10
decide_event-requires-then-kind-eq10 g c =
    let F = c.requires.intact.form in
    let N = c.requires.numbers.0 in
    (search rules, (well_sized _ _ _ c.requires.numbers.0 _ _ _ c.requires.intact.form c.requires.numbers.1, ((known_of _ _ _ _ N, joint_of _ _ _ _ N, subst (λ (m : ℕ). c.args.d.now.reserved < 2 ^ m) N.many (map_small _ (geometry_of _) _ _ _ c.requires.reserves)), (whole_length _ _ _ (whole_of _ _ _ _ N (c.requires.word.1 (omega arith))) (store_length _ _ _ _ N _ F), c.requires.derived_sets))))

pub returns-then-kind-eq10-clause-fact : goal.returns-then-kind-eq10-clause-fact
returns-then-kind-eq10-clause-fact g c =
    let N = c.requires.numbers.0 in
    let whole = whole_of _ _ _ _ N (c.requires.word.1 (omega arith)) in
    let P = decided_whole _ (geometry_of _) _ _ _ _ _ _ _ _ whole (c.decide_event-then-kind-eq10.ensures.stepped _ _ (subst (InNumbers _ g.row.RECORDS _) whole N)) c.requires.intact c.if-s-ne1.false c.requires.reserves in
    let means = means_decide c.args.e c.if-kind-eq10.true ∙ ap (λ (d : Bool). some (decide d c.args.e.count c.args.e.value)) (to_commit c.args.e.offset c.if-e-eq0.false) in
    keeps _ _ _ _ c.requires.numbers.0 _ _ c.args.e _ c.requires.word.1 c.requires.word.0 c.requires.intact (retold (form_in _ (geometry_of _)) _ _ _ _ _ means P.0)

pub returns-then-kind-eq10-clause-reserves : goal.returns-then-kind-eq10-clause-reserves
returns-then-kind-eq10-clause-reserves g c =
    let N = c.requires.numbers.0 in
    let whole = whole_of _ _ _ _ N (c.requires.word.1 (omega arith)) in
    (decided_whole _ (geometry_of _) _ _ _ _ _ _ _ _ whole (c.decide_event-then-kind-eq10.ensures.stepped _ _ (subst (InNumbers _ g.row.RECORDS _) whole N)) c.requires.intact c.if-s-ne1.false c.requires.reserves).1

pub returns-then-kind-gt9-clause-fact : goal.returns-then-kind-gt9-clause-fact
returns-then-kind-gt9-clause-fact g c =
    let R = c.requires.word.0.kind in
    keeps _ _ _ _ c.requires.numbers.0 _ _ c.args.e _ c.requires.word.1 c.requires.word.0 c.requires.intact (retold (form_in _ (geometry_of _)) _ _ _ _ _ (means_query c.args.e (omega arith)) (c.query_event.ensures _ _ _ c.requires.intact c.if-s-ne1.false c.requires.reserves))

pub named_event-requires : goal.named_event-requires
named_event-requires g c =
    let q = transaction_is c.args.e.transaction _ (sym c.in-Some.is ∙ c.checked.ensures) in
    (search rules, (c.requires.numbers.0, (well_sized _ _ _ c.requires.numbers.0 _ _ _ c.requires.intact.form c.requires.numbers.1, ((q, omega (arith, c.if-kind-eq0.false, c.if-kind-eq1.false), omega (arith, c.if-kind-gt9.false), c.if-kind-eq7.false, c.if-kind-eq8.false, c.requires.word.1), (c.requires.word.0, (c.requires.intact, (c.if-s-ne1.false, (c.requires.derived_sets, c.requires.reserves))))))))

pub returns-in-Some-clause-fact : goal.returns-in-Some-clause-fact
returns-in-Some-clause-fact g c =
    keeps _ _ _ _ c.requires.numbers.0 _ _ c.args.e _ c.requires.word.1 c.requires.word.0 c.requires.intact c.named_event.ensures.fact

pub returns-in-None-clause-fact : goal.returns-in-None-clause-fact
returns-in-None-clause-fact g c =
    let R = c.requires.word.0.kind in
    let h = no_transaction c.args.e.transaction (sym c.in-None.is ∙ c.checked.ensures) in
    keeps _ _ _ _ c.requires.numbers.0 _ _ c.args.e _ c.requires.word.1 c.requires.word.0 c.requires.intact (unknown_steps (form_in _ (geometry_of _)) _ c.args.e c.requires.intact (omega (arith, c.if-kind-eq0.false, c.if-kind-eq1.false)) (omega (arith, c.if-kind-gt9.false)) c.if-kind-eq7.false c.if-kind-eq8.false c.if-s-ne1.false (not_live_past (form_in _ (geometry_of _)) _ c.args.e.transaction c.requires.intact.form h))
