-- By its kind the event is an abort, or a commit or prepare.
use mathlib.Core.Path.{sym, ap, ap₂, ◌∙◌}
use mathlib.Core.Bool.{Bool}
use Prim.Native.Nat.{ℕ}
use native.Mathlib.Omega.{arith}
use mathlib.Core.Option.{some}
use Rattle.laws.specs.Tests.{same}
use Rattle.rules.specs.Event.{abort}
use Rattle.event_commit.specs.Settling.{settling}
use Rattle.leaf_event.proofs.Meaning.{means_abort}
use Rattle.engine_step.proofs.ByKind.{same_up, report_is, means_settling}
use Rattle.state_whole.proofs.Reserves.{reserves_same}
use Rattle.state_whole.proofs.Steps.{retold, sources}
use Rattle.laws.proofs.Tests.{same-eq}
use Rattle.rules.specs.Editions.{geometry_of, form_in}
use Rattle.event_crash.proofs.Editions.{known_of, joint_of, whole_of}
use Rattle.engine_step.proofs.Lengths.{work_length, store_length}
use borrow.Author.Rules.{rules}
use Rattle.engine_step.proofs.end_event.Goals as goal

pub abort_event-requires : goal.abort_event-requires
abort_event-requires g c =
    (search rules, (c.requires.sized, (sources (form_in _ (geometry_of _)) _ c.requires.intact, c.requires.derived_sets)))

pub returns-then-kind-eq6-clause-fact : goal.returns-then-kind-eq6-clause-fact
unfolding same
returns-then-kind-eq6-clause-fact g c =
    let q = c.requires.event in
    retold (form_in _ (geometry_of _)) _ _ _ _ _ (means_abort c.args.e c.if-kind-eq6.true ∙ ap₂ (λ (t : ℕ) (w : Bool). some (abort t w)) (sym q.0) (report_is c.args.e.value))
    (same_up (form_in _ (geometry_of _)) {many = g.row.RECORDS} {places = g.row.PLACES} _ _ _ _ _ _ _ c.abort_event.ensures.rest.0 (c.abort_event.ensures.does _ _ _ _ _ c.requires.intact (record { up = c.requires.lives.0; live = c.requires.lives.1 })))

pub returns-then-kind-eq6-clause-reserves : goal.returns-then-kind-eq6-clause-reserves
returns-then-kind-eq6-clause-reserves g c =
    let w = c.abort_event.ensures.rest in
    reserves_same _ _ _ _ _ _ _ c.requires.reserves w.1 w.2

pub settle_event-requires : goal.settle_event-requires
unfolding same
settle_event-requires g c =
    let F = c.requires.intact.form in
    let N = c.requires.numbers in
    (search rules, (c.requires.sized, ((known_of _ _ _ _ N, joint_of _ _ _ _ N, whole_of _ _ _ _ N, λ e. c.requires.event.5 (let q = same-eq c.args.e.kind 9 e in omega arith)), ((work_length _ _ _ _ N _ F, store_length _ _ _ _ N _ F), (c.requires.lives.1, (sources (form_in _ (geometry_of _)) _ c.requires.intact, c.requires.derived_sets))))))

pub returns-clause-fact : goal.returns-clause-fact
unfolding same
returns-clause-fact g c =
    let q = c.requires.event in
    let P = c.settle_event.ensures.stepped _ c.requires.numbers c.requires.intact (record { up = c.requires.lives.0; live = c.requires.lives.1 }) c.requires.reserves in
    retold (form_in _ (geometry_of _)) _ _ _ _ _ (means_settling c.args.e c.if-kind-eq6.false q.1 q.2 q.3 q.4 ∙ ap (λ (t : ℕ). some (settling (same c.args.e.kind 9) t c.args.e.count c.args.e.value)) (sym q.0)) P.0

pub returns-clause-reserves : goal.returns-clause-reserves
unfolding same
returns-clause-reserves g c =
    (c.settle_event.ensures.stepped _ c.requires.numbers c.requires.intact (record { up = c.requires.lives.0; live = c.requires.lives.1 }) c.requires.reserves).1
