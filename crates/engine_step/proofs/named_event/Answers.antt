-- By its kind the event ends the live transaction, or is at a record.
use mathlib.Core.Path.{refl, sym, subst⁻¹, ◌∙◌}
use Prim.Native.Nat.{ℕ, ◌<◌}
use native.Mathlib.Omega.{arith}
use lib.ListN.{get_or}
use Rattle.engine_step.proofs.ByKind.{unknown_steps, leaf_of, waits_steps}
use Rattle.engine_step.proofs.Numbers.{record_is, no_record, transaction_small}
use Rattle.state_whole.proofs.Parents.{child_test}
use Rattle.state_whole.proofs.Steps.{not_live, sources}
use Rattle.rules.specs.Editions.{geometry_of, form_in}
use Rattle.engine_step.proofs.Lengths.{work_length, store_length}
use borrow.Author.Rules.{rules}
use Rattle.engine_step.proofs.named_event.Goals as goal

pub bounds-s-e : goal.bounds-s-e
bounds-s-e g c =
    let h = transaction_small c.args.t in
    let e = c.requires.event.0 in
    search rules

pub returns-then-s-e-eq0-clause-fact : goal.returns-then-s-e-eq0-clause-fact
returns-then-s-e-eq0-clause-fact g c =
    let q = c.requires.event in
    unknown_steps (form_in _ (geometry_of _)) _ c.args.e c.requires.intact q.1 q.2 q.3 q.4 c.requires.up (not_live (form_in _ (geometry_of _)) _ c.args.e.transaction c.if-s-e-eq0.true)

pub end_event-requires : goal.end_event-requires
end_event-requires g c =
    let q = c.requires.event in
    let alive : 0 < get_or c.args.s.now.depth c.args.e.transaction 0 = omega arith in
    let live = subst⁻¹ (λ (n : ℕ). 0 < get_or c.args.s.now.depth n 0) q.0 alive in
    (search rules, (c.requires.numbers, (c.requires.sized, ((q.0, c.if-kind-gt4.true, q.2, q.3, q.4, q.5), (c.requires.word, (c.requires.intact, ((c.requires.up, live), (c.requires.derived_sets, c.requires.reserves))))))))

pub returns-then-has_child-clause-fact : goal.returns-then-has_child-clause-fact
returns-then-has_child-clause-fact g c =
    waits_steps (form_in _ (geometry_of _)) _ c.args.e.transaction _ (child_test (form_in _ (geometry_of _)) _ _ _ _ _ c.requires.derived_sets c.requires.word.transaction c.has_child.ensures) c.if-has_child.true c.args.e refl c.requires.intact c.requires.event.1 (omega arith) (record { up = c.requires.up; live = omega arith })

pub record_event-requires : goal.record_event-requires
record_event-requires g c =
    let q = c.requires.event in
    let F = c.requires.intact.form in
    let N = c.requires.numbers in
    let r = record_is _ c.args.e.rec _ c.requires.sized.0 (sym c.in-Some.is ∙ c.checked.ensures) in
    let alive : 0 < get_or c.args.s.now.depth c.args.e.transaction 0 = omega (arith, c.if-s-e-eq0.false) in
    let live = subst⁻¹ (λ (n : ℕ). 0 < get_or c.args.s.now.depth n 0) q.0 alive in
    (search rules, (c.requires.sized, ((q.0, r.0, q.1, omega (arith, c.if-kind-gt4.false), c.requires.word.offset, omega arith), ((work_length _ _ _ _ N _ F, store_length _ _ _ _ N _ F), (live, sources (form_in _ (geometry_of _)) _ c.requires.intact)))))

pub returns-in-Some-clause-fact : goal.returns-in-Some-clause-fact
returns-in-Some-clause-fact g c =
    let leaf = leaf_of (form_in _ (geometry_of _)) _ c.args.e.transaction _ (child_test (form_in _ (geometry_of _)) _ _ _ _ _ c.requires.derived_sets c.requires.word.transaction c.has_child.ensures) c.if-has_child.false (record { up = c.requires.up; live = omega (arith, c.if-s-e-eq0.false) }) _ c.requires.event.0 in
    c.record_event.ensures.stepped _ _ _ c.requires.numbers c.requires.intact leaf c.requires.reserves

pub returns-in-None-clause-fact : goal.returns-in-None-clause-fact
returns-in-None-clause-fact g c =
    let h = no_record _ c.args.e.rec (sym c.in-None.is ∙ c.checked.ensures) in
    let r = c.requires.word.rec in
    let m = c.requires.numbers.many in
    absurd (omega arith)
