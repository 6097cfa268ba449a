-- The report, if there is one to give, then the end of the transaction and its descendants, who leave the sets of kin too.
use mathlib.Core.Path.{refl, sym, ◌∙◌}
use lib.ListN.{get_or}
use Rattle.laws.specs.Tests.{under}
use Rattle.laws.proofs.Tests.{under-lt}
use Rattle.laws.proofs.Booleans.{and_right}
use Rattle.rules.specs.Event.{abort}
use Rattle.state_array.specs.Changes.{less}
use Rattle.state_array.proofs.Kin.{kin_cleared}
use Rattle.state_version.proofs.Walk.{parent_below}
use Rattle.state_whole.specs.Whole.{Ready}
use Rattle.state_whole.proofs.Steps.{numbered}
use Rattle.event_access.proofs.Aborts.{abort_steps_of}
use Rattle.rules.specs.Editions.{geometry_of, form_in}
use borrow.Author.Rules.{rules}
use Rattle.event_access.proofs.abort_event.Goals as goal

pub inherit_on_abort-requires : goal.inherit_on_abort-requires
unfolding under
inherit_on_abort-requires g c =
    let number = c.number-n in
    let n = number.result in
    (number.ensures.1, λ e. parent_below _ _ c.requires.sources n (under-lt 1 (get_or c.args.s.now.depth n 0) (and_right c.args.report (under 1 (get_or c.args.s.now.depth n 0)) e)), search rules, search rules)

pub returns-clause-does : goal.returns-clause-does
unfolding under less
returns-clause-does g c =
    let number = c.number-n in
    let w = c.args.report in
    let e = c.free_numbers.ensures in
    let f = c.discard.ensures in
    λ k tears up work store I R. numbered (form_in tears (geometry_of k)) _ _ _ (λ t r. abort t w) (Ready (form_in tears (geometry_of k))) _ _ 0 0 number.ensures.0 refl (λ R. abort_steps_of (form_in tears (geometry_of k)) _ (sym c.requires.sized.4 ∙ I.form.writerss) _ I _ _ w R c.descendants-gone.ensures _ _ _ _ _ _ _ c.inherit_on_abort.ensures e.0 e.1 e.2 f.0 f.1 f.2) R

pub returns-clause-derived_sets : goal.returns-clause-derived_sets
unfolding under less
returns-clause-derived_sets g c =
    let e = c.free_numbers.ensures in
    kin_cleared _ _ _ _ _ _ _ _ _ c.requires.derived_sets e.0 e.1 c.minus-d.ensures c.leave.ensures
