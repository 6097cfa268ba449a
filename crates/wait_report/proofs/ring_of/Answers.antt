-- By the tests: what the arrays say is what the state says.
use mathlib.Core.Path.{refl, sym, ap, subst, ◌∙◌}
use native.Mathlib.Omega.{arith}
use lib.ListN.{take}
use Rattle.state_array.specs.View.{Owners}
use Rattle.state_whole.proofs.Parents.{parent_named}
use Rattle.rules.specs.Editions.{edition1}
use Rattle.rules.specs.Waiting.{Found}
use Rattle.wait_graph.specs.Pointing.{refused_with}
use Rattle.wait_graph.proofs.Reaching.{number_some}
use Rattle.wait_report.specs.Reported.{aside}
use Rattle.wait_report.proofs.Reporting.{numbers_are, points_are, points_small}
use borrow.Author.Rules.{rules}
use Rattle.wait_report.proofs.ring_of.Goals as goal

pub returns-then-n-gt24 : goal.returns-then-n-gt24
returns-then-n-gt24 c =
    λ ring. record { many = λ _. refl; few = λ h. absurd (omega arith); told = λ z. absurd (omega arith); untouched = λ _. refl }

pub returns-in-Err : goal.returns-in-Err
unfolding refused_with
returns-in-Err c =
    let a = c.args in
    let words = take a.list.count a.list.words in
    λ ring. record {
      many = λ h. absurd (omega arith);
      few = λ _. c.in-Err.ensures.refusal ∙ numbers_are (aside a.e) c.requires words;
      told = λ z. absurd (number_some c.in-Err.refusal z);
      untouched = λ _. refl;
    }

pub pointings-points-requires : goal.pointings-points-requires
pointings-points-requires c =
    (search rules, search rules, parent_named edition1 (aside c.args.e) c.requires, c.in-Ok.ensures.in_range)

pub show_cycle-requires : goal.show_cycle-requires
show_cycle-requires c =
    let a = c.args in
    let words = take a.list.count a.list.words in
    let p = c.pointings-points in
    (p.ensures.long, λ t u q. points_small (aside a.e) c.requires words t u (sym (ap (λ (g : Owners). g t u) p.ensures.are) ∙ q))

pub returns-in-Ok : goal.returns-in-Ok
unfolding refused_with
returns-in-Ok c =
    let a = c.args in
    let words = take a.list.count a.list.words in
    let p = c.pointings-points in
    λ ring. record {
      many = λ h. absurd (omega arith);
      few = λ _. c.in-Ok.ensures.refusal ∙ numbers_are (aside a.e) c.requires words;
      told = λ _. subst (λ (g : Owners). Found g c.show_cycle.result.length c.show_cycle.result.transactions) (p.ensures.are ∙ points_are (aside a.e) c.requires words) c.show_cycle.ensures;
      untouched = λ q. absurd (q refl);
    }
