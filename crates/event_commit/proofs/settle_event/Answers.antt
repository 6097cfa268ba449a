-- A living child is refused; then a child's commit, or a top transaction.
use mathlib.Core.Path.{refl, sym, subst⁻¹, ◌∙◌}
use Prim.Native.Nat.{ℕ, ◌<◌}
use native.Mathlib.Omega.{arith}
use lib.ListN.{get_or}
use Rattle.laws.specs.Tests.{same}
use Rattle.event_commit.proofs.Commits.{settling_refuses, child_settling, commits_only, else_top}
use Rattle.event_commit.specs.Settling.{settling}
use Rattle.state_whole.specs.Whole.{Ready}
use Rattle.state_whole.proofs.Parents.{child_test}
use Rattle.state_whole.proofs.Reserves.{reserves_same}
use Rattle.state_whole.proofs.Steps.{numbered}
use Rattle.rules.specs.Editions.{geometry_of, form_in}
use borrow.Author.Rules.{rules}
use Rattle.event_commit.proofs.settle_event.Goals as goal

pub returns-then-has_child-clause-stepped : goal.returns-then-has_child-clause-stepped
returns-then-has_child-clause-stepped g c =
    let number = c.number-n in
    λ edition N I R H. (numbered (form_in _ (geometry_of edition)) _ _ _ (λ t r. settling c.args.prepares t c.args.k c.args.i) (Ready (form_in _ (geometry_of edition))) _ _ 0 0 number.ensures.0 (refl) (λ A. settling_refuses _ (geometry_of edition) _ I c.args.prepares _ c.args.k c.args.i A (sym (child_test (form_in _ (geometry_of edition)) _ _ _ _ _ c.requires.derived_sets (let h = number.ensures.1 in omega arith) c.has_child.ensures) ∙ c.if-has_child.true)) R, H)

pub commit_child-requires : goal.commit_child-requires
unfolding same
commit_child-requires g c =
    let number = c.number-n in
    let level = get_or c.args.s.now.depth number.result 0 in
    let e = number.ensures.0 in
    let h : 0 < level = subst⁻¹ (λ (n : ℕ). 0 < get_or c.args.s.now.depth n 0) e c.requires.lives in
    let m = (commits_only c.args.prepares level c.if-prepares-level.true).1 in
    (search rules, (c.requires.sized, (c.requires.pages.0, ((number.ensures.1, omega arith, refl), (c.requires.sources, c.requires.derived_sets)))))

pub returns-then-prepares-level-clause-stepped : goal.returns-then-prepares-level-clause-stepped
unfolding same
returns-then-prepares-level-clause-stepped g c =
    let number = c.number-n in
    let w = c.commit_child.ensures.rest in
    λ edition N I R H.
    let A = subst⁻¹ (Ready (form_in _ (geometry_of edition)) _) number.ensures.0 R in
    let n = (sym (child_test (form_in _ (geometry_of edition)) _ _ _ _ _ c.requires.derived_sets (let h = number.ensures.1 in omega arith) c.has_child.ensures) ∙ c.if-has_child.false) in
    let T = child_settling _ (geometry_of edition) _ _ _ c.args.prepares _ c.args.k c.args.i (commits_only c.args.prepares (get_or c.args.s.now.depth number.result 0) c.if-prepares-level.true).0 (c.commit_child.ensures.stepped edition _ _ _ I A n) in
    (numbered (form_in _ (geometry_of edition)) _ _ _ (λ t r. settling c.args.prepares t c.args.k c.args.i) (Ready (form_in _ (geometry_of edition))) _ _ 0 0 number.ensures.0 (refl) (λ A. T) R, reserves_same _ (geometry_of edition) _ _ _ _ _ H w.1 w.2)

pub settle_top-requires : goal.settle_top-requires
unfolding same
settle_top-requires g c =
    let number = c.number-n in
    (search rules, (c.requires.sized, (c.requires.known, (c.requires.pages, ((number.ensures.1, refl, else_top c.args.prepares (get_or c.args.s.now.depth number.result 0) c.if-prepares-level.false), c.requires.derived_sets)))))

pub returns-clause-stepped : goal.returns-clause-stepped
returns-clause-stepped g c =
    let number = c.number-n in
    λ edition N I R H.
    let A = subst⁻¹ (Ready (form_in _ (geometry_of edition)) _) number.ensures.0 R in
    let P = c.settle_top.ensures.stepped edition N I A (sym (child_test (form_in _ (geometry_of edition)) _ _ _ _ _ c.requires.derived_sets (let h = number.ensures.1 in omega arith) c.has_child.ensures) ∙ c.if-has_child.false) H in
    (numbered (form_in _ (geometry_of edition)) _ _ _ (λ t r. settling c.args.prepares t c.args.k c.args.i) (Ready (form_in _ (geometry_of edition))) _ _ 0 0 number.ensures.0 (refl) (λ A. P.0) R, P.1)
