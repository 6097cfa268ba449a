-- The tests of a commit and of a prepare.
use mathlib.Core.Path.{refl, sym, subst, ◌∙◌}
use Prim.Native.Nat.{ℕ, ◌<◌, ◌^◌}
use native.Mathlib.Omega.{arith}
use Rattle.laws.specs.Tests.{same}
use Rattle.rules.specs.Editions.{geometry_of}
use Rattle.engine_page_write.specs.Phases.{nothing}
use Rattle.engine_page_write.proofs.Planned.{top_down, top_unknown, top_parent, top_beneath, top_busy, top_plans, by_number, above_zero, child_found, nothing_small, top_small}
use Rattle.engine_page_write.proofs.top_plan.Goals as goal

pub returns-then-up-ne1 : goal.returns-then-up-ne1
returns-then-up-ne1 c = record {
  plans = (λ edition joint tears line held retained work store k i N I H. top_down tears (geometry_of edition) _ N.many _ I _ _ k _ _ refl c.if-up-ne1.true);
  map_bound = nothing_small _ nothing refl;
}

pub returns-then-d-eq0 : goal.returns-then-d-eq0
returns-then-d-eq0 c =
    let number = c.number-n in
    let if1 = c.if-up-ne1 in record {
      plans = (λ edition joint tears line held retained work store k i N I H. by_number tears (geometry_of edition) _ N.many _ _ k _ _ _ _ number.ensures.0 (top_unknown tears (geometry_of edition) _ N.many _ I _ _ k _ _ refl if1.false c.if-d-eq0.true));
      map_bound = nothing_small _ nothing refl;
    }

pub returns-then-has_child : goal.returns-then-has_child
returns-then-has_child c =
    let number = c.number-n in
    let if1 = c.if-up-ne1 in
    let if2 = c.if-d-eq0 in
    let children_of = c.children_of-children in record {
      plans = (λ edition joint tears line held retained work store k i N I H. by_number tears (geometry_of edition) _ N.many _ _ k _ _ _ _ number.ensures.0 (top_parent tears (geometry_of edition) _ N.many _ I _ _ k _ (record { up = if1.false; live = above_zero _ if2.false }) _ refl (sym (child_found tears (geometry_of edition) _ N.many _ _ _ _ number.ensures.1 children_of.ensures.1 c.has_child.ensures) ∙ c.if-has_child.true)));
      map_bound = nothing_small _ nothing refl;
    }

pub returns-then-d-ne1 : goal.returns-then-d-ne1
returns-then-d-ne1 c =
    let number = c.number-n in
    let if1 = c.if-up-ne1 in
    let if2 = c.if-d-eq0 in
    let children_of = c.children_of-children in
    let has_child = c.has_child in record {
      plans = (λ edition joint tears line held retained work store k i N I H. by_number tears (geometry_of edition) _ N.many _ _ k _ _ _ _ number.ensures.0 (top_beneath tears (geometry_of edition) _ N.many _ I _ _ k _ (record { up = if1.false; live = above_zero _ if2.false }) (sym (child_found tears (geometry_of edition) _ N.many _ _ _ _ number.ensures.1 children_of.ensures.1 has_child.ensures) ∙ c.if-has_child.false) _ i H _ refl c.if-d-ne1.true));
      map_bound = nothing_small _ nothing refl;
    }

pub map_of-map-requires : goal.map_of-map-requires
map_of-map-requires c =
    let number = c.number-n in
    (let h = number.ensures.1 in omega arith, rw c.requires.4 c.requires.0)

pub returns-then-map-reserved : goal.returns-then-map-reserved
unfolding same
returns-then-map-reserved c =
    let number = c.number-n in
    let if1 = c.if-up-ne1 in
    let if2 = c.if-d-eq0 in
    let children_of = c.children_of-children in
    let has_child = c.has_child in
    let if3 = c.if-has_child in
    let if4 = c.if-d-ne1 in record {
      plans = (λ edition joint tears line held retained work store k i N I H. by_number tears (geometry_of edition) _ N.many _ _ k _ _ _ _ number.ensures.0 (top_busy tears (geometry_of edition) _ N.many _ I _ _ k _ (record { up = if1.false; live = above_zero _ if2.false }) (sym (child_found tears (geometry_of edition) _ N.many _ _ _ _ number.ensures.1 children_of.ensures.1 has_child.ensures) ∙ if3.false) _ i H _ (c.map_of-map.ensures.0 (geometry_of edition) (N.many ∙ sym c.requires.4)) if4.false _ refl c.if-map-reserved.true));
      map_bound = nothing_small _ nothing refl;
    }

pub returns : goal.returns
unfolding same
returns c =
    let number = c.number-n in
    let if1 = c.if-up-ne1 in
    let if2 = c.if-d-eq0 in
    let children_of = c.children_of-children in
    let has_child = c.has_child in
    let if3 = c.if-has_child in
    let if4 = c.if-d-ne1 in record {
      plans = (λ edition joint tears line held retained work store k i N I H. by_number tears (geometry_of edition) _ N.many _ _ k _ _ _ _ number.ensures.0 (top_plans tears (geometry_of edition) _ N.many _ I _ _ k _ (record { up = if1.false; live = above_zero _ if2.false }) (sym (child_found tears (geometry_of edition) _ N.many _ _ _ _ number.ensures.1 children_of.ensures.1 has_child.ensures) ∙ if3.false) _ i H _ (c.map_of-map.ensures.0 (geometry_of edition) (N.many ∙ sym c.requires.4)) if4.false _ c.of_top.ensures c.if-map-reserved.false));
      map_bound = top_small _ _ _ _ _ c.of_top.ensures (subst (λ (k : ℕ). c.map_of-map.result < 2 ^ k) c.requires.4 c.map_of-map.ensures.1) c.requires.1;
    }
