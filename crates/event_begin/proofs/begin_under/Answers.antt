-- The lowest free number is placed and counted among the live ones, or all are live.
use native.Mathlib.Omega.{arith}
use Rattle.state_array.proofs.Kin.{kin_lowest}
use Rattle.event_begin.proofs.Begins.{full_steps, named_of, free_place, begin_kin, begin_placed}
use Rattle.rules.specs.Editions.{first, form_of, geometry_of, form_in}
use Rattle.event_begin.proofs.begin_under.Goals as goal

pub returns-then-f-eq24-clause-stepped : goal.returns-then-f-eq24-clause-stepped
returns-then-f-eq24-clause-stepped g c =
    λ k tears up held retained writers work store I u. let a = c.args in let depth_at = c.requires.parent.1 in full_steps (form_in tears (geometry_of k)) _ I u a.p _ a.above (omega arith) (named_of (form_in tears (geometry_of k)) _ a.p a.level c.requires.parent.1 c.requires.parent.3) (kin_lowest _ _ _ _ _ c.requires.derived_sets c.first_free-f.ensures) c.requires.parent.2 c.if-f-eq24.true

pub give_number-requires : goal.give_number-requires
give_number-requires g c =
    (free_place (form_of first) _ c.args.s.now.depth (kin_lowest _ _ _ _ _ c.requires.derived_sets c.first_free-f.ensures) c.if-f-eq24.false, omega arith)

pub add_child-requires : goal.add_child-requires
add_child-requires g c =
    let p = c.requires.parent.4 in
    let h = free_place (form_of first) _ c.args.s.now.depth (kin_lowest _ _ _ _ _ c.requires.derived_sets c.first_free-f.ensures) c.if-f-eq24.false in
    (omega arith, omega arith)

pub returns-clause-stepped : goal.returns-clause-stepped
returns-clause-stepped g c =
    let a = c.args in
    let e = c.give_number.ensures in
    let q = kin_lowest _ _ _ _ _ c.requires.derived_sets c.first_free-f.ensures in
    λ k tears up held retained writers work store I u. begin_placed (form_in tears (geometry_of k)) _ I u a.p a.level _ a.above (omega arith) c.requires.parent.1 c.requires.parent.3 q c.requires.parent.2 c.if-f-eq24.false _ _ _ e.0 e.1 e.2

pub returns-clause-derived_sets : goal.returns-clause-derived_sets
returns-clause-derived_sets g c =
    let a = c.args in
    let e = c.give_number.ensures in
    let f = c.add_child.ensures in
    let q = kin_lowest _ _ _ _ _ c.requires.derived_sets c.first_free-f.ensures in
    begin_kin (form_of first) _ _ _ _ _ _ _ _ _ _ a.level c.requires.derived_sets c.requires.sized.0 c.requires.sized.1 q c.if-f-eq24.false c.requires.parent.4 e.0 e.1 f.0 f.1
