-- The refusals of a begin; then a number is given under the parent.
use mathlib.Core.Path.{refl, sym, ap, ◌∙◌, fun_ext}
use Prim.Native.Nat.{ℕ}
use native.Mathlib.Omega.{arith}
use Rattle.event_begin.proofs.Begins.{begin_refuses_5, begin_refuses_6}
use Rattle.leaf_set.specs.Sets.{sets}
use mathlib.Core.Option.{some}
use lib.ListN.{get_or-eq_default}
use Rattle.laws.proofs.Bits.{bits-zero}
use Rattle.leaf_set.proofs.Sets.{sets_past}
use Rattle.rules.specs.Event.{begin}
use Rattle.state_whole.proofs.Steps.{retold}
use Rattle.rules.specs.Editions.{geometry_of, form_in}
use borrow.Author.Rules.{rules}
use Rattle.event_begin.proofs.begin_event.Goals as goal

pub begin_under-requires : goal.begin_under-requires
begin_under-requires g c =
    let z = c.requires.sized in
    let deep = z.1 in
    let long = z.2 in
    let above = fun_ext (λ k. bits-zero k ∙ sym (sets_past c.args.s.now.line 31 k (omega (arith, long)))) in
    (search rules, (z, ((search rules, sym (get_or-eq_default c.args.s.now.depth 0 {n = 31} (omega (arith, deep))), above, λ z. refl, omega arith), c.requires.derived_sets)))

pub returns-then-p-eq31-clause-stepped : goal.returns-then-p-eq31-clause-stepped
returns-then-p-eq31-clause-stepped g c =
    λ k tears up held retained writers work store I u. retold (form_in tears (geometry_of k)) _ _ _ _ _ (ap (λ (p : ℕ). some (begin p)) c.if-p-eq31.true) (c.begin_under.ensures.stepped k tears up held retained writers work store I u)

pub returns-then-p-ge24-clause-stepped : goal.returns-then-p-ge24-clause-stepped
returns-then-p-ge24-clause-stepped g c =
    let deep = c.requires.sized.1 in
    λ k tears up held retained writers work store I u. begin_refuses_5 (form_in tears (geometry_of k)) _ I u c.args.p c.if-p-eq31.false (get_or-eq_default c.args.s.now.depth 0 {n = c.args.p} (omega (arith, deep)))

pub returns-then-level-eq0-clause-stepped : goal.returns-then-level-eq0-clause-stepped
returns-then-level-eq0-clause-stepped g c =
    λ k tears up held retained writers work store I u. begin_refuses_5 (form_in tears (geometry_of k)) _ I u c.args.p c.if-p-eq31.false c.if-level-eq0.true

pub returns-then-level-eq-DEPTH_LIMIT-clause-stepped : goal.returns-then-level-eq-DEPTH_LIMIT-clause-stepped
returns-then-level-eq-DEPTH_LIMIT-clause-stepped g c =
    λ k tears up held retained writers work store I u. begin_refuses_6 (form_in tears (geometry_of k)) _ I u c.args.p c.if-level-eq-DEPTH_LIMIT.true

pub begin_under-requires-2 : goal.begin_under-requires-2
unfolding sets
begin_under-requires-2 g c =
    (search rules, (c.requires.sized, ((let k = c.requires.shallow c.args.p in omega arith, refl, refl, λ z. absurd (omega arith), c.requires.named), c.requires.derived_sets)))
