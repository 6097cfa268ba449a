-- Versions go up, then the locks, then the number is freed.
use mathlib.Core.Path.{◌≡◌, refl, ap, ◌∙◌}
use Prim.Native.Nat.{ℕ, suc, ◌-◌}
use native.Mathlib.Omega.{arith}
use lib.ListN.{get_or}
use Rattle.event_commit.proofs.Commits.{child_steps}
use Rattle.leaf_set.specs.Sets.{sets}
use Rattle.rules.specs.Store.{pages_of}
use Rattle.state_version.specs.Parts.{lifted}
use Rattle.state_version.proofs.Walk.{parent_below}
use Rattle.state_array.proofs.Kin.{kin_retired}
use Rattle.rules.specs.Editions.{geometry_of}
use borrow.Author.Rules.{rules}
use Rattle.event_commit.proofs.commit_child.Goals as goal

pub hand_up-requires : goal.hand_up-requires
hand_up-requires g c =
    let a = c.args in
    let k = c.requires.sources.shallow a.t in
    let h = c.requires.named.0 in
    let m = c.requires.named.1 in
    let e = c.requires.named.2 in
    (h, parent_below _ _ c.requires.sources a.t (omega arith), m, omega arith, c.requires.sized.0, search rules, search rules)

pub inherit_on_commit-requires : goal.inherit_on_commit-requires
inherit_on_commit-requires g c =
    let m = c.requires.named.1 in
    let e = c.requires.named.2 in
    (c.requires.named.0, parent_below _ _ c.requires.sources c.args.t (omega arith), search rules, search rules)

pub remove_child-requires : goal.remove_child-requires
remove_child-requires g c =
    let p = c.requires.derived_sets.named c.args.t in
    (p, c.requires.named.0)

pub returns-clause-stepped : goal.returns-clause-stepped
returns-clause-stepped g c =
    let a = c.args in
    let e = c.free_number.ensures in
    let f = c.inherit_on_commit.ensures in
    let u = c.hand_up.ensures in
    let q = c.requires.named.2 in
    let n = get_or a.s.now.depth a.t 0 - 2 in
    let m = c.requires.named.1 in
    let deep : get_or a.s.now.depth a.t 0 ≡ suc (suc n) = omega (arith, m, q) in
    λ edition tears k store I R childless. child_steps tears (geometry_of edition) _ I a.t R childless k n deep _ c.requires.sized.4 _ _ _ _ _ _ _ e.0 e.1 e.2 f.0 f.1 u.1
    (u.0 ∙ ap (λ (m : ℕ). lifted (sets a.s.now.writers) a.t m (pages_of a.work.now)) (q ∙ deep)) (search rules)

pub returns-clause-derived_sets : goal.returns-clause-derived_sets
returns-clause-derived_sets g c =
    let e = c.free_number.ensures in
    let s = c.remove_child.ensures in
    kin_retired _ _ _ _ _ _ _ _ c.args.t _ c.requires.derived_sets refl (c.requires.derived_sets.named c.args.t) e.0 e.1 s.0 s.1
