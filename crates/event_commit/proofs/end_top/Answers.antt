-- The end of the transaction, or the crash.
use mathlib.Core.Path.{refl}
use Rattle.state_array.proofs.Kin.{kin_retired}
use Rattle.event_commit.proofs.Commits.{top_steps, top_cut}
use Rattle.rules.specs.Editions.{geometry_of}
use Rattle.event_commit.proofs.end_top.Goals as goal

pub returns-then-crashed-clause-stepped : goal.returns-then-crashed-clause-stepped
returns-then-crashed-clause-stepped g c =
    λ edition tears e C work store store' I R n q L size. top_cut tears (geometry_of edition) _ I c.args.t R n e C q store' _ _ L size c.if-crashed.true _ c.requires.sized.4 _ _ _ _ _ _ _ c.clear_state.ensures.up_after

pub remove_child-requires : goal.remove_child-requires
remove_child-requires g c =
    (c.requires.derived_sets.named _, c.requires.named)

pub returns-clause-stepped : goal.returns-clause-stepped
returns-clause-stepped g c =
    let e = c.free_number.ensures in
    let f = c.discard.ensures in
    λ edition tears v C work store store' I R n q L size. top_steps tears (geometry_of edition) _ I c.args.t R n v C q store' _ _ L size c.if-crashed.false _ c.requires.sized.4 _ _ _ _ _ _ _ c.single.ensures e.0 e.1 e.2 f.0 f.1 f.2

pub returns-clause-derived_sets : goal.returns-clause-derived_sets
returns-clause-derived_sets g c =
    let e = c.free_number.ensures in
    let s = c.remove_child.ensures in
    kin_retired _ _ _ _ _ _ _ _ c.args.t _ c.requires.derived_sets refl (c.requires.derived_sets.named c.args.t) e.0 e.1 s.0 s.1
