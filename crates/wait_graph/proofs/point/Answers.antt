-- One set grows.
use mathlib.Core.Path.{◌≡◌, sym, ap, ◌∙◌}
use mathlib.Core.Bool.{not, ◌&&◌, ◌||◌}
use Prim.Native.Nat.{ℕ, ◌/◌, ◌%◌}
use native.Mathlib.Omega.{arith}
use lib.ListN.{length-set}
use Rattle.laws.specs.Tests.{same}
use Rattle.rules.specs.Event.{Access}
use Rattle.leaf_set.specs.Sets.{sets}
use Rattle.state_array.specs.View.{Owners}
use Rattle.state_array.specs.Changes.{access_when}
use Rattle.state_array.proofs.Modes.{access_is}
use Rattle.wait_graph.specs.Pointing.{waited_on, row_in}
use Rattle.wait_graph.proofs.Reaching.{point_is}
use Rattle.wait_graph.proofs.point.Goals as goal

pub bounds-points-i : goal.bounds-points-i
bounds-points-i c = let h = c.requires.0 in omega (arith, h.transaction)

pub awaited-requires : goal.awaited-requires
awaited-requires c = let h = c.requires.0 in (omega (arith, h.transaction), h.rec)

pub returns : goal.returns
unfolding row_in waited_on sets access_when same
returns c =
    let a = c.args in
    let h = c.requires in
    let e : a.w / 65536 % 256 ≡ a.w / 65536 = omega (arith, h.0.transaction) in
    record {
      are = point_is a.points.now (a.w / 65536 % 256) c.awaited.result _ (omega (arith, h.0.transaction)) c.awaited.ensures
          ∙ ap {B = Owners} (λ (x : ℕ) q u. sets a.points.now q u || (same q x && waited_on (sets a.line.now) (sets a.held.now) (sets a.retained.now) (access_when (not (same (a.w % 256) 0))) x (a.w / 256 % 256) u)) e
          ∙ ap {B = Owners} (λ (q : Access) t u. sets a.points.now t u || (same t (a.w / 65536) && waited_on (sets a.line.now) (sets a.held.now) (sets a.retained.now) q (a.w / 65536) (a.w / 256 % 256) u)) (sym (access_is (a.w % 256)));
      long = length-set a.points.now _ _ ∙ h.1;
    }
