-- By the place of those that bar.
use mathlib.Core.Path.{ap, ◌∙◌}
use mathlib.Core.Bool.{Bool}
use Prim.Native.Nat.{ℕ}
use Rattle.leaf_set.specs.Sets.{sets}
use Rattle.wait_graph.specs.Pointing.{blockers_at, pointed_to, waited_on}
use Rattle.wait_graph.proofs.awaited.Goals as goal

pub returns : goal.returns
unfolding sets blockers_at waited_on
returns c =
    let barring_place = c.barring_place-k in
    let a = c.args in
    c.reach.ensures ∙ ap (pointed_to (sets a.line.now) (sets a.line.now a.t))
    (c.blockers-by.ensures ∙ ap {B = ℕ → Bool} (blockers_at (sets a.held.now) (sets a.retained.now) (sets a.line.now a.t) a.t) barring_place.ensures.0)
