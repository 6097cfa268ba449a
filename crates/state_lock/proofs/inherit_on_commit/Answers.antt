-- Retainers inherit, then holders leave.
use mathlib.Core.Path.{ap, ◌∙◌}
use mathlib.Core.Bool.{Bool}
use Prim.Native.Nat.{ℕ}
use Rattle.leaf_set.specs.Sets.{sets}
use Rattle.state_array.specs.Changes.{leaving}
use Rattle.state_lock.proofs.inherit_on_commit.Goals as goal

pub returns : goal.returns
returns c =
    let inherit = c.inherit in
    let single = c.single in
    let a = c.args in (
      record { are = c.leave.ensures.are ∙ ap (λ (f : ℕ → Bool). leaving f (sets a.held.now)) single.ensures; long = c.leave.ensures.long },
      record { are = inherit.ensures.are; long = inherit.ensures.long ∙ c.requires.3 },
    )
