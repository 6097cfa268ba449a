-- The set in write mode is looked at.
use mathlib.Core.Path.{ap, ◌∙◌}
use Prim.Native.Nat.{ℕ, ◌+◌, ◌*◌}
use Rattle.leaf_set.specs.Sets.{sets}
use Rattle.state_array.specs.View.{write_mode}
use Rattle.leaf_number.specs.Named.{transaction_of}
use Rattle.state_lock.proofs.holds_writing.Goals as goal

pub returns : goal.returns
unfolding write_mode
returns c =
    let index = c.index in
    c.is_at.ensures ∙ ap (λ (i : ℕ). sets c.args.held.now (2 * i + 1) (transaction_of c.args.t)) index.ensures.0
