-- The four words joined have the bits of those that have the lock.
use mathlib.Core.Path.{◌≡◌, ap, ◌∙◌}
use mathlib.Core.Bool.{Bool, ◌||◌}
use mathlib.Core.List.{List}
use Prim.Native.Nat.{ℕ, ◌+◌, ◌*◌}
use lib.Bits.{bit_or}
use lib.ListN.{get_or}
use Rattle.laws.specs.Bits.{bits}
use Rattle.laws.proofs.Bits.{bits-or}
use Rattle.leaf_set.specs.Sets.{sets}
use Rattle.state_array.specs.View.{any_mode, write_mode}
use Rattle.sound_clause.specs.Clauses.{sharing}
use Rattle.sound_state.proofs.is_crowded_at.Goals as goal

joined : (held retained : List ℕ) (r t : ℕ)
    → bits (bit_or (bit_or (bit_or (get_or held (2 * r) 0) (get_or held (2 * r + 1) 0)) (get_or retained (2 * r) 0)) (get_or retained (2 * r + 1) 0)) t ≡ sharing held retained r t
unfolding sharing sets any_mode write_mode
joined held retained r t =
    bits-or (bit_or (bit_or (get_or held (2 * r) 0) (get_or held (2 * r + 1) 0)) (get_or retained (2 * r) 0)) (get_or retained (2 * r + 1) 0) t
    ∙ ap (λ (b : Bool). b || bits (get_or retained (2 * r + 1) 0) t) (bits-or (bit_or (get_or held (2 * r) 0) (get_or held (2 * r + 1) 0)) (get_or retained (2 * r) 0) t
    ∙ ap (λ (b : Bool). b || bits (get_or retained (2 * r) 0) t) (bits-or (get_or held (2 * r) 0) (get_or held (2 * r + 1) 0) t))

pub returns : goal.returns
returns c =
    let a = c.args in
    λ e t u f g. c.is_crowded.ensures e t u (joined a.held.now a.retained.now a.r t ∙ f) (joined a.held.now a.retained.now a.r u ∙ g)
