-- What asking for a lock promises.
use Rattle.std.specs.Prelude.{◌≡◌, Bool, cond, List, ℕ, length}
use Rattle.rules.specs.Event.{Access}
use Rattle.leaf_set.specs.Sets.{sets}
use Rattle.state_array.specs.Changes.{barring, open_to, joined_for}

-- t, whose line is given, asks for the lock of r
pub record Granting (a : Access) (line : ℕ → Bool) (held retained : List ℕ) (t r : ℕ) (answer : Bool) (after : List ℕ) : Type 0 where
  pub says : answer ≡ open_to (sets held) (sets retained) line t (barring a r)
  pub does : sets after ≡ cond answer (joined_for a t r (sets held)) (sets held)
  pub long : length after ≡ length held
