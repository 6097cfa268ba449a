-- A number as a set: the places of its ones.
use Rattle.std.specs.Prelude.{Bool, ℕ, ◌/◌, ◌%◌, ◌^◌}
use Rattle.laws.specs.Tests.{same}

-- bit k of s, place 0 the least significant
unfoldable pub bits : ℕ → ℕ → Bool
bits s k = same (s / 2 ^ k % 2) 1
