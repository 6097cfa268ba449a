-- A list of words as sets by number: a set of transactions for each record.
use Rattle.std.specs.Prelude.{Bool, List, ℕ, get_or}
use Rattle.laws.specs.Bits.{bits}

-- the members of the set at place r; past the end there are none
unfoldable pub sets : List ℕ → ℕ → ℕ → Bool
sets l r = bits (get_or l r 0)
