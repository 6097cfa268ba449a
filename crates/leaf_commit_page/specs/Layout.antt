-- How the commit page lies in bytes: the number of records tells the edition and the place of the count.
use Rattle.std.specs.Prelude.{◌≡◌, cond, List, ◌∷◌, ◌++◌, ◌⊎◌, ℕ, ◌-◌, ◌*◌, ◌/◌, ◌^◌, replicate}
use Rattle.laws.specs.Tests.{same}
use Rattle.rules.specs.Geometry.{Geometry, Proper, records}
use Rattle.rules.specs.Store.{behind_map}

-- the numbers of records whose commit page the code can lay: sixteen (edition 1) and sixty-four (edition 2)
abbrev pub Known : ℕ → Type 0
Known n = (n ≡ 16) ⊎ (n ≡ 64)

-- the edition as it stands in the first byte, where the state is added to it
unfoldable pub head_of : ℕ → ℕ
head_of n = cond (same n 64) 32 16

-- the place of the count's last bit in its byte, as a factor
unfoldable pub count_factor : ℕ → ℕ
count_factor n = cond (same n 64) 2 8

-- m bytes behind the first, and zeros elsewhere
abbrev pub behind_first : ℕ → List ℕ → List ℕ
behind_first m bs = 0 ∷ (bs ++ replicate (31 - m) 0)

-- g has n records, and its commit page falls into whole bytes: the first, n / 8 of the map, and those behind the map, the first of which has the count
-- at its place
pub record Layout (g : Geometry) (n : ℕ) : Type 0 where
  pub proper : Proper g
  pub many : records g ≡ n
  pub edition : g.edition * 16 ≡ head_of n
  pub map_bytes : 2 ^ records g ≡ 256 ^ (n / 8)
  pub behind_bytes : 2 ^ behind_map g ≡ 256 ^ (31 - n / 8)
  pub count_place : 2 ^ (behind_map g - g.ones_bits) ≡ count_factor n * 256 ^ (30 - n / 8)
