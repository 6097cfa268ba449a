-- Who is live, and who stands under whom, as sets beside the arrays of parents and depths.
use Rattle.std.specs.Prelude.{◌≡◌, Bool, not, ◌&&◌, List, ℕ, ◌<◌, get_or, length}
use Rattle.laws.specs.Tests.{same}
use Rattle.laws.specs.Bits.{bits}
use Rattle.leaf_set.specs.Sets.{sets}

-- u is live; u is a live child of p
abbrev pub lives_in : List ℕ → ℕ → Bool
lives_in depth u = not (same (get_or depth u 0) 0)

abbrev pub child_in : List ℕ → List ℕ → ℕ → ℕ → Bool
child_in parent depth p u = lives_in depth u && same (get_or parent u 0) p

-- The live transactions, and for each parent its live children. Place 31 has the top transactions, whose parent is 31.
pub record DerivedSets (parent depth : List ℕ) (live : ℕ) (children : List ℕ) : Type 0 where
  pub lives : bits live ≡ lives_in depth
  pub under : (p : ℕ) → p < 32 → sets children p ≡ child_in parent depth p
  pub named : (u : ℕ) → get_or parent u 0 < 32
  pub long : length children ≡ 32
