-- The rules of versions: what a transaction reads, what its write makes, what a child's commit hands to the parent.
use Rattle.std.specs.Prelude.{ℕ, Bool, true, false, cond, ◌&&◌, List, [], ◌∷◌}
use Rattle.std.proofs.Math.Option.{Option, none, some}
use Rattle.laws.specs.Tests.{same}
use Rattle.rules.specs.Store.{Page}
use Rattle.rules.specs.State.{Versions}

unfoldable pub is_some : Option Page → Bool
is_some none = false
is_some (some p) = true

unfoldable pub else : Option Page → Page → Page
else none d = d
else (some p) d = p

unfoldable pub also : Option Page → Option Page → Option Page
also none o = o
also (some p) o = some p

-- what a transaction with this line reads of r: the version of the nearest on the line that has one, else the home page
unfoldable pub nearest : Versions → Page → ℕ → List ℕ → Page
nearest version home r [] = home
nearest version home r (a ∷ l) = else (version a r) (nearest version home r l)

-- t's version of r is p
unfoldable pub with_version : ℕ → ℕ → Page → Versions → Versions
with_version t r p version j q = cond (same j t && same q r) (some p) (version j q)

-- the parent y takes the versions of its child x in place of its own of the same records
unfoldable pub handed_up : ℕ → ℕ → Versions → Versions
handed_up x y version j r = cond (same j y) (also (version x r) (version y r)) (version j r)

-- the versions of those that `dead` picks are gone
unfoldable pub dropped : (ℕ → Bool) → Versions → Versions
dropped dead version j r = cond (dead j) none (version j r)

-- opens the definitions of this module: for what is proved by computing
unfoldable pub open_versions : Unit {0}
unfolding is_some else also nearest with_version handed_up dropped
open_versions = tt
