-- A map of 0 names nothing; so far nobody has a lock of the records that the map names.
use mathlib.Core.Path.{◌≡◌}
use Prim.Native.Nat.{ℕ, ◌<◌, ◌≤◌}
use Rattle.rules.specs.Geometry.{Geometry, records}
use Rattle.sound_clause.specs.Decides.{Decides}
use Rattle.sound_clause.specs.Clauses.{UnlockedOf}
use Rattle.sound_up.proofs.are_unlocked.Given as goal

abbrev pub invariant-loop-r : goal.invariant-loop-r
invariant-loop-r l =
    (l.r ≤ 16) × ((g : Geometry) → records g ≡ 16 → Decides l.ok ((k : ℕ) → k < l.r → UnlockedOf g l.map l.held l.retained k))
