-- When no two transactions have the same lock.
use Rattle.std.specs.Prelude.{◌≡◌, true, List, ℕ, ◌<◌}
use Rattle.sound_clause.specs.Clauses.{sharing}

-- at most one transaction has the lock of record r
abbrev pub SoleOf : List ℕ → List ℕ → ℕ → Type 0
SoleOf held retained r = (t u : ℕ) → sharing held retained r t ≡ true → sharing held retained r u ≡ true → t ≡ u

-- at most one transaction has each lock
abbrev pub Sole : List ℕ → List ℕ → Type 0
Sole held retained = (r : ℕ) → r < 16 → SoleOf held retained r
