-- So far the sets of each lock fit each other.
use Prim.Native.Nat.{ℕ, ◌<◌, ◌≤◌}
use Rattle.laws.specs.Bits.{bits}
use Rattle.sound_clause.specs.Decides.{Decides}
use Rattle.sound_clause.specs.Clauses.{LockOf}
use Rattle.sound_state.proofs.are_locks.Given as goal

abbrev pub invariant-loop-r : goal.invariant-loop-r
invariant-loop-r l =
    (l.r ≤ 16) × Decides l.ok ((k : ℕ) → k < l.r → LockOf (bits l.live) l.held l.retained l.writers k)
