-- So far what each transaction has of the lock is right.
use Prim.Native.Nat.{ℕ, ◌<◌, ◌≤◌}
use mathlib.Core.List.{List}
use Rattle.laws.specs.Bits.{bits}
use Rattle.leaf_set.specs.Sets.{sets}
use Rattle.sound_clause.specs.Decides.{Decides}
use Rattle.sound_clause.specs.Clauses.{Share}
use Rattle.sound_state.proofs.are_shares_of.Given as goal

abbrev pub ShareAt : List ℕ → ℕ → ℕ → ℕ → ℕ → ℕ → Type 0
ShareAt line held heldWriting retained retainedWriting k =
    Share (sets line k) (λ u. sets line u k) (bits held) (bits heldWriting) (bits retained) (bits retainedWriting) k

abbrev pub invariant-loop-t : goal.invariant-loop-t
invariant-loop-t l =
    (l.t ≤ 24) × Decides l.ok ((k : ℕ) → k < l.t → ShareAt l.line l.held l.held_writing l.retained l.retained_writing k)
