-- So far what each transaction has of each lock is right.
use Prim.Native.Nat.{ℕ, ◌<◌, ◌≤◌}
use Rattle.sound_clause.specs.Decides.{Decides}
use Rattle.sound_clause.specs.Clauses.{SharesOf, Lined}
use Rattle.sound_state.proofs.are_shares_each.Given as goal

abbrev pub invariant-loop-r : goal.invariant-loop-r
invariant-loop-r l =
    (l.r ≤ 16) × (Lined l.line l.held l.retained → Decides l.ok ((k : ℕ) → k < l.r → SharesOf l.line l.held l.retained k))
