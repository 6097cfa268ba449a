-- So far each entry is right.
use Prim.Native.Nat.{ℕ, ◌<◌, ◌≤◌}
use Rattle.sound_clause.specs.Decides.{Decides}
use Rattle.sound_clause.specs.Clauses.{TableEntry}
use Rattle.sound_state.proofs.is_tree.Given as goal

abbrev pub invariant-loop-t : goal.invariant-loop-t
invariant-loop-t l =
    (l.t ≤ 24) × Decides l.ok ((k : ℕ) → k < l.t → TableEntry l.parent l.depth l.line k)
