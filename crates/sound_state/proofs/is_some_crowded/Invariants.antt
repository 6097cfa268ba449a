-- So far at most one transaction has each lock, unless one was found that has more.
use mathlib.Core.Path.{◌≡◌}
use mathlib.Core.Bool.{false}
use Prim.Native.Nat.{ℕ, ◌<◌, ◌≤◌}
use Rattle.sound_state.specs.Sole.{SoleOf}
use Rattle.sound_state.proofs.is_some_crowded.Given as goal

abbrev pub invariant-loop-r : goal.invariant-loop-r
invariant-loop-r l = (l.r ≤ 16) × (l.some ≡ false → (k : ℕ) → k < l.r → SoleOf l.held l.retained k)
