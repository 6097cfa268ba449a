-- The bytes read so far are those of the part.
use Rattle.laws.proofs.Filled.{Filled}
use Prim.Native.Nat.{ℕ, ◌≤◌, ◌+◌}
use mathlib.Core.Path.{◌≡◌}
use lib.ListN.{length, get_or}
use Rattle.leaf_page.proofs.read_page.Given as goal

abbrev pub invariant-loop-i : goal.invariant-loop-i
invariant-loop-i l =
    (l.i ≤ 32) × (length l.page ≡ 32) × Filled 0 l.page l.i (λ (k : ℕ). get_or l.bytes (l.at + k) 0)
