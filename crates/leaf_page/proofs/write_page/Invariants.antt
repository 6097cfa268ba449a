-- The bytes written so far are those of the page.
use Rattle.laws.proofs.Filled.{Filled}
use Prim.Native.Nat.{ℕ, ◌≤◌}
use mathlib.Core.Path.{◌≡◌}
use lib.ListN.{length, get_or}
use Rattle.leaf_page.proofs.write_page.Given as goal

abbrev pub invariant-loop-i : goal.invariant-loop-i
invariant-loop-i l =
    (l.i ≤ 32) × (length l.part ≡ 32) × Filled 0 l.part l.i (λ (k : ℕ). get_or l.page k 0)
