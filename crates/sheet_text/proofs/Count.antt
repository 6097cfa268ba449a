-- How many events steps have; a reading of a whole text.
use mathlib.Core.List.{List, [], ◌∷◌}
use Prim.Native.Nat.{ℕ, ◌+◌}
use Rattle.sheet_text.specs.Sheet.{Steps, none, locking, writing, reading, inner}
use Rattle.sheet_text.specs.Scan.{Scan, scan_next}

unfoldable pub count_of : Steps → ℕ
count_of none = 0
count_of (locking s r) = count_of s + 1
count_of (writing s r o v) = count_of s + 1
count_of (reading s r o) = count_of s + 1
count_of (inner s i c) = count_of s + (count_of i + 2)

unfoldable pub run : Scan → List ℕ → Scan
run q [] = q
run q (b ∷ l) = run (scan_next q b) l

unfoldable pub open_count : Unit {0}
unfolding count_of run
open_count = tt
