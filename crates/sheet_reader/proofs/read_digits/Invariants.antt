-- The digits are read one by one: so many are to come.
use Prim.Native.Nat.{◌+◌, ◌-◌, ◌≤◌}
use lib.ListN.{length}
use Rattle.sheet_text.specs.Scan.{Stands, to_come}
use Rattle.sheet_reader.proofs.read_digits.Given as goal

abbrev pub invariant-loop-i : goal.invariant-loop-i
invariant-loop-i l =
    (l.i ≤ length l.s) × (l.at ≤ l.i) × (l.i ≤ l.at + l.n + 1) × Stands l.s l.i (to_come (l.at + l.n + 1 - l.i) l.low l.levels l.room)
