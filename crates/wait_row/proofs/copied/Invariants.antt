-- So many rows are copied, and their fields are bytes.
use Rattle.std.proofs.Common.{◌≡◌, ◌≤◌, length}
use Rattle.wait_row.specs.Copied.{least, words_to, Smalls}
use Rattle.wait_row.proofs.copied.Given as goal

abbrev pub invariant-loop-i : goal.invariant-loop-i
invariant-loop-i l = (l.i ≤ least (length l.rows)) × (l.words ≡ words_to l.i l.rows) × Smalls l.i l.rows
