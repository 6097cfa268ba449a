-- So far the pairs below p are mended.
use mathlib.Core.Path.{◌≡◌}
use Prim.Native.Nat.{◌*◌, ◌≤◌}
use lib.ListN.{length}
use Rattle.rules.specs.Pairs.{pairs_of}
use Rattle.store_pair.proofs.Shown.{MendedTo}
use Rattle.store_pair.proofs.mend_all.Given as goal

abbrev pub invariant-loop-p : goal.invariant-loop-p
invariant-loop-p l = (l.p ≤ l.n) × (length l.bytes ≡ 66 * l.n) × MendedTo l.p (pairs_of l.initial.bytes) (pairs_of l.bytes)
