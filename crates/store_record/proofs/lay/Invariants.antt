-- A sweep over the pages: those below p are laid.
use mathlib.Core.Path.{◌≡◌}
use Prim.Native.Nat.{◌+◌, ◌≤◌}
use lib.ListN.{length}
use Rattle.rules.specs.Geometry.{Geometry}
use Rattle.leaf_commit_page.specs.Layout.{Layout}
use Rattle.store_length.specs.Lengths.{store_bytes}
use Rattle.store_record.specs.Laying.{LaidTo}
use Rattle.store_record.proofs.lay.Given as goal

abbrev pub invariant-loop-p : goal.invariant-loop-p
invariant-loop-p l = (l.p ≤ 1 + (l.n + l.n)) × (l.n ≤ 64) × (length l.store ≡ store_bytes l.tears l.n) × ((g : Geometry) → Layout g l.n → LaidTo l.tears g l.p l.store)
