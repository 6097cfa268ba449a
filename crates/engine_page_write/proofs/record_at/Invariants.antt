-- So far: how many of the records below r are named, no more than the number asked for.
use mathlib.Core.Path.{◌≡◌}
use Prim.Native.Nat.{◌≤◌}
use Rattle.laws.specs.Counting.{count}
use Rattle.rules.specs.Store.{named}
use Rattle.rules.specs.Geometry.{Geometry}
use Rattle.leaf_commit_page.specs.Layout.{Layout}
use Rattle.engine_page_write.proofs.record_at.Given as goal

abbrev pub invariant-loop-r : goal.invariant-loop-r
invariant-loop-r l = (l.r ≤ l.records) × (l.seen ≤ l.r) × (l.seen ≤ l.n) × ((g : Geometry) → Layout g l.records → l.seen ≡ count l.r (named g l.map))
