-- The page writes of the records that a map names, by rising record; the versions that a top transaction commits; what a store says before a recovery.
use Rattle.std.specs.Prelude.{Bool, true, false, not, cond, ◌&&◌, List, [], ◌∷◌, map, ℕ, ◌+◌, ◌*◌}
use Rattle.std.proofs.Math.Option.{Option, none, some}
use Rattle.laws.specs.Tests.{under}
use Rattle.laws.specs.Counting.{those}
use Rattle.rules.specs.Geometry.{Geometry, records}
use Rattle.rules.specs.Store.{Page, pages_of, named, read_commit, map_in}
use Rattle.rules.specs.Commit.{PageWrite, sets}
use Rattle.rules.specs.Pairs.{shown, damaged_pairs}
use Rattle.rules.specs.Editions.{depths}
use Rattle.leaf_commit_page.specs.Heard.{understood}
use Rattle.leaf_commit_page.specs.declared.CommitMap.{CommitMap}
use Rattle.store_write.specs.Phase.{StoreOf}

-- the page write of record r, if it is one of those that p picks; the page writes of those below n, by rising record
unfoldable pub write_if_picked : (ℕ → Bool) → (ℕ → PageWrite) → ℕ → List PageWrite
write_if_picked p f r = cond (p r) (f r ∷ []) []

unfoldable pub sweep : (ℕ → Bool) → (ℕ → PageWrite) → ℕ → List PageWrite
sweep p f n = map f (those n p)

-- record r's page goes to page first + r
unfoldable pub copies : ℕ → (ℕ → Page) → ℕ → PageWrite
copies first new r = sets (first + r) (new r)

-- the working buffer's page of a record at depth 1
unfoldable pub top_slot : List ℕ → ℕ → Page
top_slot work r = pages_of work (r * depths)

-- the versions that a top transaction has of the records that a map names
unfoldable pub versions_in : Geometry → ℕ → List ℕ → ℕ → Option Page
versions_in g map work r = cond (under r (records g) && named g map r) (some (top_slot work r)) none

-- What a store says before a recovery: whether it can be recovered, and the map in force. Atomic pages can't where the commit page is damaged, pages that can
-- tear neither where some page has no good copy.
abbrev pub understood_in : (tears : Bool) → Geometry → StoreOf tears → CommitMap
understood_in false g s = understood g (s 0)
understood_in true g s = record { good = not (damaged_pairs g s); map = map_in (read_commit g (shown s 0)) }
