-- What reading a commit page answers: for a page without a map not good and map 0, else good and the page's map; of a prepared transaction its map and
-- its identity.
use Rattle.std.specs.Prelude.{true, false, not, ◌&&◌, ℕ, Some, None}
use Rattle.std.specs.declared.option.Option.{Option as Answered}
use Rattle.std.proofs.Math.Option.{Option, none, some}
use Rattle.rules.specs.Store.{Page, Prepared, read_commit, map_in, read_prepared, is_damaged, is_prepared}
use Rattle.rules.specs.Geometry.{Geometry}
use Rattle.leaf_commit_page.specs.declared.CommitMap.{CommitMap}
use Rattle.leaf_commit_page.specs.declared.PreparedMap.{PreparedMap}

unfoldable pub commit_map : Option ℕ → CommitMap
commit_map none = record { good = false; map = 0 }
commit_map (some map) = record { good = true; map = map }

-- the code's answer, which has none for a page without a map
unfoldable pub map_told : Answered ℕ → CommitMap
map_told None = record { good = false; map = 0 }
map_told (Some map) = record { good = true; map = map }

abbrev pub prepared : ℕ → ℕ → Prepared
prepared map identity = record { map = map; identity = identity }

-- and of a prepared transaction: map 0 where there is none
unfoldable pub overheard : Option Prepared → PreparedMap
overheard none = record { map = 0; identity = 0 }
overheard (some p) = record { map = p.map; identity = p.identity }

unfoldable pub prepared_told : Answered PreparedMap → PreparedMap
prepared_told None = record { map = 0; identity = 0 }
prepared_told (Some p) = p

-- of a commit page of any kind: whether it is damaged, and the map in force
unfoldable pub understood : Geometry → Page → CommitMap
understood g page = record { good = not (is_damaged (read_commit g page) && not (is_prepared (read_prepared g page))); map = map_in (read_commit g page) }
