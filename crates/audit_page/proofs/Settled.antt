-- The settled value of a record, by the map of the commit page.
use mathlib.Core.Path.{◌≡◌, ap}
use mathlib.Core.Bool.{Bool, true, cond}
use mathlib.Core.List.{List}
use Prim.Native.Nat.{ℕ, ◌+◌, ◌<◌}
use native.Mathlib.Omega.{arith}
use Rattle.laws.specs.Tests.{under}
use Rattle.laws.proofs.Tests.{lt-under}
use Rattle.rules.specs.Geometry.{records, open_geometry}
use Rattle.rules.specs.Store.{Page, pages_of, intention, home, named, read_commit, map_in, is_named, settled}
use Rattle.rules.specs.Editions.{geometry1, edition1}
use Rattle.history.specs.Demand3.{settled_in}
use Rattle.leaf_commit_page.specs.Heard.{understood}
use Rattle.leaf_commit_page.specs.declared.CommitMap.{CommitMap}

small : (r : ℕ) → r < 16 → under r (records geometry1) ≡ true
unfolding open_geometry
small r h = lt-under r 16 h

home_is : (r : ℕ) → home geometry1 r ≡ 17 + r
unfolding home open_geometry
home_is r = omega arith

pub settled_is : (store : List ℕ) (r map : ℕ) (b : Bool) → r < 16 → map ≡ map_in (read_commit geometry1 (pages_of store 0)) → named geometry1 map r ≡ b
    → settled_in edition1 store r ≡ cond b (pages_of store (1 + r)) (pages_of store (17 + r))
unfolding settled_in settled is_named intention
settled_is store r map b h m e = rw (small r h, ← m, e, home_is r)

-- the map that a commit page of any kind is read to have
pub map-said : (page : Page) {c : CommitMap} → c ≡ understood geometry1 page → c.map ≡ map_in (read_commit geometry1 page)
unfolding understood
map-said page e = ap (λ (c : CommitMap). c.map) e
