-- The stable store: numbered pages, the commit page, the settled value of a record, a fresh store.
use Rattle.std.specs.Prelude.{ℕ, zero, suc, ◌+◌, ◌-◌, ◌*◌, ◌/◌, ◌%◌, ◌^◌, Bool, true, false, not, cond, ◌&&◌, List, [], ◌++◌, take, drop, replicate}
use Rattle.std.proofs.Math.Option.{Option, none, some}
use Rattle.laws.specs.Tests.{same, under}
use Rattle.laws.specs.Counting.{count}
use Rattle.laws.specs.Bytes.{number, bytes, same_list}
use Rattle.rules.specs.Geometry.{Geometry, page_size, records}

abbrev pub Page : Type 0
Page = List ℕ

-- a store as its pages, by number
abbrev pub Pages : Type 0
Pages = ℕ → Page

-- the pages of a list of bytes; the first n pages as a list of bytes
unfoldable pub pages_of : List ℕ → Pages
pages_of bs p = take page_size (drop (page_size * p) bs)

unfoldable pub flat : ℕ → Pages → List ℕ
flat zero s = []
flat (suc n) s = flat n s ++ s n

unfoldable pub blank : Page
blank = replicate page_size 0

-- Page 0 is the commit page.
unfoldable pub intention : ℕ → ℕ
intention r = 1 + r

unfoldable pub home : Geometry → ℕ → ℕ
home g r = 1 + (records g + r)

-- The map of a commit page: a bit for each record, record 0 the most significant.
unfoldable pub bits_from : ℕ → (ℕ → Bool) → ℕ
bits_from zero p = 0
bits_from (suc n) p = bits_from n p * 2 + cond (p n) 1 0

unfoldable pub map_of : Geometry → (ℕ → Bool) → ℕ
map_of g p = bits_from (records g) p

unfoldable pub named : Geometry → ℕ → ℕ → Bool
named g map r = same (map / 2 ^ (records g - suc r) % 2) 1

-- the bits of a page behind the commit page's map
unfoldable pub behind_map : Geometry → ℕ
behind_map g = 8 * page_size - (8 + records g)

-- The commit page of a map, bits packed most significant first: edition 4, state 4 (0 empty where the map is 0, 5 committed), the map,
-- the ones in the map, zeros.
unfoldable pub commit_page : Geometry → ℕ → Page
commit_page g map =
    let state : ℕ = cond (same map 0) 0 5 in
    let ones : ℕ = count (records g) (named g map) in
    bytes page_size (((g.edition * 16 + state) * 2 ^ records g + map) * 2 ^ behind_map g + ones * 2 ^ (behind_map g - g.ones_bits))

-- What a page says as a commit page: its map, which is 0 where it is empty; none for any page that is no map's commit page.
unfoldable pub read_commit : Geometry → Page → Option ℕ
read_commit g page =
    let map = number page / 2 ^ behind_map g % 2 ^ records g in
    cond (same_list page (commit_page g map)) (some map) none

-- the map in force; any other page names no record
unfoldable pub map_in : Option ℕ → ℕ
map_in none = 0
map_in (some map) = map

-- A transaction that is prepared: the map of the records that it changed, and its identity.
pub record Prepared : Type 0 where
  pub map : ℕ
  pub identity : ℕ

-- Its commit page: state 3, the map, the ones in the map, and the identity as fifth byte.
unfoldable pub prepared_page : Geometry → Prepared → Page
prepared_page g p =
    let ones : ℕ = count (records g) (named g p.map) in
    bytes page_size (((g.edition * 16 + 3) * 2 ^ records g + p.map) * 2 ^ behind_map g + (ones * 2 ^ (behind_map g - g.ones_bits) + p.identity * 2 ^ (8 * (page_size - 5))))

-- what a page says as such a page, whose map isn't 0; none where it is no such page, or nothing can be prepared
unfoldable pub read_prepared : Geometry → Page → Option Prepared
read_prepared g page =
    let p : Prepared = record { map = number page / 2 ^ behind_map g % 2 ^ records g; identity = number page / 2 ^ (8 * (page_size - 5)) % 256 } in
    cond (g.joint && not (same p.map 0) && same_list page (prepared_page g p)) (some p) none

unfoldable pub is_prepared : Option Prepared → Bool
is_prepared none = false
is_prepared (some p) = true

unfoldable pub identity_in : Option Prepared → Option ℕ
identity_in none = none
identity_in (some p) = some p.identity

unfoldable pub prepared_map : Option Prepared → ℕ
prepared_map none = 0
prepared_map (some p) = p.map

unfoldable pub is_damaged : Option ℕ → Bool
is_damaged none = true
is_damaged (some map) = false

unfoldable pub is_emptied : Option ℕ → Bool
is_emptied none = false
is_emptied (some map) = same map 0

-- the commit page is neither a map's nor a prepared transaction's
unfoldable pub damaged : Geometry → Pages → Bool
damaged g s = is_damaged (read_commit g (s 0)) && not (is_prepared (read_prepared g (s 0)))

-- the commit page is empty
unfoldable pub emptied : Geometry → Pages → Bool
emptied g s = is_emptied (read_commit g (s 0))

-- r is a record, and named by the commit page
unfoldable pub is_named : Geometry → Pages → ℕ → Bool
is_named g s r = under r (records g) && named g (map_in (read_commit g (s 0))) r

-- The settled value (document 01's term) of a record: its intention page where a committed map names it, else its home page.
unfoldable pub settled : Geometry → Pages → ℕ → Page
settled g s r = cond (is_named g s r) (s (intention r)) (s (home g r))

-- r is a record, and the prepared transaction changed it
unfoldable pub is_reserved : Geometry → Pages → ℕ → Bool
is_reserved g s r = under r (records g) && named g (prepared_map (read_prepared g (s 0))) r

-- what the prepared transaction has for each record that it changed: its intention page
unfoldable pub pending : Geometry → Pages → ℕ → Option Page
pending g s r = cond (is_reserved g s r) (some (s (intention r))) none

-- an empty commit page, and zeros elsewhere
unfoldable pub fresh : Geometry → Pages
fresh g p = cond (same p 0) (commit_page g 0) blank

-- opens the definitions of this module: for what is proved by computing
unfoldable pub open_store : Unit {0}
unfolding pages_of flat blank intention home bits_from map_of named behind_map commit_page read_commit map_in prepared_page read_prepared is_prepared identity_in prepared_map is_damaged is_emptied damaged emptied is_named settled is_reserved pending fresh
open_store = tt
