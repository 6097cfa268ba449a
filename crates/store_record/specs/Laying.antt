-- A fresh store, page by page.
use Rattle.std.specs.Prelude.{◌≡◌, Bool, true, false, List, ℕ, ◌<◌, length}
use Rattle.rules.specs.Geometry.{Geometry}
use Rattle.rules.specs.Store.{Page, fresh}
use Rattle.rules.specs.Pairs.{Pair, whole}
use Rattle.rules.specs.Editions.{medium_of}
use Rattle.store_write.specs.Phase.{StoreOf, store_of}

-- a page as a store keeps it: as it is, or in both copies of a pair that is good
abbrev pub StoredPage : Bool → Type 0
StoredPage false = Page
StoredPage true = Pair

abbrev pub kept_as : (tears : Bool) → Page → StoredPage tears
kept_as false page = page
kept_as true page = whole page

abbrev pub kept_at : (tears : Bool) → StoreOf tears → ℕ → StoredPage tears
kept_at false s p = s p
kept_at true s p = s p

-- the first n pages of a store are those of a fresh one
pub record LaidTo (tears : Bool) (g : Geometry) (n : ℕ) (store : List ℕ) : Type 0 where
  pub long : length store ≡ (medium_of tears g).size
  pub laid : (p : ℕ) → p < n → kept_at tears (store_of tears store) p ≡ kept_as tears (fresh g p)
