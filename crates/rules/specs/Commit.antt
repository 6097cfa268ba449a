-- Page writes and cuts: the page writes of a top transaction's commit, its prepare and the decision on it, and of a recovery, and a crash among
-- them.
use Rattle.std.specs.Prelude.{ℕ, Bool, true, false, cond, List, [], ◌∷◌, ◌++◌, map, length, take}
use Rattle.std.proofs.Math.Option.{Option}
use Rattle.laws.specs.Tests.{under}
use Rattle.laws.specs.Counting.{those}
use Rattle.laws.specs.Functions.{updated}
use Rattle.rules.specs.Geometry.{Geometry, records}
use Rattle.rules.specs.Store.{Page, Pages, intention, home, map_of, commit_page, is_named, Prepared, prepared_page, read_prepared, prepared_map, is_reserved}
use Rattle.rules.specs.Versions.{is_some, else}

-- A page write: the page's number, and the page. One page write is atomic.
pub data PageWrite : Type 0 where
  sets : ℕ → Page → PageWrite

unfoldable pub written : PageWrite → Pages → Pages
written (sets n p) s = updated n p s

unfoldable pub applied : List PageWrite → Pages → Pages
applied [] s = s
applied (w ∷ ws) s = applied ws (written w s)

-- What page writes with a cut leave: the store, how many were made, and whether a crash came.
pub record Cut (S : Type 0) : Type 0 where
  pub store : S
  pub made : ℕ
  pub crashed : Bool

-- Count k below the number of writes due: exactly the first k happen, then the crash. Else all happen, and there is no crash.
unfoldable pub cut_at : ℕ → List PageWrite → Pages → Cut Pages
cut_at k ws s = record { store = applied (take k ws) s; made = cond (under k (length ws)) k (length ws); crashed = under k (length ws) }

-- the page that a transaction with these versions settles for a record
unfoldable pub page_in : (ℕ → Option Page) → ℕ → Page
page_in versions r = else (versions r) []

module _ (g : Geometry) where
  -- the intention pages, the home pages of some records
  unfoldable pub intentions : (ℕ → Page) → List ℕ → List PageWrite
  intentions new rs = map (λ r. sets (intention r) (new r)) rs

  unfoldable pub homes : (ℕ → Page) → List ℕ → List PageWrite
  homes new rs = map (λ r. sets (home g r) (new r)) rs

  -- the commit page for a map; 0 is the empty one
  unfoldable pub marks : ℕ → PageWrite
  marks map = sets 0 (commit_page g map)

  -- of a commit that changes these records: none for no record, else intention pages by rising record, the commit page as committed,
  -- home pages by rising record, the commit page as empty
  unfoldable pub commit_writes : (ℕ → Page) → ℕ → List ℕ → List PageWrite
  commit_writes new map [] = []
  commit_writes new map (r ∷ rs) = intentions new (r ∷ rs) ++ (marks map ∷ (homes new (r ∷ rs) ++ (marks 0 ∷ [])))

  -- of a recovery over a commit page that names these records: none for no record, else their intention pages go home by rising record,
  -- then the empty commit page
  unfoldable pub recover_writes : (ℕ → Page) → List ℕ → List PageWrite
  recover_writes planned [] = []
  recover_writes planned (r ∷ rs) = homes planned (r ∷ rs) ++ (marks 0 ∷ [])

  -- of a prepare that changes these records: none for no record, else intention pages by rising record, the commit page as prepared
  unfoldable pub prepare_writes : (ℕ → Page) → Prepared → List ℕ → List PageWrite
  prepare_writes new p [] = []
  prepare_writes new p (r ∷ rs) = intentions new (r ∷ rs) ++ (sets 0 (prepared_page g p) ∷ [])

  -- of a decision on a transaction that is prepared with these records: to commit, the commit page as committed, and then as a recovery; to
  -- abort, the commit page as empty
  unfoldable pub decide_writes : Bool → (ℕ → Page) → ℕ → List ℕ → List PageWrite
  decide_writes true planned map rs = marks map ∷ recover_writes planned rs
  decide_writes false planned map rs = marks 0 ∷ []

  -- THE PLANS: the page writes of a top transaction's commit with these versions, of its prepare with an identity, of a recovery over this store,
  -- and of a decision on what is prepared there
  abbrev pub commit_plan : (ℕ → Option Page) → List PageWrite
  commit_plan versions =
      let changed : ℕ → Bool = λ r. is_some (versions r) in
      commit_writes (page_in versions) (map_of g changed) (those (records g) changed)

  abbrev pub prepare_plan : (ℕ → Option Page) → ℕ → List PageWrite
  prepare_plan versions i =
      let changed : ℕ → Bool = λ r. is_some (versions r) in
      prepare_writes (page_in versions) (record { map = map_of g changed; identity = i }) (those (records g) changed)

  abbrev pub recover_plan : Pages → List PageWrite
  recover_plan s = recover_writes (λ r. s (intention r)) (those (records g) (is_named g s))

  abbrev pub decide_plan : Pages → Bool → List PageWrite
  decide_plan s d = decide_writes d (λ r. s (intention r)) (prepared_map (read_prepared g (s 0))) (those (records g) (is_reserved g s))

  -- they are made, cut at k
  unfoldable pub commit_at : Pages → (ℕ → Option Page) → ℕ → Cut Pages
  commit_at s versions k = cut_at k (commit_plan versions) s

  unfoldable pub recover_at : Pages → ℕ → Cut Pages
  recover_at s k = cut_at k (recover_plan s) s

  unfoldable pub prepare_at : Pages → (ℕ → Option Page) → ℕ → ℕ → Cut Pages
  prepare_at s versions i k = cut_at k (prepare_plan versions i) s

  unfoldable pub decide_at : Pages → Bool → ℕ → Cut Pages
  decide_at s d k = cut_at k (decide_plan s d) s

-- opens the definitions of this module: for what is proved by computing
unfoldable pub open_commit : Unit {0}
unfolding written applied cut_at page_in intentions homes marks commit_writes recover_writes prepare_writes decide_writes commit_at recover_at prepare_at decide_at
open_commit = tt
