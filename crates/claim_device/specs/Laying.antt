-- Laying down a fresh store on a medium, page by page.
use Rattle.std.specs.Prelude.{ℕ, zero, suc, ◌+◌, ◌≤◌, ◌<◌, ◌≡◌, true, List, [], ◌∷◌, ◌++◌}
use Rattle.std.proofs.Math.Option.{some}
use Rattle.rules.specs.Geometry.{Geometry, records, page_count}
use Rattle.rules.specs.Store.{Pages, blank, damaged, fresh}
use Rattle.rules.specs.Event.{recover}
use Rattle.rules.specs.State.{down}
use Rattle.rules.specs.Commit.{PageWrite, sets, marks}
use Rattle.rules.specs.Form.{atomic}
use Rattle.rules.specs.Step.{refused, step}
use Rattle.claim_device.specs.Plan.{carried}

-- n pages behind page p, as zeros, in rising order
unfoldable pub blanks : ℕ → ℕ → List PageWrite
blanks p zero = []
blanks p (suc n) = sets (suc p) blank ∷ blanks (suc p) n

module _ (g : Geometry) where
  -- every page but page 0, then page 0 as the empty commit page
  unfoldable pub lay_plan : List PageWrite
  lay_plan = blanks 0 (records g + records g) ++ (marks g 0 ∷ [])

  -- the same, over a medium that may hold a store: page 0 is made unreadable first
  unfoldable pub relay_plan : List PageWrite
  relay_plan = sets 0 blank ∷ lay_plan

  -- OF LAYING DOWN on a medium whose page 0 can't be read: cut after k page writes, it is still refused as damaged; not cut, it is a fresh store.
  pub record Lays (m : Pages) (k : ℕ) : Type 0 where
    -- page 0 is as before until the last write
    pub mark : k ≤ records g + records g → carried k lay_plan m 0 ≡ m 0
    pub refused_4 : damaged g m ≡ true → k ≤ records g + records g → (n : ℕ) → (step (atomic g) (down (carried k lay_plan m)) (some (recover n))).answer ≡ refused 4
    pub laid : records g + records g < k → (p : ℕ) → p < page_count g → carried k lay_plan m p ≡ fresh g p

  -- OF LAYING DOWN ANEW on any medium: before the first write it is as it was, then it is refused as damaged, and after the last it is a fresh store.
  pub record Relays (m : Pages) (k : ℕ) : Type 0 where
    pub untouched : k ≡ 0 → carried k relay_plan m ≡ m
    pub refused_4 : 0 < k → k ≤ 1 + (records g + records g) → (n : ℕ) → (step (atomic g) (down (carried k relay_plan m)) (some (recover n))).answer ≡ refused 4
    pub laid : 1 + (records g + records g) < k → (p : ℕ) → p < page_count g → carried k relay_plan m p ≡ fresh g p

-- opens the definitions of this module: for what is proved by computing
unfoldable pub open_laying : Unit {0}
unfolding blanks lay_plan relay_plan
open_laying = tt
