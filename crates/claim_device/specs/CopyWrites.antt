-- COPY WRITES: what the page writes of the form that keeps pairs are on a medium. "A write makes the first copy, then the second" (document 02, L5).
use Rattle.std.specs.Prelude.{ℕ, List, [], ◌∷◌}
use Rattle.rules.specs.Store.{Page}
use Rattle.rules.specs.Commit.{PageWrite, sets}

-- the first copy of a page, or the second, with the page's number
pub data CopyWrite : Type 0 where
  first second : ℕ → Page → CopyWrite

-- the copy writes of page writes
unfoldable pub copies_of : List PageWrite → List CopyWrite
copies_of [] = []
copies_of (sets n p ∷ ws) = first n p ∷ second n p ∷ copies_of ws

-- opens the definitions of this module: for what is proved by computing
unfoldable pub open_copy_writes : Unit {0}
unfolding copies_of
open_copy_writes = tt
