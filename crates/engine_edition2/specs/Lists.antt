-- What a list from the start leaves.
use Rattle.std.specs.Prelude.{◌≡◌, List, ℕ}
use Rattle.rules.specs.Store.{pages_of}
use Rattle.rules.specs.State.{down}
use Rattle.rules.specs.Editions.{edition2}
use Rattle.state_whole.specs.Whole.{Arrays, arrays, view}
use Rattle.state_whole.specs.Portion.{PortionPlayed}
use Rattle.engine_edition2.specs.declared.Ended.{Ended}

-- The events have been played from the start with this store, to a state of which r is left, and whose lines and locks are known to be there.
pub record EndedAs (store events answers : List ℕ) (r : Ended) (store' work' answers' : List ℕ) : Type 0 where
  pub before : Arrays
  pub begun : view edition2 before ≡ down (pages_of store)
  pub line : List ℕ
  pub held : List ℕ
  pub retained : List ℕ
  pub leads : PortionPlayed edition2 before events answers (arrays r.up r.parent r.depth line held retained r.writers work' store') answers'
