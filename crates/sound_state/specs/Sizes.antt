-- When the arrays that are lent have their lengths, and when two states' arrays are the same.
use Rattle.std.specs.Prelude.{◌≡◌, Bool, List, ℕ, ◌*◌, length}
use Rattle.store_write.specs.Phase.{stride_of}

-- the arrays that are lent have their lengths
pub record Sized (tears : Bool) (parent depth line held retained writers store : List ℕ) : Type 0 where
  pub parents : length parent ≡ 24
  pub depths : length depth ≡ 24
  pub lines : length line ≡ 24
  pub helds : length held ≡ 32
  pub retaineds : length retained ≡ 32
  pub writerss : length writers ≡ 16
  pub stores : length store ≡ stride_of tears * 33

-- two states' arrays, but for working buffer and store, are the same
pub record Alike (up : ℕ) (parent depth line held retained writers : List ℕ) (up' : ℕ) (parent' depth' line' held' retained' writers' : List ℕ) : Type 0 where
  pub ups : up ≡ up'
  pub parents : parent ≡ parent'
  pub depths : depth ≡ depth'
  pub lines : line ≡ line'
  pub helds : held ≡ held'
  pub retaineds : retained ≡ retained'
  pub writerss : writers ≡ writers'
