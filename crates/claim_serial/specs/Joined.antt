-- As if one transaction at a time, over the joined list of a chain of portions (document 02, L1): cut anywhere, of any length.
use Rattle.std.specs.Prelude.{ℕ, ◌≡◌, Bool, true, false, List, [], length}
use Rattle.rules.specs.Form.{Form}
use Rattle.rules.specs.Step.{StateOf}
use Rattle.rules.specs.Portion.{Lent, chain_from}
use Rattle.history.specs.Demand3.{settled_in}
use Rattle.history.specs.Joined.{rows_joined}
use Rattle.claim_serial.specs.OneAtATime.{Replays, in_order, replay}

-- whatever is found of the states between the portions
module _ (f : Form) (sound : StateOf f → Bool) where
  -- a second chain over the same store bytes whose joined list is the replay of the first one's
  pub record OneChainAtATime (store : List ℕ) (ls ls' : List Lent) : Type 0 where
    pub right : f.medium.damaged (f.medium.from_bytes store) ≡ false → Replays (in_order f store (rows_joined f sound store ls)) (rows_joined f sound store ls')
    pub or_nothing : f.medium.damaged (f.medium.from_bytes store) ≡ true → in_order f store (rows_joined f sound store ls) ≡ []
    pub records_same : (r : ℕ) → settled_in f (chain_from f sound store ls').store r ≡ settled_in f (chain_from f sound store ls).store r

  -- the claim: of every chain over a store of the right length
  unfoldable pub OneChainAtATimeHolds : Type 0
  OneChainAtATimeHolds = (store : List ℕ) (ls ls' : List Lent) → length store ≡ f.medium.size
      → (chain_from f sound store ls').joined ≡ replay f store (rows_joined f sound store ls) → OneChainAtATime store ls ls'
