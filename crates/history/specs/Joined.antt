-- Demand 3 and the central law over the joined list of a chain of portions (document 02, L1): from any start state, cut anywhere, of any length.
-- A portion is lent bytes and leaves bytes; a refused one adds no event.
use Rattle.std.specs.Prelude.{ℕ, ◌≡◌, Bool, true, List, length}
use Rattle.rules.specs.Form.{Form}
use Rattle.rules.specs.Step.{StateOf}
use Rattle.rules.specs.Portion.{Lent, chain, chain_from}
use Rattle.history.specs.History.{History}
use Rattle.history.specs.Demand3.{Row, rows, history, SurvivingOverlay, IndependentOfLostWrites, settled_in, start_of}
use Rattle.history.specs.Claims.{restarts, state_after, history_after, ReadsOverlay}

-- whatever is found of the states between the portions
module _ (f : Form) (sound : StateOf f → Bool) where
  -- the events of the portions that were played, each with the answer bytes that its portion gave
  unfoldable pub rows_joined : List ℕ → List Lent → List Row
  rows_joined store ls = rows (chain_from f sound store ls).joined (chain_from f sound store ls).answers

  unfoldable pub history_joined : List ℕ → List Lent → History
  history_joined store ls = history f.geometry (start_of f store) (rows_joined store ls)

  -- DEMAND 3, of a chain of portions from a start with these store bytes.
  pub record Demand3Joined (store : List ℕ) (ls : List Lent) : Type 0 where
    -- the settled records that the last portion leaves
    pub surviving_writes : SurvivingOverlay (settled_in f store) (history_joined store ls) (settled_in f (chain_from f sound store ls).store)
    -- a second chain over the same store bytes, cut in any other way
    pub two_chains : (ls' : List Lent) → IndependentOfLostWrites f.geometry (start_of f store)
        (rows_joined store ls) (settled_in f (chain_from f sound store ls).store)
        (rows_joined store ls') (settled_in f (chain_from f sound store ls').store)

  -- THE CENTRAL LAW, of what the chain left: its state and its history are those of the joined list, of which the law holds.
  pub record ReadsJoined (store : List ℕ) (ls : List Lent) : Type 0 where
    pub state_is : (chain_from f sound store ls).state ≡ state_after f store (chain_from f sound store ls).joined
    pub history_is : history_joined store ls ≡ history_after f store (chain_from f sound store ls).joined
    pub overlay : ReadsOverlay f store (chain_from f sound store ls).joined

  -- After more portions of crashes and recoveries only, also cut ones, the settled records are the start's, overlaid with the writes of those
  -- that had survived before.
  unfoldable pub CommitSurvivesJoined : List ℕ → List Lent → List Lent → Type 0
  CommitSurvivesJoined store ls more =
      let c = chain_from f sound store ls in
      let d = chain f sound c.state c.store more in
      restarts f.geometry d.joined ≡ true → SurvivingOverlay (settled_in f store) (history_joined store ls) (settled_in f d.store)

  -- the claim: of every chain over a store of the right length (with any other, each portion is refused)
  unfoldable pub Demand3JoinedHolds : Type 0
  Demand3JoinedHolds = (store : List ℕ) (ls : List Lent) → length store ≡ f.medium.size → Demand3Joined store ls

-- opens the definitions of this module: for what is proved by computing
unfoldable pub open_joined : Unit {0}
unfolding rows_joined history_joined
open_joined = tt
