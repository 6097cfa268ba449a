-- Two claims about every list of words, at each of its prefixes: what transactions read, and what crashes leave.
use Rattle.std.specs.Prelude.{ℕ, ◌≡◌, Bool, true, false, ◌&&◌, ◌||◌, List, [], ◌∷◌, ◌++◌}
use Rattle.std.proofs.Math.Option.{Option, none, some}
use Rattle.laws.specs.Tests.{same}
use Rattle.rules.specs.Geometry.{Geometry}
use Rattle.rules.specs.Event.{Event, begin, lock, write, read, commit, abort, crash, recover, prepare, decide, query, decode}
use Rattle.rules.specs.State.{live, down}
use Rattle.rules.specs.Versions.{is_some}
use Rattle.rules.specs.Form.{Form}
use Rattle.rules.specs.Step.{StateOf, visible}
use Rattle.rules.specs.Run.{answer_bytes, play}
use Rattle.history.specs.History.{History, is_within, stands_with, survives, writes_to, overlaid}
use Rattle.history.specs.Demand3.{Row, rows, history, SurvivingOverlay, settled_in, start_of}

-- the writes of i stand by now with the transaction of number t or an ancestor of it, or are settled
unfoldable pub seen_by : History → ℕ → ℕ → Bool
seen_by h t i = survives h i || is_within h (stands_with h i) (h.bearer t)

unfoldable pub is_restart : Option Event → Bool
is_restart none = false
is_restart (some (begin p)) = false
is_restart (some (lock t r a)) = false
is_restart (some (write t r o v)) = false
is_restart (some (read t r o)) = false
is_restart (some (commit t k)) = false
is_restart (some (abort t w)) = false
is_restart (some crash) = true
is_restart (some (recover k)) = true
is_restart (some (prepare t k i)) = false
is_restart (some (decide d k i)) = false
is_restart (some (query i)) = false

-- crashes and recoveries only, each cut anywhere
unfoldable pub restarts : Geometry → List ℕ → Bool
restarts g [] = true
restarts g (w ∷ ws) = is_restart (decode g w) && restarts g ws

module _ (f : Form) where
  -- the state, the rows and the history after a list of words, from a start with these store bytes
  unfoldable pub state_after : List ℕ → List ℕ → StateOf f
  state_after store ws = (play f (down (f.medium.from_bytes store)) ws).state

  unfoldable pub rows_after : List ℕ → List ℕ → List Row
  rows_after store ws = rows ws (answer_bytes (play f (down (f.medium.from_bytes store)) ws).answers)

  unfoldable pub history_after : List ℕ → List ℕ → History
  history_after store ws = history f.geometry (start_of f store) (rows_after store ws)

  -- THE CENTRAL LAW, after any list of words.
  pub record ReadsOverlay (store ws : List ℕ) : Type 0 where
    -- What a live transaction would read of a record, whether it holds the lock or not: the start's settled value, overlaid in list order with
    -- the accepted writes that by now are settled, or stand with it or an ancestor.
    pub reads : (t r : ℕ) → live (state_after store ws) t ≡ true → let h = history_after store ws in
        visible f (state_after store ws) t r ≡ overlaid (seen_by h t) r h.writes (settled_in f store r)
    -- It has a version exactly if some accepted write of the record stands with it.
    pub versions : (t r : ℕ) → live (state_after store ws) t ≡ true → let h = history_after store ws in
        is_some ((state_after store ws).version t r) ≡ writes_to (λ i. same (stands_with h i) (h.bearer t)) r h.writes
    -- The settled records are the start's, overlaid with the writes that survive so far.
    pub settles : SurvivingOverlay (settled_in f store) (history_after store ws) (f.medium.settled (state_after store ws).store)

  -- After any crashes and recoveries, also cut ones, a top transaction whose commit record was written is wholly there, any other not at all:
  -- the settled records are the start's, overlaid with the writes of those that had survived before.
  unfoldable pub CommitSurvives : List ℕ → List ℕ → List ℕ → Type 0
  CommitSurvives store ws more = restarts f.geometry more ≡ true
      → SurvivingOverlay (settled_in f store) (history_after store ws) (f.medium.settled (state_after store (ws ++ more)).store)

-- opens the definitions of this module: for what is proved by computing
unfoldable pub open_claims : Unit {0}
unfolding seen_by is_restart restarts state_after rows_after history_after
open_claims = tt
