-- A DEVICE: a medium of pages, and a machine that plays events on a copy of its own in memory. What an event writes is programmed on the medium
-- page by page, and the power may go after any of these writes, before the first of them, and between two events. What the medium owes: a page
-- write is carried out wholly or not at all, and in order.
use Rattle.std.specs.Prelude.{ℕ, ◌≡◌, Bool, true, ◌&&◌, List, [], ◌∷◌, ◌++◌, ◌⊎◌, length}
use Rattle.std.proofs.Math.Option.{Option, none, some}
use Rattle.rules.specs.Geometry.{Geometry, page_count}
use Rattle.rules.specs.Store.{Pages, pages_of, flat, settled}
use Rattle.rules.specs.Event.{Event, crash, decode, encode}
use Rattle.rules.specs.State.{line_of, live, down}
use Rattle.rules.specs.Versions.{else}
use Rattle.rules.specs.Form.{atomic}
use Rattle.rules.specs.Step.{done, StateOf, visible, step}
use Rattle.history.specs.History.{History, overlaid}
use Rattle.history.specs.Demand3.{SurvivingOverlay, IndependentOfLostWrites, start_of}
use Rattle.history.specs.Claims.{seen_by, is_restart, state_after, rows_after, history_after}
use Rattle.claim_device.specs.Plan.{carried, lesser, count_of, with_count, due_of}

-- What happens to a device.
pub data Happening : Type 0 where
  -- an event word is played, and all that it writes reaches the medium
  plays : ℕ → Happening
  -- an event word is begun, and the power goes once this many of its page writes have reached the medium (or all, where it has fewer)
  fails : ℕ → ℕ → Happening
  -- the power goes between two events
  loses : Happening

module _ (g : Geometry) where
  pub record Device : Type 0 where
    pub medium : Pages
    pub memory : StateOf (atomic g)

  -- the power comes back: the machine knows the medium's pages and nothing else, and is down
  unfoldable pub restarted : Pages → Device
  restarted m = record { medium = m; memory = down m }

  -- What an event writes is asked of the machine's memory before the event is played. No definition of the rules' cuts occurs here.
  unfoldable pub happens : Device → Happening → Device
  happens d (plays w) = record {
    medium = carried (length (due_of g d.memory (decode g w))) (due_of g d.memory (decode g w)) d.medium;
    memory = (step (atomic g) d.memory (decode g w)).state;
  }
  happens d (fails w k) = restarted (carried k (due_of g d.memory (decode g w)) d.medium)
  happens d loses = restarted d.medium

  unfoldable pub lives : Device → List Happening → Device
  lives d [] = d
  lives d (h ∷ hs) = lives (happens d h) hs

  -- a device whose power comes on over a medium with these bytes, after what happens to it
  unfoldable pub device_after : List ℕ → List Happening → Device
  device_after store hs = lives (restarted (pages_of store)) hs

  -- WHAT THE RULES SAY OF IT: the list of events that stands for what happened. An event that the power cuts after k page writes is the same
  -- event with count k (with its own count, where that is less); wherever the power goes there is a crash.
  unfoldable pub cut_word : ℕ → ℕ → Option Event → ℕ
  cut_word w k none = w
  cut_word w k (some e) = encode g (with_count (lesser k (count_of e)) e)

  unfoldable pub stands_for : Happening → List ℕ
  stands_for (plays w) = w ∷ []
  stands_for (fails w k) = cut_word w k (decode g w) ∷ encode g crash ∷ []
  stands_for loses = encode g crash ∷ []

  unfoldable pub list_of : List Happening → List ℕ
  list_of [] = []
  list_of (h ∷ hs) = stands_for h ++ list_of hs

  -- what the events of that list and the rules' answers to them tell
  unfoldable pub device_history : List ℕ → List Happening → History
  device_history store hs = history_after (atomic g) store (list_of hs)

  -- power cuts, and crashes and recoveries, each cut anywhere
  unfoldable pub is_restarting : Happening → Bool
  is_restarting (plays w) = is_restart (decode g w)
  is_restarting (fails w k) = is_restart (decode g w)
  is_restarting loses = true

  unfoldable pub restarting : List Happening → Bool
  restarting [] = true
  restarting (h ∷ hs) = is_restarting h && restarting hs

  -- OF EVERY DEVICE, whatever has happened to it.
  pub record DeviceHolds (store : List ℕ) (hs : List Happening) : Type 0 where
    -- The medium is what the memory has as the store: after every power cut it is safe to go on from the medium alone.
    pub agrees : (device_after store hs).medium ≡ (device_after store hs).memory.store
    -- The medium's bytes spell it: a machine that starts from them starts from this medium.
    pub reads_back : pages_of (flat (page_count g) (device_after store hs).medium) ≡ (device_after store hs).medium
    -- The memory is the state that the rules' run over the list leaves.
    pub follows : (device_after store hs).memory ≡ state_after (atomic g) store (list_of hs)
    -- Demand 3, first half: the medium's settled records are the start's, overlaid with the writes of the transactions that survive.
    pub settles : SurvivingOverlay (settled g (pages_of store)) (device_history store hs) (settled g (device_after store hs).medium)
    -- The central law: what a live transaction would read.
    pub reads : (t r : ℕ) → live (device_after store hs).memory t ≡ true → let h = device_history store hs in
        visible (atomic g) (device_after store hs).memory t r ≡ overlaid (seen_by h t) r h.writes (settled g (pages_of store) r)
    -- A commit survives: power cuts and recoveries, however many and wherever each is cut, leave the medium's settled records alone.
    pub survives_cuts : (more : List Happening) → restarting more ≡ true → (r : ℕ) →
        settled g (device_after store (hs ++ more)).medium r ≡ settled g (device_after store hs).medium r
    -- Demand 3, second half: another device over the same bytes, to which the same happens but for the values in accepted writes of transactions
    -- that are lost on this one, has the same answers and the same settled records on its medium.
    pub two_devices : (hs' : List Happening) → IndependentOfLostWrites g (start_of (atomic g) store)
        (rows_after (atomic g) store (list_of hs)) (settled g (device_after store hs).medium)
        (rows_after (atomic g) store (list_of hs')) (settled g (device_after store hs').medium)

  -- OF EVERY COMMIT on a device, by the word of a commit event of t, through any power cuts and recoveries after it.
  pub record CommitHolds (store : List ℕ) (hs : List Happening) (w t : ℕ) : Type 0 where
    -- The power goes after any number of its page writes: all its versions are settled on the medium, or none.
    pub all_or_none : (k : ℕ) (more : List Happening) → restarting more ≡ true →
        ((r : ℕ) → settled g (device_after store (hs ++ (fails w k ∷ more))).medium r ≡ else ((device_after store hs).memory.version t r) (settled g (device_after store hs).medium r))
        ⊎ ((r : ℕ) → settled g (device_after store (hs ++ (fails w k ∷ more))).medium r ≡ settled g (device_after store hs).medium r)
    -- It is played and answers 0, for a top transaction: all its versions are settled on the medium.
    pub acknowledged : (v : ℕ) → (step (atomic g) (device_after store hs).memory (decode g w)).answer ≡ done v → line_of (device_after store hs).memory.bearer t ≡ t ∷ []
        → (more : List Happening) → restarting more ≡ true → (r : ℕ)
        → settled g (device_after store (hs ++ (plays w ∷ more))).medium r ≡ else ((device_after store hs).memory.version t r) (settled g (device_after store hs).medium r)

-- opens the definitions of this module: for what is proved by computing
unfoldable pub open_device : Unit {0}
unfolding restarted happens lives device_after cut_word stands_for list_of device_history is_restarting restarting
open_device = tt
