-- A DEVICE whose writes tear: a medium of pairs, and a machine that plays events on a copy of its own in memory. What an event writes is programmed on the medium copy
-- by copy, the first copy of a page before the second, and the power may go between two of these writes or within one, which leaves that copy bad. Before a
-- recovery the machine mends the medium's pairs; document 02, L5, has it that mending isn't cut, and so does this device.
use Rattle.std.specs.Prelude.{ℕ, ◌≡◌, Bool, true, ◌&&◌, List, [], ◌∷◌, ◌++◌, map, ◌⊎◌}
use Rattle.std.proofs.Math.Option.{Option, none, some}
use Rattle.rules.specs.Geometry.{Geometry, page_count, uncut}
use Rattle.rules.specs.Store.{settled}
use Rattle.rules.specs.Event.{Event, begin, lock, write, read, commit, abort, crash, recover, prepare, decide, query, encode, fits}
use Rattle.rules.specs.State.{live, line_of, down}
use Rattle.rules.specs.Versions.{else}
use Rattle.rules.specs.Pairs.{Pairs, shown, mended, OneBadAtMost, pairs_of, flat_pairs, in_pairs}
use Rattle.rules.specs.Step.{done, StateOf, visible, refusal, step}
use Rattle.history.specs.History.{History, overlaid}
use Rattle.history.specs.Demand3.{SurvivingOverlay, IndependentOfLostWrites, start_of}
use Rattle.history.specs.Claims.{seen_by, is_restart, state_after, rows_after, history_after}
use Rattle.claim_device.specs.Plan.{plan_of}
use Rattle.claim_device.specs.CopyWrites.{copies_of}
use Rattle.claim_device_pairs.specs.Copies.{carried_all, carried_copies, spoiled_at, behind, within}

-- What happens to a device.
pub data TornHappening : Type 0 where
  -- an event is played, with its count as in a word that cuts nothing, and all that it writes reaches the medium
  plays : Event → TornHappening
  -- the power goes once so many of its copy writes have reached the medium (or all, where it has fewer)
  fails : Event → ℕ → TornHappening
  -- the power goes within the copy write behind so many, and leaves that copy bad
  tears : Event → ℕ → TornHappening
  -- the power goes between two events
  loses : TornHappening

-- the same event with another place of its crash; only a commit and a recover have one here
unfoldable pub cut_to : ℕ → Event → Event
cut_to k (begin p) = begin p
cut_to k (lock t r a) = lock t r a
cut_to k (write t r o v) = write t r o v
cut_to k (read t r o) = read t r o
cut_to k (commit t n) = commit t k
cut_to k (abort t w) = abort t w
cut_to k crash = crash
cut_to k (recover n) = recover k
cut_to k (prepare t n i) = prepare t n i
cut_to k (decide d n i) = decide d n i
cut_to k (query i) = query i

module _ (g : Geometry) where
  abbrev pub Memory : Type 0
  Memory = StateOf (in_pairs g)

  -- the pairs as they are before the first copy write of an event: mended, for a recovery
  unfoldable pub readied : Event → Pairs → Pairs
  readied (begin p) m = m
  readied (lock t r a) m = m
  readied (write t r o v) m = m
  readied (read t r o) m = m
  readied (commit t k) m = m
  readied (abort t w) m = m
  readied crash m = m
  readied (recover k) m = mended m
  readied (prepare t k i) m = m
  readied (decide d k i) m = m
  readied (query i) m = m

  unfoldable pub ready_by : Event → Pairs → Option ℕ → Pairs
  ready_by e m none = readied e m
  ready_by e m (some n) = m

  -- where it is refused nothing is mended
  unfoldable pub ready_of : Memory → Event → Pairs → Pairs
  ready_of s e m = ready_by e m (refusal (in_pairs g) s e)

  -- an event as it is played here: the count of its word cuts nothing
  unfoldable pub wholly : Event → Event
  wholly e = cut_to (uncut g) e

  pub record TornDevice : Type 0 where
    pub medium : Pairs
    pub memory : Memory

  -- the power comes back: the machine knows the medium's pairs and nothing else, and is down
  unfoldable pub restarted_pairs : Pairs → TornDevice
  restarted_pairs m = record { medium = m; memory = down m }

  unfoldable pub happens_pairs : TornDevice → TornHappening → TornDevice
  happens_pairs d (plays e) = record {
    medium = carried_all (copies_of (plan_of true g d.memory e)) (ready_of d.memory e d.medium);
    memory = (step (in_pairs g) d.memory (some (wholly e))).state;
  }
  happens_pairs d (fails e j) = restarted_pairs (carried_copies j (copies_of (plan_of true g d.memory e)) (ready_of d.memory e d.medium))
  happens_pairs d (tears e j) = restarted_pairs (spoiled_at j (copies_of (plan_of true g d.memory e)) (ready_of d.memory e d.medium))
  happens_pairs d loses = restarted_pairs d.medium

  unfoldable pub lives_pairs : TornDevice → List TornHappening → TornDevice
  lives_pairs d [] = d
  lives_pairs d (h ∷ hs) = lives_pairs (happens_pairs d h) hs

  -- a device whose power comes on over a medium with these bytes, after what happens to it
  unfoldable pub torn_device_after : List ℕ → List TornHappening → TornDevice
  torn_device_after store hs = lives_pairs (restarted_pairs (pairs_of store)) hs

  -- WHAT THE RULES SAY OF IT: the events that stand for what happened. Where the power goes behind j copy writes, or within the next, the event has a count and a
  -- value that say so; wherever the power goes there is a crash.
  unfoldable pub events_for : TornHappening → List Event
  events_for (plays e) = wholly e ∷ []
  events_for (fails e j) = cut_to (behind j) e ∷ crash ∷ []
  events_for (tears e j) = cut_to (within j) e ∷ crash ∷ []
  events_for loses = crash ∷ []

  unfoldable pub all_events_for : List TornHappening → List Event
  all_events_for [] = []
  all_events_for (h ∷ hs) = events_for h ++ all_events_for hs

  -- they fit words: an event with a count that a word can hold
  unfoldable pub all_fit : List Event → Bool
  all_fit [] = true
  all_fit (e ∷ es) = fits g e && all_fit es

  -- as words, and what these and the rules' answers to them tell
  unfoldable pub words_for : List TornHappening → List ℕ
  words_for hs = map (encode g) (all_events_for hs)

  unfoldable pub torn_device_history : List ℕ → List TornHappening → History
  torn_device_history store hs = history_after (in_pairs g) store (words_for hs)

  -- power cuts, and crashes and recoveries, each cut or torn anywhere
  unfoldable pub is_restarting_pairs : TornHappening → Bool
  is_restarting_pairs (plays e) = is_restart (some e)
  is_restarting_pairs (fails e j) = is_restart (some e)
  is_restarting_pairs (tears e j) = is_restart (some e)
  is_restarting_pairs loses = true

  unfoldable pub restarting_pairs : List TornHappening → Bool
  restarting_pairs [] = true
  restarting_pairs (h ∷ hs) = is_restarting_pairs h && restarting_pairs hs

  -- OF EVERY SUCH DEVICE, whatever has happened to it.
  pub record TornDeviceHolds (store : List ℕ) (hs : List TornHappening) : Type 0 where
    -- The medium is what the memory has as the store: after every power cut it is safe to go on from the medium alone.
    pub agrees : (torn_device_after store hs).medium ≡ (torn_device_after store hs).memory.store
    -- The medium's bytes spell it: a machine that starts from them starts from this medium.
    pub reads_back : pairs_of (flat_pairs (page_count g) (torn_device_after store hs).medium) ≡ (torn_device_after store hs).medium
    -- The memory is the state that the rules' run over the list leaves.
    pub follows : (torn_device_after store hs).memory ≡ state_after (in_pairs g) store (words_for hs)
    -- Demand 3, first half: the records that the pairs show are the start's, overlaid with the writes of the transactions that survive.
    pub settles : SurvivingOverlay (settled g (shown (pairs_of store))) (torn_device_history store hs) (settled g (shown (torn_device_after store hs).medium))
    -- The central law: what a live transaction would read.
    pub reads : (t r : ℕ) → live (torn_device_after store hs).memory t ≡ true → let h = torn_device_history store hs in
        visible (in_pairs g) (torn_device_after store hs).memory t r ≡ overlaid (seen_by h t) r h.writes (settled g (shown (pairs_of store)) r)
    -- A commit survives: power cuts and recoveries, however many and wherever each is cut or torn, leave the settled records alone.
    pub survives_tears : (more : List TornHappening) → all_fit (all_events_for more) ≡ true → restarting_pairs more ≡ true → (r : ℕ)
        → settled g (shown (torn_device_after store (hs ++ more)).medium) r ≡ settled g (shown (torn_device_after store hs).medium) r
    -- Demand 3, second half: another device over the same bytes, to which the same happens but for the values in accepted writes of transactions
    -- that are lost on this one, has the same answers and the same settled records on its medium.
    pub two_devices : (hs' : List TornHappening) → all_fit (all_events_for hs') ≡ true → IndependentOfLostWrites g (start_of (in_pairs g) store)
        (rows_after (in_pairs g) store (words_for hs)) (settled g (shown (torn_device_after store hs).medium))
        (rows_after (in_pairs g) store (words_for hs')) (settled g (shown (torn_device_after store hs').medium))
    -- No page is lost: from a medium with at most one bad copy in each pair, it always has that.
    pub one_bad : OneBadAtMost g (pairs_of store) → OneBadAtMost g (torn_device_after store hs).medium

  -- t's versions, settled on the medium after one more happening and any restarts behind it: all of them
  abbrev pub SettlesAll : List ℕ → List TornHappening → ℕ → TornHappening → List TornHappening → Type 0
  SettlesAll store hs t h more = (r : ℕ) → let before = torn_device_after store hs in
      settled g (shown (torn_device_after store (hs ++ (h ∷ more))).medium) r ≡ else (before.memory.version t r) (settled g (shown before.medium) r)

  -- none of them: the records are settled as they were
  abbrev pub SettlesNone : List ℕ → List TornHappening → TornHappening → List TornHappening → Type 0
  SettlesNone store hs h more = (r : ℕ) → settled g (shown (torn_device_after store (hs ++ (h ∷ more))).medium) r ≡ settled g (shown (torn_device_after store hs).medium) r

  -- OF EVERY COMMIT on such a device, of t, through any power cuts and recoveries after it, each cut or torn anywhere.
  pub record TornCommitHolds (store : List ℕ) (hs : List TornHappening) (t n : ℕ) : Type 0 where
    -- The power goes behind any number of its copy writes, or within one: all its versions are settled on the medium, or none.
    pub cut_between : (j : ℕ) (more : List TornHappening) → let h = fails (commit t n) j in all_fit (all_events_for (h ∷ more)) ≡ true → restarting_pairs more ≡ true
        → SettlesAll store hs t h more ⊎ SettlesNone store hs h more
    pub cut_within : (j : ℕ) (more : List TornHappening) → let h = tears (commit t n) j in all_fit (all_events_for (h ∷ more)) ≡ true → restarting_pairs more ≡ true
        → SettlesAll store hs t h more ⊎ SettlesNone store hs h more
    -- It is played and answers 0, for a top transaction: all its versions are settled on the medium.
    pub acknowledged : (v : ℕ) → let memory = (torn_device_after store hs).memory in
        (step (in_pairs g) memory (some (wholly (commit t n)))).answer ≡ done v → line_of memory.bearer t ≡ t ∷ []
        → (more : List TornHappening) → let h = plays (commit t n) in all_fit (all_events_for (h ∷ more)) ≡ true → restarting_pairs more ≡ true → SettlesAll store hs t h more

-- opens the definitions of this module: for what is proved by computing
unfoldable pub open_torn_device : Unit {0}
unfolding cut_to readied ready_by ready_of wholly restarted_pairs happens_pairs lives_pairs torn_device_after events_for all_events_for all_fit words_for torn_device_history is_restarting_pairs restarting_pairs
open_torn_device = tt
