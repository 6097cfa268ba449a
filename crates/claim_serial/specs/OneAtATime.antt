-- As if one transaction at a time (document 02, L14): a claim about every list of event words, and about every run in bytes.
use Rattle.std.specs.Prelude.{ℕ, suc, ◌*◌, ◌≤◌, ◌<◌, ◌≡◌, Bool, true, false, cond, List, [], ◌∷◌, ◌++◌, map, length}
use Rattle.std.proofs.Math.Option.{some}
use Rattle.laws.specs.Tests.{same}
use Rattle.laws.specs.Bytes.{bytes}
use Rattle.rules.specs.Geometry.{nobody, work_size, word_size, uncut}
use Rattle.rules.specs.Store.{Page}
use Rattle.rules.specs.Event.{Event, begin, lock, write, read, commit, abort, crash, recover, prepare, decide, query, encode}
use Rattle.rules.specs.State.{down}
use Rattle.rules.specs.Form.{Form}
use Rattle.rules.specs.Step.{value_of, StateOf, step}
use Rattle.rules.specs.Run.{play, run}
use Rattle.history.specs.Demand3.{Row, history, settled_in, start_of, Plays, rows_of}
use Rattle.history.specs.Claims.{rows_after}
use Rattle.history.specs.Entries.{Entry, entries}
use Rattle.claim_serial.specs.Serial.{plays, serial}

-- an event of the serial list, with its numbers renamed and a commit whole
unfoldable pub renamed : ℕ → (ℕ → ℕ) → Event → Event
renamed k name (begin p) = begin (cond (same p nobody) p (name p))
renamed k name (lock t r access) = lock (name t) r access
renamed k name (write t r o v) = write (name t) r o v
renamed k name (read t r o) = read (name t) r o
renamed k name (commit t c) = commit (name t) k
renamed k name (abort t w) = abort (name t) w
renamed k name crash = crash
renamed k name (recover c) = recover k
renamed k name (prepare t c i) = prepare (name t) k i
renamed k name (decide d c i) = decide d k i
renamed k name (query i) = query i

-- after a begin, the number t that was given in the run stands for the one that is given now
unfoldable pub naming : (ℕ → ℕ) → Event → ℕ → ℕ → ℕ → ℕ
naming name (begin p) t u = λ j. cond (same j t) u (name j)
naming name (lock t r access) v w = name
naming name (write t r o v) w x = name
naming name (read t r o) v w = name
naming name (commit t k) v w = name
naming name (abort t b) v w = name
naming name crash v w = name
naming name (recover k) v w = name
naming name (prepare t k i) v w = name
naming name (decide d k i) v w = name
naming name (query i) v w = name

unfoldable pub is_read : Event → Bool
is_read (begin p) = false
is_read (lock t r access) = false
is_read (write t r o v) = false
is_read (read t r o) = true
is_read (commit t k) = false
is_read (abort t w) = false
is_read crash = false
is_read (recover k) = false
is_read (prepare t k i) = false
is_read (decide d k i) = false
is_read (query i) = false

-- an event of the replay is done, and a read gives the byte that it gave in the run
abbrev pub Right : Entry → Row → Type 0
Right x y = (y.number ≡ 0) × (is_read x.event ≡ true → y.value ≡ value_of x.answer)

-- each entry with a row of the replay, and as many
abbrev pub AllRight : List Entry → List Row → Type 0
AllRight [] [] = Unit {0}
AllRight [] (y ∷ ys) = ⊥
AllRight (x ∷ xs) [] = ⊥
AllRight (x ∷ xs) (y ∷ ys) = Right x y × AllRight xs ys

-- the same, behind the row of the recover, which is done too
abbrev pub Replays : List Entry → List Row → Type 0
Replays xs [] = ⊥
Replays xs (y ∷ ys) = (y.number ≡ 0) × AllRight xs ys

module _ (f : Form) where
  -- the events to play from a state on; numbers are renamed by the answers that their begins get there
  unfoldable pub script : StateOf f → (ℕ → ℕ) → List Entry → List Event
  script u name [] = []
  script u name (x ∷ xs) =
      let e = renamed (uncut f.geometry) name x.event in
      let o = step f u (some e) in
      e ∷ script o.state (naming name x.event (value_of x.answer) (value_of o.answer)) xs

  -- the entries to play, from the rows of a run over a store
  unfoldable pub in_order : List ℕ → List Row → List Entry
  in_order store xs = serial (plays (history f.geometry (start_of f store) xs)) (entries f.geometry (start_of f store) xs)

  -- the words to play over a store: one whole recover, and the entries in order
  unfoldable pub replay : List ℕ → List Row → List ℕ
  replay store xs =
      let first = recover (uncut f.geometry) in
      let u = (step f (down (f.medium.from_bytes store)) (some first)).state in
      map (encode f.geometry) (first ∷ script u (λ j. j) (in_order store xs))

  -- the settled records that a list of words leaves of a store
  unfoldable pub settled_after : List ℕ → List ℕ → ℕ → Page
  settled_after store ws r = f.medium.settled (play f (down (f.medium.from_bytes store)) ws).state.store r

  -- AS IF ONE TRANSACTION AT A TIME, of a list of words over a store with these bytes.
  pub record OneAtATime (store ws : List ℕ) : Type 0 where
    -- Played after one whole recover, each commit whole, every event of the serial list is done, and each surviving read gives the same byte.
    pub right : f.medium.damaged (f.medium.from_bytes store) ≡ false
        → Replays (in_order store (rows_after f store ws)) (rows_after f store (replay store (rows_after f store ws)))
    -- Over a damaged commit page there is nothing to play but the recover, which is refused.
    pub or_nothing : f.medium.damaged (f.medium.from_bytes store) ≡ true → in_order store (rows_after f store ws) ≡ []
    -- The settled records are the same.
    pub records_same : (r : ℕ) → settled_after store (replay store (rows_after f store ws)) r ≡ settled_after store ws r
    -- The replay is no longer than the list, if that has an event.
    pub no_longer : 0 < length ws → length (replay store (rows_after f store ws)) ≤ length ws

  -- the claim: of every list of words, of any length, over every store
  unfoldable pub OneAtATimeHolds : Type 0
  OneAtATimeHolds = (store ws : List ℕ) → length store ≡ f.medium.size → OneAtATime store ws

  -- event words as bytes
  unfoldable pub word_bytes : List ℕ → List ℕ
  word_bytes [] = []
  word_bytes (w ∷ ws) = bytes (word_size f.geometry) w ++ word_bytes ws

  -- THE SAME OF RUNS, in bytes: the replay of a run that is played can be played as a run over the same store bytes, with any buffers of the
  -- right lengths.
  pub record OneRunAtATime (store events work answers : List ℕ) : Type 0 where
    pub plays : (work' answers' : List ℕ) → let again = word_bytes (replay store (rows_of f store events work answers)) in
        length work' ≡ work_size f.geometry → 2 * suc (length (in_order store (rows_of f store events work answers))) ≤ length answers' → Plays f store again work' answers'
    pub right : (work' answers' : List ℕ) → let again = word_bytes (replay store (rows_of f store events work answers)) in
        Plays f store again work' answers' → f.medium.damaged (f.medium.from_bytes store) ≡ false
        → Replays (in_order store (rows_of f store events work answers)) (rows_of f store again work' answers')
    pub or_nothing : f.medium.damaged (f.medium.from_bytes store) ≡ true → in_order store (rows_of f store events work answers) ≡ []
    pub records_same : (work' answers' : List ℕ) → let again = word_bytes (replay store (rows_of f store events work answers)) in
        Plays f store again work' answers'
        → (r : ℕ) → settled_in f (run f store again work' answers').store r ≡ settled_in f (run f store events work answers).store r

  unfoldable pub OneRunAtATimeHolds : Type 0
  OneRunAtATimeHolds = (store events work answers : List ℕ) → Plays f store events work answers → OneRunAtATime store events work answers

-- opens the definitions of this module: for what is proved by computing
unfoldable pub open_one : Unit {0}
unfolding renamed naming is_read script in_order replay settled_after word_bytes
open_one = tt
