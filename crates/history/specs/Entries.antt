-- The accepted events of a run, each with the transaction that it belongs to and the top transaction above that one. Told from events and
-- answers alone; no state of the engine occurs here.
use Rattle.std.specs.Prelude.{ℕ, zero, suc, Bool, true, false, cond, List, [], ◌∷◌, ◌++◌}
use Rattle.std.proofs.Math.Option.{Option, none, some}
use Rattle.laws.specs.Tests.{same}
use Rattle.laws.specs.Counting.{lowest}
use Rattle.rules.specs.Geometry.{Geometry, records}
use Rattle.rules.specs.Event.{Event, begin, lock, write, read, commit, abort, crash, recover, prepare, decide, query, decode}
use Rattle.rules.specs.Step.{Answer, value_of}
use Rattle.history.specs.History.{Fate, bearing, committed, stored, waiting, ended, History, accepted, belongs, told}
use Rattle.history.specs.Demand3.{Row, answer_of, heard}

-- An accepted event: the event and its answer, the transaction that it belongs to, and the top transaction above that one (or itself).
pub record Entry : Type 0 where
  pub event : Event
  pub answer : Answer
  pub transaction : ℕ
  pub top : ℕ

unfoldable pub awaits : Fate → Bool
awaits (bearing t) = false
awaits committed = false
awaits stored = false
awaits waiting = true
awaits ended = false

-- the transaction that waits for the decision on it; 0 is the one that was prepared in the start store
unfoldable pub waiting_in : History → ℕ
waiting_in h = lowest (suc h.begun) (λ i. awaits (h.fate i))

-- a decision without a page write is for nobody
unfoldable pub ruled : History → Bool → Option ℕ
ruled h true = none
ruled h false = some (waiting_in h)

-- The transaction that an accepted event belongs to: one that it begins, the one that bears the number that it names, or the one whose
-- decision it stores. A crash, a recover and a query belong to none.
unfoldable pub owner : History → Event → Answer → Option ℕ
owner h (begin p) a = some (suc h.begun)
owner h (lock t r access) a = some (belongs h (lock t r access))
owner h (write t r o v) a = some (belongs h (write t r o v))
owner h (read t r o) a = some (belongs h (read t r o))
owner h (commit t k) a = some (belongs h (commit t k))
owner h (abort t w) a = some (belongs h (abort t w))
owner h crash a = none
owner h (recover k) a = none
owner h (prepare t k i) a = some (belongs h (prepare t k i))
owner h (decide d k i) a = ruled h (same (value_of a) 0)
owner h (query i) a = none

-- from i, to the parent as long as there is one, n times at most
unfoldable pub climbed : (ℕ → ℕ) → ℕ → ℕ → ℕ
climbed parent zero i = i
climbed parent (suc n) i = cond (same (parent i) 0) i (climbed parent n (parent i))

-- the top transaction above i, or i itself (a parent is begun before its child, so i has fewer than i ancestors)
unfoldable pub top_of : History → ℕ → ℕ
top_of h i = climbed h.parent i i

-- by what the history tells after the event
unfoldable pub entry_of : History → Event → Answer → ℕ → Entry
entry_of h e a i = record { event = e; answer = a; transaction = i; top = top_of h i }

unfoldable pub entry_by : ℕ → History → Event → Answer → Option ℕ → List Entry
entry_by n h e a none = []
entry_by n h e a (some i) = cond (accepted a) (entry_of (told n h (some e) a) e a i ∷ []) []

-- the entry of an event with its answer, if it is accepted and belongs to a transaction
unfoldable pub entry : ℕ → History → Option Event → Answer → List Entry
entry n h none a = []
entry n h (some e) a = entry_by n h e a (owner h e a)

-- the entries of a list of rows
unfoldable pub entries : Geometry → History → List Row → List Entry
entries g h [] = []
entries g h (x ∷ xs) = entry (records g) h (decode g x.word) (answer_of x) ++ entries g (heard g h x) xs

-- opens the definitions of this module: for what is proved by computing
unfoldable pub open_entries : Unit {0}
unfolding awaits waiting_in ruled owner climbed top_of entry_of entry_by entry entries
open_entries = tt
