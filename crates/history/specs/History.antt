-- What the events and their answers alone tell of a run: document 01, "What demand 3 compares". No state of the engine occurs here.
use Rattle.std.specs.Prelude.{ℕ, zero, suc, Bool, true, false, not, cond, ◌&&◌, ◌||◌, List, [], ◌∷◌, set}
use Rattle.std.proofs.Math.Option.{Option, none, some}
use Rattle.laws.specs.Tests.{same, under}
use Rattle.laws.specs.Counting.{any, count}
use Rattle.laws.specs.Functions.{updated}
use Rattle.rules.specs.Geometry.{nobody}
use Rattle.rules.specs.Store.{Page}
use Rattle.rules.specs.Event.{Event, begin, lock, write, read, commit, abort, crash, recover, prepare, decide, query}
use Rattle.rules.specs.Versions.{is_some}
use Rattle.rules.specs.Step.{Answer, done, refused, cut, value_of}

-- How a transaction stands: it bears a number; it is a child whose commit was accepted; it is a top one that survives; it is one that is
-- prepared and waits for the decision; any other end.
pub data Fate : Type 0 where
  bearing : ℕ → Fate
  committed stored waiting ended : Fate

-- An accepted write, with what it makes of its record: it sets the byte at its offset to its value and no other.
pub record Write : Type 0 where
  pub transaction : ℕ
  pub rec : ℕ
  pub laid : Page → Page

-- A transaction is one accepted begin, not a number. Transactions are counted from 1 in list order; 0 means none, or one that was prepared in the
-- start store.
pub record History : Type 0 where
  -- the transactions begun so far
  pub begun : ℕ
  -- by number: the transaction that bears it now
  pub bearer : ℕ → ℕ
  -- by transaction: its parent, none for a top one
  pub parent : ℕ → ℕ
  pub fate : ℕ → Fate
  -- the accepted writes, the newest first
  pub writes : List Write

unfoldable pub nothing_yet : History
nothing_yet = record { begun = 0; bearer = λ t. 0; parent = λ i. 0; fate = λ i. ended; writes = [] }

-- the pages of the transaction that is prepared in the start store, for the records that it changed, as its writes
unfoldable pub page_write : ℕ → Option Page → List Write → List Write
page_write r none ws = ws
page_write r (some page) ws = record { transaction = 0; rec = r; laid = λ p. page } ∷ ws

unfoldable pub page_writes : ℕ → (ℕ → Option Page) → List Write
page_writes zero pending = []
page_writes (suc n) pending = page_write n (pending n) (page_writes n pending)

-- Before the first event, by what is pending in the start store: a transaction that is prepared there waits, and counts as having written its
-- pages first.
unfoldable pub starting : ℕ → (ℕ → Option Page) → History
starting records pending = record {
  begun = 0;
  bearer = λ t. 0;
  parent = λ i. 0;
  fate = λ i. cond (same i 0 && any records (λ r. is_some (pending r))) waiting ended;
  writes = page_writes records pending;
}

-- An event is accepted exactly if its answer's number is 0 (done) or 11 (cut).
unfoldable pub accepted : Answer → Bool
accepted (done v) = true
accepted (refused n) = false
accepted (cut v) = true

-- the transaction number that an event names; a crash, a recover, a decide and a query name none
unfoldable pub names : Event → Option ℕ
names (begin p) = some p
names (lock t r access) = some t
names (write t r o v) = some t
names (read t r o) = some t
names (commit t k) = some t
names (abort t w) = some t
names crash = none
names (recover k) = none
names (prepare t k i) = some t
names (decide d k i) = none
names (query i) = none

unfoldable pub bearer_of : History → Option ℕ → ℕ
bearer_of h none = 0
bearer_of h (some t) = h.bearer t

-- the transaction that an event belongs to which begins none: it bears the number that the event names when it comes
unfoldable pub belongs : History → Event → ℕ
belongs h e = bearer_of h (names e)

-- from i up to n parents, a is met
unfoldable pub climbs : (ℕ → ℕ) → ℕ → ℕ → ℕ → Bool
climbs parent zero a i = same i a
climbs parent (suc n) a i = same i a || climbs parent n a (parent i)

-- i is the transaction a, or a is an ancestor of i (a parent is begun before its child, so i has fewer than i ancestors)
unfoldable pub is_within : History → ℕ → ℕ → Bool
is_within h a i = not (same a 0) && climbs h.parent i a i

unfoldable pub is_committed : Fate → Bool
is_committed (bearing t) = false
is_committed committed = true
is_committed stored = false
is_committed waiting = false
is_committed ended = false

unfoldable pub is_stored : Fate → Bool
is_stored (bearing t) = false
is_stored committed = false
is_stored stored = true
is_stored waiting = false
is_stored ended = false

unfoldable pub is_bearing : Fate → Bool
is_bearing (bearing t) = true
is_bearing committed = false
is_bearing stored = false
is_bearing waiting = false
is_bearing ended = false

-- from i, to the parent as long as a child's commit was accepted, n times at most
unfoldable pub follows : History → ℕ → ℕ → ℕ
follows h zero i = i
follows h (suc n) i = cond (is_committed (h.fate i)) (follows h n (h.parent i)) i

-- the transaction with which the writes of i stand: i itself, or the first above it that has not committed as a child, where all beneath that one have
unfoldable pub stands_with : History → ℕ → ℕ
stands_with h i = follows h i i

-- A top transaction survives as its fate says; a child survives exactly if its commit was accepted and its parent survives. Every other is lost.
unfoldable pub survives : History → ℕ → Bool
survives h i = is_stored (h.fate (stands_with h i))

-- some write of r by a transaction that `p` picks
unfoldable pub writes_to : (ℕ → Bool) → ℕ → List Write → Bool
writes_to p r [] = false
writes_to p r (w ∷ ws) = (p w.transaction && same w.rec r) || writes_to p r ws

-- the writes of r by the transactions that `p` picks, laid over a page in list order
unfoldable pub overlaid : (ℕ → Bool) → ℕ → List Write → Page → Page
overlaid p r [] page = page
overlaid p r (w ∷ ws) page = cond (p w.transaction && same w.rec r) (w.laid (overlaid p r ws page)) (overlaid p r ws page)

-- The n of document 01: how many of the records have an accepted write by transaction i itself or by a descendant that committed, as did every one between.
unfoldable pub changed_by : ℕ → History → ℕ → ℕ
changed_by records h i = count records (λ r. writes_to (λ k. same (stands_with h k) i) r h.writes)

-- those that bear a number and that `who` picks end with this fate
unfoldable pub turned : Bool → Fate → Fate → Fate
turned who new (bearing t) = cond who new (bearing t)
turned who new committed = committed
turned who new stored = stored
turned who new waiting = waiting
turned who new ended = ended

unfoldable pub ending : (ℕ → Bool) → Fate → History → History
ending who new h =
    let fate : ℕ → Fate = λ i. turned (who i) new (h.fate i) in
    record { begun = h.begun; bearer = λ t. cond (is_bearing (fate (h.bearer t))) (h.bearer t) 0; parent = h.parent; fate = fate; writes = h.writes }

unfoldable pub all_ending : History → History
all_ending h = ending (λ i. true) ended h

-- What an accepted event does to the history.
pub data Effect : Type 0 where
  nothing : Effect
  -- a transaction begins under the number first named and bears the second
  begins : ℕ → ℕ → Effect
  -- by the transaction of this number: record, offset, value
  writes : ℕ → ℕ → ℕ → ℕ → Effect
  -- the transaction of this number commits; the test says for which n a top one survives
  commits : ℕ → (ℕ → Bool) → Effect
  -- the transaction of this number ends, and its descendants
  aborts : ℕ → Effect
  -- all end
  crashes : Effect
  -- the transaction of this number is prepared, or is cut before that
  prepares : ℕ → Bool → Effect
  -- the prepared transaction is decided on
  decides : Bool → Effect

-- a commit that is so answered lets a top transaction survive that changed n records: answered 0, or 11 with a value of at least n + 1
unfoldable pub suffices : Answer → ℕ → Bool
suffices (done v) n = true
suffices (refused m) n = false
suffices (cut v) n = under n v

-- a prepare is whole; a decision for the prepared transaction is stored, if a page write was made: for another it is answered 0 with value 0
unfoldable pub is_whole_answer : Answer → Bool
is_whole_answer (done v) = true
is_whole_answer (refused m) = false
is_whole_answer (cut v) = false

unfoldable pub decided : Bool → Bool → Effect
decided d true = nothing
decided d false = decides d

-- the table: a row for each kind of event, with its answer
unfoldable pub effect : Event → Answer → Effect
effect (begin p) a = begins p (value_of a)
effect (lock t r access) a = nothing
effect (write t r o v) a = writes t r o v
effect (read t r o) a = nothing
effect (commit t k) a = commits t (suffices a)
effect (abort t w) a = aborts t
effect crash a = crashes
effect (recover k) a = nothing
effect (prepare t k i) a = prepares t (is_whole_answer a)
effect (decide d k i) a = decided d (same (value_of a) 0)
effect (query i) a = nothing

-- a bad event is an event too; it does nothing
unfoldable pub effect_of : Option Event → Answer → Effect
effect_of none a = nothing
effect_of (some e) a = effect e a

-- how transaction i ends by its commit
unfoldable pub commit_fate : ℕ → History → ℕ → (ℕ → Bool) → Fate
commit_fate records h i enough = cond (same (h.parent i) 0) (cond (enough (changed_by records h i)) stored ended) committed

-- how transaction i ends by its prepare: where it changed nothing it just commits
unfoldable pub prepare_fate : ℕ → History → ℕ → Bool → Fate
prepare_fate records h i true = cond (same (changed_by records h i) 0) stored waiting
prepare_fate records h i false = ended

-- the one that waits survives by a decision to commit, and is lost by one to abort
unfoldable pub resolved : Bool → Fate → Fate
resolved d (bearing t) = bearing t
resolved d committed = committed
resolved d stored = stored
resolved d waiting = cond d stored ended
resolved d ended = ended

unfoldable pub after : ℕ → Effect → History → History
after records nothing h = h
after records (begins p t) h =
    let new : ℕ = suc h.begun in
    record {
      begun = new;
      bearer = updated t new h.bearer;
      parent = updated new (cond (same p nobody) 0 (h.bearer p)) h.parent;
      fate = updated new (bearing t) h.fate;
      writes = h.writes;
    }
after records (writes t r o v) h = record {
  begun = h.begun;
  bearer = h.bearer;
  parent = h.parent;
  fate = h.fate;
  writes = record { transaction = h.bearer t; rec = r; laid = λ page. set page o v } ∷ h.writes;
}
after records (commits t enough) h = let i : ℕ = h.bearer t in ending (λ k. same k i) (commit_fate records h i enough) h
after records (aborts t) h = ending (is_within h (h.bearer t)) ended h
after records crashes h = all_ending h
after records (prepares t whole) h = let i : ℕ = h.bearer t in ending (λ k. same k i) (prepare_fate records h i whole) h
after records (decides d) h = record { begun = h.begun; bearer = h.bearer; parent = h.parent; fate = λ i. resolved d (h.fate i); writes = h.writes }

-- What an event with its answer adds to the history. Any answer 11 ends every transaction, after what the event itself did.
unfoldable pub told : ℕ → History → Option Event → Answer → History
told records h e (done v) = after records (effect_of e (done v)) h
told records h e (refused n) = h
told records h e (cut v) = all_ending (after records (effect_of e (cut v)) h)

-- opens the definitions of this module: for what is proved by computing
unfoldable pub open_history : Unit {0}
unfolding nothing_yet page_write page_writes starting accepted names bearer_of belongs climbs is_within is_committed is_stored is_bearing follows stands_with survives writes_to overlaid changed_by turned ending all_ending suffices is_whole_answer decided effect effect_of commit_fate prepare_fate resolved after told
open_history = tt
