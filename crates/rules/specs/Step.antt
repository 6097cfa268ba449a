-- One event: the refusals in the order in which they are tried, what an event does that is not refused, and the answer.
use Rattle.std.specs.Prelude.{ℕ, suc, Bool, true, false, not, cond, ◌&&◌, ◌||◌, List, [], ◌∷◌, get_or, set}
use Rattle.std.proofs.Math.Option.{Option, none, some}
use Rattle.laws.specs.Tests.{same}
use Rattle.laws.specs.Counting.{all, any, lowest}
use Rattle.laws.specs.Functions.{updated}
use Rattle.rules.specs.Geometry.{records, transactions, nobody}
use Rattle.rules.specs.Store.{Page}
use Rattle.rules.specs.Event.{Event, Access, begin, lock, write, read, commit, abort, crash, recover, prepare, decide, query}
use Rattle.rules.specs.State.{Modes, free, active, parent_in, depth_in, line_of, mem, State, live, holds, holds_writing, with_bearers, with_held_locks, with_retained_locks, with_versions, down}
use Rattle.rules.specs.Locks.{grantable, granted, inherited, reported, discarded}
use Rattle.rules.specs.Versions.{is_some, nearest, with_version, handed_up, dropped}
use Rattle.rules.specs.Commit.{Cut}
use Rattle.rules.specs.Form.{Form}

-- done, with a value; refused, with a number; cut by a crash after some page writes
pub data Answer : Type 0 where
  done : ℕ → Answer
  refused : ℕ → Answer
  cut : ℕ → Answer

-- the answer's two bytes
unfoldable pub number_of : Answer → ℕ
number_of (done v) = 0
number_of (refused n) = n
number_of (cut v) = 11

unfoldable pub value_of : Answer → ℕ
value_of (done v) = v
value_of (refused n) = 0
value_of (cut v) = v

pub record Outcome (S : Type 0) : Type 0 where
  pub state : State S
  pub answer : Answer

-- the first refusal whose test holds
unfoldable pub first_of : List (ℕ × Bool) → Option ℕ
first_of [] = none
first_of (x ∷ xs) = cond x.1 (some x.0) (first_of xs)

-- some identity is prepared; this one is
unfoldable pub is_busy : Option ℕ → Bool
is_busy none = false
is_busy (some i) = true

unfoldable pub is_for : ℕ → Option ℕ → Bool
is_for i none = false
is_for i (some j) = same j i

-- a top transaction stands alone on its line
unfoldable pub is_top : List ℕ → Bool
is_top [] = true
is_top (a ∷ []) = true
is_top (a ∷ y ∷ l) = false

module _ {S : Type 0} where
  -- t has a live child
  unfoldable pub has_child : State S → ℕ → Bool
  has_child s t = any transactions (λ u. live s u && same (parent_in (s.bearer u)) t)

  -- the lowest free number
  unfoldable pub first_free : State S → ℕ
  first_free s = lowest transactions (λ t. not (live s t))

  -- the number t is given to a transaction under p
  unfoldable pub begun : State S → ℕ → ℕ → State S
  begun s t p = with_bearers s (updated t (active p (suc (depth_in (s.bearer p)))) s.bearer)

  -- t holds the lock of r as it asked
  unfoldable pub locked : State S → ℕ → ℕ → Access → State S
  locked s t r a = with_held_locks s (granted a t r s.held)

  -- t's version of r is this page
  unfoldable pub wrote : State S → ℕ → ℕ → Page → State S
  wrote s t r page = with_versions s (with_version t r page s.version)

  -- those that `dead` picks end over this store: their numbers are free, their locks discarded, their versions gone
  unfoldable pub ended : State S → (ℕ → Bool) → S → State S
  ended s dead store = record {
    up = s.up;
    bearer = λ j. cond (dead j) free (s.bearer j);
    held = discarded dead s.held;
    retained = discarded dead s.retained;
    version = dropped dead s.version;
    store = store;
  }

  -- y has what its child x leaves it
  unfoldable pub passed : State S → ℕ → ℕ → State S
  passed s x y = with_versions (with_retained_locks s (inherited x y s.held s.retained)) (handed_up x y s.version)

  -- the state s with other retained locks
  unfoldable pub retaining : State S → Modes → State S
  retaining s retained = with_retained_locks s retained

  -- x, with this line, aborts, with a report or without: it ends with all beneath it
  unfoldable pub aborted : State S → ℕ → Bool → List ℕ → State S
  aborted s x w line = ended (retaining s (reported x w line s.held s.retained)) (λ j. mem x (line_of s.bearer j)) s.store

  -- up over this store
  unfoldable pub raised : State S → S → State S
  raised s store = record { up = true; bearer = s.bearer; held = s.held; retained = s.retained; version = s.version; store = store }

  -- page writes have been made: a crash came, or the state is this one; the value is the page writes made
  unfoldable pub concluded : State S → Cut S → Bool → Outcome S
  concluded whole c true = record { state = down c.store; answer = cut c.made }
  concluded whole c false = record { state = whole; answer = done c.made }

  unfoldable pub finished : State S → ℕ → Outcome S
  finished s v = record { state = s; answer = done v }

module _ (f : Form) where
  abbrev pub StateOf : Type 0
  StateOf = State f.medium.Store

  abbrev pub OutcomeOf : Type 0
  OutcomeOf = Outcome f.medium.Store

  -- what t would read of r
  unfoldable pub visible : StateOf → ℕ → ℕ → Page
  visible s t r = nearest s.version (f.medium.home s.store r) r (line_of s.bearer t)

  -- t has a version of some record
  unfoldable pub changes : StateOf → ℕ → Bool
  changes s t = any (records f.geometry) (λ r. is_some (s.version t r))

  -- a transaction is prepared
  unfoldable pub busy : StateOf → Bool
  busy s = is_busy (f.medium.prepared s.store)

  -- the prepared transaction has changed r, which stays locked
  unfoldable pub reserved : StateOf → ℕ → Bool
  reserved s r = is_some (f.medium.pending s.store r)

  -- What kinds of events share: 2 while down; of a transaction, 5 where it isn't live; at a record, 14 while it has a live child.
  abbrev while_up : StateOf → List (ℕ × Bool) → List (ℕ × Bool)
  while_up s rest = (2, not s.up) ∷ rest

  abbrev of_live : StateOf → ℕ → List (ℕ × Bool) → List (ℕ × Bool)
  of_live s t rest = while_up s ((5, not (live s t)) ∷ rest)

  abbrev at_record : StateOf → ℕ → List (ℕ × Bool) → List (ℕ × Bool)
  at_record s t rest = of_live s t ((14, has_child s t) ∷ rest)

  -- The refusals of each kind of event, in the order in which they are tried. (A bad event is refused before these, with 1.)
  unfoldable pub refusals : StateOf → Event → List (ℕ × Bool)
  refusals s (begin p) =
      while_up s ((5, not (same p nobody || live s p)) ∷ (6, same (depth_in (s.bearer p)) f.geometry.depth_limit) ∷ (7, all transactions (live s)) ∷ [])
  refusals s (lock t r a) = at_record s t ((8, reserved s r || not (grantable a s.held s.retained (line_of s.bearer t) t r)) ∷ [])
  refusals s (write t r o v) = at_record s t ((9, not (holds_writing s r t)) ∷ [])
  refusals s (read t r o) = at_record s t ((9, not (holds s r t)) ∷ [])
  refusals s (commit t k) = of_live s t ((10, has_child s t) ∷ (13, is_top (line_of s.bearer t) && (changes s t && busy s)) ∷ [])
  refusals s (abort t w) = of_live s t []
  refusals s crash = []
  refusals s (recover k) = (3, s.up) ∷ (4, f.medium.damaged s.store) ∷ []
  refusals s (prepare t k i) = of_live s t ((10, has_child s t) ∷ (13, changes s t && busy s) ∷ (27, not (is_top (line_of s.bearer t))) ∷ [])
  refusals s (decide d k i) = while_up s []
  refusals s (query i) = while_up s []

  unfoldable pub refusal : StateOf → Event → Option ℕ
  refusal s e = first_of (refusals s e)

  -- a top transaction commits, or is prepared, over what its page writes left
  unfoldable pub commits_top : StateOf → ℕ → Cut f.medium.Store → OutcomeOf
  commits_top s x c = concluded (ended s (λ j. same j x) c.store) c c.crashed

  -- a child commits into its parent
  unfoldable pub commits_child : StateOf → ℕ → ℕ → OutcomeOf
  commits_child s x y = finished (ended (passed s x y) (λ j. same j x) s.store) 0

  -- by the line of x: a top transaction stands alone on it
  unfoldable pub commits : StateOf → ℕ → ℕ → List ℕ → OutcomeOf
  commits s x k [] = commits_top s x (f.medium.commit s.store (s.version x) k)
  commits s x k (a ∷ []) = commits_top s x (f.medium.commit s.store (s.version x) k)
  commits s x k (a ∷ y ∷ l) = commits_child s x y

  -- up over what page writes left: a recovery, a decision
  unfoldable pub recovers : StateOf → Cut f.medium.Store → OutcomeOf
  recovers s c = concluded (raised s c.store) c c.crashed

  -- a decision on an identity: for the one that is prepared, or for another, where it does nothing
  unfoldable pub decides : StateOf → Bool → ℕ → Bool → OutcomeOf
  decides s d k true = recovers s (f.medium.decide s.store d k)
  decides s d k false = finished s 0

  -- what an event does that is not refused
  unfoldable pub act : StateOf → Event → OutcomeOf
  act s (begin p) = finished (begun s (first_free s) p) (first_free s)
  act s (lock t r a) = finished (locked s t r a) 0
  act s (write t r o v) = finished (wrote s t r (set (visible s t r) o v)) 0
  act s (read t r o) = finished s (get_or (visible s t r) o 0)
  act s (commit t k) = commits s t k (line_of s.bearer t)
  act s (abort t w) = finished (aborted s t w (line_of s.bearer t)) 0
  act s crash = finished (down s.store) 0
  act s (recover k) = recovers s (f.medium.recover s.store k)
  act s (prepare t k i) = commits_top s t (f.medium.prepare s.store (s.version t) i k)
  act s (decide d k i) = decides s d k (is_for i (f.medium.prepared s.store))
  act s (query i) = finished s (cond (is_for i (f.medium.prepared s.store)) 1 0)

  unfoldable pub outcome_by : StateOf → Event → Option ℕ → OutcomeOf
  outcome_by s e none = act s e
  outcome_by s e (some n) = record { state = s; answer = refused n }

  -- one event, or a bad one
  unfoldable pub step : StateOf → Option Event → OutcomeOf
  step s none = record { state = s; answer = refused 1 }
  step s (some e) = outcome_by s e (refusal s e)

-- opens the definitions of this module: for what is proved by computing
unfoldable pub open_step : Unit {0}
unfolding number_of value_of first_of is_busy is_for is_top has_child first_free begun locked wrote ended passed retaining aborted raised concluded finished visible changes busy reserved refusals refusal commits_top commits_child commits recovers decides act outcome_by step
open_step = tt
