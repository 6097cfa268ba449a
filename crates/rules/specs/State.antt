-- The state between two events: who bears which transaction number, what each has of each lock, the versions, the store.
use Rattle.std.specs.Prelude.{ℕ, zero, suc, Bool, true, false, ◌||◌, List, [], ◌∷◌}
use Rattle.std.proofs.Math.Option.{Option, none}
use Rattle.laws.specs.Tests.{same}
use Rattle.rules.specs.Store.{Page}

-- A transaction number is free, or borne by a transaction with its parent's number (or nobody) and its depth.
pub data Bearer : Type 0 where
  free : Bearer
  active : ℕ → ℕ → Bearer

abbrev pub Bearers : Type 0
Bearers = ℕ → Bearer

unfoldable pub is_active : Bearer → Bool
is_active free = false
is_active (active p d) = true

unfoldable pub parent_in : Bearer → ℕ
parent_in free = 0
parent_in (active p d) = p

unfoldable pub depth_in : Bearer → ℕ
depth_in free = 0
depth_in (active p d) = d

-- t and the parents above it, n in all
unfoldable pub line_from : Bearers → ℕ → ℕ → List ℕ
line_from b zero t = []
line_from b (suc n) t = t ∷ line_from b n (parent_in (b t))

-- The line of a transaction: itself and its ancestors, nearest first; [] where the number is free. (An ancestor is never oneself.)
unfoldable pub line_of : Bearers → ℕ → List ℕ
line_of b t = line_from b (depth_in (b t)) t

unfoldable pub mem : ℕ → List ℕ → Bool
mem a [] = false
mem a (x ∷ l) = same a x || mem a l

-- What a transaction has of a lock: nothing, the lock in read mode, or in write mode.
pub data Mode : Type 0 where
  nothing reading writing : Mode

unfoldable pub is_lock : Mode → Bool
is_lock nothing = false
is_lock reading = true
is_lock writing = true

unfoldable pub is_writing : Mode → Bool
is_writing nothing = false
is_writing reading = false
is_writing writing = true

unfoldable pub stronger : Mode → Mode → Mode
stronger nothing m = m
stronger reading nothing = reading
stronger reading reading = reading
stronger reading writing = writing
stronger writing m = writing

-- by record and transaction
abbrev pub Modes : Type 0
Modes = ℕ → ℕ → Mode

-- by transaction and record
abbrev pub Versions : Type 0
Versions = ℕ → ℕ → Option Page

-- over a stable store of type S
pub record State (S : Type 0) : Type 0 where
  pub up : Bool
  pub bearer : Bearers
  pub held : Modes
  pub retained : Modes
  pub version : Versions
  pub store : S

module _ {S : Type 0} where
  unfoldable pub live : State S → ℕ → Bool
  live s t = is_active (s.bearer t)

  -- t holds, retains the lock of record r, in any mode; in write mode
  unfoldable pub holds : State S → ℕ → ℕ → Bool
  holds s r t = is_lock (s.held r t)

  unfoldable pub retains : State S → ℕ → ℕ → Bool
  retains s r t = is_lock (s.retained r t)

  unfoldable pub holds_writing : State S → ℕ → ℕ → Bool
  holds_writing s r t = is_writing (s.held r t)

  unfoldable pub retains_writing : State S → ℕ → ℕ → Bool
  retains_writing s r t = is_writing (s.retained r t)

  -- s with other bearers, held locks, retained locks, versions: what isn't named stays
  abbrev pub with_bearers : State S → Bearers → State S
  with_bearers s bearer = record { up = s.up; bearer = bearer; held = s.held; retained = s.retained; version = s.version; store = s.store }

  abbrev pub with_held_locks : State S → Modes → State S
  with_held_locks s held = record { up = s.up; bearer = s.bearer; held = held; retained = s.retained; version = s.version; store = s.store }

  abbrev pub with_retained_locks : State S → Modes → State S
  with_retained_locks s retained = record { up = s.up; bearer = s.bearer; held = s.held; retained = retained; version = s.version; store = s.store }

  abbrev pub with_versions : State S → Versions → State S
  with_versions s version = record { up = s.up; bearer = s.bearer; held = s.held; retained = s.retained; version = version; store = s.store }

  -- down, with no transaction, lock or version
  unfoldable pub down : S → State S
  down store = record { up = false; bearer = λ t. free; held = λ r t. nothing; retained = λ r t. nothing; version = λ t r. none; store = store }

-- opens the definitions of this module: for what is proved by computing
unfoldable pub open_state : Unit {0}
unfolding is_active parent_in depth_in line_from line_of mem is_lock is_writing stronger live holds retains holds_writing retains_writing down
open_state = tt
