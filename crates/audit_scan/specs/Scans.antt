-- The accepted locks and writes among the first events of a list, by the transactions that own them.
use Rattle.std.specs.Prelude.{ℕ, zero, suc, ◌+◌, ◌*◌, ◌<◌, ◌≤◌, ◌≡◌, Bool, true, false, cond, ◌&&◌, List, [], ◌∷◌, length, get_or, set, take, drop}
use Rattle.std.proofs.Math.Option.{Option, none, some}
use Rattle.laws.specs.Tests.{same}
use Rattle.laws.specs.Bytes.{number}
use Rattle.rules.specs.Store.{Page}
use Rattle.rules.specs.Event.{Event, begin, lock, write, read, commit, abort, crash, recover, prepare, decide, query, decode}
use Rattle.rules.specs.State.{Mode, is_lock, is_writing}
use Rattle.rules.specs.Locks.{mode_for}
use Rattle.rules.specs.Editions.{geometry1}
use Rattle.history.specs.History.{Write}
use Rattle.audit_rules.specs.Plain.{Grant}
use Rattle.leaf_event.specs.Flags.{flags}
use Rattle.audit_link.specs.Links.{Earlier, Bounded}
use Rattle.audit_scan.specs.declared.Modes.{Modes}
use Rattle.audit_scan.specs.declared.Modes.TheVariants.{Any, Writing}
use Rattle.audit_scan.specs.declared.Listed.{Listed}
use Rattle.audit_scan.specs.declared.View.{View}

-- event k of a list can be read
abbrev pub Readable : Listed → ℕ → Type 0
Readable list k = (list.table.now ≡ flags) × (k < 4096) × (4 * k + 4 ≤ length list.events.now)

-- all events before the one that comes can be read
abbrev pub AllReadable : Listed → Type 0
AllReadable list = (list.table.now ≡ flags) × (list.n ≤ 4096) × (4 * list.n ≤ length list.events.now)

-- the tables that a transaction looks at are in order
abbrev pub Ordered : View → Type 0
Ordered v = Earlier v.links.now.parent × Bounded v.owner.now × (v.me < 4097)

-- any mode, not write mode alone
unfoldable pub is_any : Modes → Bool
is_any Any = true
is_any Writing = false

-- event k of a list of bytes
unfoldable pub event_in_bytes : List ℕ → ℕ → Option Event
event_in_bytes events k = decode geometry1 (number (take 4 (drop (4 * k) events)))

-- any mode, or write mode
unfoldable pub mode_test : Bool → Mode → Bool
mode_test true m = is_lock m
mode_test false m = is_writing m

-- the event is a lock of r in a mode that passes the test
unfoldable pub locks_at : Option Event → ℕ → (Mode → Bool) → Bool
locks_at none r test = false
locks_at (some (begin p)) r test = false
locks_at (some (lock t q a)) r test = same q r && test (mode_for a)
locks_at (some (write t q o v)) r test = false
locks_at (some (read t q o)) r test = false
locks_at (some (commit t k)) r test = false
locks_at (some (abort t w)) r test = false
locks_at (some crash) r test = false
locks_at (some (recover k)) r test = false
locks_at (some (prepare u c j)) r test = false
locks_at (some (decide d c j)) r test = false
locks_at (some (query j)) r test = false

-- the event is a write of r
unfoldable pub writes_at : Option Event → ℕ → Bool
writes_at none r = false
writes_at (some (begin p)) r = false
writes_at (some (lock t q a)) r = false
writes_at (some (write t q o v)) r = same q r
writes_at (some (read t q o)) r = false
writes_at (some (commit t k)) r = false
writes_at (some (abort t w)) r = false
writes_at (some crash) r = false
writes_at (some (recover k)) r = false
writes_at (some (prepare u c j)) r = false
writes_at (some (decide d c j)) r = false
writes_at (some (query j)) r = false

-- the byte that a write sets
unfoldable pub byte_at : Option Event → Page → Page
byte_at none page = page
byte_at (some (begin p)) page = page
byte_at (some (lock t q a)) page = page
byte_at (some (write t q o v)) page = set page o v
byte_at (some (read t q o)) page = page
byte_at (some (commit t k)) page = page
byte_at (some (abort t w)) page = page
byte_at (some crash) page = page
byte_at (some (recover k)) page = page
byte_at (some (prepare u c j)) page = page
byte_at (some (decide d c j)) page = page
byte_at (some (query j)) page = page

-- an event of transaction i, none where i is 0, is added to the accepted locks, to the accepted writes
unfoldable pub with_grant : ℕ → Option Event → List Grant → List Grant
with_grant i none gs = gs
with_grant i (some (begin p)) gs = gs
with_grant i (some (lock t r a)) gs = cond (same i 0) gs (record { transaction = i; rec = r; access = a } ∷ gs)
with_grant i (some (write t r o v)) gs = gs
with_grant i (some (read t r o)) gs = gs
with_grant i (some (commit t k)) gs = gs
with_grant i (some (abort t w)) gs = gs
with_grant i (some crash) gs = gs
with_grant i (some (recover k)) gs = gs
with_grant i (some (prepare u c j)) gs = gs
with_grant i (some (decide d c j)) gs = gs
with_grant i (some (query j)) gs = gs

unfoldable pub with_write : ℕ → Option Event → List Write → List Write
with_write i none ws = ws
with_write i (some (begin p)) ws = ws
with_write i (some (lock t r a)) ws = ws
with_write i (some (write t r o v)) ws = cond (same i 0) ws (record { transaction = i; rec = r; laid = λ page. set page o v } ∷ ws)
with_write i (some (read t r o)) ws = ws
with_write i (some (commit t k)) ws = ws
with_write i (some (abort t w)) ws = ws
with_write i (some crash) ws = ws
with_write i (some (recover k)) ws = ws
with_write i (some (prepare u c j)) ws = ws
with_write i (some (decide d c j)) ws = ws
with_write i (some (query j)) ws = ws

-- of the first n events, the newest first
unfoldable pub grants_to : List ℕ → List ℕ → ℕ → List Grant
grants_to owner events zero = []
grants_to owner events (suc n) = with_grant (get_or owner n 0) (event_in_bytes events n) (grants_to owner events n)

unfoldable pub writes_up_to : List ℕ → List ℕ → ℕ → List Write
writes_up_to owner events zero = []
writes_up_to owner events (suc n) = with_write (get_or owner n 0) (event_in_bytes events n) (writes_up_to owner events n)
