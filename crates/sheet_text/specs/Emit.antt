-- The events that a text gives, byte by byte.
use Rattle.std.specs.Prelude.{cond, List, [], ◌∷◌, ◌++◌, ℕ, zero, suc, ◌+◌, ◌*◌, ◌-◌, ◌%◌, get_or}
use Rattle.laws.specs.Tests.{same, under}
use Rattle.rules.specs.Geometry.{nobody, page_size}
use Rattle.rules.specs.Event.{Event, begin, lock, write, read, to_write}
use Rattle.sheet_text.specs.Sheet.{end_event}
use Rattle.sheet_text.specs.Scan.{Scan, start, between, within, ended, dead, Letter, opening, closing, unknown, plain, letter_of, scan_next}

-- The number that a digit stands for; of what is no digit some number below 16. So every event has a word, and the code need not look at digits twice.
unfoldable pub value : ℕ → ℕ
value b = cond (under b 58) (b % 16) ((b - 55) % 16)

unfoldable pub pair_of : ℕ → ℕ → ℕ
pair_of a b = 16 * value a + value b

unfoldable pub offset_of : ℕ → ℕ → ℕ
offset_of a b = pair_of a b % page_size

-- the event of a whole lock, write or read, its letter first
unfoldable pub token_of : ℕ → List ℕ → Event
token_of t p =
    cond (same (get_or p 0 0) 76) (lock t (value (get_or p 1 0)) to_write)
    (cond (same (get_or p 0 0) 87) (write t (value (get_or p 1 0)) (offset_of (get_or p 2 0) (get_or p 3 0)) (pair_of (get_or p 4 0) (get_or p 5 0)))
    (read t (value (get_or p 1 0)) (offset_of (get_or p 2 0) (get_or p 3 0))))

-- how far the reading has come, the bytes of a step that is not whole yet, and the events so far
pub record Reading : Type 0 where
  pub scan : Scan
  pub part : List ℕ
  pub events : List Event

unfoldable pub given_by : Letter → ℕ → ℕ → List Event
given_by opening t b = begin t ∷ []
given_by closing t b = end_event t (same b 125) ∷ []
given_by unknown t b = []
given_by (plain n low) t b = []

-- what a byte gives; at level l stands transaction 15 - l
unfoldable pub given : Scan → List ℕ → ℕ → List Event
given start part b = begin nobody ∷ []
given (between l r) part b = given_by (letter_of b) (15 - l) b
given (within zero low l r) part b = token_of (15 - l) (part ++ (b ∷ [])) ∷ []
given (within (suc k) low l r) part b = []
given (ended r) part b = []
given dead part b = []

unfoldable pub part_by : Letter → ℕ → List ℕ
part_by opening b = []
part_by closing b = []
part_by unknown b = []
part_by (plain n low) b = b ∷ []

unfoldable pub part_next : Scan → List ℕ → ℕ → List ℕ
part_next start part b = []
part_next (between l r) part b = part_by (letter_of b) b
part_next (within zero low l r) part b = []
part_next (within (suc k) low l r) part b = part ++ (b ∷ [])
part_next (ended r) part b = []
part_next dead part b = []

unfoldable pub emit : Reading → ℕ → Reading
emit q b = record { scan = scan_next q.scan b; part = part_next q.scan q.part b; events = q.events ++ given q.scan q.part b }

unfoldable pub emit_all : Reading → List ℕ → Reading
emit_all q [] = q
emit_all q (b ∷ l) = emit_all (emit q b) l

abbrev pub unread : Reading
unread = record { scan = start; part = []; events = [] }

-- after the first i bytes of s
unfoldable pub emits : List ℕ → ℕ → Reading
emits s zero = unread
emits s (suc i) = emit (emits s i) (get_or s i 0)

unfoldable pub open_emit : Unit {0}
unfolding value pair_of offset_of token_of given_by given part_by part_next emit emit_all emits
open_emit = tt
