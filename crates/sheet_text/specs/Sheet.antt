-- Job sheets as text (document 02, L10): a sheet is a top transaction with its steps. Its text, the list of events that it becomes, which sheets are
-- taken, and the place at which another text goes wrong.
use Rattle.std.specs.Prelude.{◌≡◌, Bool, true, false, cond, ◌&&◌, List, [], ◌∷◌, ◌++◌, ℕ, suc, ◌+◌, ◌/◌, ◌%◌, ◌≤◌, ◌<◌, length, take}
use Rattle.laws.specs.Tests.{under}
use Rattle.laws.specs.Bytes.{bytes}
use Rattle.rules.specs.Geometry.{nobody, longest}
use Rattle.rules.specs.Event.{Event, begin, lock, write, read, commit, abort, to_write, encode}
use Rattle.rules.specs.Editions.{geometry1}

-- Steps in order, each after those before it. An inner transaction has steps of its own and then commits (true) or aborts.
pub data Steps : Type 0 where
  none : Steps
  locking : Steps → ℕ → Steps
  -- a record, an offset, a value
  writing : Steps → ℕ → ℕ → ℕ → Steps
  -- a record, an offset
  reading : Steps → ℕ → ℕ → Steps
  inner : Steps → Steps → Bool → Steps

-- a top transaction
pub record Sheet : Type 0 where
  pub steps : Steps
  pub commits : Bool

-- the digit of a number below 16: 0 to 9, A to F
unfoldable pub digit : ℕ → ℕ
digit n = cond (under n 10) (48 + n) (55 + n)

-- two digits
unfoldable pub digits : ℕ → List ℕ
digits n = digit (n / 16) ∷ digit (n % 16) ∷ []

-- `}` commits, `!` aborts
unfoldable pub closing : Bool → ℕ
closing true = 125
closing false = 33

-- the text of steps: L, W, R with their digits, an inner transaction in braces
unfoldable pub steps_text : Steps → List ℕ
steps_text none = []
steps_text (locking s r) = steps_text s ++ (76 ∷ digit r ∷ [])
steps_text (writing s r o v) = steps_text s ++ (87 ∷ digit r ∷ (digits o ++ digits v))
steps_text (reading s r o) = steps_text s ++ (82 ∷ digit r ∷ digits o)
steps_text (inner s i c) = steps_text s ++ (123 ∷ (steps_text i ++ (closing c ∷ [])))

unfoldable pub text : Sheet → List ℕ
text h = 123 ∷ (steps_text h.steps ++ (closing h.commits ∷ []))

-- records are below 16, offsets below 32, values below 256
unfoldable pub proper : Steps → Bool
proper none = true
proper (locking s r) = proper s && under r 16
proper (writing s r o v) = proper s && (under r 16 && (under o 32 && under v 256))
proper (reading s r o) = proper s && (under r 16 && under o 32)
proper (inner s i c) = proper s && proper i

-- how deep transactions are nested within the steps
unfoldable pub greater : ℕ → ℕ → ℕ
greater a b = cond (under a b) b a

unfoldable pub steps_depth : Steps → ℕ
steps_depth none = 0
steps_depth (locking s r) = steps_depth s
steps_depth (writing s r o v) = steps_depth s
steps_depth (reading s r o) = steps_depth s
steps_depth (inner s i c) = greater (steps_depth s) (suc (steps_depth i))

-- the transaction ends: with count 63, or without a report
unfoldable pub end_event : ℕ → Bool → Event
end_event t true = commit t 63
end_event t false = abort t false

-- the events of the steps of transaction t; the numbers are depth minus 1
unfoldable pub step_events : ℕ → Steps → List Event
step_events t none = []
step_events t (locking s r) = step_events t s ++ (lock t r to_write ∷ [])
step_events t (writing s r o v) = step_events t s ++ (write t r o v ∷ [])
step_events t (reading s r o) = step_events t s ++ (read t r o ∷ [])
step_events t (inner s i c) = step_events t s ++ (begin t ∷ (step_events (suc t) i ++ (end_event (suc t) c ∷ [])))

unfoldable pub events : Sheet → List Event
events h = begin nobody ∷ (step_events 0 h.steps ++ (end_event 0 h.commits ∷ []))

-- the list of event words
unfoldable pub event_bytes : List Event → List ℕ
event_bytes [] = []
event_bytes (e ∷ l) = bytes 4 (encode geometry1 e) ++ event_bytes l

unfoldable pub sheet_list : Sheet → List ℕ
sheet_list h = event_bytes (events h)

-- A sheet that is taken: digits as they should be, at most 16 deep, at most 4,096 events.
pub record Good (h : Sheet) : Type 0 where
  pub fits : proper h.steps ≡ true
  pub shallow : suc (steps_depth h.steps) ≤ geometry1.depth_limit
  pub short : length (events h) ≤ longest

-- s is the text of h, which is taken
pub record Taken (s : List ℕ) (h : Sheet) : Type 0 where
  pub good : Good h
  pub reads : text h ≡ s

-- some taken sheet's text begins with s
pub record Follows (s : List ℕ) : Type 0 where
  pub rest : List ℕ
  pub sheet : Sheet
  pub taken : Taken (s ++ rest) sheet

-- The place of the first byte after which no taken sheet could follow; the length, where the text merely ends too soon.
pub record Fault (s : List ℕ) (p : ℕ) : Type 0 where
  pub within : p ≤ length s
  pub before : Follows (take p s)
  pub after : p < length s → Follows (take (suc p) s) → ⊥
  pub untaken : (h : Sheet) → Taken s h → ⊥

-- opens the definitions of this module: for what is proved by computing
unfoldable pub open_sheet : Unit {0}
unfolding digit digits closing steps_text text proper greater steps_depth end_event step_events events event_bytes sheet_list
open_sheet = tt
