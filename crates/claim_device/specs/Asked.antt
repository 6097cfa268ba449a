-- What the operation answers that says the writes of an event before it is played: the write with a number, from 0, of what this event makes on this state if
-- nothing cuts it. These are page writes, and where pages tear their copy writes. Nothing is played.
use Rattle.std.specs.Prelude.{ℕ, suc, Bool, true, false, not, List, [], ◌∷◌, ◌++◌, map, length}
use Rattle.std.proofs.Math.Option.{Option, none, some}
use Rattle.laws.specs.Tests.{same}
use Rattle.laws.specs.Bytes.{number}
use Rattle.rules.specs.Geometry.{Geometry, page_size, work_size, word_size}
use Rattle.rules.specs.Event.{Event, decode}
use Rattle.rules.specs.Commit.{PageWrite, sets}
use Rattle.rules.specs.Editions.{medium_of, form_in}
use Rattle.rules.specs.Step.{StateOf, first_of}
use Rattle.claim_device.specs.Plan.{write_at, plan_of}
use Rattle.claim_device.specs.CopyWrites.{CopyWrite, first, second, copies_of}

-- the operation's answer, and what it leaves in the buffer lent for a write
pub record Asked : Type 0 where
  pub answer : ℕ
  pub write : List ℕ

-- 0, with the bytes of the write; or 12, no such write, and the buffer stays
unfoldable pub write_told : Option (List ℕ) → List ℕ → Asked
write_told none write = record { answer = 12; write = write }
write_told (some bytes) write = record { answer = 0; write = bytes }

-- the bytes of a page write: the page's number and the page; of a copy write the number of the copy between them, 0 for the first and 1 for the second
unfoldable pub page_bytes : PageWrite → List ℕ
page_bytes (sets n p) = n ∷ p

unfoldable pub copy_write_bytes : CopyWrite → List ℕ
copy_write_bytes (first n p) = n ∷ 0 ∷ p
copy_write_bytes (second n p) = n ∷ 1 ∷ p

-- the writes of a plan on its medium, each as bytes, and how many bytes each has
unfoldable pub spelled_in : Bool → List PageWrite → List (List ℕ)
spelled_in false ws = map page_bytes ws
spelled_in true ws = map copy_write_bytes (copies_of ws)

abbrev pub write_size : Bool → ℕ
write_size false = suc page_size
write_size true = suc (suc page_size)

module _ (tears : Bool) (g : Geometry) where
  -- the plan of an event, or of a bad one, which writes nothing
  unfoldable pub plan_for : StateOf (form_in tears g) → Option Event → List PageWrite
  plan_for s none = []
  plan_for s (some e) = plan_of tears g s e

  -- what is said of the write number `index` of an event on a state
  unfoldable pub said_of : StateOf (form_in tears g) → Option Event → ℕ → List ℕ → Asked
  said_of s e index write = write_told (write_at index (spelled_in tears (plan_for s e))) write

  -- The refusals in the order in which they are tried: by the lengths of the buffers, and then 25. `sound` says what is found of what is lent as a
  -- state.
  unfoldable pub ask_lengths : List ℕ → List ℕ → List ℕ → List ℕ → List (ℕ × Bool)
  ask_lengths store event work write =
      (22, not (same (length store) (medium_of tears g).size)) ∷
      (24, not (same (length work) (work_size g))) ∷
      (20, not (same (length event) (word_size g))) ∷
      (21, not (same (length write) (write_size tears))) ∷
      []

  unfoldable pub ask_refusals : Bool → List ℕ → List ℕ → List ℕ → List ℕ → List (ℕ × Bool)
  ask_refusals sound store event work write = ask_lengths store event work write ++ ((25, not sound) ∷ [])

  unfoldable pub asked_by : StateOf (form_in tears g) → List ℕ → ℕ → List ℕ → Option ℕ → Asked
  asked_by s event index write none = said_of s (decode g (number event)) index write
  asked_by s event index write (some n) = record { answer = n; write = write }

  unfoldable pub asked : Bool → StateOf (form_in tears g) → List ℕ → List ℕ → List ℕ → ℕ → List ℕ → Asked
  asked sound s store event work index write = asked_by s event index write (first_of (ask_refusals sound store event work write))

-- opens the definitions of this module: for what is proved by computing
unfoldable pub open_asked : Unit {0}
unfolding write_told page_bytes copy_write_bytes spelled_in plan_for said_of ask_lengths ask_refusals asked_by asked
open_asked = tt
