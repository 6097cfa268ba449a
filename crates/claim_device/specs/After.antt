-- What the operation answers that says the page writes of an event after a list: the list is played from the start, as a run plays it, and then the page
-- write with a number, from 0, of what this event makes on the state that the list leaves, if nothing cuts it. The event itself isn't played.
use Rattle.std.specs.Prelude.{◌≡◌, false, List, ℕ, length}
use Rattle.std.proofs.Math.Option.{Option, none, some}
use Rattle.laws.specs.Bytes.{number}
use Rattle.rules.specs.Geometry.{Geometry}
use Rattle.rules.specs.Event.{decode}
use Rattle.rules.specs.State.{down}
use Rattle.rules.specs.Form.{atomic_pages, atomic}
use Rattle.rules.specs.Step.{StateOf, first_of}
use Rattle.rules.specs.Run.{words, play, events_in, run_refusals, run_all}
use Rattle.claim_device.specs.Asked.{said_of, ask_lengths}

-- the operation's answer, and what it leaves in the store, in the answer buffer and in the buffer lent for a page write
pub record AskedAfter : Type 0 where
  pub answer : ℕ
  pub store : List ℕ
  pub answers : List ℕ
  pub write : List ℕ

-- the refusals of one question, and where there is none those of the next
unfoldable pub or_else : Option ℕ → Option ℕ → Option ℕ
or_else none next = next
or_else (some n) next = some n

module _ (g : Geometry) where
  -- the state that a list leaves, from the start with this store
  unfoldable pub state_after_bytes : List ℕ → List ℕ → StateOf (atomic g)
  state_after_bytes store events = (play (atomic g) (down ((atomic_pages g).from_bytes store)) (words g (events_in (atomic g) events) events)).state

  -- the refusals of a run with the list, and then those of a question on the event, by the lengths of the buffers
  unfoldable pub refused_after : List ℕ → List ℕ → List ℕ → List ℕ → List ℕ → List ℕ → Option ℕ
  refused_after store events work answers event write = or_else (first_of (run_refusals (atomic g) store events work answers)) (first_of (ask_lengths false g store event work write))

  unfoldable pub asked_after_by : List ℕ → List ℕ → List ℕ → List ℕ → ℕ → List ℕ → Option ℕ → AskedAfter
  asked_after_by store events answers event index write none =
      let ran = run_all (atomic g) store events answers in
      let said = said_of false g (state_after_bytes store events) (decode g (number event)) index write in
      record { answer = said.answer; store = ran.store; answers = ran.answers; write = said.write }
  asked_after_by store events answers event index write (some n) = record { answer = n; store = store; answers = answers; write = write }

  unfoldable pub asked_after : List ℕ → List ℕ → List ℕ → List ℕ → List ℕ → ℕ → List ℕ → AskedAfter
  asked_after store events work answers event index write = asked_after_by store events answers event index write (refused_after store events work answers event write)

  -- A question with these buffers gave this answer and left these. A refused one leaves the working buffer as well. What a list that is played leaves in it
  -- is the one thing left open; it keeps its length.
  pub record ToldAfter (store events work answers event : List ℕ) (index : ℕ) (write : List ℕ) (answer : ℕ) (store' work' answers' write' : List ℕ) : Type 0 where
    pub answered : answer ≡ (asked_after store events work answers event index write).answer
    pub stored : store' ≡ (asked_after store events work answers event index write).store
    pub told_of : answers' ≡ (asked_after store events work answers event index write).answers
    pub written : write' ≡ (asked_after store events work answers event index write).write
    pub untouched : (n : ℕ) → refused_after store events work answers event write ≡ some n → work' ≡ work
    pub long : length work' ≡ length work

-- opens the definitions of this module: for what is proved by computing
unfoldable pub open_after : Unit {0}
unfolding or_else state_after_bytes refused_after asked_after_by asked_after
open_after = tt
