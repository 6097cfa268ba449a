-- What is answered where the list of a sheet is played, as a portion on a state that is up with no live transaction: each begin gives the number that
-- the list goes on with, and the transactions end as the sheet says.
use Rattle.std.specs.Prelude.{◌≡◌, Bool, true, cond, List, [], ◌∷◌, ◌++◌, ℕ, zero, suc, ◌*◌, length, drop}
use Rattle.laws.specs.Tests.{same}
use Rattle.rules.specs.Geometry.{nobody}
use Rattle.rules.specs.Event.{Event, begin, lock, write, read, commit, abort, crash, recover, prepare, decide, query}
use Rattle.rules.specs.Step.{Answer, done, refused, StateOf, busy}
use Rattle.rules.specs.Run.{answer_bytes}
use Rattle.rules.specs.Portion.{portion}
use Rattle.rules.specs.Editions.{edition1}
use Rattle.sheet_text.specs.Sheet.{Sheet, events, sheet_list}

-- how the top transaction's commit is answered: done, with all its page writes, never cut; or with 13, only where another transaction is prepared
pub data TopCommit (beside : Bool) (a : Answer) : Type 0 where
  whole : (made : ℕ) → a ≡ done made → TopCommit beside a
  meets : beside ≡ true → a ≡ refused 13 → TopCommit beside a

unfoldable pub Commits : Bool → ℕ → Answer → Type 0
Commits beside zero a = TopCommit beside a
Commits beside (suc t) a = a ≡ done 0

-- What is due of an event's answer; `beside` says whether a transaction is prepared in the store. A begin is answered with 0 for the top transaction, for
-- an inner one with its parent's number plus 1: depth minus 1. (A lock, write or read may be refused. A sheet has no other events.)
unfoldable pub InStep : Bool → Event → Answer → Type 0
InStep beside (begin p) a = a ≡ done (cond (same p nobody) 0 (suc p))
InStep beside (commit t k) a = Commits beside t a
InStep beside (abort t w) a = a ≡ done 0
InStep beside (lock t r m) a = Unit {0}
InStep beside (write t r o v) a = Unit {0}
InStep beside (read t r o) a = Unit {0}
InStep beside crash a = ⊥
InStep beside (recover k) a = ⊥
InStep beside (prepare t k i) a = ⊥
InStep beside (decide d k i) a = ⊥
InStep beside (query i) a = ⊥

-- each event has an answer, as is due
unfoldable pub AllInStep : Bool → List Event → List Answer → Type 0
AllInStep beside [] [] = Unit {0}
AllInStep beside [] (a ∷ l) = ⊥
AllInStep beside (e ∷ es) [] = ⊥
AllInStep beside (e ∷ es) (a ∷ l) = InStep beside e a × AllInStep beside es l

-- A SHEET'S LIST, PLAYED AS A PORTION on the state s, with these bytes of its store and these buffers: it isn't refused, and its answers are as is due.
pub record InStepThroughout (h : Sheet) (s : StateOf edition1) (store work answers : List ℕ) : Type 0 where
  pub played : (portion edition1 true s store (sheet_list h) work answers).answer ≡ 0
  pub given : List Answer
  pub told : (portion edition1 true s store (sheet_list h) work answers).answers ≡ answer_bytes given ++ drop (2 * length (events h)) answers
  pub in_step : AllInStep (busy edition1 s) (events h) given
