-- A whole run on bytes: refused before the first event, or played to the last. Laying down a fresh store.
use Rattle.std.specs.Prelude.{ℕ, zero, suc, ◌*◌, ◌/◌, ◌%◌, Bool, not, cond, ◌||◌, List, [], ◌∷◌, ◌++◌, length, take, drop}
use Rattle.std.proofs.Math.Option.{Option, none, some}
use Rattle.laws.specs.Tests.{same, under}
use Rattle.laws.specs.Bytes.{number}
use Rattle.rules.specs.Geometry.{Geometry, work_size, word_size, longest}
use Rattle.rules.specs.Event.{decode}
use Rattle.rules.specs.State.{down}
use Rattle.rules.specs.Form.{Form}
use Rattle.rules.specs.Step.{Answer, number_of, value_of, StateOf, first_of, step}

-- the first n event words of a list of bytes
unfoldable pub words : Geometry → ℕ → List ℕ → List ℕ
words g zero bs = []
words g (suc n) bs = number (take (word_size g) bs) ∷ words g n (drop (word_size g) bs)

-- two bytes an answer
unfoldable pub answer_bytes : List Answer → List ℕ
answer_bytes [] = []
answer_bytes (a ∷ rest) = number_of a ∷ value_of a ∷ answer_bytes rest

-- what a run leaves: its answer, the store and the answer buffer
pub record Result : Type 0 where
  pub answer : ℕ
  pub store : List ℕ
  pub answers : List ℕ

-- what laying down a fresh store leaves
pub record Laid : Type 0 where
  pub answer : ℕ
  pub store : List ℕ

module _ (f : Form) where
  pub record Played : Type 0 where
    pub state : StateOf f
    pub answers : List Answer

  -- the events in order, an answer each
  unfoldable pub play : StateOf f → List ℕ → Played
  play s [] = record { state = s; answers = [] }
  play s (w ∷ ws) =
      let o = step f s (decode f.geometry w) in
      let rest = play o.state ws in
      record { state = rest.state; answers = o.answer ∷ rest.answers }

  -- the events that a list of bytes has room for
  unfoldable pub events_in : List ℕ → ℕ
  events_in events = length events / word_size f.geometry

  -- The refusals before the first event, in the order in which they are tried.
  unfoldable pub run_refusals : List ℕ → List ℕ → List ℕ → List ℕ → List (ℕ × Bool)
  run_refusals store events work answers =
      (22, not (same (length store) f.medium.size)) ∷
      (24, not (same (length work) (work_size f.geometry))) ∷
      (20, not (same (length events % word_size f.geometry) 0) || under (longest * word_size f.geometry) (length events)) ∷
      (21, under (length answers) (2 * events_in events)) ∷
      []

  -- a run from a start that is down; answer bytes past the last event stay
  unfoldable pub run_all : List ℕ → List ℕ → List ℕ → Result
  run_all store events answers =
      let p = play (down (f.medium.from_bytes store)) (words f.geometry (events_in events) events) in
      record {
        answer = 0;
        store = f.medium.to_bytes p.state.store;
        answers = answer_bytes p.answers ++ drop (2 * events_in events) answers;
      }

  unfoldable pub run_by : List ℕ → List ℕ → List ℕ → Option ℕ → Result
  run_by store events answers none = run_all store events answers
  run_by store events answers (some n) = record { answer = n; store = store; answers = answers }

  unfoldable pub run : List ℕ → List ℕ → List ℕ → List ℕ → Result
  run store events work answers = run_by store events answers (first_of (run_refusals store events work answers))

  unfoldable pub lay_fresh : List ℕ → Laid
  lay_fresh store =
      cond (same (length store) f.medium.size)
      (record { answer = 0; store = f.medium.to_bytes f.medium.fresh })
      (record { answer = 22; store = store })

-- opens the definitions of this module: for what is proved by computing
unfoldable pub open_run : Unit {0}
unfolding words answer_bytes play events_in run_refusals run_all run_by run lay_fresh
open_run = tt
