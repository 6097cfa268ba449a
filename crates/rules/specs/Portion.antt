-- Events in portions (document 02, L1): the state is lent and changed, one list of events after the other. A portion is refused, and nothing
-- changes; or its events are played on the state that the last portion left.
use Rattle.std.specs.Prelude.{ℕ, ◌*◌, ◌%◌, ◌≤◌, ◌≡◌, Bool, true, not, cond, ◌&&◌, List, [], ◌∷◌, ◌++◌, length, take, drop}
use Rattle.std.proofs.Math.Option.{Option, none, some}
use Rattle.laws.specs.Tests.{same}
use Rattle.rules.specs.Geometry.{work_size, word_size, longest}
use Rattle.rules.specs.State.{down}
use Rattle.rules.specs.Form.{Form}
use Rattle.rules.specs.Step.{StateOf, first_of}
use Rattle.rules.specs.Run.{words, answer_bytes, play, events_in, run_refusals, run}
use Rattle.rules.specs.Sound.{Sound}

-- the buffers lent for one portion, beside the state and the store
pub record Lent : Type 0 where
  pub events : List ℕ
  pub work : List ℕ
  pub answers : List ℕ

-- the event bytes of all portions
unfoldable pub all_events : List Lent → List ℕ
all_events [] = []
all_events (l ∷ ls) = l.events ++ all_events ls

unfoldable pub all_zero : List ℕ → Bool
all_zero [] = true
all_zero (n ∷ ns) = same n 0 && all_zero ns

module _ (f : Form) where
  -- the lengths of the buffers are as a run asks
  pub record Fits (l : Lent) : Type 0 where
    pub slots : length l.work ≡ work_size f.geometry
    pub whole : length l.events % word_size f.geometry ≡ 0
    pub short : length l.events ≤ longest * word_size f.geometry
    pub room : 2 * events_in f l.events ≤ length l.answers

  abbrev pub AllFit : List Lent → Type 0
  AllFit [] = Unit {0}
  AllFit (l ∷ ls) = Fits l × AllFit ls

  -- the event words of a list of bytes
  unfoldable pub words_in : List ℕ → List ℕ
  words_in events = words f.geometry (events_in f events) events

  -- what a portion leaves: its answer, the state, the store and the answer buffer
  pub record Portion : Type 0 where
    pub answer : ℕ
    pub state : StateOf f
    pub store : List ℕ
    pub answers : List ℕ

  -- The caller lends bytes that may or may not encode a state. `sound` is the verdict on them, and it is right both ways: true only if they encode a sound
  -- state, and true whenever they do.
  pub record VerdictRight (content : StateOf f → Type 0) (sound : Bool) : Type 0 where
    pub only_sound : sound ≡ true → (s : StateOf f) × content s × Sound f s
    pub every_sound : (s : StateOf f) → content s → Sound f s → sound ≡ true

  -- A run's refusals, and then 25. `sound` is the verdict on the lent state.
  unfoldable pub portion_refusals : Bool → List ℕ → List ℕ → List ℕ → List ℕ → List (ℕ × Bool)
  portion_refusals sound store events work answers = run_refusals f store events work answers ++ ((25, not sound) ∷ [])

  -- all events, from the state that is lent; answer bytes past the last event stay
  unfoldable pub portion_all : StateOf f → List ℕ → List ℕ → Portion
  portion_all s events answers =
      let p = play f s (words_in events) in
      record {
        answer = 0;
        state = p.state;
        store = f.medium.to_bytes p.state.store;
        answers = answer_bytes p.answers ++ drop (2 * events_in f events) answers;
      }

  unfoldable pub portion_by : StateOf f → List ℕ → List ℕ → List ℕ → Option ℕ → Portion
  portion_by s store events answers none = portion_all s events answers
  portion_by s store events answers (some n) = record { answer = n; state = s; store = store; answers = answers }

  -- A portion on the state s, whose store is read from these bytes.
  unfoldable pub portion : Bool → StateOf f → List ℕ → List ℕ → List ℕ → List ℕ → Portion
  portion sound s store events work answers = portion_by s store events answers (first_of (portion_refusals sound store events work answers))

  -- what portions one after the other leave
  pub record Chain : Type 0 where
    -- the portions' own answers
    pub results : List ℕ
    -- the joined list, and its answer bytes: a refused portion adds none
    pub joined : List ℕ
    pub answers : List ℕ
    -- what the last portion left
    pub state : StateOf f
    pub store : List ℕ

  -- what a portion adds to the joined list and to its answer bytes
  unfoldable pub added : Portion → Lent → List ℕ
  added p l = cond (same p.answer 0) (words_in l.events) []

  unfoldable pub added_answers : Portion → Lent → List ℕ
  added_answers p l = cond (same p.answer 0) (take (2 * events_in f l.events) p.answers) []

  -- Each portion gets the state and the store that the last one left; `sound` is what is found of the states that portions left.
  module _ (sound : StateOf f → Bool) where
    unfoldable pub next : StateOf f → List ℕ → Lent → Portion
    next s store l = portion (sound s) s store l.events l.work l.answers

    unfoldable pub chain : StateOf f → List ℕ → List Lent → Chain
    chain s store [] = record { results = []; joined = []; answers = []; state = s; store = store }
    chain s store (l ∷ ls) =
        let p = next s store l in
        let rest = chain p.state p.store ls in
        record {
          results = p.answer ∷ rest.results;
          joined = added p l ++ rest.joined;
          answers = added_answers p l ++ rest.answers;
          state = rest.state;
          store = rest.store;
        }

    -- from a start state with these store bytes
    unfoldable pub chain_from : List ℕ → List Lent → Chain
    chain_from store ls = chain (down (f.medium.from_bytes store)) store ls

    -- a sound state is found sound
    abbrev pub Takes : Type 0
    Takes = (s : StateOf f) → Sound f s → sound s ≡ true

    -- FROM A START STATE, CUTTING A LIST ANYWHERE gives what the whole run gives: no portion is refused, and they leave its answers, its store
    -- and its state.
    pub record AsWhole (store : List ℕ) (ls : List Lent) (work answers : List ℕ) : Type 0 where
      pub played : all_zero (chain_from store ls).results ≡ true
      pub same_answers : (chain_from store ls).answers ≡ take (2 * events_in f (all_events ls)) (run f store (all_events ls) work answers).answers
      pub same_store : (chain_from store ls).store ≡ (run f store (all_events ls) work answers).store
      pub same_state : (chain_from store ls).state ≡ (portion true (down (f.medium.from_bytes store)) store (all_events ls) work answers).state

-- opens the definitions of this module: for what is proved by computing
unfoldable pub open_portion : Unit {0}
unfolding all_events all_zero words_in portion_refusals portion_all portion_by portion added added_answers next chain chain_from
open_portion = tt
