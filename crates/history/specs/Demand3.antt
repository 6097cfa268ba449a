-- Demand 3 of document 01: its two clauses, and the claim of whole runs, in bytes. The history is told from the event bytes and the answer bytes; of the start
-- store it takes only what is prepared there.
use Rattle.std.specs.Prelude.{ℕ, ◌≡◌, Bool, true, false, cond, List, [], ◌∷◌, get_or, drop}
use Rattle.std.proofs.Math.Option.{some}
use Rattle.laws.specs.Tests.{same}
use Rattle.rules.specs.Geometry.{Geometry, records}
use Rattle.rules.specs.Store.{Page}
use Rattle.rules.specs.Event.{write, read, decode}
use Rattle.rules.specs.Form.{Form}
use Rattle.rules.specs.Step.{Answer, done, refused, cut}
use Rattle.rules.specs.Run.{words, events_in, run}
use Rattle.history.specs.History.{History, starting, accepted, belongs, survives, overlaid, told}

-- an event word with the two bytes of its answer
pub record Row : Type 0 where
  pub word : ℕ
  pub number : ℕ
  pub value : ℕ

-- an answer from its bytes: number 0 is done, 11 is cut, any other is a refusal
unfoldable pub answer_of : Row → Answer
answer_of x = cond (same x.number 0) (done x.value) (cond (same x.number 11) (cut x.value) (refused x.number))

-- each word with the next two of the answer bytes
unfoldable pub rows : List ℕ → List ℕ → List Row
rows [] answers = []
rows (w ∷ ws) answers = record { word = w; number = get_or answers 0 0; value = get_or answers 1 0 } ∷ rows ws (drop 2 answers)

module _ (g : Geometry) where
  unfoldable pub heard : History → Row → History
  heard h x = told (records g) h (decode g x.word) (answer_of x)

  -- what the rows tell, in list order
  unfoldable pub history : History → List Row → History
  history h [] = h
  history h (x ∷ xs) = history (heard h x) xs

  -- two lists of as many rows: at each place the two rows stand in a relation, which may ask for the first run's history before that place
  abbrev pub Along : (History → Row → Row → Type 0) → History → List Row → List Row → Type 0
  Along R h [] [] = Unit {0}
  Along R h [] (y ∷ ys) = ⊥
  Along R h (x ∷ xs) [] = ⊥
  Along R h (x ∷ xs) (y ∷ ys) = R h x y × Along R (heard h x) xs ys

  -- the same event, but for the value in an accepted write of a transaction that `final` says is lost
  pub data SameEvent (final : ℕ → Bool) (h : History) (x y : Row) : Type 0 where
    same_word : y.word ≡ x.word → SameEvent final h x y
    other_value : (t r o v w : ℕ) → decode g x.word ≡ some (write t r o v) → decode g y.word ≡ some (write t r o w)
        → accepted (answer_of x) ≡ true → final (belongs h (write t r o v)) ≡ false → SameEvent final h x y

  -- the same two answer bytes, but for the value byte where a lost transaction's read is accepted
  pub data SameAnswer (final : ℕ → Bool) (h : History) (x y : Row) : Type 0 where
    same_bytes : y.number ≡ x.number → y.value ≡ x.value → SameAnswer final h x y
    other_byte : (t r o : ℕ) → decode g x.word ≡ some (read t r o)
        → accepted (answer_of x) ≡ true → final (belongs h (read t r o)) ≡ false → y.number ≡ x.number → SameAnswer final h x y

-- THE FIRST CLAUSE of demand 3: the settled records at the end are those at the start with the surviving writes of a history laid over them in list order.
abbrev pub SurvivingOverlay : (ℕ → Page) → History → (ℕ → Page) → Type 0
SurvivingOverlay start h end = (r : ℕ) → end r ≡ overlaid (survives h) r h.writes (start r)

-- THE SECOND CLAUSE: of two lists of rows after one start, and the settled records at the end of each. The second list has as many events, each the same but
-- for the value in accepted writes of transactions that are lost in the first list: each event has the same two answer bytes, but the value byte may differ
-- where a lost transaction's read is accepted, and the settled records are the same.
abbrev pub IndependentOfLostWrites : Geometry → History → List Row → (ℕ → Page) → List Row → (ℕ → Page) → Type 0
IndependentOfLostWrites g h xs end ys end' =
    let final = survives (history g h xs) in
    Along g (SameEvent g final) h xs ys → Along g (SameAnswer g final) h xs ys × ((r : ℕ) → end' r ≡ end r)

module _ (f : Form) where
  -- the settled value of a record in a store's bytes
  unfoldable pub settled_in : List ℕ → ℕ → Page
  settled_in store r = f.medium.settled (f.medium.from_bytes store) r

  -- the history before the first event
  unfoldable pub start_of : List ℕ → History
  start_of store = starting (records f.geometry) (f.medium.pending (f.medium.from_bytes store))

  -- a run that is played: not refused before the first event
  unfoldable pub Plays : List ℕ → List ℕ → List ℕ → List ℕ → Type 0
  Plays store events work answers = (run f store events work answers).answer ≡ 0

  -- the events of a run with their answers
  unfoldable pub rows_of : List ℕ → List ℕ → List ℕ → List ℕ → List Row
  rows_of store events work answers = rows (words f.geometry (events_in f events) events) (run f store events work answers).answers

  -- what a run tells
  unfoldable pub history_of : List ℕ → List ℕ → List ℕ → List ℕ → History
  history_of store events work answers = history f.geometry (start_of store) (rows_of store events work answers)

  -- DEMAND 3, of a run with these buffers.
  pub record Demand3 (store events work answers : List ℕ) : Type 0 where
    pub surviving_writes : SurvivingOverlay (settled_in store) (history_of store events work answers) (settled_in (run f store events work answers).store)
    -- a second run over the same store bytes, with any other buffers
    pub two_runs : (events' work' answers' : List ℕ) → Plays store events' work' answers'
        → IndependentOfLostWrites f.geometry (start_of store)
        (rows_of store events work answers) (settled_in (run f store events work answers).store)
        (rows_of store events' work' answers') (settled_in (run f store events' work' answers').store)

  -- the claim: of every run that is played
  unfoldable pub Demand3Holds : Type 0
  Demand3Holds = (store events work answers : List ℕ) → Plays store events work answers → Demand3 store events work answers

-- opens the definitions of this module: for what is proved by computing
unfoldable pub open_demand : Unit {0}
unfolding answer_of rows heard history settled_in start_of Plays rows_of history_of
open_demand = tt
