-- Trials of portions: document 01's worked list with one event a portion, and rows at the edges of a portion.
use Rattle.std.specs.Prelude.{ℕ, ◌*◌, Bool, true, false, ◌&&◌, List, [], ◌∷◌, ◌++◌, eqb, length, take, replicate}
use Rattle.rules.specs.State.{down}
use Rattle.rules.specs.Portion.{Lent, Portion, portion, Chain, chain_from}
use Rattle.rules.specs.Editions.{edition1}
use Rattle.trials_rows.specs.Rows.{Line, StoreDue, Trial, plays, plays_fresh, refuses, takes, lays, ages, damages, alike, fresh_bytes, numbers1, events_of, answers_due, all_due}
use Rattle.trials.specs.Trials.{first_trials}

-- the buffers of a portion: some events, and an answer buffer of some bytes
abbrev pub lent : List ℕ → ℕ → Lent
lent events n = record { events = events; work = replicate 8192 0; answers = replicate n 0 }

-- each event a portion
abbrev pub singles : List Line → List Lent
singles [] = []
singles (l ∷ ls) = lent (events_of numbers1 (l ∷ [])) 2 ∷ singles ls

-- a chain whose states are all found sound
abbrev pub chained : List ℕ → List Lent → Chain edition1
chained store ls = chain_from edition1 (λ s. true) store ls

abbrev one_each : List ℕ → List Line → List StoreDue → Bool
one_each store ls ds = let c = chained store (singles ls) in alike c.answers (answers_due ls) && all_due edition1 numbers1 c.store ds

abbrev pub one_passes : Trial → Bool
one_passes (plays store ls ds) = one_each store ls ds
one_passes (plays_fresh ls ds) = one_each fresh_bytes ls ds
one_passes (refuses a b c d n) = true
one_passes (takes a b c d) = true
one_passes (lays a n) = true
one_passes (ages store r clock limit a) = true
one_passes (damages head) = true

abbrev pub one_by_one : List Trial → Bool
one_by_one [] = true
one_by_one (t ∷ ts) = one_passes t && one_by_one ts

-- the first trial of document 01: the worked list, to its eleventh event and in full
abbrev pub worked : List Trial
worked = take 2 first_trials

-- Portions over a fresh store, with their own answers and the answer bytes of the joined list; or a verdict on the state, the lengths of
-- store, events, working buffer and answer buffer, and the refusal due.
pub data PortionTrial : Type 0 where
  lends : List Lent → List ℕ → List ℕ → PortionTrial
  turned : Bool → ℕ → ℕ → ℕ → ℕ → ℕ → PortionTrial

abbrev pub portion_trial_passes : PortionTrial → Bool
portion_trial_passes (lends ls results answers) = let c = chained fresh_bytes ls in alike c.results results && alike c.answers answers && eqb (2 * length c.joined) (length answers)
portion_trial_passes (turned sound a b c d n) =
    let p : Portion edition1 = portion edition1 sound (down edition1.medium.fresh) (replicate a 7) (replicate b 7) (replicate c 7) (replicate d 7) in
    eqb p.answer n && alike p.store (replicate a 7) && alike p.answers (replicate d 7)

abbrev pub portion_trials_pass : List PortionTrial → Bool
portion_trials_pass [] = true
portion_trials_pass (t ∷ ts) = portion_trial_passes t && portion_trials_pass ts

-- recover whole; begin a top transaction
abbrev recover_word : List ℕ
recover_word = 0x80 ∷ 0x00 ∷ 0x3F ∷ 0x00 ∷ []

abbrev begins : List ℕ
begins = 0x1F ∷ 0x80 ∷ 0x00 ∷ 0x00 ∷ []

abbrev pub portion_trials : List PortionTrial
portion_trials =
    -- the next portion plays on what the last one left
    lends (lent recover_word 2 ∷ lent (begins ++ begins) 4 ∷ lent begins 2 ∷ []) (0 ∷ 0 ∷ 0 ∷ []) (0 ∷ 0 ∷ 0 ∷ 0 ∷ 0 ∷ 1 ∷ 0 ∷ 2 ∷ []) ∷
    -- a refused portion adds no event, nor does an empty one
    lends (lent recover_word 2 ∷ lent (begins ++ (0x1F ∷ [])) 4 ∷ lent begins 1 ∷ lent [] 0 ∷ lent begins 2 ∷ []) (0 ∷ 20 ∷ 21 ∷ 0 ∷ 0 ∷ []) (0 ∷ 0 ∷ 0 ∷ 0 ∷ []) ∷
    -- in the order 22, 24, 20, 21, 25, with nothing touched
    turned false 1055 5 8191 0 22 ∷ turned false 1056 5 8191 0 24 ∷ turned false 1056 5 8192 0 20 ∷ turned false 1056 8 8192 3 21 ∷
    turned false 1056 8 8192 4 25 ∷ turned false 1056 0 8192 0 25 ∷
    []
