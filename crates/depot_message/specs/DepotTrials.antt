-- Rows for the depot's turn and the gateway's vote, by the sentences of document 02, L9, in numbers.
use Rattle.std.specs.Prelude.{ℕ, Bool, true, ◌&&◌, List, [], ◌∷◌, eqb}
use Rattle.depot_message.specs.Codes.{depot_left}
use Rattle.depot_message.specs.Votes.{vote_on}

-- a state and a message; the answer, the state and the reply that they leave, where the reply was 9
abbrev pub Turning : Type 0
Turning = ℕ × ℕ × ℕ × ℕ × ℕ

abbrev pub all_turn : List Turning → Bool
all_turn [] = true
all_turn (x ∷ xs) = let l = depot_left x.0 x.1 9 in eqb l.answer x.2 && eqb l.state x.3 && eqb l.reply x.4 && all_turn xs

abbrev pub turn_trials : List Turning
turn_trials =
    -- Start (0) leads from any but asked (1) to asked and replies prepare (0).
    (0, 0, 0, 1, 0) ∷ (2, 0, 0, 1, 0) ∷ (3, 0, 0, 1, 0) ∷ (1, 0, 27, 1, 9) ∷
    -- From asked, yes (1) leads to committed (2), no (2) and give-up (3) to aborted (3); the decision is replied: commit (1), abort (2).
    (1, 1, 0, 2, 1) ∷ (1, 2, 0, 3, 2) ∷ (1, 3, 0, 3, 2) ∷
    -- It is replied to each later yes or no.
    (2, 1, 0, 2, 1) ∷ (2, 2, 0, 2, 1) ∷ (3, 1, 0, 3, 2) ∷ (3, 2, 0, 3, 2) ∷
    -- Any other pair is 27 without effect, also one of no state or no message.
    (0, 1, 27, 0, 9) ∷ (0, 2, 27, 0, 9) ∷ (0, 3, 27, 0, 9) ∷ (2, 3, 27, 2, 9) ∷ (3, 3, 27, 3, 9) ∷ (4, 0, 27, 4, 9) ∷ (255, 1, 27, 255, 9) ∷ (1, 4, 27, 1, 9) ∷ (0, 255, 27, 0, 9) ∷ []

-- a kind of event and its answer's two bytes; the vote: 1 yes, 2 no, 0 none
abbrev pub Voting : Type 0
Voting = ℕ × ℕ × ℕ × ℕ

abbrev pub all_vote : List Voting → Bool
all_vote [] = true
all_vote (x ∷ xs) = eqb (vote_on x.0 x.1 x.2) x.3 && all_vote xs

abbrev pub vote_trials : List Voting
vote_trials =
    -- Yes if a prepare (9) answers 0, with any value, or a query's (11) value is 1; else no.
    (9, 0, 0, 1) ∷ (9, 0, 3, 1) ∷ (9, 11, 2, 2) ∷ (9, 1, 0, 2) ∷ (9, 2, 0, 2) ∷ (9, 5, 0, 2) ∷ (9, 10, 0, 2) ∷ (9, 13, 0, 2) ∷ (9, 27, 0, 2) ∷
    (11, 0, 1, 1) ∷ (11, 0, 0, 2) ∷ (11, 2, 0, 2) ∷ (11, 1, 0, 2) ∷ (11, 2, 1, 2) ∷ (11, 0, 2, 2) ∷
    -- No other event has a vote.
    (10, 0, 1, 0) ∷ (5, 0, 4, 0) ∷ (8, 0, 0, 0) ∷ (7, 0, 0, 0) ∷ (0, 0, 0, 0) ∷ (12, 0, 1, 0) ∷ (255, 0, 1, 0) ∷ []
