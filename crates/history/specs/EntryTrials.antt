-- Trials of the entries: whose an event is, for each kind of event, and the top transaction above that one.
use Rattle.std.specs.Prelude.{ℕ, Bool, true, false, ◌&&◌, List, [], ◌∷◌, ◌++◌}
use Rattle.std.proofs.Math.Option.{some}
use Rattle.laws.specs.Bytes.{same_list}
use Rattle.rules.specs.Geometry.{nobody}
use Rattle.rules.specs.Event.{to_read, begin, lock, write, read, commit, abort, crash, recover, prepare, decide, query}
use Rattle.rules.specs.Step.{done, refused, cut}
use Rattle.history.specs.History.{History}
use Rattle.history.specs.Entries.{Entry, entry}
use Rattle.history.specs.Trials.{AnsweredEvent, told_all, ok}

-- a row: an event with its answer; the transaction that it belongs to and the top one above, or nothing
abbrev pub Owned : Type 0
Owned = AnsweredEvent × List ℕ

abbrev pub entry_owners : List Entry → List ℕ
entry_owners [] = []
entry_owners (x ∷ xs) = x.transaction ∷ x.top ∷ entry_owners xs

abbrev pub owned_passes : History → Owned → Bool
owned_passes h x = same_list (entry_owners (entry 16 h (some x.0.0) x.0.1)) x.1

abbrev passes_all : History → List Owned → Bool
passes_all h [] = true
passes_all h (x ∷ xs) = owned_passes h x && passes_all h xs

-- rows that all come after these events
pub record EntryTrial : Type 0 where
  pub lines : List AnsweredEvent
  pub owned : List Owned

abbrev pub entry_trials_pass : History → List EntryTrial → Bool
entry_trials_pass start [] = true
entry_trials_pass start (t ∷ ts) = passes_all (told_all start t.lines) t.owned && entry_trials_pass start ts

-- 1 and 2 are top transactions, with numbers 0 and 1; 3 is a child of 1, with number 2, and 4 a child of 3, with number 3; 5 was a child of 2
abbrev living : List AnsweredEvent
living =
    (recover 63, ok) ∷ (begin nobody, ok) ∷ (begin nobody, done 1) ∷ (begin 0, done 2) ∷ (begin 2, done 3) ∷ (begin 1, done 4) ∷ (abort 4 false, ok) ∷ []

abbrev pub entry_trials : List EntryTrial
entry_trials =
    record {
      lines = living;
      owned =
          -- a begin is the new transaction's own
          ((begin nobody, done 4), 6 ∷ 6 ∷ []) ∷ ((begin 3, done 4), 6 ∷ 1 ∷ []) ∷ ((begin 1, done 4), 6 ∷ 2 ∷ []) ∷
          ((lock 3 5 to_read, ok), 4 ∷ 1 ∷ []) ∷ ((write 3 5 0 7, ok), 4 ∷ 1 ∷ []) ∷ ((read 2 5 0, done 7), 3 ∷ 1 ∷ []) ∷ ((read 1 5 0, done 7), 2 ∷ 2 ∷ []) ∷
          ((commit 3 63, ok), 4 ∷ 1 ∷ []) ∷ ((commit 1 63, ok), 2 ∷ 2 ∷ []) ∷ ((commit 1 0, cut 0), 2 ∷ 2 ∷ []) ∷
          ((abort 2 false, ok), 3 ∷ 1 ∷ []) ∷ ((abort 3 true, ok), 4 ∷ 1 ∷ []) ∷ ((prepare 1 63 7, ok), 2 ∷ 2 ∷ []) ∷ ((prepare 1 0 7, cut 0), 2 ∷ 2 ∷ []) ∷
          -- nobody's
          ((crash, ok), []) ∷ ((recover 63, ok), []) ∷ ((recover 0, cut 0), []) ∷ ((query 7, ok), []) ∷ ((decide true 63 7, ok), []) ∷
          -- refused
          ((begin nobody, refused 7), []) ∷ ((lock 3 5 to_read, refused 8), []) ∷ ((read 3 5 0, refused 9), []) ∷ ((commit 0 63, refused 10), []) ∷ [];
    } ∷
    -- number 3 is given again, to a child of 2
    record {
      lines = living ++ (commit 3 63, ok) ∷ (begin 1, done 3) ∷ [];
      owned = ((lock 3 5 to_read, ok), 6 ∷ 2 ∷ []) ∷ ((commit 3 63, ok), 6 ∷ 2 ∷ []) ∷ [];
    } ∷
    -- the last one begun is prepared
    record {
      lines = (recover 63, ok) ∷ (begin nobody, ok) ∷ (begin nobody, done 1) ∷ (write 1 5 0 9, ok) ∷ (prepare 1 63 7, done 2) ∷ [];
      owned = ((decide true 63 7, done 3), 2 ∷ 2 ∷ []) ∷ [];
    } ∷
    -- 2 is prepared: a decision is its own if it is stored
    record {
      lines = living ++ (write 1 5 0 9, ok) ∷ (prepare 1 63 7, done 2) ∷ [];
      owned =
          ((decide true 63 7, done 3), 2 ∷ 2 ∷ []) ∷ ((decide false 63 7, done 1), 2 ∷ 2 ∷ []) ∷ ((decide true 1 7, cut 1), 2 ∷ 2 ∷ []) ∷
          ((decide true 0 7, cut 0), []) ∷ ((decide true 63 8, ok), []) ∷ ((decide true 63 7, refused 2), []) ∷ ((query 7, done 1), []) ∷ [];
    } ∷
    []

-- where one is prepared in the start store, which is 0
abbrev pub entry_start_trials : List EntryTrial
entry_start_trials =
    record {
      lines = living;
      owned = ((decide true 63 7, done 3), 0 ∷ 0 ∷ []) ∷ ((decide false 63 7, done 1), 0 ∷ 0 ∷ []) ∷ ((decide true 0 7, cut 0), []) ∷ ((read 1 5 0, done 7), 2 ∷ 2 ∷ []) ∷ [];
    } ∷
    -- once it is decided on, another can be prepared
    record {
      lines = living ++ (decide false 63 7, done 1) ∷ (write 1 5 0 9, ok) ∷ (prepare 1 63 7, done 2) ∷ [];
      owned = ((decide true 63 7, done 3), 2 ∷ 2 ∷ []) ∷ [];
    } ∷
    []
