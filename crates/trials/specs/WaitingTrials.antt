-- Trials of transactions that wait for each other (document 02, L8): who points to whom after some events, what is a cycle, and what is refused.
use Rattle.std.specs.Prelude.{ℕ, suc, Bool, true, false, not, ◌&&◌, ◌||◌, List, [], ◌∷◌, ◌++◌, replicate}
use Rattle.std.proofs.Math.Option.{Option, none, some}
use Rattle.laws.specs.Tests.{same}
use Rattle.laws.specs.Counting.{those}
use Rattle.laws.specs.Bytes.{same_list}
use Rattle.rules.specs.Event.{begin, commit, crash, recover}
use Rattle.rules.specs.State.{down}
use Rattle.rules.specs.Step.{first_of}
use Rattle.rules.specs.Run.{answer_bytes, Played, play}
use Rattle.rules.specs.Waiting.{WaitingRow, Pointings, points_to, is_cycle, report_refusals}
use Rattle.rules.specs.Editions.{edition1}
use Rattle.trials_rows.specs.Rows.{Line, numbers1, words_of, answers_due, on, top, locks, shares}

-- On a fresh store, events with the answers due, and waiting rows. Then: of each transaction from 0, to whom it points, and nobody else points; a
-- list that is a cycle, or is none; or the refusal due, with a state that is taken for sound or for unsound.
pub data WaitingTrial : Type 0 where
  points : List Line → List WaitingRow → List (List ℕ) → WaitingTrial
  turns : List Line → List WaitingRow → List ℕ → Bool → WaitingTrial
  refuses : List Line → Bool → List WaitingRow → Option ℕ → WaitingTrial

-- transactions beyond these play no part in a trial
abbrev few : ℕ
few = 6

abbrev points_from : Pointings → ℕ → List (List ℕ) → Bool
points_from p t [] = true
points_from p t (us ∷ uss) = same_list (those few (p t)) us && points_from p (suc t) uss

abbrev same_bool : Bool → Bool → Bool
same_bool b c = (b && c) || (not b && not c)

abbrev same_option : Option ℕ → Option ℕ → Bool
same_option none none = true
same_option none (some n) = false
same_option (some m) none = false
same_option (some m) (some n) = same m n

abbrev played_on : List Line → Played edition1
played_on ls = play edition1 (down edition1.medium.fresh) (words_of numbers1 ls)

-- the events are answered so
abbrev answers_match : List Line → Played edition1 → Bool
answers_match ls p = same_list (answer_bytes p.answers) (answers_due ls)

abbrev pub waiting_trial_passes : WaitingTrial → Bool
waiting_trial_passes (points ls rows due) = answers_match ls (played_on ls) && points_from (points_to (played_on ls).state rows) 0 (due ++ replicate 6 [])
waiting_trial_passes (turns ls rows l b) = same_bool (is_cycle (points_to (played_on ls).state rows) l) b
waiting_trial_passes (refuses ls sound rows n) = answers_match ls (played_on ls) && same_option (first_of (report_refusals edition1 (played_on ls).state sound rows)) n

abbrev pub waiting_trials_pass : List WaitingTrial → Bool
waiting_trials_pass [] = true
waiting_trials_pass (t ∷ ts) = waiting_trial_passes t && waiting_trials_pass ts

-- t waits to write record r, to read it
abbrev writes : ℕ → ℕ → WaitingRow
writes t r = record { transaction = t; rec = r; mode = 0 }

abbrev reads : ℕ → ℕ → WaitingRow
reads t r = record { transaction = t; rec = r; mode = 1 }

-- any row
abbrev waits : ℕ → ℕ → ℕ → WaitingRow
waits t r m = record { transaction = t; rec = r; mode = m }

abbrev up : List Line
up = on (recover 63) 0x0000 ∷ []

-- 0 holds record 3, and 1 begins beneath it
abbrev parent_holds : List Line
parent_holds = up ++ (on top 0x0000 ∷ on (locks 0 3) 0x0000 ∷ on (begin 0) 0x0001 ∷ [])

-- two top transactions, 0 with record 3 and 1 with record 4
abbrev two_tops : List Line
two_tops = up ++ (on top 0x0000 ∷ on (locks 0 3) 0x0000 ∷ on top 0x0001 ∷ on (locks 1 4) 0x0000 ∷ [])

-- two top transactions that read record 3
abbrev two_readers : List Line
two_readers = up ++ (on top 0x0000 ∷ on (shares 0 3) 0x0000 ∷ on top 0x0001 ∷ on (shares 1 3) 0x0000 ∷ [])

-- source document 000 (6.2.3): 1, which holds record 1, and 2 are children of 0; 3 holds record 2
abbrev moss_example : List Line
moss_example = up ++ (on top 0x0000 ∷ on (begin 0) 0x0001 ∷ on (locks 1 1) 0x0000 ∷ on (begin 0) 0x0002 ∷ on top 0x0003 ∷ on (locks 3 2) 0x0000 ∷ [])

-- 0 above 1 above 2, which holds record 1; 3 is another child of 0, and 4 stands at the top
abbrev deep_holder : List Line
deep_holder = up ++ (on top 0x0000 ∷ on (begin 0) 0x0001 ∷ on (begin 1) 0x0002 ∷ on (locks 2 1) 0x0000 ∷ on (begin 0) 0x0003 ∷ on top 0x0004 ∷ [])

-- 0 retains record 1 in write mode and record 2 in read mode, from a child that committed; it has a child 1 again, and 2 stands at the top
abbrev retainer : List Line
retainer = up ++ (on top 0x0000 ∷ on (begin 0) 0x0001 ∷ on (locks 1 1) 0x0000 ∷ on (shares 1 2) 0x0000 ∷ on (commit 1 0) 0x0000 ∷ on (begin 0) 0x0001 ∷ on top 0x0002 ∷ [])

abbrev pub waiting_trials : List WaitingTrial
waiting_trials =
    -- A parent holds, its child waits: a cycle of two. A list with one twice, one that isn't closed, one that leaves out a pointing and the empty
    -- one are none.
    points parent_holds (writes 1 3 ∷ []) ((1 ∷ []) ∷ (0 ∷ []) ∷ []) ∷
    turns parent_holds (writes 1 3 ∷ []) (0 ∷ 1 ∷ []) true ∷ turns parent_holds (writes 1 3 ∷ []) (1 ∷ 0 ∷ []) true ∷ turns parent_holds (writes 1 3 ∷ []) (0 ∷ 1 ∷ 0 ∷ 1 ∷ []) false ∷
    turns parent_holds (writes 1 3 ∷ []) (0 ∷ []) false ∷ turns parent_holds [] (0 ∷ 1 ∷ []) false ∷ turns parent_holds (writes 1 3 ∷ []) [] false ∷
    -- Two top transactions that cross.
    points two_tops (writes 0 4 ∷ writes 1 3 ∷ []) ((1 ∷ []) ∷ (0 ∷ []) ∷ []) ∷ turns two_tops (writes 0 4 ∷ writes 1 3 ∷ []) (0 ∷ 1 ∷ []) true ∷
    points two_tops (reads 0 4 ∷ []) ((1 ∷ []) ∷ []) ∷ turns two_tops (reads 0 4 ∷ []) (0 ∷ 1 ∷ []) false ∷
    -- Two readers that both raise their lock. Who reads, or asks for what is held already, or for what is free, waits for nobody.
    points two_readers (writes 0 3 ∷ writes 1 3 ∷ []) ((1 ∷ []) ∷ (0 ∷ []) ∷ []) ∷ turns two_readers (writes 0 3 ∷ writes 1 3 ∷ []) (1 ∷ 0 ∷ []) true ∷
    points two_readers (reads 0 3 ∷ writes 1 5 ∷ []) [] ∷ points two_tops (writes 0 3 ∷ reads 0 3 ∷ []) [] ∷
    -- 000's example: 3 waits for 1 and so for its parent 0, whose child 2 waits for 3.
    points moss_example (writes 2 2 ∷ writes 3 1 ∷ []) ((1 ∷ 2 ∷ []) ∷ [] ∷ (3 ∷ []) ∷ (0 ∷ 1 ∷ []) ∷ []) ∷
    turns moss_example (writes 2 2 ∷ writes 3 1 ∷ []) (3 ∷ 0 ∷ 2 ∷ []) true ∷ turns moss_example (writes 2 2 ∷ writes 3 1 ∷ []) (0 ∷ 2 ∷ 3 ∷ []) true ∷
    turns moss_example (writes 2 2 ∷ writes 3 1 ∷ []) (3 ∷ 1 ∷ 2 ∷ []) false ∷ turns moss_example (writes 2 2 ∷ writes 3 1 ∷ []) (2 ∷ 0 ∷ 3 ∷ []) false ∷
    -- Siblings: 2 waits for 1 alone, their parent being on its own line.
    points moss_example (writes 2 1 ∷ []) ((1 ∷ 2 ∷ []) ∷ [] ∷ (1 ∷ []) ∷ []) ∷
    -- A holder's ancestors, but not those that are the waiter's too; the waiter itself is pointed to only by its parent.
    points deep_holder (writes 3 1 ∷ writes 4 1 ∷ []) ((1 ∷ 3 ∷ []) ∷ (2 ∷ []) ∷ [] ∷ (1 ∷ 2 ∷ []) ∷ (0 ∷ 1 ∷ 2 ∷ []) ∷ []) ∷
    -- A transaction waits for its own child: no cycle, unless something beneath that waits for it.
    points (parent_holds ++ (on (locks 1 4) 0x0000 ∷ [])) (writes 0 4 ∷ []) ((1 ∷ []) ∷ []) ∷ points deep_holder (writes 0 1 ∷ []) ((1 ∷ 2 ∷ 3 ∷ []) ∷ (2 ∷ []) ∷ []) ∷
    points (parent_holds ++ (on (begin 1) 0x0002 ∷ [])) (writes 0 4 ∷ writes 2 3 ∷ []) ((1 ∷ []) ∷ (2 ∷ []) ∷ (0 ∷ []) ∷ []) ∷
    turns (parent_holds ++ (on (begin 1) 0x0002 ∷ [])) (writes 2 3 ∷ []) (2 ∷ 0 ∷ 1 ∷ []) true ∷
    -- Who retains blocks strangers and not those beneath: in write mode every access, in read mode only writing.
    points retainer (writes 1 1 ∷ reads 1 1 ∷ writes 2 1 ∷ []) ((1 ∷ []) ∷ [] ∷ (0 ∷ []) ∷ []) ∷ points retainer (reads 2 1 ∷ []) ((1 ∷ []) ∷ [] ∷ (0 ∷ []) ∷ []) ∷
    points retainer (reads 2 2 ∷ []) ((1 ∷ []) ∷ []) ∷ points retainer (writes 2 2 ∷ []) ((1 ∷ []) ∷ [] ∷ (0 ∷ []) ∷ []) ∷
    -- The rows of one transaction add up.
    points (two_tops ++ (on top 0x0002 ∷ [])) (writes 2 3 ∷ reads 2 4 ∷ []) ([] ∷ [] ∷ (0 ∷ 1 ∷ []) ∷ []) ∷
    -- Rows of the greatest numbers; a dead transaction, 24 and 31 too; a bad record; a bad mode, in this order for one row.
    refuses two_tops true (waits 1 15 1 ∷ []) none ∷ refuses two_tops true (waits 2 16 2 ∷ []) (some 5) ∷ refuses two_tops true (waits 24 0 0 ∷ []) (some 5) ∷
    refuses two_tops true (waits 31 0 0 ∷ []) (some 5) ∷ refuses two_tops true (waits 0 16 2 ∷ []) (some 23) ∷ refuses two_tops true (waits 0 0 2 ∷ []) (some 1) ∷
    -- Row by row: a bad mode before a dead transaction after it; a row that is fine before one that isn't.
    refuses two_tops true (waits 0 0 7 ∷ waits 9 0 0 ∷ []) (some 1) ∷ refuses two_tops true (waits 0 0 0 ∷ waits 1 255 0 ∷ waits 9 0 0 ∷ []) (some 23) ∷
    -- 24 rows, 25 rows, whatever they hold; an unsound state before them.
    refuses two_tops true (replicate 24 (writes 0 4)) none ∷ refuses two_tops true (replicate 24 (writes 2 4)) (some 5) ∷
    refuses two_tops true (replicate 25 (writes 2 4)) (some 26) ∷ refuses two_tops false (replicate 25 (writes 2 4)) (some 25) ∷ refuses two_tops false [] (some 25) ∷
    -- Down: every row is 5, and without rows nobody points to anybody.
    refuses [] true (writes 0 3 ∷ []) (some 5) ∷ refuses [] true [] none ∷ points [] [] [] ∷ refuses (two_tops ++ (on crash 0x0000 ∷ [])) true (writes 0 3 ∷ []) (some 5) ∷
    []
