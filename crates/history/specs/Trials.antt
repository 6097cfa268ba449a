-- Trials of the history: lists of events with their answers, and how each transaction stands at the end.
use Rattle.std.specs.Prelude.{ℕ, zero, suc, Bool, true, false, cond, ◌&&◌, List, [], ◌∷◌, get_or, length, set}
use Rattle.std.proofs.Math.Option.{Option, none, some}
use Rattle.laws.specs.Tests.{same}
use Rattle.laws.specs.Bytes.{same_list}
use Rattle.rules.specs.Geometry.{nobody}
use Rattle.rules.specs.Store.{Page, blank}
use Rattle.rules.specs.Event.{to_write, Event, begin, lock, write, read, commit, abort, crash, recover, prepare, decide, query}
use Rattle.rules.specs.Step.{Answer, done, refused, cut}
use Rattle.history.specs.History.{Fate, bearing, committed, stored, waiting, ended, History, survives, overlaid, told}

-- an event and its answer
abbrev pub AnsweredEvent : Type 0
AnsweredEvent = Event × Answer

-- how a transaction stands, as a number
abbrev pub code : Fate → ℕ
code (bearing t) = 1
code committed = 2
code stored = 3
code ended = 4
code waiting = 5

-- a row: events with their answers; for transactions 1, 2, .. how each stands at the end; those that survive; a byte of a record of zeros
-- over which the surviving writes are laid
pub record HistoryTrial : Type 0 where
  pub lines : List AnsweredEvent
  pub fates : List ℕ
  pub survivors : List ℕ
  pub place : ℕ × ℕ
  pub byte : ℕ

-- among sixteen records
abbrev pub told_all : History → List AnsweredEvent → History
told_all h [] = h
told_all h (l ∷ ls) = told_all (told 16 h (some l.0) l.1) ls

-- of n transactions from i
abbrev pub codes : History → ℕ → ℕ → List ℕ
codes h zero i = []
codes h (suc n) i = code (h.fate i) ∷ codes h n (suc i)

abbrev pub surviving : History → ℕ → ℕ → List ℕ
surviving h zero i = []
surviving h (suc n) i = cond (survives h i) (i ∷ surviving h n (suc i)) (surviving h n (suc i))

abbrev pub passes_from : History → HistoryTrial → Bool
passes_from start t =
    let h = told_all start t.lines in
    let n = length t.fates in
    same_list (codes h n 1) t.fates && same_list (surviving h n 1) t.survivors &&
    same (get_or (overlaid (survives h) t.place.0 h.writes blank) t.place.1 0) t.byte

abbrev pub history_trials_pass : History → List HistoryTrial → Bool
history_trials_pass start [] = true
history_trials_pass start (t ∷ ts) = passes_from start t && history_trials_pass start ts

abbrev pub ok : Answer
ok = done 0

-- a lock to write
abbrev lock_to_write : ℕ → ℕ → Event
lock_to_write t r = lock t r to_write

-- an abort without a report
abbrev abort_unreported : ℕ → Event
abort_unreported t = abort t false

-- a transaction with a child is prepared, and then this event comes; how it stands then, who survives, and the byte that it wrote
abbrev after_prepare : AnsweredEvent → ℕ → List ℕ → ℕ → HistoryTrial
after_prepare l c who b = record {
  lines =
      (recover 63, ok) ∷ (begin nobody, done 0) ∷ (begin 0, done 1) ∷ (lock_to_write 1 3, ok) ∷ (write 1 3 2 7, ok) ∷ (commit 1 0, ok) ∷ (prepare 0 63 7, done 2) ∷ l ∷ [];
  fates = c ∷ 2 ∷ [];
  survivors = who;
  place = (3, 2);
  byte = b;
}

abbrev pub history_trials : List HistoryTrial
history_trials =
    -- document 01's list in full
    record {
      lines =
          (recover 63, ok) ∷ (begin nobody, done 0) ∷ (begin 0, done 1) ∷ (lock_to_write 1 3, ok) ∷ (write 1 3 2 165, ok) ∷ (commit 1 63, ok) ∷
          (begin 0, done 1) ∷ (lock_to_write 1 3, ok) ∷ (write 1 3 2 17, ok) ∷ (abort_unreported 1, ok) ∷ (commit 0 2, cut 2) ∷ (read 0 3 2, refused 2) ∷
          (recover 63, done 2) ∷ (begin nobody, done 0) ∷ (lock_to_write 0 3, ok) ∷ (read 0 3 2, done 165) ∷ [];
      fates = 3 ∷ 2 ∷ 4 ∷ 1 ∷ [];
      survivors = 1 ∷ 2 ∷ [];
      place = (3, 2);
      byte = 165;
    } ∷
    -- one record changed: cut after 1 page write it is lost, after 2 it survives
    record {
      lines = (recover 63, ok) ∷ (begin nobody, done 0) ∷ (lock_to_write 0 3, ok) ∷ (write 0 3 2 7, ok) ∷ (commit 0 1, cut 1) ∷ [];
      fates = 4 ∷ [];
      survivors = [];
      place = (3, 2);
      byte = 0;
    } ∷
    record {
      lines = (recover 63, ok) ∷ (begin nobody, done 0) ∷ (lock_to_write 0 3, ok) ∷ (write 0 3 2 7, ok) ∷ (commit 0 2, cut 2) ∷ [];
      fates = 3 ∷ [];
      survivors = 1 ∷ [];
      place = (3, 2);
      byte = 7;
    } ∷
    -- n leaves out what an aborted child wrote, and counts what a committed one wrote
    record {
      lines =
          (recover 63, ok) ∷ (begin nobody, done 0) ∷ (lock_to_write 0 3, ok) ∷ (write 0 3 2 7, ok) ∷ (begin 0, done 1) ∷ (lock_to_write 1 4, ok) ∷
          (write 1 4 2 9, ok) ∷ (abort_unreported 1, ok) ∷ (commit 0 2, cut 2) ∷ [];
      fates = 3 ∷ 4 ∷ [];
      survivors = 1 ∷ [];
      place = (4, 2);
      byte = 0;
    } ∷
    -- a report saves nothing
    record {
      lines =
          (recover 63, ok) ∷ (begin nobody, done 0) ∷ (lock_to_write 0 3, ok) ∷ (write 0 3 2 7, ok) ∷ (begin 0, done 1) ∷ (lock_to_write 1 4, ok) ∷
          (write 1 4 2 9, ok) ∷ (abort 1 true, ok) ∷ (commit 0 2, cut 2) ∷ [];
      fates = 3 ∷ 4 ∷ [];
      survivors = 1 ∷ [];
      place = (4, 2);
      byte = 0;
    } ∷
    record {
      lines =
          (recover 63, ok) ∷ (begin nobody, done 0) ∷ (lock_to_write 0 3, ok) ∷ (write 0 3 2 7, ok) ∷ (begin 0, done 1) ∷ (lock_to_write 1 4, ok) ∷
          (write 1 4 2 9, ok) ∷ (commit 1 63, ok) ∷ (commit 0 2, cut 2) ∷ [];
      fates = 4 ∷ 2 ∷ [];
      survivors = [];
      place = (3, 2);
      byte = 0;
    } ∷
    -- an abort ends the descendants, and undoes what a committed child left
    record {
      lines =
          (recover 63, ok) ∷ (begin nobody, done 0) ∷ (begin 0, done 1) ∷ (begin 1, done 2) ∷ (begin nobody, done 3) ∷ (abort_unreported 0, ok) ∷ (begin nobody, done 0) ∷ [];
      fates = 4 ∷ 4 ∷ 4 ∷ 1 ∷ 1 ∷ [];
      survivors = [];
      place = (3, 2);
      byte = 0;
    } ∷
    record {
      lines = (recover 63, ok) ∷ (begin nobody, done 0) ∷ (begin 0, done 1) ∷ (lock_to_write 1 3, ok) ∷ (write 1 3 2 7, ok) ∷ (commit 1 63, ok) ∷ (abort_unreported 0, ok) ∷ [];
      fates = 4 ∷ 2 ∷ [];
      survivors = [];
      place = (3, 2);
      byte = 0;
    } ∷
    -- a cut ends the other top transactions too; a refusal ends none
    record {
      lines =
          (recover 63, ok) ∷ (begin nobody, done 0) ∷ (begin nobody, done 1) ∷ (lock_to_write 0 3, ok) ∷ (write 0 3 2 7, ok) ∷ (write 0 3 2 8, ok) ∷
          (commit 0 3, cut 3) ∷ (recover 0, cut 0) ∷ (recover 63, done 2) ∷ (begin nobody, done 0) ∷ (begin 0, done 1) ∷ (commit 0 63, refused 10) ∷ [];
      fates = 3 ∷ 4 ∷ 1 ∷ 1 ∷ [];
      survivors = 1 ∷ [];
      place = (3, 2);
      byte = 8;
    } ∷
    -- a prepared transaction waits, through a crash, and with it its child; it counts as lost
    after_prepare (crash, ok) 5 [] 0 ∷
    -- a decision for another, and one that is cut before its first page write, leave it waiting
    after_prepare (decide true 0 8, ok) 5 [] 0 ∷ after_prepare (decide true 0 7, cut 0) 5 [] 0 ∷ after_prepare (decide false 0 7, cut 0) 5 [] 0 ∷ after_prepare (query 7, done 1) 5 [] 0 ∷
    -- a decision to commit that is stored, whole or cut, saves both; one to abort loses them
    after_prepare (decide true 63 7, done 3) 3 (1 ∷ 2 ∷ []) 7 ∷ after_prepare (decide true 1 7, cut 1) 3 (1 ∷ 2 ∷ []) 7 ∷ after_prepare (decide false 63 7, done 1) 4 [] 0 ∷
    -- a prepare that is cut is lost; one that changed nothing survives at once
    record {
      lines = (recover 63, ok) ∷ (begin nobody, done 0) ∷ (lock_to_write 0 3, ok) ∷ (write 0 3 2 7, ok) ∷ (prepare 0 1 7, cut 1) ∷ [];
      fates = 4 ∷ [];
      survivors = [];
      place = (3, 2);
      byte = 0;
    } ∷
    record {
      lines = (recover 63, ok) ∷ (begin nobody, done 0) ∷ (lock_to_write 0 3, ok) ∷ (prepare 0 0 7, ok) ∷ [];
      fates = 3 ∷ [];
      survivors = 1 ∷ [];
      place = (3, 2);
      byte = 0;
    } ∷
    []

-- record 3 is pending in the start store
abbrev pub pending3 : ℕ → Option Page
pending3 r = cond (same r 3) (some (set blank 2 165)) none

-- after a decision on what was prepared there, another transaction writes beside
abbrev decided_first : AnsweredEvent → ℕ → HistoryTrial
decided_first l b = record {
  lines = (recover 63, ok) ∷ l ∷ (recover 63, ok) ∷ (begin nobody, done 0) ∷ (lock_to_write 0 3, ok) ∷ (write 0 3 4 7, ok) ∷ (commit 0 63, done 4) ∷ [];
  fates = 3 ∷ [];
  survivors = 1 ∷ [];
  place = (3, 2);
  byte = b;
}

abbrev pub start_trials : List HistoryTrial
start_trials =
    decided_first (decide true 63 7, done 3) 165 ∷ decided_first (decide true 1 7, cut 1) 165 ∷ decided_first (decide false 63 7, done 1) 0 ∷ decided_first (decide true 0 8, ok) 0 ∷ []
