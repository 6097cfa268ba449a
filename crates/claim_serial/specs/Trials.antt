-- Trials of the serial list: lists of events over a store, their answers, the replay and its answers, written out.
use Rattle.std.specs.Prelude.{ℕ, Bool, true, false, ◌&&◌, List, [], ◌∷◌, map, replicate}
use Rattle.laws.specs.Functions.{updated}
use Rattle.laws.specs.Bytes.{same_list}
use Rattle.rules.specs.Geometry.{nobody}
use Rattle.rules.specs.Store.{commit_page, prepared_page, blank}
use Rattle.rules.specs.Event.{Event, to_write, to_read, begin, lock, write, read, commit, abort, crash, recover, prepare, decide, query, encode}
use Rattle.rules.specs.State.{down}
use Rattle.rules.specs.Step.{Answer, done, refused, cut}
use Rattle.rules.specs.Run.{answer_bytes, play}
use Rattle.rules.specs.Editions.{geometry1, edition1}
use Rattle.history.specs.Claims.{rows_after}
use Rattle.claim_serial.specs.OneAtATime.{replay}
use Rattle.history.specs.Trials.{ok}

-- the start store's bytes, the list and its answers, the replay and its answers
pub record SerialTrial : Type 0 where
  pub store : List ℕ
  pub events : List Event
  pub answers : List Answer
  pub replayed : List Event
  pub again : List Answer

-- a fresh store; one whose commit page names record 3, with 7 first in its intention page; one whose commit page is damaged
unfoldable pub fresh_store : List ℕ
fresh_store = edition1.medium.to_bytes edition1.medium.fresh

unfoldable pub committed_store : List ℕ
committed_store = edition1.medium.to_bytes (updated 0 (commit_page geometry1 4096) (updated 4 (7 ∷ replicate 31 0) edition1.medium.fresh))

unfoldable pub damaged_store : List ℕ
damaged_store = edition1.medium.to_bytes (updated 0 blank edition1.medium.fresh)

-- one where a transaction is prepared with identity 5, and has 7 first in record 3
unfoldable pub prepared_store : List ℕ
prepared_store = edition1.medium.to_bytes (updated 0 (prepared_page geometry1 (record { map = 4096; identity = 5 })) (updated 4 (7 ∷ replicate 31 0) edition1.medium.fresh))

unfoldable pub played_answers : List ℕ → List ℕ → List Answer
played_answers store ws = (play edition1 (down (edition1.medium.from_bytes store)) ws).answers

-- the run and the replay are answered so, and the replay is this list
unfoldable pub serial_trial_passes : SerialTrial → Bool
serial_trial_passes t =
    let ws = map (encode geometry1) t.events in
    let vs = replay edition1 t.store (rows_after edition1 t.store ws) in
    same_list (answer_bytes (played_answers t.store ws)) (answer_bytes t.answers) &&
    same_list vs (map (encode geometry1) t.replayed) &&
    same_list (answer_bytes (played_answers t.store vs)) (answer_bytes t.again)

unfoldable pub serial_trials_pass : List SerialTrial → Bool
serial_trials_pass [] = true
serial_trials_pass (t ∷ ts) = serial_trial_passes t && serial_trials_pass ts

abbrev pub serial_trials : List SerialTrial
serial_trials =
    -- Two tops interleaved that read record 3 together: 0 and 1. The child 2 of 1 aborts with a report, and its number goes to a child of 0; a
    -- third top one is lost in the crash that cuts the commit of 0 behind its commit record. 1 goes first, whole; then 0, whose child bears 1 now.
    record {
      store = fresh_store;
      events =
          recover 63 ∷ begin nobody ∷ begin nobody ∷ lock 0 3 to_read ∷ lock 1 3 to_read ∷ lock 1 4 to_write ∷ begin 1 ∷ lock 2 5 to_write ∷ write 2 5 0 9 ∷ abort 2 true ∷
          read 0 3 0 ∷ begin 0 ∷ lock 2 6 to_write ∷ write 2 6 1 77 ∷ read 2 6 1 ∷ write 1 4 0 8 ∷ begin nobody ∷ lock 3 7 to_write ∷ commit 2 0 ∷ commit 1 63 ∷
          lock 0 4 to_write ∷ read 0 4 0 ∷ commit 0 2 ∷ recover 63 ∷ [];
      answers =
          ok ∷ ok ∷ done 1 ∷ ok ∷ ok ∷ ok ∷ done 2 ∷ ok ∷ ok ∷ ok ∷
          ok ∷ done 2 ∷ ok ∷ ok ∷ done 77 ∷ ok ∷ done 3 ∷ ok ∷ ok ∷ done 4 ∷
          ok ∷ done 8 ∷ cut 2 ∷ done 2 ∷ [];
      replayed =
          recover 63 ∷
          begin nobody ∷ lock 0 3 to_read ∷ lock 0 4 to_write ∷ write 0 4 0 8 ∷ commit 0 63 ∷
          begin nobody ∷ lock 0 3 to_read ∷ read 0 3 0 ∷ begin 0 ∷ lock 1 6 to_write ∷ write 1 6 1 77 ∷ read 1 6 1 ∷ commit 1 63 ∷ lock 0 4 to_write ∷ read 0 4 0 ∷ commit 0 63 ∷ [];
      again =
          ok ∷
          ok ∷ ok ∷ ok ∷ ok ∷ done 4 ∷
          ok ∷ ok ∷ ok ∷ done 1 ∷ ok ∷ ok ∷ done 77 ∷ ok ∷ ok ∷ done 8 ∷ done 4 ∷ [];
    } ∷
    -- Two children of 0 read record 3 one after the other; a stranger is kept from writing it between. A top one that changes nothing commits
    -- between, with count 0, and goes first; then 0, and then the stranger, which reads what 0 wrote.
    record {
      store = fresh_store;
      events =
          recover 63 ∷ begin nobody ∷ begin 0 ∷ lock 1 3 to_read ∷ read 1 3 0 ∷ commit 1 63 ∷ begin nobody ∷ lock 1 3 to_write ∷ begin nobody ∷ commit 2 0 ∷
          begin 0 ∷ lock 2 3 to_read ∷ read 2 3 0 ∷ commit 2 5 ∷ lock 0 3 to_write ∷ write 0 3 0 9 ∷ commit 0 63 ∷ lock 1 3 to_write ∷ read 1 3 0 ∷ commit 1 63 ∷ [];
      answers =
          ok ∷ ok ∷ done 1 ∷ ok ∷ ok ∷ ok ∷ done 1 ∷ refused 8 ∷ done 2 ∷ ok ∷
          done 2 ∷ ok ∷ ok ∷ ok ∷ ok ∷ ok ∷ done 4 ∷ ok ∷ done 9 ∷ ok ∷ [];
      replayed =
          recover 63 ∷
          begin nobody ∷ commit 0 63 ∷
          begin nobody ∷ begin 0 ∷ lock 1 3 to_read ∷ read 1 3 0 ∷ commit 1 63 ∷ begin 0 ∷ lock 1 3 to_read ∷ read 1 3 0 ∷ commit 1 63 ∷ lock 0 3 to_write ∷ write 0 3 0 9 ∷ commit 0 63 ∷
          begin nobody ∷ lock 0 3 to_write ∷ read 0 3 0 ∷ commit 0 63 ∷ [];
      again =
          ok ∷
          ok ∷ ok ∷
          ok ∷ done 1 ∷ ok ∷ ok ∷ ok ∷ done 1 ∷ ok ∷ ok ∷ ok ∷ ok ∷ ok ∷ done 4 ∷
          ok ∷ ok ∷ done 9 ∷ ok ∷ [];
    } ∷
    -- A commit that is cut before its commit record is lost, and so is what a crash finds live: only the reader is left.
    record {
      store = fresh_store;
      events =
          recover 63 ∷ begin nobody ∷ lock 0 3 to_write ∷ write 0 3 0 7 ∷ commit 0 1 ∷ recover 63 ∷ begin nobody ∷ begin nobody ∷ lock 0 3 to_read ∷ lock 1 3 to_read ∷
          read 1 3 0 ∷ write 0 3 0 5 ∷ commit 1 0 ∷ lock 0 3 to_write ∷ write 0 3 0 5 ∷ crash ∷ begin nobody ∷ recover 0 ∷ [];
      answers =
          ok ∷ ok ∷ ok ∷ ok ∷ cut 1 ∷ ok ∷ ok ∷ done 1 ∷ ok ∷ ok ∷
          ok ∷ refused 9 ∷ ok ∷ ok ∷ ok ∷ ok ∷ refused 2 ∷ ok ∷ [];
      replayed = recover 63 ∷ begin nobody ∷ lock 0 3 to_read ∷ read 0 3 0 ∷ commit 0 63 ∷ [];
      again = ok ∷ ok ∷ ok ∷ ok ∷ ok ∷ [];
    } ∷
    -- Numbers that go from one tree to the other: 2 is a child of 0 and then a grandchild of 1.
    record {
      store = fresh_store;
      events =
          recover 63 ∷ begin nobody ∷ begin nobody ∷ begin 0 ∷ begin 1 ∷ lock 2 0 to_write ∷ write 2 0 0 1 ∷ commit 2 63 ∷ begin 3 ∷ lock 2 1 to_write ∷
          write 2 1 0 2 ∷ commit 2 63 ∷ commit 3 63 ∷ commit 0 63 ∷ commit 1 63 ∷ [];
      answers =
          ok ∷ ok ∷ done 1 ∷ done 2 ∷ done 3 ∷ ok ∷ ok ∷ ok ∷ done 2 ∷ ok ∷
          ok ∷ ok ∷ ok ∷ done 4 ∷ done 4 ∷ [];
      replayed =
          recover 63 ∷
          begin nobody ∷ begin 0 ∷ lock 1 0 to_write ∷ write 1 0 0 1 ∷ commit 1 63 ∷ commit 0 63 ∷
          begin nobody ∷ begin 0 ∷ begin 1 ∷ lock 2 1 to_write ∷ write 2 1 0 2 ∷ commit 2 63 ∷ commit 1 63 ∷ commit 0 63 ∷ [];
      again =
          ok ∷
          ok ∷ done 1 ∷ ok ∷ ok ∷ ok ∷ done 4 ∷
          ok ∷ done 1 ∷ done 2 ∷ ok ∷ ok ∷ ok ∷ ok ∷ done 4 ∷ [];
    } ∷
    -- A start that was cut behind a commit record: recoveries are left out, and the replay's own finishes the commit.
    record {
      store = committed_store;
      events = recover 0 ∷ recover 63 ∷ begin nobody ∷ lock 0 3 to_write ∷ read 0 3 0 ∷ write 0 3 0 8 ∷ commit 0 63 ∷ [];
      answers = cut 0 ∷ done 2 ∷ ok ∷ ok ∷ done 7 ∷ ok ∷ done 4 ∷ [];
      replayed = recover 63 ∷ begin nobody ∷ lock 0 3 to_write ∷ read 0 3 0 ∷ write 0 3 0 8 ∷ commit 0 63 ∷ [];
      again = done 2 ∷ ok ∷ ok ∷ done 7 ∷ ok ∷ done 4 ∷ [];
    } ∷
    -- Over a damaged commit page there is nothing to play.
    record {
      store = damaged_store;
      events = recover 63 ∷ begin nobody ∷ crash ∷ recover 63 ∷ [];
      answers = refused 4 ∷ refused 2 ∷ ok ∷ refused 4 ∷ [];
      replayed = recover 63 ∷ [];
      again = refused 4 ∷ [];
    } ∷
    -- A transaction that is prepared goes to its decision's place, behind those that commit meanwhile and change nothing; its prepare and its
    -- decision are played whole. A decision for another is left out.
    record {
      store = fresh_store;
      events =
          recover 63 ∷ begin nobody ∷ lock 0 3 to_write ∷ write 0 3 0 7 ∷ begin nobody ∷ lock 1 4 to_read ∷ read 1 4 0 ∷ prepare 0 63 5 ∷ lock 1 3 to_read ∷ begin nobody ∷
          commit 0 0 ∷ commit 1 63 ∷ query 5 ∷ crash ∷ recover 63 ∷ decide true 63 9 ∷ decide true 2 5 ∷ recover 63 ∷ begin nobody ∷ lock 0 3 to_read ∷
          read 0 3 0 ∷ prepare 0 0 6 ∷ [];
      answers =
          ok ∷ ok ∷ ok ∷ ok ∷ done 1 ∷ ok ∷ ok ∷ done 2 ∷ refused 8 ∷ ok ∷
          ok ∷ ok ∷ done 1 ∷ ok ∷ ok ∷ ok ∷ cut 2 ∷ done 2 ∷ ok ∷ ok ∷
          done 7 ∷ ok ∷ [];
      replayed =
          recover 63 ∷
          begin nobody ∷ commit 0 63 ∷
          begin nobody ∷ lock 0 4 to_read ∷ read 0 4 0 ∷ commit 0 63 ∷
          begin nobody ∷ lock 0 3 to_write ∷ write 0 3 0 7 ∷ prepare 0 63 5 ∷ decide true 63 5 ∷
          begin nobody ∷ lock 0 3 to_read ∷ read 0 3 0 ∷ prepare 0 63 6 ∷ [];
      again =
          ok ∷
          ok ∷ ok ∷
          ok ∷ ok ∷ ok ∷ ok ∷
          ok ∷ ok ∷ ok ∷ done 2 ∷ done 3 ∷
          ok ∷ ok ∷ done 7 ∷ ok ∷ [];
    } ∷
    -- One that is prepared in the start store: its decision to abort is played in its place; until then only who changes nothing can commit.
    record {
      store = prepared_store;
      events =
          recover 63 ∷ begin nobody ∷ lock 0 3 to_read ∷ lock 0 4 to_read ∷ read 0 4 0 ∷ begin nobody ∷ commit 0 63 ∷ decide false 0 5 ∷ recover 63 ∷ begin nobody ∷
          lock 0 4 to_write ∷ write 0 4 0 1 ∷ commit 0 63 ∷ decide false 63 5 ∷ commit 0 63 ∷ [];
      answers =
          ok ∷ ok ∷ refused 8 ∷ ok ∷ ok ∷ done 1 ∷ ok ∷ cut 0 ∷ ok ∷ ok ∷
          ok ∷ ok ∷ refused 13 ∷ done 1 ∷ done 4 ∷ [];
      replayed =
          recover 63 ∷
          begin nobody ∷ lock 0 4 to_read ∷ read 0 4 0 ∷ commit 0 63 ∷
          decide false 63 5 ∷
          begin nobody ∷ lock 0 4 to_write ∷ write 0 4 0 1 ∷ commit 0 63 ∷ [];
      again =
          ok ∷
          ok ∷ ok ∷ ok ∷ ok ∷
          done 1 ∷
          ok ∷ ok ∷ ok ∷ done 4 ∷ [];
    } ∷
    -- Its decision to commit, cut behind its first page write, is played whole; then its record can be read.
    record {
      store = prepared_store;
      events = recover 63 ∷ decide true 1 5 ∷ recover 63 ∷ begin nobody ∷ lock 0 3 to_read ∷ read 0 3 0 ∷ commit 0 63 ∷ [];
      answers = ok ∷ cut 1 ∷ done 2 ∷ ok ∷ ok ∷ done 7 ∷ ok ∷ [];
      replayed = recover 63 ∷ decide true 63 5 ∷ begin nobody ∷ lock 0 3 to_read ∷ read 0 3 0 ∷ commit 0 63 ∷ [];
      again = ok ∷ done 3 ∷ ok ∷ ok ∷ done 7 ∷ ok ∷ [];
    } ∷
    []
