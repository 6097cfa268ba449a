-- Rows of the serial list's definitions, one by one: which events close, who is played, whose turn comes when, how an event is played.
use Rattle.std.specs.Prelude.{ℕ, ◌+◌, Bool, true, false, cond, ◌&&◌, ◌||◌, List, [], ◌∷◌, map}
use Rattle.laws.specs.Tests.{same, under}
use Rattle.laws.specs.Bytes.{same_list}
use Rattle.rules.specs.Geometry.{nobody}
use Rattle.rules.specs.Event.{Event, to_write, to_read, begin, lock, write, read, commit, abort, crash, recover, prepare, decide, query, encode}
use Rattle.rules.specs.Step.{Answer, done, cut}
use Rattle.rules.specs.Editions.{geometry1}
use Rattle.history.specs.History.{History}
use Rattle.history.specs.Entries.{Entry}
use Rattle.history.specs.Trials.{AnsweredEvent, told_all, ok}
use Rattle.claim_serial.specs.Serial.{closes, plays, order, serial}
use Rattle.claim_serial.specs.OneAtATime.{renamed, naming, is_read}

abbrev flag_digits : List Bool → List ℕ
flag_digits [] = []
flag_digits (b ∷ bs) = cond b 1 0 ∷ flag_digits bs

-- an event of each kind, with answers that make a difference
abbrev kinds : List AnsweredEvent
kinds =
    (begin nobody, ok) ∷ (lock 0 3 to_write, ok) ∷ (write 0 3 1 7, ok) ∷ (read 0 3 1, ok) ∷ (abort 0 true, ok) ∷ (crash, ok) ∷ (recover 63, ok) ∷ (query 5, ok) ∷
    (commit 0 63, done 4) ∷ (commit 0 63, ok) ∷ (commit 0 2, cut 2) ∷ (prepare 0 63 5, done 2) ∷ (prepare 0 63 5, ok) ∷ (decide true 63 5, done 3) ∷ (decide false 63 5, done 1) ∷ []

-- a commit, a prepare that wrote nothing and a stored decision close
abbrev pub closes_right : Bool
closes_right =
    same_list (flag_digits (map (λ (l : AnsweredEvent). closes l.0 l.1) kinds))
    (0 ∷ 0 ∷ 0 ∷ 0 ∷ 0 ∷ 0 ∷ 0 ∷ 0 ∷ 1 ∷ 1 ∷ 1 ∷ 0 ∷ 1 ∷ 1 ∷ 1 ∷ [])

abbrev pub reads_right : Bool
reads_right =
    same_list (flag_digits (map (λ (l : AnsweredEvent). is_read l.0) kinds))
    (0 ∷ 0 ∷ 0 ∷ 1 ∷ 0 ∷ 0 ∷ 0 ∷ 0 ∷ 0 ∷ 0 ∷ 0 ∷ 0 ∷ 0 ∷ 0 ∷ 0 ∷ [])

-- who is played, of 0 and the transactions of this list: 1 survives with its child 2; 3 and the child 4 that it lost are lost
abbrev pub plays_right : History → Bool
plays_right start =
    let h = told_all start (
    (recover 63, ok) ∷ (begin nobody, ok) ∷ (begin 0, done 1) ∷ (begin nobody, done 2) ∷ (begin 2, done 3) ∷ (abort 3 false, ok) ∷ (commit 1 63, ok) ∷ (commit 0 63, ok) ∷ (crash, ok) ∷ []) in
    same_list (flag_digits (map (plays h) (0 ∷ 1 ∷ 2 ∷ 3 ∷ 4 ∷ []))) (1 ∷ 1 ∷ 1 ∷ 0 ∷ 0 ∷ [])

abbrev of : ℕ → ℕ → Event → Answer → Entry
of i t e a = record { event = e; answer = a; transaction = i; top = t }

-- Three top transactions are played: 1, whose child 3 is too; 2; and 5, which is prepared and decided on. 4 is lost, and so is 6, a child of 1. One
-- is decided on that was prepared before, 0.
abbrev list : List Entry
list =
    of 1 1 (begin nobody) ok ∷ of 2 2 (begin nobody) (done 1) ∷ of 3 1 (begin 0) (done 2) ∷ of 4 4 (begin nobody) (done 3) ∷ of 3 1 (read 2 5 0) (done 7) ∷
    of 6 1 (begin 0) (done 4) ∷ of 4 4 (commit 3 63) ok ∷ of 2 2 (lock 1 5 to_read) ok ∷ of 3 1 (commit 2 63) ok ∷ of 5 5 (begin nobody) (done 2) ∷
    of 0 0 (decide false 63 9) (done 1) ∷ of 5 5 (prepare 2 63 9) (done 2) ∷ of 6 1 (abort 4 false) ok ∷ of 2 2 (commit 1 63) ok ∷ of 5 5 (decide true 63 9) (done 3) ∷
    of 1 1 (commit 0 63) ok ∷ []

abbrev final : ℕ → Bool
final i = under i 4 || same i 5

abbrev pub order_right : Bool
order_right = same_list (order final list) (0 ∷ 2 ∷ 5 ∷ 1 ∷ [])

abbrev spelled_entries : List Entry → List ℕ
spelled_entries [] = []
spelled_entries (x ∷ xs) = x.transaction ∷ encode geometry1 x.event ∷ spelled_entries xs

abbrev pub serial_right : Bool
serial_right =
    same_list (spelled_entries (serial final list))
    (spelled_entries (
    of 0 0 (decide false 63 9) ok ∷
    of 2 2 (begin nobody) ok ∷ of 2 2 (lock 1 5 to_read) ok ∷ of 2 2 (commit 1 63) ok ∷
    of 5 5 (begin nobody) ok ∷ of 5 5 (prepare 2 63 9) ok ∷ of 5 5 (decide true 63 9) ok ∷
    of 1 1 (begin nobody) ok ∷ of 3 1 (begin 0) ok ∷ of 3 1 (read 2 5 0) ok ∷ of 3 1 (commit 2 63) ok ∷ of 1 1 (commit 0 63) ok ∷ []))

-- an event of each kind as it is played, where a number stands for the one that is ten more
abbrev pub renamed_right : Bool
renamed_right =
    same_list
    (map (λ (e : Event). encode geometry1 (renamed 63 (λ t. t + 10) e)) (
    begin nobody ∷ begin 2 ∷ lock 2 3 to_read ∷ write 2 3 1 7 ∷ read 2 3 1 ∷ commit 2 5 ∷ abort 2 true ∷ crash ∷ recover 5 ∷ prepare 2 5 9 ∷ decide true 5 9 ∷ decide false 5 9 ∷ query 9 ∷ []))
    (map (encode geometry1) (
    begin nobody ∷ begin 12 ∷ lock 12 3 to_read ∷ write 12 3 1 7 ∷ read 12 3 1 ∷ commit 12 63 ∷ abort 12 true ∷ crash ∷ recover 63 ∷ prepare 12 63 9 ∷ decide true 63 9 ∷ decide false 63 9 ∷ query 9 ∷ []))

-- number 2 was given in the run, 0 is given now: only a begin changes what a number stands for
abbrev named_numbers : Event → List ℕ
named_numbers e = map (naming (λ t. t + 10) e 2 0) (1 ∷ 2 ∷ 3 ∷ [])

abbrev all_named : List AnsweredEvent → Bool
all_named [] = true
all_named (l ∷ ls) = same_list (named_numbers l.0) (11 ∷ 12 ∷ 13 ∷ []) && all_named ls

abbrev rest : List AnsweredEvent → List AnsweredEvent
rest [] = []
rest (l ∷ ls) = ls

abbrev pub naming_right : Bool
naming_right = same_list (named_numbers (begin nobody)) (11 ∷ 0 ∷ 13 ∷ []) && same_list (named_numbers (begin 1)) (11 ∷ 0 ∷ 13 ∷ []) && all_named (rest kinds)
