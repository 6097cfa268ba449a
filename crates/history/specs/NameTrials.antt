-- Rows for what the history asks of one event: the number that it names, the transaction that it belongs to, whether it is accepted, and whether a list
-- restarts only. A row for each kind of event.
use Rattle.std.specs.Prelude.{ℕ, suc, Bool, true, false, not, ◌&&◌, List, [], ◌∷◌, eqb}
use Rattle.std.proofs.Math.Option.{Option, none, some}
use Rattle.rules.specs.Event.{to_write, to_read, Event, begin, lock, write, read, commit, abort, crash, recover, prepare, decide, query}
use Rattle.rules.specs.Step.{Answer, done, refused, cut}
use Rattle.rules.specs.Editions.{geometry1}
use Rattle.history.specs.History.{nothing_yet, names, belongs, accepted}
use Rattle.history.specs.Demand3.{answer_of}
use Rattle.history.specs.Claims.{restarts}
use Rattle.history.specs.Trials.{AnsweredEvent, told_all}

abbrev agree : Bool → Bool → Bool
agree true b = b
agree false b = not b

-- a number as one more, 0 for none
abbrev coded : Option ℕ → ℕ
coded none = 0
coded (some t) = suc t

-- an event, and the number that it names
abbrev pub Naming : Type 0
Naming = Event × Option ℕ

abbrev pub all_name : List Naming → Bool
all_name [] = true
all_name (x ∷ xs) = eqb (coded (names x.0)) (coded x.1) && all_name xs

abbrev pub name_trials : List Naming
name_trials =
    (begin 5, some 5) ∷ (begin 31, some 31) ∷ (lock 6 3 to_write, some 6) ∷ (lock 6 3 to_read, some 6) ∷ (write 7 3 2 1, some 7) ∷ (read 8 3 2, some 8) ∷ (commit 9 63, some 9) ∷
    (abort 10 false, some 10) ∷ (abort 10 true, some 10) ∷ (crash, none) ∷ (recover 0, none) ∷ (recover 5, none) ∷ (prepare 11 3 7, some 11) ∷ (decide true 3 7, none) ∷ (decide false 3 7, none) ∷
    (query 0, none) ∷ (query 7, none) ∷ []

-- Events with their answers, then an event, and the transaction that it belongs to (0 for none). Transactions are counted from 1.
abbrev pub Belonging : Type 0
Belonging = List AnsweredEvent × Event × ℕ

abbrev pub all_belong : List Belonging → Bool
all_belong [] = true
all_belong (x ∷ xs) = eqb (belongs (told_all nothing_yet x.0) x.1) x.2 && all_belong xs

-- 1 bears number 0; 2, a child of it, bore number 1 and has committed; 3 bears number 2, and 4, another child of 1, number 1
abbrev four : List AnsweredEvent
four =
    (recover 63, done 0) ∷ (begin 31, done 0) ∷ (begin 0, done 1) ∷ (begin 31, done 2) ∷ (commit 1 0, done 0) ∷ (begin 0, done 1) ∷ (begin 9, refused 5) ∷ []

-- and after one more event
abbrev then : Event → Answer → List AnsweredEvent
then e a =
    (recover 63, done 0) ∷ (begin 31, done 0) ∷ (begin 0, done 1) ∷ (begin 31, done 2) ∷ (commit 1 0, done 0) ∷ (begin 0, done 1) ∷ (begin 9, refused 5) ∷ (e, a) ∷ []

abbrev pub belong_trials : List Belonging
belong_trials =
    (four, lock 0 3 to_write, 1) ∷ (four, write 1 3 2 7, 4) ∷ (four, read 2 1 0, 3) ∷ (four, commit 2 1, 3) ∷ (four, abort 1 true, 4) ∷ (four, abort 0 false, 1) ∷ (four, prepare 2 0 1, 3) ∷
    (four, begin 2, 3) ∷
    -- nobody's: what names no number, or a number that nobody bears
    (four, crash, 0) ∷ (four, recover 1, 0) ∷ (four, decide true 1 2, 0) ∷ (four, query 1, 0) ∷ (four, lock 3 0 to_write, 0) ∷ (four, read 9 0 1, 0) ∷ (four, begin 31, 0) ∷
    -- what a begin that was accepted gives is its own from then on, also with a number that another bore; a refused begin gives nothing
    (then (begin 2) (done 3), write 3 3 2 7, 5) ∷ (then (begin 2) (done 3), commit 2 0, 3) ∷ (then (begin 31) (done 20), abort 20 false, 5) ∷ (then (begin 2) (refused 7), write 3 3 2 7, 0) ∷
    -- who has ended bears none: by its commit or abort, an ancestor's abort, its prepare, a crash, any answer 11
    (then (commit 1 0) (done 0), read 1 3 2, 0) ∷ (then (abort 2 false) (done 0), read 2 3 2, 0) ∷ (then (abort 0 true) (done 0), read 1 3 2, 0) ∷ (then (abort 0 true) (done 0), read 2 3 2, 3) ∷
    (then (prepare 2 63 7) (done 2), read 2 3 2, 0) ∷ (then crash (done 0), read 0 3 2, 0) ∷ (then (commit 2 0) (cut 0), read 0 3 2, 0) ∷ (then (commit 2 0) (refused 10), read 2 3 2, 3) ∷ []

-- an answer's two bytes, and whether its event is accepted
abbrev pub Accepting : Type 0
Accepting = ℕ × ℕ × Bool

abbrev pub all_accept : List Accepting → Bool
all_accept [] = true
all_accept (x ∷ xs) = agree x.2 (accepted (answer_of (record { word = 0; number = x.0; value = x.1 }))) && all_accept xs

abbrev pub accept_trials : List Accepting
accept_trials =
    (0, 0, true) ∷ (0, 255, true) ∷ (11, 0, true) ∷ (11, 5, true) ∷ (1, 0, false) ∷ (2, 0, false) ∷ (3, 0, false) ∷ (4, 0, false) ∷ (5, 0, false) ∷ (6, 0, false) ∷ (7, 0, false) ∷ (8, 0, false) ∷
    (9, 0, false) ∷ (10, 0, false) ∷ (12, 0, false) ∷ (13, 0, false) ∷ (14, 0, false) ∷ (27, 0, false) ∷ (255, 255, false) ∷ []

-- words, and whether they are crashes and recoveries only
abbrev pub Restarting : Type 0
Restarting = List ℕ × Bool

abbrev pub all_restart : List Restarting → Bool
all_restart [] = true
all_restart (x ∷ xs) = agree x.1 (restarts geometry1 x.0) && all_restart xs

abbrev pub restart_trials : List Restarting
restart_trials =
    ([], true) ∷ (0x70000000 ∷ [], true) ∷ (0x80000000 ∷ [], true) ∷ (0x80003F00 ∷ 0x70000000 ∷ 0x80000100 ∷ 0x70000000 ∷ 0x70000000 ∷ [], true) ∷
    -- any other kind, a bad event, and one among them
    (0x1F800000 ∷ [], false) ∷ (0x20000000 ∷ [], false) ∷ (0x30000000 ∷ [], false) ∷ (0x40000000 ∷ [], false) ∷ (0x50000000 ∷ [], false) ∷ (0x60000000 ∷ [], false) ∷
    (0x90000000 ∷ [], false) ∷ (0xA0000000 ∷ [], false) ∷ (0xB0000000 ∷ [], false) ∷ (0x70000001 ∷ [], false) ∷ (0x00000000 ∷ [], false) ∷ (0x70000000 ∷ 0x50003F00 ∷ [], false) ∷
    (0x50003F00 ∷ 0x70000000 ∷ [], false) ∷ []
