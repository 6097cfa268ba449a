-- Rows for the state that a list of events leaves, which a portion keeps: who bears which number, what each holds and retains, which versions there
-- are. Some of it no answer shows, as what a parent that holds a lock retains of it.
use Rattle.std.specs.Prelude.{ℕ, ◌*◌, Bool, true, false, not, ◌&&◌, List, [], ◌∷◌, ◌++◌, eqb, length, set, replicate}
use Rattle.std.proofs.Math.Option.{Option, none, some}
use Rattle.rules.specs.Store.{Page, pages_of}
use Rattle.rules.specs.Event.{begin, write, read, commit, crash, recover, prepare}
use Rattle.rules.specs.State.{Bearer, free, active, Mode, nothing, reading, writing, down}
use Rattle.rules.specs.Step.{StateOf}
use Rattle.rules.specs.Portion.{Portion, portion}
use Rattle.rules.specs.Editions.{edition1}
use Rattle.trials_rows.specs.Rows.{Line, word, alike, numbers1, events_of, answers_due, fresh_bytes, zero_page, with_a5, on, top, locks, shares, aborts, reports, writes_a5, child_writes11}

-- of a state: whether it is up; a number that is free, or borne with a parent and a depth; what a transaction holds and retains of a record's lock; its
-- version of a record, or that it has none
pub data Has : Type 0 where
  is_up is_down : Has
  vacant : ℕ → Has
  bears : ℕ → ℕ → ℕ → Has
  holds retains : ℕ → ℕ → Mode → Has
  version : ℕ → ℕ → Page → Has
  without : ℕ → ℕ → Has

abbrev same_bearer : Bearer → Bearer → Bool
same_bearer free free = true
same_bearer free (active p d) = false
same_bearer (active p d) free = false
same_bearer (active p d) (active q e) = eqb p q && eqb d e

abbrev strength : Mode → ℕ
strength nothing = 0
strength reading = 1
strength writing = 2

abbrev same_version : Option Page → Option Page → Bool
same_version none none = true
same_version none (some q) = false
same_version (some p) none = false
same_version (some p) (some q) = alike p q

abbrev pub state_has : StateOf edition1 → Has → Bool
state_has s is_up = s.up
state_has s is_down = not s.up
state_has s (vacant t) = same_bearer (s.bearer t) free
state_has s (bears t p d) = same_bearer (s.bearer t) (active p d)
state_has s (holds t r m) = eqb (strength (s.held r t)) (strength m)
state_has s (retains t r m) = eqb (strength (s.retained r t)) (strength m)
state_has s (version t r p) = same_version (s.version t r) (some p)
state_has s (without t r) = same_version (s.version t r) none

abbrev pub has_all : StateOf edition1 → List Has → Bool
has_all s [] = true
has_all s (h ∷ hs) = state_has s h && has_all s hs

-- A row: a start store, events with the answers due, and what the state has at the end.
pub data StateTrial : Type 0 where
  leaves : List ℕ → List Line → List Has → StateTrial

abbrev pub state_trial_passes : StateTrial → Bool
state_trial_passes (leaves store ls hs) =
    let p : Portion edition1 = portion edition1 true (down (pages_of store)) store (events_of numbers1 ls) (replicate 8192 0) (replicate (2 * length ls) 255) in
    eqb p.answer 0 && alike p.answers (answers_due ls) && has_all p.state hs

abbrev pub state_trials_pass : List StateTrial → Bool
state_trials_pass [] = true
state_trials_pass (t ∷ ts) = state_trial_passes t && state_trials_pass ts

abbrev pub state_on_fresh : List Line → List Has → StateTrial
state_on_fresh ls hs = leaves fresh_bytes (on (recover 63) 0x0000 ∷ ls) hs

abbrev pub state_trials : List StateTrial
state_trials =
    -- A start is down, and nothing is there. Only a recover that finishes brings it up.
    leaves fresh_bytes [] (is_down ∷ vacant 0 ∷ vacant 23 ∷ []) ∷ state_on_fresh [] (is_up ∷ vacant 0 ∷ []) ∷
    -- Begin: the lowest number, the parent that is named, the depth; no lock and no version.
    state_on_fresh (on top 0x0000 ∷ on (begin 0) 0x0001 ∷ on (begin 1) 0x0002 ∷ on top 0x0003 ∷ on (begin 0) 0x0004 ∷ []) (
    bears 0 31 1 ∷ bears 1 0 2 ∷ bears 2 1 3 ∷ bears 3 31 1 ∷ bears 4 0 2 ∷ vacant 5 ∷ holds 2 3 nothing ∷ without 2 3 ∷ []) ∷
    -- A lock makes no version; a first write does.
    state_on_fresh (on top 0x0000 ∷ on (locks 0 3) 0x0000 ∷ []) (holds 0 3 writing ∷ retains 0 3 nothing ∷ without 0 3 ∷ holds 0 4 nothing ∷ []) ∷
    state_on_fresh writes_a5 (holds 0 3 writing ∷ version 0 3 with_a5 ∷ without 0 4 ∷ []) ∷
    -- Asking again, or for less, changes nothing; asking for more raises.
    state_on_fresh (on top 0x0000 ∷ on (locks 0 3) 0x0000 ∷ on (shares 0 3) 0x0000 ∷ []) (holds 0 3 writing ∷ []) ∷
    state_on_fresh (on top 0x0000 ∷ on (shares 0 3) 0x0000 ∷ on (shares 0 3) 0x0000 ∷ []) (holds 0 3 reading ∷ []) ∷
    state_on_fresh (on top 0x0000 ∷ on (shares 0 3) 0x0000 ∷ on (locks 0 3) 0x0000 ∷ []) (holds 0 3 writing ∷ []) ∷
    -- A refused raise leaves the read lock as it was, and a refused lock nothing.
    state_on_fresh (on top 0x0000 ∷ on top 0x0001 ∷ on (shares 0 3) 0x0000 ∷ on (shares 1 3) 0x0000 ∷ on (locks 0 3) 0x0800 ∷ on (locks 1 4) 0x0000 ∷ on (locks 0 4) 0x0800 ∷ []) (
    holds 0 3 reading ∷ holds 1 3 reading ∷ holds 0 4 nothing ∷ holds 1 4 writing ∷ []) ∷
    -- A child commits: the parent retains what the child held, and not what it holds itself.
    state_on_fresh (on top 0x0000 ∷ on (locks 0 3) 0x0000 ∷ on (begin 0) 0x0001 ∷ on (locks 1 4) 0x0000 ∷ on (shares 1 5) 0x0000 ∷ on (commit 1 0) 0x0000 ∷ []) (
    holds 0 3 writing ∷ retains 0 3 nothing ∷ holds 0 4 nothing ∷ retains 0 4 writing ∷ retains 0 5 reading ∷ vacant 1 ∷ holds 1 4 nothing ∷ retains 1 4 nothing ∷ []) ∷
    -- And what the child retained, in the strongest of the modes, each lock for itself.
    state_on_fresh (
    on top 0x0000 ∷ on (begin 0) 0x0001 ∷ on (begin 1) 0x0002 ∷ on (locks 2 3) 0x0000 ∷ on (shares 2 4) 0x0000 ∷ on (commit 2 0) 0x0000 ∷ on (shares 1 3) 0x0000 ∷ on (locks 1 4) 0x0000 ∷
    on (commit 1 0) 0x0000 ∷ []) (retains 0 3 writing ∷ retains 0 4 writing ∷ holds 0 3 nothing ∷ holds 0 4 nothing ∷ vacant 1 ∷ vacant 2 ∷ []) ∷
    state_on_fresh (on top 0x0000 ∷ on (begin 0) 0x0001 ∷ on (begin 1) 0x0002 ∷ on (shares 2 3) 0x0000 ∷ on (commit 2 0) 0x0000 ∷ on (commit 1 0) 0x0000 ∷ []) (retains 0 3 reading ∷ retains 0 4 nothing ∷ []) ∷
    -- A retainer that is granted the lock holds and still retains it; the two modes are apart.
    state_on_fresh (on top 0x0000 ∷ on (begin 0) 0x0001 ∷ on (locks 1 3) 0x0000 ∷ on (commit 1 0) 0x0000 ∷ on (shares 0 3) 0x0000 ∷ []) (holds 0 3 reading ∷ retains 0 3 writing ∷ []) ∷
    state_on_fresh (on top 0x0000 ∷ on (begin 0) 0x0001 ∷ on (shares 1 3) 0x0000 ∷ on (commit 1 0) 0x0000 ∷ on (locks 0 3) 0x0000 ∷ []) (holds 0 3 writing ∷ retains 0 3 reading ∷ []) ∷
    -- The parent takes the child's versions in place of its own, and keeps its others.
    state_on_fresh (child_writes11 ++ (
    on (locks 0 4) 0x0000 ∷ on (write 0 4 2 9) 0x0000 ∷ on (begin 0) 0x0001 ∷ on (locks 1 3) 0x0000 ∷ on (write 1 3 0 8) 0x0000 ∷ on (commit 1 0) 0x0000 ∷ [])) (
    version 0 3 (8 ∷ 0 ∷ 0x11 ∷ replicate 29 0) ∷ version 0 4 (set zero_page 2 9) ∷ without 1 3 ∷ []) ∷
    -- Abort: it ends with all beneath it, their locks and versions; ancestors keep theirs.
    state_on_fresh (writes_a5 ++ (
    on (begin 0) 0x0001 ∷ on (begin 1) 0x0002 ∷ on (locks 2 4) 0x0000 ∷ on (write 2 4 2 1) 0x0000 ∷ on (begin 0) 0x0003 ∷ on (locks 3 5) 0x0000 ∷ on (aborts 1) 0x0000 ∷ [])) (
    vacant 1 ∷ vacant 2 ∷ bears 3 0 2 ∷ holds 3 5 writing ∷ holds 2 4 nothing ∷ without 2 4 ∷ retains 0 4 nothing ∷ holds 0 3 writing ∷ version 0 3 with_a5 ∷ []) ∷
    -- With a report the parent retains what that one held and retained, and holds nothing new; what is beneath is discarded.
    state_on_fresh (
    on top 0x0000 ∷ on (shares 0 6) 0x0000 ∷ on (begin 0) 0x0001 ∷ on (shares 1 3) 0x0000 ∷ on (begin 1) 0x0002 ∷ on (locks 2 4) 0x0000 ∷ on (write 2 4 2 1) 0x0000 ∷ on (commit 2 0) 0x0000 ∷
    on (begin 1) 0x0002 ∷ on (locks 2 5) 0x0000 ∷ on (reports 1) 0x0000 ∷ []) (
    retains 0 3 reading ∷ holds 0 3 nothing ∷ retains 0 4 writing ∷ retains 0 5 nothing ∷ retains 0 6 nothing ∷ holds 0 6 reading ∷ without 0 4 ∷ vacant 1 ∷ vacant 2 ∷ []) ∷
    -- A top one has no parent: nothing is retained.
    state_on_fresh (on top 0x0000 ∷ on top 0x0001 ∷ on (locks 0 3) 0x0000 ∷ on (reports 0) 0x0000 ∷ []) (vacant 0 ∷ bears 1 31 1 ∷ retains 1 3 nothing ∷ retains 0 3 nothing ∷ holds 0 3 nothing ∷ []) ∷
    -- A top commit, and a prepare, release all that it had, and touch no other.
    state_on_fresh (writes_a5 ++ (on top 0x0001 ∷ on (locks 1 4) 0x0000 ∷ on (write 1 4 2 7) 0x0000 ∷ on (commit 0 63) 0x0004 ∷ [])) (
    is_up ∷ vacant 0 ∷ holds 0 3 nothing ∷ without 0 3 ∷ bears 1 31 1 ∷ holds 1 4 writing ∷ version 1 4 (set zero_page 2 7) ∷ []) ∷
    state_on_fresh (writes_a5 ++ (on (shares 0 5) 0x0000 ∷ on top 0x0001 ∷ on (locks 1 4) 0x0000 ∷ on (prepare 0 63 7) 0x0002 ∷ [])) (
    is_up ∷ vacant 0 ∷ holds 0 3 nothing ∷ holds 0 5 nothing ∷ without 0 3 ∷ bears 1 31 1 ∷ holds 1 4 writing ∷ []) ∷
    -- A crash, and a cut: down, with nothing left.
    state_on_fresh (writes_a5 ++ (on (begin 0) 0x0001 ∷ on crash 0x0000 ∷ [])) (is_down ∷ vacant 0 ∷ vacant 1 ∷ holds 0 3 nothing ∷ without 0 3 ∷ []) ∷
    state_on_fresh (writes_a5 ++ (on top 0x0001 ∷ on (locks 1 4) 0x0000 ∷ on (commit 0 3) 0x0B03 ∷ [])) (is_down ∷ vacant 0 ∷ vacant 1 ∷ holds 0 3 nothing ∷ holds 1 4 nothing ∷ without 0 3 ∷ []) ∷
    -- A refusal changes nothing: 5, 6, 8, 9, 10, 14 and 1, one after the other.
    state_on_fresh (writes_a5 ++ (
    on (begin 9) 0x0500 ∷ on top 0x0001 ∷ on (locks 1 3) 0x0800 ∷ on (read 1 3 2) 0x0900 ∷ on (write 1 3 2 1) 0x0900 ∷ on (begin 0) 0x0002 ∷ on (commit 0 63) 0x0A00 ∷ on (write 0 3 2 1) 0x0E00 ∷
    on (locks 0 4) 0x0E00 ∷ on (recover 63) 0x0300 ∷ word 0x70000001 0x0100 ∷ [])) (
    is_up ∷ bears 0 31 1 ∷ bears 1 31 1 ∷ bears 2 0 2 ∷ vacant 3 ∷ holds 0 3 writing ∷ holds 1 3 nothing ∷ holds 0 4 nothing ∷ version 0 3 with_a5 ∷ without 1 3 ∷ []) ∷
    []
