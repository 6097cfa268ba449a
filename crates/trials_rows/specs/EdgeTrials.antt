-- Rows at the edges of how transactions and locks behave: numbers and depths, the order of refusals, what a parent inherits, what ends.
use Rattle.std.specs.Prelude.{ℕ, zero, suc, List, [], ◌∷◌, ◌++◌, set}
use Rattle.rules.specs.Event.{begin, write, read, commit, crash, recover}
use Rattle.trials_rows.specs.Rows.{Line, Trial, plays_fresh, home, emptied, value, zero_page, with_a5, on, top, locks, shares, aborts, reports, on_fresh, nested, writes_a5, child_writes11, tops}

-- n transactions nested beneath t, which get the numbers from i on
abbrev pub nested_beneath : ℕ → ℕ → ℕ → List Line
nested_beneath t i zero = []
nested_beneath t i (suc n) = on (begin t) i ∷ nested_beneath i (suc i) n

unfoldable pub edge_trials : List Trial
edge_trials =
    -- 4: the 24th begins and the 25th is 7; after an abort its number is given again, and of two free ones the lower.
    on_fresh (tops 0 24 ++ (
    on top 0x0700 ∷ on (begin 5) 0x0700 ∷ on (begin 24) 0x0500 ∷ on (aborts 7) 0x0000 ∷ on top 0x0007 ∷ on top 0x0700 ∷ on (aborts 20) 0x0000 ∷ on (commit 4 0) 0x0000 ∷
    on (begin 19) 0x0004 ∷ on top 0x0014 ∷ on top 0x0700 ∷ on (aborts 23) 0x0000 ∷ on (begin 23) 0x0500 ∷ on top 0x0017 ∷ [])) [] ∷
    -- 3: depth 16 begins, 17 is refused; 15 may have another child.
    on_fresh (nested 14 ++ (on (begin 14) 0x000F ∷ on (begin 15) 0x0600 ∷ on (begin 14) 0x0010 ∷ on (begin 16) 0x0600 ∷ on (begin 13) 0x0011 ∷ on (begin 17) 0x0012 ∷ [])) [] ∷
    -- 6 before 7: with 24 live, beneath one of depth 16; beneath one of depth 15, and at the top, 7; 5 before both.
    on_fresh (nested 15 ++ (tops 16 8 ++ (on (begin 15) 0x0600 ∷ on (begin 14) 0x0700 ∷ on top 0x0700 ∷ on (begin 30) 0x0500 ∷ []))) [] ∷
    -- A top transaction has depth 1, whatever the number had before: sixteen fit beneath it again.
    on_fresh (nested 15 ++ (on (aborts 3) 0x0000 ∷ on top 0x0003 ∷ nested_beneath 3 4 15 ++ (on (begin 18) 0x0600 ∷ on (begin 2) 0x0013 ∷ []))) [] ∷
    -- What a child retained, and not only what it held, goes to its parent: to write, and to read.
    on_fresh (
    on top 0x0000 ∷ on (begin 0) 0x0001 ∷ on (begin 1) 0x0002 ∷ on (locks 2 3) 0x0000 ∷ on (shares 2 4) 0x0000 ∷ on (commit 2 0) 0x0000 ∷ on (commit 1 0) 0x0000 ∷ on top 0x0001 ∷
    on (locks 1 3) 0x0800 ∷ on (shares 1 3) 0x0800 ∷ on (locks 1 4) 0x0800 ∷ on (shares 1 4) 0x0000 ∷ on (aborts 0) 0x0000 ∷ on (locks 1 3) 0x0000 ∷ on (locks 1 4) 0x0000 ∷ []) [] ∷
    -- So it does with a report: what the child held, and what it retained.
    on_fresh (
    on top 0x0000 ∷ on (begin 0) 0x0001 ∷ on (locks 1 5) 0x0000 ∷ on (begin 1) 0x0002 ∷ on (shares 2 3) 0x0000 ∷ on (commit 2 0) 0x0000 ∷ on (reports 1) 0x0000 ∷ on top 0x0001 ∷
    on (locks 1 3) 0x0800 ∷ on (shares 1 3) 0x0000 ∷ on (shares 1 5) 0x0800 ∷ []) [] ∷
    -- A sibling, and a child of it, is stopped by who holds; and by who retains and is no ancestor.
    on_fresh (
    on top 0x0000 ∷ on (begin 0) 0x0001 ∷ on (begin 0) 0x0002 ∷ on (locks 1 3) 0x0000 ∷ on (locks 2 3) 0x0800 ∷ on (begin 1) 0x0003 ∷ on (locks 3 4) 0x0000 ∷ on (commit 3 0) 0x0000 ∷
    on (locks 2 4) 0x0800 ∷ on (begin 2) 0x0003 ∷ on (locks 3 4) 0x0800 ∷ on (locks 3 3) 0x0800 ∷ on (commit 1 0) 0x0000 ∷ on (locks 3 3) 0x0000 ∷ on (locks 3 4) 0x0000 ∷ []) [] ∷
    -- A grandchild asks for what its grandparent holds, and for what that retains.
    on_fresh (
    on top 0x0000 ∷ on (locks 0 3) 0x0000 ∷ on (begin 0) 0x0001 ∷ on (locks 1 4) 0x0000 ∷ on (commit 1 0) 0x0000 ∷ on (begin 0) 0x0001 ∷ on (begin 1) 0x0002 ∷ on (locks 2 3) 0x0800 ∷
    on (shares 2 3) 0x0800 ∷ on (locks 2 4) 0x0000 ∷ on (locks 2 4) 0x0000 ∷ []) [] ∷
    -- An abort discards what it takes, and leaves what ancestors hold and retain.
    on_fresh (
    on top 0x0000 ∷ on (locks 0 3) 0x0000 ∷ on (begin 0) 0x0001 ∷ on (locks 1 4) 0x0000 ∷ on (commit 1 0) 0x0000 ∷ on (begin 0) 0x0001 ∷ on (begin 1) 0x0002 ∷ on (locks 2 4) 0x0000 ∷
    on (locks 2 5) 0x0000 ∷ on (aborts 1) 0x0000 ∷ on top 0x0001 ∷ on (locks 1 3) 0x0800 ∷ on (locks 1 4) 0x0800 ∷ on (locks 1 5) 0x0000 ∷ on (locks 2 5) 0x0500 ∷ on (locks 0 4) 0x0000 ∷ []) [] ∷
    -- A read goes by the nearest: the own version, which is a copy of the parent's, and over that the grandparent's; another record by the home page.
    on_fresh (
    on top 0x0000 ∷ on (begin 0) 0x0001 ∷ on (begin 1) 0x0002 ∷ on (locks 2 3) 0x0000 ∷ on (write 2 3 2 0x11) 0x0000 ∷ on (commit 2 0) 0x0000 ∷ on (commit 1 0) 0x0000 ∷ on (begin 0) 0x0001 ∷
    on (begin 1) 0x0002 ∷ on (locks 2 3) 0x0000 ∷ on (read 2 3 2) 0x0011 ∷ on (write 2 3 4 0x44) 0x0000 ∷ on (read 2 3 2) 0x0011 ∷ on (commit 2 0) 0x0000 ∷ on (locks 1 3) 0x0000 ∷
    on (read 1 3 4) 0x0044 ∷ on (write 1 3 2 0x22) 0x0000 ∷ on (aborts 1) 0x0000 ∷ on (locks 0 3) 0x0000 ∷ on (read 0 3 2) 0x0011 ∷ on (read 0 3 4) 0x0000 ∷ on (commit 0 63) 0x0004 ∷ []) (
    home 3 (set zero_page 2 0x11) ∷ []) ∷
    -- The parent takes the child's versions in place of its own of the same records, and keeps its others.
    on_fresh (writes_a5 ++ (
    on (locks 0 4) 0x0000 ∷ on (write 0 4 2 1) 0x0000 ∷ on (begin 0) 0x0001 ∷ on (locks 1 5) 0x0000 ∷ on (write 1 5 2 2) 0x0000 ∷ on (commit 1 5) 0x0000 ∷ on (commit 0 63) 0x0008 ∷ [])) (
    home 3 with_a5 ∷ home 4 (set zero_page 2 1) ∷ home 5 (set zero_page 2 2) ∷ emptied ∷ []) ∷
    -- A top commit ends that one: the others keep number, locks and versions.
    on_fresh (writes_a5 ++ (
    on top 0x0001 ∷ on (locks 1 4) 0x0000 ∷ on (write 1 4 2 7) 0x0000 ∷ on (commit 0 63) 0x0004 ∷ on (locks 0 3) 0x0500 ∷ on (read 1 4 2) 0x0007 ∷ on top 0x0000 ∷ on (locks 0 4) 0x0800 ∷
    on (locks 0 3) 0x0000 ∷ on (read 0 3 2) 0x00A5 ∷ on (commit 1 63) 0x0004 ∷ on (locks 0 4) 0x0000 ∷ on (read 0 4 2) 0x0007 ∷ [])) [] ∷
    -- A cut commit is a crash: all others end too, with locks and versions; numbers are given from 0 again.
    on_fresh (writes_a5 ++ (
    on top 0x0001 ∷ on (locks 1 4) 0x0000 ∷ on (write 1 4 2 7) 0x0000 ∷ on (commit 0 0) 0x0B00 ∷ on (locks 1 4) 0x0200 ∷ on (recover 63) 0x0000 ∷ on (locks 1 4) 0x0500 ∷ on top 0x0000 ∷
    on (locks 0 4) 0x0000 ∷ on (read 0 4 2) 0x0000 ∷ on (locks 0 3) 0x0000 ∷ on (read 0 3 2) 0x0000 ∷ on (commit 0 0) 0x0000 ∷ [])) (home 3 zero_page ∷ value 3 zero_page ∷ []) ∷
    -- A crash: the same; only a recover brings it up.
    on_fresh (writes_a5 ++ (
    on (begin 0) 0x0001 ∷ on crash 0x0000 ∷ on (aborts 0) 0x0200 ∷ on (read 0 3 2) 0x0200 ∷ on (commit 0 63) 0x0200 ∷ on (write 0 3 2 1) 0x0200 ∷ on crash 0x0000 ∷ on (recover 0) 0x0000 ∷
    on (aborts 0) 0x0500 ∷ on top 0x0000 ∷ on (locks 0 3) 0x0000 ∷ on (read 0 3 2) 0x0000 ∷ [])) [] ∷
    -- A recovery that is cut leaves the store down.
    on_fresh (writes_a5 ++ (on (commit 0 2) 0x0B02 ∷ on (recover 1) 0x0B01 ∷ on top 0x0200 ∷ on (recover 1) 0x0B01 ∷ on (recover 2) 0x0002 ∷ on (recover 2) 0x0300 ∷ on top 0x0000 ∷ [])) [] ∷
    -- A child's commit takes any count and writes no page.
    on_fresh (
    on top 0x0000 ∷ on (begin 0) 0x0001 ∷ on (locks 1 3) 0x0000 ∷ on (write 1 3 2 0xA5) 0x0000 ∷ on (commit 1 5) 0x0000 ∷ on (begin 0) 0x0001 ∷ on (commit 1 0) 0x0000 ∷ on (commit 0 0) 0x0B00 ∷ []) (
    home 3 zero_page ∷ []) ∷
    -- 2 before 5; 5 before 14, 10, 8 and 9; 31 is a name, never live, in all but a begin.
    plays_fresh (
    on (begin 30) 0x0200 ∷ on (locks 31 3) 0x0200 ∷ on (commit 31 0) 0x0200 ∷ on (recover 63) 0x0000 ∷ on (locks 31 3) 0x0500 ∷ on (write 31 3 2 7) 0x0500 ∷ on (read 31 3 2) 0x0500 ∷
    on (commit 31 63) 0x0500 ∷ on (aborts 31) 0x0500 ∷ on (locks 0 3) 0x0500 ∷ on (begin 0) 0x0500 ∷ on (begin 29) 0x0500 ∷ []) [] ∷
    -- 9: neither holder nor retainer; a holder of another record; the parent of the holder. 8 leaves the holder's lock as it was.
    on_fresh (
    on top 0x0000 ∷ on (read 0 3 2) 0x0900 ∷ on (write 0 3 2 7) 0x0900 ∷ on (locks 0 4) 0x0000 ∷ on (read 0 3 2) 0x0900 ∷ on (read 0 4 2) 0x0000 ∷ on top 0x0001 ∷ on (read 1 4 2) 0x0900 ∷
    on (locks 1 4) 0x0800 ∷ on (read 1 4 2) 0x0900 ∷ on (write 0 4 2 7) 0x0000 ∷ on (commit 0 63) 0x0004 ∷ []) [] ∷
    -- 10 at any depth, with a live child of its own; then all commit, from beneath.
    on_fresh (
    on top 0x0000 ∷ on (begin 0) 0x0001 ∷ on (begin 1) 0x0002 ∷ on (commit 1 0) 0x0A00 ∷ on (commit 0 63) 0x0A00 ∷ on (commit 2 0) 0x0000 ∷ on (commit 0 63) 0x0A00 ∷ on (commit 1 0) 0x0000 ∷
    on (commit 0 0) 0x0000 ∷ []) [] ∷
    -- A refused commit changes nothing: the child goes on, and so does its parent.
    on_fresh (child_writes11 ++ (
    on (begin 0) 0x0001 ∷ on (commit 0 2) 0x0A00 ∷ on (locks 1 3) 0x0000 ∷ on (read 1 3 2) 0x0011 ∷ on (commit 1 63) 0x0000 ∷ on (commit 0 2) 0x0B02 ∷ on (recover 63) 0x0002 ∷ [])) (
    home 3 (set zero_page 2 0x11) ∷ []) ∷
    []
