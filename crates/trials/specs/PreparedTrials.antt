-- Rows for prepared transactions (document 02, L9): the prepared page, prepare and both decisions cut after every page write, what a prepared
-- transaction stops, and which words are no such events.
use Rattle.std.specs.Prelude.{ℕ, ◌+◌, ◌*◌, true, false, List, [], ◌∷◌, ◌++◌, drop, length, set, replicate, negsuc}
use Rattle.rules.specs.Event.{Event, begin, write, read, commit, crash, recover, prepare, decide, query}
use Rattle.rules.specs.Age.{ahead, refused}
use Rattle.trials_rows.specs.Rows.{Line, word, page, value, Trial, plays, ages, fresh_bytes, zero_page, empty_page, with_a5, on, top, locks, shares, aborts, on_fresh, writes_a5, child_writes11, writes_two, both_a5, neither}

-- a decision to commit, to abort
abbrev pub decide_commit : ℕ → ℕ → Event
decide_commit k i = decide true k i

abbrev pub decide_abort : ℕ → ℕ → Event
decide_abort k i = decide false k i

-- a fresh store with these bytes at the commit page's beginning, and A5 in the intention page of record 3 at 2
abbrev pub start_with : List ℕ → List ℕ
start_with head = head ++ drop (length head) (set fresh_bytes (32 * 4 + 2) 0xA5)

-- record 3 is prepared with identity 7
abbrev pub prepared7 : List ℕ
prepared7 = start_with (0x13 ∷ 0x10 ∷ 0x00 ∷ 0x08 ∷ 0x07 ∷ [])

-- recovery over this commit page is refused
abbrev pub damaged_by : List ℕ → Trial
damaged_by head = plays (start_with head) (on (recover 63) 0x0400 ∷ []) (page 0 head ∷ value 3 zero_page ∷ [])

-- records 3 and 9 are prepared with identity 7
abbrev pub two_prepared : List Line
two_prepared = writes_two ++ (on (prepare 0 63 7) 0x0003 ∷ [])

-- how its commit page begins, as prepared and as committed
abbrev pub two_held : List ℕ
two_held = 0x13 ∷ 0x10 ∷ 0x40 ∷ 0x10 ∷ 0x07 ∷ 0x00 ∷ []

abbrev pub two_stored : List ℕ
two_stored = 0x15 ∷ 0x10 ∷ 0x40 ∷ 0x10 ∷ 0x00 ∷ 0x00 ∷ []

unfoldable pub prepared_trials : List Trial
prepared_trials =
    -- The prepared page: records 0 and 3, identity 2A. What it settles is as before.
    on_fresh (
    on top 0x0000 ∷ on (locks 0 0) 0x0000 ∷ on (write 0 0 1 7) 0x0000 ∷ on (locks 0 3) 0x0000 ∷ on (write 0 3 2 0xA5) 0x0000 ∷ word 0x90003F2A 0x0003 ∷ []) (
    page 0 (0x13 ∷ 0x90 ∷ 0x00 ∷ 0x10 ∷ 0x2A ∷ replicate 27 0) ∷ page 4 with_a5 ∷ value 0 zero_page ∷ value 3 zero_page ∷ []) ∷
    -- A count that isn't the map's, a map of 0, a byte behind: damaged. So is a fifth byte of an empty or a committed page. Identity 0 is one.
    damaged_by (0x13 ∷ 0x90 ∷ 0x00 ∷ 0x08 ∷ 0x2A ∷ []) ∷ damaged_by (0x13 ∷ 0x00 ∷ 0x00 ∷ 0x00 ∷ 0x2A ∷ []) ∷
    damaged_by (0x13 ∷ 0x10 ∷ 0x00 ∷ 0x09 ∷ 0x07 ∷ []) ∷ damaged_by (0x13 ∷ 0x10 ∷ 0x00 ∷ 0x08 ∷ 0x07 ∷ 0x01 ∷ []) ∷
    damaged_by (0x10 ∷ 0x00 ∷ 0x00 ∷ 0x00 ∷ 0x01 ∷ []) ∷ damaged_by (0x15 ∷ 0x10 ∷ 0x00 ∷ 0x08 ∷ 0x01 ∷ []) ∷
    plays (start_with (0x13 ∷ 0x10 ∷ 0x00 ∷ 0x08 ∷ 0x00 ∷ [])) (on (recover 63) 0x0000 ∷ on (query 0) 0x0001 ∷ []) [] ∷
    -- A prepare of one record, cut after 0 and 1 writes: nothing is prepared, and it is lost; whole after 2.
    on_fresh (writes_a5 ++ (on (prepare 0 0 7) 0x0B00 ∷ on (recover 63) 0x0000 ∷ on (query 7) 0x0000 ∷ [])) (value 3 zero_page ∷ page 0 empty_page ∷ []) ∷
    on_fresh (writes_a5 ++ (on (prepare 0 1 7) 0x0B01 ∷ on (recover 63) 0x0000 ∷ on (query 7) 0x0000 ∷ [])) (value 3 zero_page ∷ page 0 empty_page ∷ []) ∷
    on_fresh (writes_a5 ++ (on (prepare 0 2 7) 0x0002 ∷ on (query 7) 0x0001 ∷ on (query 8) 0x0000 ∷ [])) (value 3 zero_page ∷ []) ∷
    -- A transaction that changed nothing just commits, also while another is prepared; there is nothing to decide then.
    on_fresh (on top 0x0000 ∷ on (locks 0 3) 0x0000 ∷ on (prepare 0 0 7) 0x0000 ∷ on (query 7) 0x0000 ∷ on (decide_commit 63 7) 0x0000 ∷ on top 0x0000 ∷ on (locks 0 3) 0x0000 ∷ []) (
    page 0 empty_page ∷ []) ∷
    on_fresh (writes_a5 ++ (on (prepare 0 63 7) 0x0002 ∷ on top 0x0000 ∷ on (locks 0 4) 0x0000 ∷ on (prepare 0 0 8) 0x0000 ∷ on top 0x0000 ∷ on (commit 0 0) 0x0000 ∷ on (query 7) 0x0001 ∷ [])) [] ∷
    -- While one is prepared, 13 for a changed record: of a prepare, also by a child, tried after 10 and before 27; of a top commit, and not of a
    -- child's.
    on_fresh (writes_a5 ++ (
    word 0x90003F07 0x0002 ∷ on top 0x0000 ∷ on (begin 0) 0x0001 ∷ word 0x90803F08 0x1B00 ∷ on (locks 1 4) 0x0000 ∷ on (write 1 4 2 7) 0x0000 ∷ word 0x90803F08 0x0D00 ∷
    word 0x90003F08 0x0A00 ∷ word 0x50803F00 0x0000 ∷ word 0x50003F00 0x0D00 ∷ word 0x90003F08 0x0D00 ∷ word 0xA0003F07 0x0001 ∷ word 0x50003F00 0x0004 ∷ [])) (
    value 3 zero_page ∷ value 4 (set zero_page 2 7) ∷ []) ∷
    -- A prepare ends the transaction; what it changed stays locked in every mode, through crashes, and its other locks go.
    on_fresh (writes_a5 ++ (
    on (locks 0 4) 0x0000 ∷ on (shares 0 5) 0x0000 ∷ on (prepare 0 63 7) 0x0002 ∷ on (read 0 3 2) 0x0500 ∷ on top 0x0000 ∷ on (locks 0 3) 0x0800 ∷ on (shares 0 3) 0x0800 ∷
    on (locks 0 4) 0x0000 ∷ on (locks 0 5) 0x0000 ∷ on crash 0x0000 ∷ on (recover 0) 0x0000 ∷ on top 0x0000 ∷ on (shares 0 3) 0x0800 ∷ on (decide_commit 63 7) 0x0003 ∷
    on (shares 0 3) 0x0000 ∷ on (read 0 3 2) 0x00A5 ∷ [])) (value 3 with_a5 ∷ page 0 empty_page ∷ []) ∷
    -- Recovery over a prepared page writes nothing and comes up, whatever its count.
    plays prepared7 (on (recover 0) 0x0000 ∷ on crash 0x0000 ∷ on (recover 63) 0x0000 ∷ []) (page 0 (0x13 ∷ 0x10 ∷ 0x00 ∷ 0x08 ∷ 0x07 ∷ []) ∷ value 3 zero_page ∷ []) ∷
    -- A decision: offset 2 is 1, also while down; while down 2; for another nothing, whatever its count.
    plays prepared7 (
    word 0xA000BF07 0x0100 ∷ word 0xA0007F07 0x0200 ∷ word 0xB0000007 0x0200 ∷ word 0xB0000107 0x0100 ∷ on (recover 63) 0x0000 ∷ word 0xA000BF07 0x0100 ∷
    on (decide_commit 0 8) 0x0000 ∷ on (decide_abort 0 8) 0x0000 ∷ on (query 7) 0x0001 ∷ on (query 8) 0x0000 ∷ []) (value 3 zero_page ∷ []) ∷
    -- To abort: cut after 0 it is still prepared; whole after 1, and again nothing.
    plays prepared7 (
    on (recover 63) 0x0000 ∷ word 0xA0000007 0x0B00 ∷ on (query 7) 0x0200 ∷ on (recover 63) 0x0000 ∷ on (query 7) 0x0001 ∷ on (decide_abort 1 7) 0x0001 ∷ on (query 7) 0x0000 ∷
    on (decide_abort 63 7) 0x0000 ∷ on (decide_commit 63 7) 0x0000 ∷ []) (value 3 zero_page ∷ page 0 empty_page ∷ []) ∷
    -- To commit: cut after 0 still prepared; after 1 and 2 stored, and recovered; whole after 3.
    plays prepared7 (on (recover 63) 0x0000 ∷ on (decide_commit 0 7) 0x0B00 ∷ on (recover 63) 0x0000 ∷ on (query 7) 0x0001 ∷ []) (value 3 zero_page ∷ []) ∷
    plays prepared7 (on (recover 63) 0x0000 ∷ word 0xA0004107 0x0B01 ∷ []) (value 3 with_a5 ∷ page 0 (0x15 ∷ 0x10 ∷ 0x00 ∷ 0x08 ∷ 0x00 ∷ []) ∷ []) ∷
    plays prepared7 (on (recover 63) 0x0000 ∷ word 0xA0004107 0x0B01 ∷ on (recover 63) 0x0002 ∷ on (query 7) 0x0000 ∷ []) (value 3 with_a5 ∷ page 0 empty_page ∷ []) ∷
    plays prepared7 (on (recover 63) 0x0000 ∷ on (decide_commit 2 7) 0x0B02 ∷ []) (value 3 with_a5 ∷ []) ∷
    plays prepared7 (on (recover 63) 0x0000 ∷ on (decide_commit 3 7) 0x0003 ∷ on (query 7) 0x0000 ∷ []) (value 3 with_a5 ∷ page 0 empty_page ∷ []) ∷
    -- A cut decision ends the live transactions.
    plays prepared7 (on (recover 63) 0x0000 ∷ on top 0x0000 ∷ on (decide_commit 1 7) 0x0B01 ∷ on (recover 63) 0x0002 ∷ on (locks 0 3) 0x0500 ∷ []) (value 3 with_a5 ∷ []) ∷
    -- An age over a prepared page is by the home page.
    ages (set prepared7 (32 * 20 + 3) 7) 3 5 10 (ahead (negsuc 1)) ∷
    -- Damaged too: another edition or state, a count of 2 for one record, the last byte; and an age is refused then.
    damaged_by (0x23 ∷ 0x10 ∷ 0x00 ∷ 0x08 ∷ 0x07 ∷ []) ∷ damaged_by (0x14 ∷ 0x10 ∷ 0x00 ∷ 0x08 ∷ 0x07 ∷ []) ∷ damaged_by (0x13 ∷ 0x10 ∷ 0x00 ∷ 0x10 ∷ 0x07 ∷ []) ∷
    damaged_by ((0x13 ∷ 0x10 ∷ 0x00 ∷ 0x08 ∷ 0x07 ∷ []) ++ (replicate 26 0 ++ (0x01 ∷ []))) ∷
    ages (start_with (0x13 ∷ 0x00 ∷ 0x00 ∷ 0x00 ∷ 0x2A ∷ [])) 3 5 10 (refused 4) ∷
    -- The first and the last record of the map.
    on_fresh (
    on top 0x0000 ∷ on (locks 0 0) 0x0000 ∷ on (write 0 0 2 7) 0x0000 ∷ on (locks 0 15) 0x0000 ∷ on (write 0 15 2 7) 0x0000 ∷ on (prepare 0 63 1) 0x0003 ∷
    on top 0x0000 ∷ on (locks 0 0) 0x0800 ∷ on (locks 0 15) 0x0800 ∷ on (locks 0 1) 0x0000 ∷ on (locks 0 14) 0x0000 ∷ []) (
    page 0 (0x13 ∷ 0x80 ∷ 0x01 ∷ 0x10 ∷ 0x01 ∷ 0x00 ∷ []) ∷ []) ∷
    -- Identities 0 and 255: each is decided on by itself alone.
    on_fresh (writes_a5 ++ (
    on (prepare 0 63 0) 0x0002 ∷ on (query 0) 0x0001 ∷ on (query 255) 0x0000 ∷ on (decide_commit 63 255) 0x0000 ∷ on (decide_abort 0 255) 0x0000 ∷ on (query 0) 0x0001 ∷ [])) (
    page 0 (0x13 ∷ 0x10 ∷ 0x00 ∷ 0x08 ∷ 0x00 ∷ 0x00 ∷ []) ∷ value 3 zero_page ∷ []) ∷
    on_fresh (writes_a5 ++ (
    on (prepare 0 63 255) 0x0002 ∷ on (query 255) 0x0001 ∷ on (query 0) 0x0000 ∷ on (decide_commit 63 0) 0x0000 ∷ on (decide_abort 0 0) 0x0000 ∷ on (query 255) 0x0001 ∷ [])) (
    page 0 (0x13 ∷ 0x10 ∷ 0x00 ∷ 0x08 ∷ 0xFF ∷ 0x00 ∷ []) ∷ value 3 zero_page ∷ []) ∷
    on_fresh (writes_a5 ++ (on (prepare 0 63 255) 0x0002 ∷ on (decide_commit 63 255) 0x0003 ∷ on (query 255) 0x0000 ∷ [])) (page 0 empty_page ∷ value 3 with_a5 ∷ []) ∷
    on_fresh (writes_a5 ++ (on (prepare 0 63 0) 0x0002 ∷ on (decide_abort 63 0) 0x0001 ∷ on (query 0) 0x0000 ∷ [])) (page 0 empty_page ∷ value 3 zero_page ∷ []) ∷
    -- A prepare of two records, cut after 0, 1 and 2 writes: intention pages by rising record, nothing is prepared; whole after 3.
    on_fresh (writes_two ++ (on (prepare 0 0 7) 0x0B00 ∷ on (recover 63) 0x0000 ∷ on (query 7) 0x0000 ∷ [])) (page 0 empty_page ∷ page 4 zero_page ∷ page 10 zero_page ∷ neither) ∷
    on_fresh (writes_two ++ (on (prepare 0 1 7) 0x0B01 ∷ on (recover 63) 0x0000 ∷ on (query 7) 0x0000 ∷ [])) (page 0 empty_page ∷ page 4 with_a5 ∷ page 10 zero_page ∷ neither) ∷
    on_fresh (writes_two ++ (on (prepare 0 2 7) 0x0B02 ∷ on (recover 63) 0x0000 ∷ on (query 7) 0x0000 ∷ [])) (page 0 empty_page ∷ page 4 with_a5 ∷ page 10 with_a5 ∷ neither) ∷
    on_fresh (writes_two ++ (on (prepare 0 3 7) 0x0003 ∷ on (recover 63) 0x0300 ∷ on (query 7) 0x0001 ∷ [])) (page 0 two_held ∷ page 4 with_a5 ∷ page 10 with_a5 ∷ page 20 zero_page ∷ neither) ∷
    -- A cut prepare ends every transaction, and frees what it would have kept locked.
    on_fresh (writes_a5 ++ (
    on top 0x0001 ∷ on (locks 1 4) 0x0000 ∷ on (prepare 0 1 7) 0x0B01 ∷ on top 0x0200 ∷ on (recover 63) 0x0000 ∷ on (locks 1 4) 0x0500 ∷ on top 0x0000 ∷
    on (locks 0 4) 0x0000 ∷ on (locks 0 3) 0x0000 ∷ [])) [] ∷
    -- A decision to commit two records, cut after 0: still prepared; after 1, 2 and 3: stored, home pages by rising record; whole after 4.
    on_fresh (two_prepared ++ (on (decide_commit 0 7) 0x0B00 ∷ on (recover 63) 0x0000 ∷ on (query 7) 0x0001 ∷ [])) (page 0 two_held ∷ neither) ∷
    on_fresh (two_prepared ++ (on (decide_commit 1 7) 0x0B01 ∷ [])) (page 0 two_stored ∷ page 20 zero_page ∷ page 26 zero_page ∷ both_a5) ∷
    on_fresh (two_prepared ++ (on (decide_commit 2 7) 0x0B02 ∷ [])) (page 0 two_stored ∷ page 20 with_a5 ∷ page 26 zero_page ∷ both_a5) ∷
    on_fresh (two_prepared ++ (on (decide_commit 3 7) 0x0B03 ∷ [])) (page 0 two_stored ∷ page 20 with_a5 ∷ page 26 with_a5 ∷ both_a5) ∷
    on_fresh (two_prepared ++ (on (decide_commit 4 7) 0x0004 ∷ on (query 7) 0x0000 ∷ [])) (page 0 empty_page ∷ page 20 with_a5 ∷ page 26 with_a5 ∷ both_a5) ∷
    -- The recovery after it, cut and whole.
    on_fresh (two_prepared ++ (on (decide_commit 1 7) 0x0B01 ∷ on (recover 2) 0x0B02 ∷ on (decide_commit 63 7) 0x0200 ∷ on (recover 63) 0x0003 ∷ on (query 7) 0x0000 ∷ [])) (page 0 empty_page ∷ both_a5) ∷
    -- A decision to abort, cut after 0: still prepared; whole after 1: no home page is written.
    on_fresh (two_prepared ++ (on (decide_abort 0 7) 0x0B00 ∷ on (recover 63) 0x0000 ∷ on (query 7) 0x0001 ∷ [])) (page 0 two_held ∷ neither) ∷
    on_fresh (two_prepared ++ (on (decide_abort 1 7) 0x0001 ∷ on (query 7) 0x0000 ∷ [])) (page 0 empty_page ∷ page 4 with_a5 ∷ page 20 zero_page ∷ page 26 zero_page ∷ neither) ∷
    -- 10 is tried before 13, of a transaction that has changed a record too.
    on_fresh (writes_a5 ++ (
    on (prepare 0 63 7) 0x0002 ∷ on top 0x0000 ∷ on (locks 0 4) 0x0000 ∷ on (write 0 4 2 7) 0x0000 ∷ on (begin 0) 0x0001 ∷ on (prepare 0 63 8) 0x0A00 ∷ on (commit 0 63) 0x0A00 ∷
    on (aborts 1) 0x0000 ∷ on (prepare 0 63 8) 0x0D00 ∷ on (commit 0 63) 0x0D00 ∷ [])) [] ∷
    -- While none is prepared a child is 27, changed or not, and 10 comes first.
    on_fresh (
    on top 0x0000 ∷ on (begin 0) 0x0001 ∷ on (prepare 1 63 8) 0x1B00 ∷ on (locks 1 4) 0x0000 ∷ on (write 1 4 2 7) 0x0000 ∷ on (prepare 1 63 8) 0x1B00 ∷ on (begin 1) 0x0002 ∷
    on (prepare 1 63 8) 0x0A00 ∷ on (prepare 2 0 8) 0x1B00 ∷ []) [] ∷
    -- 14 is tried before the 8 of a prepared record; its child is refused that in every mode.
    plays prepared7 (
    on (recover 63) 0x0000 ∷ on top 0x0000 ∷ on (begin 0) 0x0001 ∷ on (locks 0 3) 0x0E00 ∷ on (locks 1 3) 0x0800 ∷ on (shares 1 3) 0x0800 ∷ on (locks 1 2) 0x0000 ∷
    on (read 1 3 2) 0x0900 ∷ []) [] ∷
    -- What a child left is prepared with the rest, and settled by the decision; then another can be prepared.
    on_fresh (child_writes11 ++ (
    on (prepare 0 63 7) 0x0002 ∷ on (decide_commit 63 7) 0x0003 ∷ on top 0x0000 ∷ on (locks 0 3) 0x0000 ∷ on (read 0 3 2) 0x0011 ∷ on (write 0 3 4 7) 0x0000 ∷ on (prepare 0 63 8) 0x0002 ∷
    on (query 7) 0x0000 ∷ on (query 8) 0x0001 ∷ on (decide_commit 63 7) 0x0000 ∷ on (decide_abort 63 8) 0x0001 ∷ [])) (value 3 (set zero_page 2 0x11) ∷ []) ∷
    -- A prepare while down is 2; 24 to 31 are never live; what a kind doesn't use is 0, an offset of a decide 0 or 1; there is no kind above 11.
    plays fresh_bytes (
    word 0x90003F07 0x0200 ∷ word 0x90083F07 0x0100 ∷ word 0x90007F07 0x0100 ∷ word 0xA0807F07 0x0100 ∷ word 0xA0087F07 0x0100 ∷ word 0xA007FF07 0x0100 ∷ word 0xB0800007 0x0100 ∷
    word 0xB0080007 0x0100 ∷ word 0xB0004007 0x0100 ∷ []) [] ∷
    on_fresh (word 0x9F803F07 0x0500 ∷ word 0x9C003F07 0x0500 ∷ word 0x90003F07 0x0500 ∷ word 0xA007FF07 0x0100 ∷ word 0xD0000000 0x0100 ∷ word 0xE0000000 0x0100 ∷ word 0xF0000000 0x0100 ∷ []) [] ∷
    []
