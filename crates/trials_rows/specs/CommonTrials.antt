-- Rows that hold in every edition: the trials at the edges that document 01 marks and that speak of transactions, locks, cuts and recovery, rows that shut
-- out its five shortcuts, and rows for the locks of document 02: read locks, reports, live children. No row names a word, a page or a store's length.
use Rattle.std.specs.Prelude.{ℕ, List, [], ◌∷◌, ◌++◌, set}
use Rattle.rules.specs.Event.{begin, write, read, commit, crash, recover}
use Rattle.trials_rows.specs.Rows.{Line, fields, StoreDue, emptied, home, value, Trial, plays_fresh, zero_page, with_a5, on, top, locks, shares, aborts, reports, on_fresh, nested, writes_a5, child_writes11, writes_two, both_a5, neither}

-- document 01's worked list, to its eleventh event and from there
abbrev pub worked_to_cut : List Line
worked_to_cut =
    on (recover 63) 0x0000 ∷ on top 0x0000 ∷ on (begin 0) 0x0001 ∷ on (locks 1 3) 0x0000 ∷ on (write 1 3 2 0xA5) 0x0000 ∷ on (commit 1 63) 0x0000 ∷
    on (begin 0) 0x0001 ∷ on (locks 1 3) 0x0000 ∷ on (write 1 3 2 0x11) 0x0000 ∷ on (aborts 1) 0x0000 ∷ on (commit 0 2) 0x0B02 ∷ []

abbrev pub worked_from_cut : List Line
worked_from_cut = on (read 0 3 2) 0x0200 ∷ on (recover 63) 0x0002 ∷ on top 0x0000 ∷ on (locks 0 3) 0x0000 ∷ on (read 0 3 2) 0x00A5 ∷ []

-- transaction 0 writes A5 at 2 into record 9, then into 3, and commits with count k
abbrev pub nine_then_three : ℕ → ℕ → List Line
nine_then_three k a = on top 0x0000 ∷ on (locks 0 9) 0x0000 ∷ on (write 0 9 2 0xA5) 0x0000 ∷ on (locks 0 3) 0x0000 ∷ on (write 0 3 2 0xA5) 0x0000 ∷ on (commit 0 k) a ∷ []

-- the home pages of both records, and what is settled of both
abbrev pub homes_due : List ℕ → List ℕ → List StoreDue → List StoreDue
homes_due h3 h9 settled = home 3 h3 ∷ home 9 h9 ∷ settled

-- the commit is cut behind its commit record, and a recovery has count k
abbrev pub recovers_two : ℕ → ℕ → List Line
recovers_two k a = nine_then_three 3 0x0B03 ++ (on (recover k) a ∷ [])

unfoldable pub common_trials : List Trial
common_trials =
    -- 1: the list in full
    plays_fresh worked_to_cut (value 3 with_a5 ∷ home 3 zero_page ∷ []) ∷
    plays_fresh (worked_to_cut ++ worked_from_cut) (emptied ∷ value 3 with_a5 ∷ home 3 with_a5 ∷ []) ∷
    -- 2: begin as first event
    plays_fresh (on top 0x0200 ∷ []) [] ∷
    -- 3: the deepest begins, one deeper is refused
    on_fresh (nested 15 ++ (on (begin 15) 0x0600 ∷ [])) [] ∷
    -- 5: two top transactions, one record
    on_fresh (on top 0x0000 ∷ on top 0x0001 ∷ on (locks 0 3) 0x0000 ∷ on (locks 1 3) 0x0800 ∷ []) [] ∷
    -- 6: a child asks for what its parent holds; for what it only retains
    on_fresh (
    on top 0x0000 ∷ on (locks 0 3) 0x0000 ∷ on (begin 0) 0x0001 ∷ on (locks 1 3) 0x0800 ∷
    on (locks 1 4) 0x0000 ∷ on (commit 1 0) 0x0000 ∷ on (begin 0) 0x0001 ∷ on (locks 1 4) 0x0000 ∷ []) [] ∷
    -- 7: one record, cut after 1 write: lost; after 2: survives
    on_fresh (writes_a5 ++ (on (commit 0 1) 0x0B01 ∷ [])) (value 3 zero_page ∷ []) ∷
    on_fresh (writes_a5 ++ (on (commit 0 1) 0x0B01 ∷ on (recover 63) 0x0000 ∷ [])) (value 3 zero_page ∷ []) ∷
    on_fresh (writes_a5 ++ (on (commit 0 2) 0x0B02 ∷ [])) (value 3 with_a5 ∷ []) ∷
    on_fresh (writes_a5 ++ (on (commit 0 2) 0x0B02 ∷ on (recover 63) 0x0002 ∷ [])) (value 3 with_a5 ∷ emptied ∷ []) ∷
    -- 8: one record, cut after 3 writes; whole after 4
    on_fresh (writes_a5 ++ (on (commit 0 3) 0x0B03 ∷ on top 0x0200 ∷ [])) (value 3 with_a5 ∷ []) ∷
    on_fresh (writes_a5 ++ (on (commit 0 4) 0x0004 ∷ on top 0x0000 ∷ [])) (value 3 with_a5 ∷ emptied ∷ []) ∷
    -- 10: recovery cut after 0 writes, twice, then whole: the same records
    on_fresh (writes_a5 ++ (on (commit 0 2) 0x0B02 ∷ on (recover 0) 0x0B00 ∷ [])) (value 3 with_a5 ∷ []) ∷
    on_fresh (writes_a5 ++ (on (commit 0 2) 0x0B02 ∷ on (recover 0) 0x0B00 ∷ on (recover 0) 0x0B00 ∷ [])) (value 3 with_a5 ∷ []) ∷
    on_fresh (writes_a5 ++ (on (commit 0 2) 0x0B02 ∷ on (recover 0) 0x0B00 ∷ on (recover 0) 0x0B00 ∷ on (recover 2) 0x0002 ∷ [])) (
    value 3 with_a5 ∷ emptied ∷ []) ∷
    -- 12: crash while down
    plays_fresh (on crash 0x0000 ∷ []) [] ∷
    -- 13: commit with a live child, then abort takes both
    on_fresh (
    on top 0x0000 ∷ on (begin 0) 0x0001 ∷ on (commit 0 63) 0x0A00 ∷ on (aborts 0) 0x0000 ∷
    on (locks 1 3) 0x0500 ∷ on (locks 0 3) 0x0500 ∷ []) [] ∷
    -- 16: abort of a parent undoes what a committed child left it
    on_fresh (
    on top 0x0000 ∷ on (locks 0 3) 0x0000 ∷ on (write 0 3 2 0x22) 0x0000 ∷ on (begin 0) 0x0001 ∷ on (begin 1) 0x0002 ∷
    on (locks 2 5) 0x0000 ∷ on (write 2 5 2 0x11) 0x0000 ∷ on (commit 2 0) 0x0000 ∷
    on (locks 1 5) 0x0000 ∷ on (read 1 5 2) 0x0011 ∷ on (aborts 1) 0x0000 ∷
    on (locks 0 5) 0x0000 ∷ on (read 0 5 2) 0x0000 ∷ on (read 0 3 2) 0x0022 ∷ []) [] ∷
    -- Shortcut 1, a child's locks freed when it commits: a stranger is refused what the parent now retains.
    on_fresh (child_writes11 ++ (on top 0x0001 ∷ on (locks 1 3) 0x0800 ∷ [])) [] ∷
    -- Shortcut 2, home pages before the commit page: at every cut both records or neither.
    on_fresh (writes_two ++ (on (commit 0 2) 0x0B02 ∷ [])) (value 3 zero_page ∷ value 9 zero_page ∷ home 3 zero_page ∷ []) ∷
    on_fresh (writes_two ++ (on (commit 0 3) 0x0B03 ∷ [])) (value 3 with_a5 ∷ value 9 with_a5 ∷ home 3 zero_page ∷ []) ∷
    on_fresh (writes_two ++ (on (commit 0 4) 0x0B04 ∷ [])) both_a5 ∷
    -- Shortcut 3, the commit page emptied before the last home page is copied, by a commit and by a recovery.
    on_fresh (writes_two ++ (on (commit 0 5) 0x0B05 ∷ [])) both_a5 ∷
    on_fresh (writes_two ++ (on (commit 0 5) 0x0B05 ∷ on (recover 63) 0x0003 ∷ [])) both_a5 ∷
    on_fresh (writes_two ++ (on (commit 0 3) 0x0B03 ∷ on (recover 2) 0x0B02 ∷ [])) both_a5 ∷
    on_fresh (writes_two ++ (on (commit 0 3) 0x0B03 ∷ on (recover 1) 0x0B01 ∷ on (recover 63) 0x0003 ∷ [])) both_a5 ∷
    on_fresh (writes_two ++ (on (commit 0 1) 0x0B01 ∷ on (recover 63) 0x0000 ∷ [])) neither ∷
    -- Shortcut 4, an aborted child's record restored from the home page: it is its ancestor's version again.
    on_fresh (child_writes11 ++ (
    on (begin 0) 0x0001 ∷ on (locks 1 3) 0x0000 ∷ on (write 1 3 5 0x12) 0x0000 ∷ on (read 1 3 2) 0x0011 ∷ on (aborts 1) 0x0000 ∷
    on (locks 0 3) 0x0000 ∷ on (read 0 3 2) 0x0011 ∷ on (read 0 3 5) 0x0000 ∷ [])) [] ∷
    -- Shortcut 5, a retainer writes or reads without locking again.
    on_fresh (child_writes11 ++ (on (write 0 3 2 0x12) 0x0900 ∷ on (read 0 3 2) 0x0900 ∷ on (locks 0 3) 0x0000 ∷ on (read 0 3 2) 0x0011 ∷ [])) [] ∷
    -- A parent that has a version takes its child's newer one.
    on_fresh (child_writes11 ++ (
    on (begin 0) 0x0001 ∷ on (locks 1 3) 0x0000 ∷ on (write 1 3 2 0x22) 0x0000 ∷ on (commit 1 0) 0x0000 ∷
    on (commit 0 63) 0x0004 ∷ [])) (value 3 (set zero_page 2 0x22) ∷ []) ∷
    -- No changed record, no page write and no cut; a write of the byte that is there already counts; a child's count has no effect.
    on_fresh (on top 0x0000 ∷ on (locks 0 3) 0x0000 ∷ on (commit 0 0) 0x0000 ∷ on top 0x0000 ∷ []) [] ∷
    on_fresh (on top 0x0000 ∷ on (locks 0 3) 0x0000 ∷ on (write 0 3 2 0) 0x0000 ∷ on (commit 0 63) 0x0004 ∷ []) [] ∷
    -- Two read together and neither writes; raising is refused and leaves the read hold, and is granted when the other has ended.
    on_fresh (
    on top 0x0000 ∷ on top 0x0001 ∷ on (shares 0 3) 0x0000 ∷ on (shares 1 3) 0x0000 ∷ on (read 0 3 2) 0x0000 ∷ on (read 1 3 2) 0x0000 ∷
    on (write 0 3 2 7) 0x0900 ∷ on (locks 0 3) 0x0800 ∷ on (locks 1 3) 0x0800 ∷ on (read 0 3 2) 0x0000 ∷ on (aborts 1) 0x0000 ∷
    on (locks 0 3) 0x0000 ∷ on (write 0 3 2 7) 0x0000 ∷ []) [] ∷
    -- Asking for less than is held changes nothing; nobody reads beside one that holds to write.
    on_fresh (writes_a5 ++ (on (shares 0 3) 0x0000 ∷ on (write 0 3 2 7) 0x0000 ∷ on top 0x0001 ∷ on (shares 1 3) 0x0800 ∷ [])) [] ∷
    -- A parent inherits the stronger mode, whichever comes first.
    on_fresh (
    on top 0x0000 ∷ on (begin 0) 0x0001 ∷ on (locks 1 3) 0x0000 ∷ on (commit 1 0) 0x0000 ∷ on (begin 0) 0x0001 ∷ on (shares 1 3) 0x0000 ∷
    on (commit 1 0) 0x0000 ∷ on top 0x0001 ∷ on (shares 1 3) 0x0800 ∷ []) [] ∷
    on_fresh (
    on top 0x0000 ∷ on (begin 0) 0x0001 ∷ on (shares 1 3) 0x0000 ∷ on (commit 1 0) 0x0000 ∷ on (begin 0) 0x0001 ∷ on (locks 1 3) 0x0000 ∷
    on (commit 1 0) 0x0000 ∷ on top 0x0001 ∷ on (shares 1 3) 0x0800 ∷ []) [] ∷
    -- Who retains to read stops a stranger's write and not its read; a child of the retainer is stopped by the stranger alone.
    on_fresh (
    on top 0x0000 ∷ on (begin 0) 0x0001 ∷ on (shares 1 3) 0x0000 ∷ on (commit 1 0) 0x0000 ∷ on top 0x0001 ∷ on (locks 1 3) 0x0800 ∷
    on (shares 1 3) 0x0000 ∷ on (begin 0) 0x0002 ∷ on (locks 2 3) 0x0800 ∷ on (aborts 1) 0x0000 ∷ on (locks 2 3) 0x0000 ∷ []) [] ∷
    -- Two that retain to read need not be on one line: a child of the one reads and does not write.
    on_fresh (
    on top 0x0000 ∷ on top 0x0001 ∷ on (begin 0) 0x0002 ∷ on (begin 1) 0x0003 ∷ on (shares 2 3) 0x0000 ∷ on (shares 3 3) 0x0000 ∷
    on (commit 2 0) 0x0000 ∷ on (commit 3 0) 0x0000 ∷ on (begin 0) 0x0002 ∷ on (shares 2 3) 0x0000 ∷ on (locks 2 3) 0x0800 ∷
    on (commit 1 0) 0x0000 ∷ on (locks 2 3) 0x0000 ∷ []) [] ∷
    -- Reports. The parent retains what the aborted child held, in the same mode: a stranger does not write, and reads.
    on_fresh (
    on top 0x0000 ∷ on (begin 0) 0x0001 ∷ on (shares 1 3) 0x0000 ∷ on (reports 1) 0x0000 ∷ on top 0x0001 ∷ on (locks 1 3) 0x0800 ∷
    on (shares 1 3) 0x0000 ∷ on (read 0 3 2) 0x0900 ∷ on (shares 0 3) 0x0000 ∷ []) [] ∷
    -- Or in its own, if that is stronger.
    on_fresh (child_writes11 ++ (
    on (begin 0) 0x0001 ∷ on (shares 1 3) 0x0000 ∷ on (reports 1) 0x0000 ∷ on top 0x0001 ∷ on (shares 1 3) 0x0800 ∷ [])) [] ∷
    -- It retains without a version what the child retained with one, and reads its own byte.
    on_fresh (writes_a5 ++ (
    on (begin 0) 0x0001 ∷ on (begin 1) 0x0002 ∷ on (locks 2 4) 0x0000 ∷ on (write 2 4 2 0x11) 0x0000 ∷ on (commit 2 0) 0x0000 ∷
    on (reports 1) 0x0000 ∷ on top 0x0001 ∷ on (shares 1 4) 0x0800 ∷ on (locks 0 4) 0x0000 ∷ on (read 0 4 2) 0x0000 ∷ on (commit 0 63) 0x0004 ∷ [])) (
    value 3 with_a5 ∷ value 4 zero_page ∷ []) ∷
    -- What live descendants had is discarded; without a report so is what the child had.
    on_fresh (
    on top 0x0000 ∷ on (begin 0) 0x0001 ∷ on (shares 1 3) 0x0000 ∷ on (begin 1) 0x0002 ∷ on (shares 2 3) 0x0000 ∷ on (locks 2 4) 0x0000 ∷ on (reports 1) 0x0000 ∷
    on top 0x0001 ∷ on (locks 1 4) 0x0000 ∷ on (locks 1 3) 0x0800 ∷ on (read 2 4 2) 0x0500 ∷ []) [] ∷
    on_fresh (
    on top 0x0000 ∷ on (begin 0) 0x0001 ∷ on (locks 1 3) 0x0000 ∷ on (aborts 1) 0x0000 ∷ on top 0x0001 ∷ on (locks 1 3) 0x0000 ∷ []) [] ∷
    -- A top transaction has no parent and discards.
    on_fresh (on top 0x0000 ∷ on (locks 0 3) 0x0000 ∷ on (reports 0) 0x0000 ∷ on top 0x0000 ∷ on (locks 0 3) 0x0000 ∷ []) [] ∷
    -- While a child is live its parent neither locks, reads nor writes, also what it holds; it begins another, and a commit is 10.
    on_fresh (writes_a5 ++ (
    on (begin 0) 0x0001 ∷ on (read 0 3 0) 0x0E00 ∷ on (write 0 3 2 7) 0x0E00 ∷ on (locks 0 3) 0x0E00 ∷ on (begin 0) 0x0002 ∷ on (commit 0 63) 0x0A00 ∷
    on (aborts 1) 0x0000 ∷ on (read 0 3 2) 0x0E00 ∷ on (commit 2 0) 0x0000 ∷ on (read 0 3 2) 0x00A5 ∷ on (locks 0 3) 0x0000 ∷ [])) [] ∷
    -- That is tried after 5 and before 8 and 9, and goes by a grandparent too; it does not stop an abort.
    on_fresh (
    on top 0x0000 ∷ on top 0x0001 ∷ on (locks 1 3) 0x0000 ∷ on (begin 0) 0x0002 ∷ on (begin 2) 0x0003 ∷ on (locks 0 3) 0x0E00 ∷ on (read 0 3 2) 0x0E00 ∷
    on (write 2 3 2 7) 0x0E00 ∷ on (locks 3 3) 0x0800 ∷ on (read 3 3 2) 0x0900 ∷ on (locks 4 3) 0x0500 ∷ on (aborts 0) 0x0000 ∷ on (read 0 3 2) 0x0500 ∷
    on (read 1 3 2) 0x0000 ∷ []) [] ∷
    -- Names: 24 to 30 are never live, 31 only in begin is no name; stray bits are 1 before all else.
    on_fresh (
    on (begin 24) 0x0500 ∷ on (begin 30) 0x0500 ∷ on (locks 31 3) 0x0500 ∷ fields 7 0 0 0 0 1 0x0100 ∷ fields 12 0 0 0 0 0 0x0100 ∷ fields 0 0 0 0 0 0 0x0100 ∷
    fields 2 0 0 0 0 2 0x0100 ∷ on (recover 63) 0x0300 ∷ []) [] ∷
    -- What is held and what is retained are apart: a retainer in write mode that holds to read does not write.
    on_fresh (
    on top 0x0000 ∷ on (begin 0) 0x0001 ∷ on (locks 1 3) 0x0000 ∷ on (commit 1 63) 0x0000 ∷ on (shares 0 3) 0x0000 ∷ on (write 0 3 0 1) 0x0900 ∷ on (locks 0 3) 0x0000 ∷
    on (write 0 3 0 1) 0x0000 ∷ []) [] ∷
    -- A lock and an abort take the values 0 and 1; another is 1, also while down.
    plays_fresh (fields 2 0 3 0 0 2 0x0100 ∷ fields 2 0 3 0 0 1 0x0200 ∷ fields 6 0 0 0 0 2 0x0100 ∷ fields 6 0 0 0 0 1 0x0200 ∷ []) [] ∷
    on_fresh (
    on top 0x0000 ∷ fields 2 0 3 0 0 2 0x0100 ∷ fields 2 0 3 0 0 255 0x0100 ∷ fields 2 0 3 0 0 1 0x0000 ∷ fields 6 0 0 0 0 2 0x0100 ∷ fields 6 0 0 0 0 255 0x0100 ∷
    fields 6 0 0 0 0 0 0x0000 ∷ []) [] ∷
    -- Two records at every cut, by rising record whichever was written first.
    on_fresh (nine_then_three 0 0x0B00) (homes_due zero_page zero_page neither) ∷ on_fresh (nine_then_three 1 0x0B01) (homes_due zero_page zero_page neither) ∷
    on_fresh (nine_then_three 2 0x0B02) (homes_due zero_page zero_page neither) ∷ on_fresh (nine_then_three 3 0x0B03) (homes_due zero_page zero_page both_a5) ∷
    on_fresh (nine_then_three 4 0x0B04) (homes_due with_a5 zero_page both_a5) ∷ on_fresh (nine_then_three 5 0x0B05) (homes_due with_a5 with_a5 both_a5) ∷
    on_fresh (nine_then_three 6 0x0006) (emptied ∷ homes_due with_a5 with_a5 both_a5) ∷
    -- A recovery at every cut.
    on_fresh (recovers_two 0 0x0B00) (homes_due zero_page zero_page both_a5) ∷ on_fresh (recovers_two 1 0x0B01) (homes_due with_a5 zero_page both_a5) ∷
    on_fresh (recovers_two 2 0x0B02) (homes_due with_a5 with_a5 both_a5) ∷ on_fresh (recovers_two 3 0x0003) (emptied ∷ homes_due with_a5 with_a5 both_a5) ∷
    []
