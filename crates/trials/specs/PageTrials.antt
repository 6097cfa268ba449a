-- Rows for the store: the commit page bit by bit, page writes at every cut, ages by the settled value, a fresh store, and the lengths of buffers.
use Rattle.std.specs.Prelude.{ℕ, zero, suc, ◌+◌, ◌*◌, List, [], ◌∷◌, ◌++◌, take, set, replicate, pos, negsuc}
use Rattle.rules.specs.Event.{write, read, commit, crash, recover, query}
use Rattle.rules.specs.Age.{ahead, live, stale, refused}
use Rattle.trials_rows.specs.Rows.{StoreDue, page, value, Trial, plays, refuses, takes, lays, ages, fresh_bytes, zero_page, empty_page, with_a5, on, top, locks, on_fresh, put, flipped, damaged_at, writes_all}

-- page 0 as committed for records 0 and 3, for records 3 and 9, and for all
abbrev pub committed03 : List ℕ
committed03 = 0x15 ∷ 0x90 ∷ 0x00 ∷ 0x10 ∷ replicate 28 0

abbrev pub committed39 : List ℕ
committed39 = 0x15 ∷ 0x10 ∷ 0x40 ∷ 0x10 ∷ replicate 28 0

abbrev pub committed_all : List ℕ
committed_all = 0x15 ∷ 0xFF ∷ 0xFF ∷ 0x80 ∷ replicate 28 0

-- page 0 as prepared for records 0 and 3 with identity 2A
abbrev pub prepared03 : List ℕ
prepared03 = 0x13 ∷ 0x90 ∷ 0x00 ∷ 0x10 ∷ 0x2A ∷ replicate 27 0

-- a store that is fresh but for page 0
abbrev pub under0 : List ℕ → List ℕ
under0 head = put 0 head fresh_bytes

-- so is this one, for a recovery: it changes nothing and leaves the store down
abbrev pub stays : List ℕ → Trial
stays head = plays (under0 head) (on (recover 63) 0x0400 ∷ on top 0x0200 ∷ on crash 0x0000 ∷ on (recover 0) 0x0400 ∷ on (query 0) 0x0200 ∷ []) (page 0 head ∷ page 1 zero_page ∷ [])

-- transaction 0 writes A5 at 2 into record 9, then into 3, and commits with count k
abbrev pub nine_then_three_row : ℕ → ℕ → List StoreDue → Trial
nine_then_three_row k a ds =
    on_fresh (on top 0x0000 ∷ on (locks 0 9) 0x0000 ∷ on (write 0 9 2 0xA5) 0x0000 ∷ on (locks 0 3) 0x0000 ∷ on (write 0 3 2 0xA5) 0x0000 ∷ on (commit 0 k) a ∷ []) ds

-- the pages that it writes: page 0, the intention pages, the home pages
abbrev pub five_pages : List ℕ → List ℕ → List ℕ → List ℕ → List ℕ → List StoreDue
five_pages p0 p4 p10 p20 p26 = page 0 p0 ∷ page 4 p4 ∷ page 10 p10 ∷ page 20 p20 ∷ page 26 p26 ∷ []

-- records 3 and 9 are committed and not yet home
abbrev pub owed : List ℕ
owed = put 0 committed39 (set (set fresh_bytes (32 * 4 + 2) 0xA5) (32 * 10 + 2) 0xA5)

abbrev pub recovers_owed : ℕ → ℕ → List StoreDue → Trial
recovers_owed k a ds = plays owed (on (recover k) a ∷ []) ds

-- the bytes 0, 1, .. as a page
abbrev pub rising : ℕ → ℕ → List ℕ
rising i zero = []
rising i (suc n) = i ∷ rising (suc i) n

-- Stamps: a committed map names records 0 and 3. Their intention pages say 9 and 0x01020304, their home pages 2 and 7; record 4 isn't named, and says
-- 13 in its intention page and 11 in its home page.
abbrev pub stamped : List ℕ
stamped =
    put 0 committed03 (put (32 * 1) (0 ∷ 0 ∷ 0 ∷ 9 ∷ 5 ∷ []) (put (32 * 17) (0 ∷ 0 ∷ 0 ∷ 2 ∷ []) (put (32 * 4) (1 ∷ 2 ∷ 3 ∷ 4 ∷ 5 ∷ []) (put (32 * 20) (0 ∷ 0 ∷ 0 ∷ 7 ∷ []) (
    put (32 * 5) (0 ∷ 0 ∷ 0 ∷ 13 ∷ []) (put (32 * 21) (0 ∷ 0 ∷ 0 ∷ 11 ∷ []) (put (32 * 32) (0xFF ∷ 0xFF ∷ 0xFF ∷ 0xFF ∷ 1 ∷ []) fresh_bytes)))))))

unfoldable pub age_trials : List Trial
age_trials =
    -- by the intention page where a committed map names the record, else by the home page; the first four bytes, most significant first
    ages stamped 0 10 10 (live (pos 1)) ∷ ages stamped 3 16909061 10 (live (pos 1)) ∷ ages stamped 3 16909050 10 (ahead (negsuc 9)) ∷ ages stamped 4 12 10 (live (pos 1)) ∷
    -- over an empty page by the home page
    ages (put 0 empty_page stamped) 0 10 10 (live (pos 8)) ∷ ages (put 0 empty_page stamped) 3 10 10 (live (pos 3)) ∷
    -- live from 0 to the limit, ahead below and stale above it
    ages stamped 0 9 0 (live (pos 0)) ∷ ages stamped 0 8 0 (ahead (negsuc 0)) ∷ ages stamped 0 10 0 (stale (pos 1)) ∷ ages stamped 0 19 10 (live (pos 10)) ∷
    ages stamped 0 20 10 (stale (pos 11)) ∷ ages stamped 0 8 4294967295 (ahead (negsuc 0)) ∷
    -- the least and the greatest age
    ages stamped 15 0 0 (ahead (negsuc 4294967294)) ∷ ages stamped 15 4294967295 0 (live (pos 0)) ∷
    ages fresh_bytes 15 4294967295 4294967294 (stale (pos 4294967295)) ∷ ages fresh_bytes 15 4294967295 4294967295 (live (pos 4294967295)) ∷
    -- 22, 23, 4 in this order: a store too short or too long, a record above 15, a damaged page 0
    ages (replicate 1055 7) 16 0 0 (refused 22) ∷ ages (replicate 1057 7) 255 0 0 (refused 22) ∷ ages (take 1055 stamped) 0 10 10 (refused 22) ∷
    ages (replicate 1056 7) 16 0 0 (refused 23) ∷ ages stamped 16 0 0 (refused 23) ∷ ages stamped 255 0 0 (refused 23) ∷ ages (replicate 1056 7) 15 0 0 (refused 4) ∷
    ages (under0 (flipped 0 empty_page)) 3 5 10 (refused 4) ∷ ages (under0 (flipped 255 committed03)) 3 5 10 (refused 4) ∷ ages (under0 (flipped 28 prepared03)) 3 5 10 (refused 4) ∷
    []

unfoldable pub page_trials : List Trial
page_trials =
    -- Records 0 and 3 as committed; all sixteen: k = 33 is cut, k = 34 whole.
    on_fresh (on top 0x0000 ∷ on (locks 0 3) 0x0000 ∷ on (write 0 3 2 7) 0x0000 ∷ on (locks 0 0) 0x0000 ∷ on (write 0 0 2 7) 0x0000 ∷ on (commit 0 3) 0x0B03 ∷ []) (page 0 committed03 ∷ []) ∷
    on_fresh (on top 0x0000 ∷ writes_all 0 16 ++ (on (commit 0 33) 0x0B21 ∷ [])) (page 0 committed_all ∷ page 16 with_a5 ∷ page 17 with_a5 ∷ page 32 with_a5 ∷ []) ∷
    on_fresh (on top 0x0000 ∷ writes_all 0 16 ++ (on (commit 0 34) 0x0022 ∷ [])) (page 0 empty_page ∷ page 1 with_a5 ∷ page 32 with_a5 ∷ []) ∷
    on_fresh (on top 0x0000 ∷ writes_all 0 16 ++ (on (commit 0 16) 0x0B10 ∷ on (recover 63) 0x0000 ∷ [])) (page 0 empty_page ∷ page 16 with_a5 ∷ page 17 zero_page ∷ []) ∷
    on_fresh (on top 0x0000 ∷ writes_all 0 16 ++ (on (commit 0 17) 0x0B11 ∷ on (recover 16) 0x0B10 ∷ on (recover 17) 0x0011 ∷ [])) (page 0 empty_page ∷ page 17 with_a5 ∷ page 32 with_a5 ∷ []) ∷
    -- Two records at every cut, by rising record whichever was written first.
    nine_then_three_row 0 0x0B00 (five_pages empty_page zero_page zero_page zero_page zero_page) ∷ nine_then_three_row 1 0x0B01 (five_pages empty_page with_a5 zero_page zero_page zero_page) ∷
    nine_then_three_row 2 0x0B02 (five_pages empty_page with_a5 with_a5 zero_page zero_page) ∷ nine_then_three_row 3 0x0B03 (five_pages committed39 with_a5 with_a5 zero_page zero_page) ∷
    nine_then_three_row 4 0x0B04 (five_pages committed39 with_a5 with_a5 with_a5 zero_page) ∷ nine_then_three_row 5 0x0B05 (five_pages committed39 with_a5 with_a5 with_a5 with_a5) ∷
    nine_then_three_row 6 0x0006 (five_pages empty_page with_a5 with_a5 with_a5 with_a5) ∷
    -- A recovery at every cut.
    recovers_owed 0 0x0B00 (five_pages committed39 with_a5 with_a5 zero_page zero_page) ∷ recovers_owed 1 0x0B01 (five_pages committed39 with_a5 with_a5 with_a5 zero_page) ∷
    recovers_owed 2 0x0B02 (five_pages committed39 with_a5 with_a5 with_a5 with_a5) ∷ recovers_owed 3 0x0003 (five_pages empty_page with_a5 with_a5 with_a5 with_a5) ∷
    -- Settled values: by the intention page where the map names the record, by the home page where it doesn't or page 0 is damaged.
    plays stamped [] (value 0 (0 ∷ 0 ∷ 0 ∷ 9 ∷ 5 ∷ replicate 27 0) ∷ value 4 (0 ∷ 0 ∷ 0 ∷ 11 ∷ replicate 28 0) ∷ []) ∷
    plays (set stamped 31 1) (on (recover 63) 0x0400 ∷ []) (value 0 (0 ∷ 0 ∷ 0 ∷ 2 ∷ replicate 28 0) ∷ value 4 (0 ∷ 0 ∷ 0 ∷ 11 ∷ replicate 28 0) ∷ []) ∷
    -- A read shows the home page, not what stands in the intention page. A version is a copy of it with one byte changed.
    plays (put (32 * 4) (replicate 32 0xEE) (put (32 * 20) (rising 100 32) fresh_bytes)) (
    on (recover 63) 0x0000 ∷ on top 0x0000 ∷ on (locks 0 3) 0x0000 ∷ on (read 0 3 0) 0x0064 ∷ on (read 0 3 31) 0x0083 ∷ on (write 0 3 1 7) 0x0000 ∷ on (read 0 3 0) 0x0064 ∷ on (read 0 3 1) 0x0007 ∷
    on (commit 0 63) 0x0004 ∷ []) (page 4 (100 ∷ 7 ∷ rising 102 30) ∷ page 20 (100 ∷ 7 ∷ rising 102 30) ∷ page 5 zero_page ∷ page 21 zero_page ∷ []) ∷
    -- A recover writes nothing over an empty page, whatever its count, and whatever the intention pages have.
    plays (put (32 * 4) (replicate 32 0xEE) fresh_bytes) (on (recover 0) 0x0000 ∷ on top 0x0000 ∷ []) (page 0 empty_page ∷ page 20 zero_page ∷ []) ∷
    -- A damaged page stops a recovery, and nothing changes.
    stays (0x15 ∷ 0x90 ∷ 0x00 ∷ 0x08 ∷ replicate 28 0) ∷ stays (0x15 ∷ 0x90 ∷ 0x00 ∷ 0x11 ∷ replicate 28 0) ∷ stays (0x10 ∷ 0x00 ∷ 0x00 ∷ 0x08 ∷ replicate 28 0) ∷
    stays (0x25 ∷ 0x90 ∷ 0x00 ∷ 0x10 ∷ replicate 28 0) ∷ stays (0x15 ∷ 0x90 ∷ 0x00 ∷ 0x10 ∷ replicate 27 0 ++ (1 ∷ [])) ∷ stays (0x15 ∷ replicate 31 0) ∷ stays (replicate 32 0) ∷
    stays (replicate 32 0xFF) ∷ stays (0x10 ∷ 0x90 ∷ 0x00 ∷ 0x10 ∷ replicate 28 0) ∷
    -- A fresh store is laid over one of the right length only.
    lays 1056 0 ∷ lays 1055 22 ∷ lays 1057 22 ∷ lays 0 22 ∷ lays 4128 22 ∷
    -- Lengths: 1,056, 8,192 and 16,384 bytes are right, one more or less isn't; whole events; two answer bytes an event, and the rest stays.
    takes 1056 4 8192 2 ∷ takes 1056 0 8192 0 ∷ takes 1056 0 8192 3 ∷ takes 1056 8 8192 7 ∷ takes 1056 16384 8192 8192 ∷
    refuses 1055 4 8192 2 22 ∷ refuses 1057 4 8192 2 22 ∷ refuses 0 0 0 0 22 ∷ refuses 1056 4 8191 2 24 ∷ refuses 1056 4 8193 2 24 ∷ refuses 1056 4 4096 2 24 ∷
    refuses 1056 3 8192 2 20 ∷ refuses 1056 5 8192 2 20 ∷ refuses 1056 6 8192 4 20 ∷ refuses 1056 16385 8192 8194 20 ∷ refuses 1056 16388 8192 8194 20 ∷
    refuses 1056 4 8192 1 21 ∷ refuses 1056 4 8192 0 21 ∷ refuses 1056 16384 8192 8191 21 ∷
    []

-- Any one bit of a page 0 that is empty or committed makes it damaged; of one that is prepared any but those of the identity.
unfoldable pub bit_trials : List Trial
bit_trials =
    damaged_at empty_page 0 256 ++ (damaged_at committed03 0 256 ++ (damaged_at prepared03 0 32 ++ damaged_at prepared03 40 216))
