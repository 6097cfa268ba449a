-- The table of trials of edition 2 (document 02, L7): the rows that hold in every edition, and rows with its words, pages and lengths.
use Rattle.std.specs.Prelude.{ℕ, ◌+◌, ◌*◌, List, [], ◌∷◌, ◌++◌, replicate, pos, negsuc}
use Rattle.rules.specs.Event.{write, commit, crash, recover}
use Rattle.rules.specs.Age.{ahead, live, refused}
use Rattle.trials_rows.specs.Rows.{Numbers, Line, word, fields, page, home, emptied, value, Trial, plays, refuses, takes, lays, ages, damages, zero_page, with_a5, on, top, locks, on_fresh, words_with_bit, tops, put, damaged_at, writes_all, while_down}
use Rattle.trials_rows.specs.CommonTrials.{common_trials}
use Rattle.trials_rows.specs.EdgeTrials.{edge_trials}

-- The word has kind 4 bits, transaction 5, record 6, offset 5, count 8, value 8, and 28 zero bits; pages of 32 bytes; home pages from page 65.
abbrev pub fresh2 : List ℕ
fresh2 = 0x20 ∷ replicate 4127 0

abbrev pub numbers2 : Numbers
numbers2 = record {
  fresh_store = fresh2;
  work_bytes = 32768;
  word_bytes = 8;
  word_of = λ kind t r o k v.
      kind * 0x1000000000000000 + t * 0x80000000000000 + r * 0x2000000000000 + o * 0x100000000000 + k * 0x1000000000 + v * 0x10000000;
  page_at = λ p. 32 * p;
  first_home = 65;
}

-- page 0 as empty; as committed for records 0 and 3, for record 63, for all
abbrev pub empty2 : List ℕ
empty2 = 0x20 ∷ replicate 31 0

abbrev pub committed03_edition2 : List ℕ
committed03_edition2 = 0x25 ∷ 0x90 ∷ 0x00 ∷ 0x00 ∷ 0x00 ∷ 0x00 ∷ 0x00 ∷ 0x00 ∷ 0x00 ∷ 0x04 ∷ replicate 22 0

abbrev pub committed63 : List ℕ
committed63 = 0x25 ∷ 0x00 ∷ 0x00 ∷ 0x00 ∷ 0x00 ∷ 0x00 ∷ 0x00 ∷ 0x00 ∷ 0x01 ∷ 0x02 ∷ replicate 22 0

abbrev pub committed_all_edition2 : List ℕ
committed_all_edition2 = 0x25 ∷ 0xFF ∷ 0xFF ∷ 0xFF ∷ 0xFF ∷ 0xFF ∷ 0xFF ∷ 0xFF ∷ 0xFF ∷ 0x80 ∷ replicate 22 0

-- every bit of every kind: while down a bad word is 1 and any other but a crash and a recover is 2
unfoldable pub word_trials2 : List Trial
word_trials2 =
    -- begin: the transaction, bits 55 to 59
    while_down (words_with_bit 0x1000000000000000 0 55 0x0100 ++ words_with_bit 0x1000000000000000 55 5 0x0200) ∷
    -- lock: transaction, record, and the value to 1
    while_down (words_with_bit 0x2000000000000000 0 28 0x0100 ++ (words_with_bit 0x2000000000000000 28 1 0x0200 ++ (words_with_bit 0x2000000000000000 29 20 0x0100 ++ words_with_bit 0x2000000000000000 49 11 0x0200))) ∷
    -- write: all but the count
    while_down (words_with_bit 0x3000000000000000 0 28 0x0100 ++ (words_with_bit 0x3000000000000000 28 8 0x0200 ++ (words_with_bit 0x3000000000000000 36 8 0x0100 ++ words_with_bit 0x3000000000000000 44 16 0x0200))) ∷
    -- read: neither count nor value
    while_down (words_with_bit 0x4000000000000000 0 44 0x0100 ++ words_with_bit 0x4000000000000000 44 16 0x0200) ∷
    -- commit: transaction and count
    while_down (words_with_bit 0x5000000000000000 0 36 0x0100 ++ (words_with_bit 0x5000000000000000 36 8 0x0200 ++ (words_with_bit 0x5000000000000000 44 11 0x0100 ++ words_with_bit 0x5000000000000000 55 5 0x0200))) ∷
    -- abort: transaction, and the value to 1
    while_down (words_with_bit 0x6000000000000000 0 28 0x0100 ++ (words_with_bit 0x6000000000000000 28 1 0x0200 ++ (words_with_bit 0x6000000000000000 29 26 0x0100 ++ words_with_bit 0x6000000000000000 55 5 0x0200))) ∷
    -- crash: nothing
    while_down (words_with_bit 0x7000000000000000 0 60 0x0100 ++ (word 0x7000000000000000 0x0000 ∷ [])) ∷
    -- recover: the count
    while_down (words_with_bit 0x8000000000000000 0 36 0x0100 ++ (words_with_bit 0x8000000000000000 44 16 0x0100 ++ (words_with_bit 0x8000000000000000 36 1 0x0000 ++ words_with_bit 0x8000000000000000 37 7 0x0300))) ∷
    -- there is no other kind: 9 to 11 are bad with any field, and while up too
    while_down (
    word 0x9000000000000000 0x0100 ∷ word 0xA000000000000000 0x0100 ∷ word 0xB000000000000000 0x0100 ∷ words_with_bit 0x9000000000000000 0 60 0x0100 ++
    (words_with_bit 0xA000000000000000 0 60 0x0100 ++ words_with_bit 0xB000000000000000 0 60 0x0100)) ∷
    while_down (
    word 0x0000000000000000 0x0100 ∷ word 0xC000000000000000 0x0100 ∷ word 0xD000000000000000 0x0100 ∷ word 0xE000000000000000 0x0100 ∷ word 0xF000000000000000 0x0100 ∷
    words_with_bit 0x0000000000000000 0 60 0x0100 ++ words_with_bit 0xC000000000000000 0 60 0x0100) ∷
    on_fresh (
    on top 0x0000 ∷ on (locks 0 3) 0x0000 ∷ on (write 0 3 2 7) 0x0000 ∷ fields 9 0 0 0 255 7 0x0100 ∷ fields 10 0 0 1 255 7 0x0100 ∷ fields 10 0 0 0 255 7 0x0100 ∷ fields 11 0 0 0 0 7 0x0100 ∷
    on (commit 0 255) 0x0004 ∷ []) [] ∷
    []

-- transaction 0 changes all sixty-four records, and its commit has count k
abbrev pub commits_all : ℕ → ℕ → List Line
commits_all k a = on top 0x0000 ∷ writes_all 0 64 ++ (on (commit 0 k) a ∷ [])

-- Stamps: a committed map names records 0 and 3. Their intention pages say 9 and 0x01020304, their home pages 2 and 7; record 63 isn't named, and says 13 in its
-- intention page and 11 in its home page.
abbrev pub stamped2 : List ℕ
stamped2 =
    put 0 committed03_edition2 (put (32 * 1) (0 ∷ 0 ∷ 0 ∷ 9 ∷ 5 ∷ []) (put (32 * 65) (0 ∷ 0 ∷ 0 ∷ 2 ∷ []) (put (32 * 4) (1 ∷ 2 ∷ 3 ∷ 4 ∷ 5 ∷ []) (put (32 * 68) (0 ∷ 0 ∷ 0 ∷ 7 ∷ []) (
    put (32 * 64) (0 ∷ 0 ∷ 0 ∷ 13 ∷ []) (put (32 * 128) (0 ∷ 0 ∷ 0 ∷ 11 ∷ []) fresh2))))))

-- this page 0 is damaged: nothing changes and the store stays down; an age is 4
abbrev pub stays2 : List ℕ → Trial
stays2 head = plays (put 0 head fresh2) (on (recover 255) 0x0400 ∷ on top 0x0200 ∷ on crash 0x0000 ∷ on (recover 0) 0x0400 ∷ []) (page 0 head ∷ page 1 zero_page ∷ [])

-- on bytes
unfoldable pub byte_trials2 : List Trial
byte_trials2 =
    -- The words of the papers: begin, lock 1 3, write 1 3 2 A5, lock 1 63, read 1 63 31, commit 1, read 1 63 31 of none, recover while up.
    plays fresh2 (
    word 0x80000FF000000000 0x0000 ∷ word 0x1F80000000000000 0x0000 ∷ word 0x1000000000000000 0x0001 ∷ word 0x2086000000000000 0x0000 ∷ word 0x3086200A50000000 0x0000 ∷
    word 0x20FE000000000000 0x0000 ∷ word 0x40FFF00000000000 0x0000 ∷ word 0x50800FF000000000 0x0000 ∷ word 0x40FFF00000000000 0x0500 ∷ word 0x80000FF000000000 0x0300 ∷
    word 0x1F80000000000001 0x0100 ∷ word 0x50000FF000000000 0x0004 ∷ []) (page 4 with_a5 ∷ page 68 with_a5 ∷ page 0 empty2 ∷ []) ∷
    -- The last of each field: transaction 23, record 63, offset 31, value FF. A field is neither wider nor narrower, and stands beside its neighbour.
    on_fresh (tops 0 24 ++ (
    fields 2 23 63 0 0 0 0x0000 ∷ fields 3 23 63 31 0 255 0x0000 ∷ fields 4 23 63 31 0 0 0x00FF ∷ fields 4 23 63 30 0 0 0x0000 ∷ fields 4 23 62 31 0 0 0x0900 ∷ fields 4 22 63 31 0 0 0x0900 ∷
    fields 5 23 0 0 255 0 0x0004 ∷ fields 4 23 63 31 0 0 0x0500 ∷ [])) (page 128 (replicate 31 0 ++ (255 ∷ [])) ∷ page 64 (replicate 31 0 ++ (255 ∷ [])) ∷ page 0 empty2 ∷ []) ∷
    -- The commit page for records 0 and 3, for record 63, for all.
    on_fresh (on top 0x0000 ∷ on (locks 0 3) 0x0000 ∷ on (write 0 3 2 7) 0x0000 ∷ on (locks 0 0) 0x0000 ∷ on (write 0 0 2 7) 0x0000 ∷ on (commit 0 3) 0x0B03 ∷ []) (page 0 committed03_edition2 ∷ []) ∷
    on_fresh (on top 0x0000 ∷ on (locks 0 63) 0x0000 ∷ on (write 0 63 2 0xA5) 0x0000 ∷ on (commit 0 3) 0x0B03 ∷ []) (page 0 committed63 ∷ page 64 with_a5 ∷ page 128 with_a5 ∷ home 63 with_a5 ∷ []) ∷
    on_fresh (commits_all 129 0x0B81) (page 0 committed_all_edition2 ∷ page 1 with_a5 ∷ page 64 with_a5 ∷ page 65 with_a5 ∷ page 128 with_a5 ∷ []) ∷
    []

-- all sixty-four records changed, of the words
unfoldable pub commit_trials2 : List Trial
commit_trials2 =
    -- Lost at 64, there from 65 on; k = 129 is cut, k = 130 and above whole.
    on_fresh (commits_all 64 0x0B40 ++ (on (recover 255) 0x0000 ∷ [])) (emptied ∷ value 0 zero_page ∷ value 63 zero_page ∷ []) ∷
    on_fresh (commits_all 65 0x0B41) (value 0 with_a5 ∷ value 63 with_a5 ∷ home 0 zero_page ∷ home 63 zero_page ∷ []) ∷
    on_fresh (commits_all 129 0x0B81) (value 0 with_a5 ∷ home 0 with_a5 ∷ home 63 with_a5 ∷ []) ∷
    on_fresh (commits_all 130 0x0082) (emptied ∷ home 0 with_a5 ∷ home 63 with_a5 ∷ []) ∷
    on_fresh (commits_all 255 0x0082) (emptied ∷ home 0 with_a5 ∷ home 63 with_a5 ∷ []) ∷
    -- A recovery of all: cut after 64, whole after 65.
    on_fresh (commits_all 65 0x0B41 ++ (on (recover 64) 0x0B40 ∷ on top 0x0200 ∷ on (recover 65) 0x0041 ∷ on top 0x0000 ∷ [])) (emptied ∷ home 0 with_a5 ∷ home 63 with_a5 ∷ []) ∷
    -- A lock of record 63 is one of its own; of two transactions one has it.
    on_fresh (
    on top 0x0000 ∷ on top 0x0001 ∷ on (locks 0 63) 0x0000 ∷ on (locks 1 63) 0x0800 ∷ on (locks 1 62) 0x0000 ∷ on (locks 1 15) 0x0000 ∷ on (locks 0 47) 0x0000 ∷ on (locks 1 47) 0x0800 ∷ []) [] ∷
    []

unfoldable pub page_trials2 : List Trial
page_trials2 =
    -- State 3 is damaged, whatever its map; so is another edition, or any other state.
    stays2 (0x23 ∷ 0x90 ∷ 0x00 ∷ 0x00 ∷ 0x00 ∷ 0x00 ∷ 0x00 ∷ 0x00 ∷ 0x00 ∷ 0x04 ∷ replicate 22 0) ∷ stays2 (0x10 ∷ replicate 31 0) ∷
    damages (0x23 ∷ 0x90 ∷ 0x00 ∷ 0x10 ∷ 0x2A ∷ replicate 27 0) ∷ damages (0x23 ∷ replicate 31 0) ∷ damages (0x15 ∷ 0x90 ∷ 0x00 ∷ 0x10 ∷ replicate 28 0) ∷ damages (0x30 ∷ replicate 31 0) ∷
    damages (replicate 32 0) ∷ damages (0x15 ∷ 0x90 ∷ 0x00 ∷ 0x00 ∷ 0x00 ∷ 0x00 ∷ 0x00 ∷ 0x00 ∷ 0x00 ∷ 0x04 ∷ replicate 22 0) ∷ damages (0x25 ∷ replicate 31 0) ∷
    ages (put 0 (0x10 ∷ replicate 31 0) fresh2) 3 5 10 (refused 4) ∷ ages (put 0 (0x23 ∷ 0x90 ∷ 0x00 ∷ 0x00 ∷ 0x00 ∷ 0x00 ∷ 0x00 ∷ 0x00 ∷ 0x00 ∷ 0x04 ∷ []) fresh2) 3 5 10 (refused 4) ∷
    -- A fresh store is laid over one of the right length only.
    lays 4128 0 ∷ lays 4127 22 ∷ lays 1056 22 ∷
    []

unfoldable pub length_trials2 : List Trial
length_trials2 =
    -- Lengths: 4,128, 32,768 and 32,768 bytes are right; whole events of eight bytes; two answer bytes an event, and the rest stays.
    takes 4128 16 32768 7 ∷ takes 4128 32768 32768 8192 ∷
    refuses 4127 5 32767 0 22 ∷ refuses 1056 8 32768 2 22 ∷ refuses 4128 5 32767 0 24 ∷ refuses 4128 8 8192 2 24 ∷
    refuses 4128 4 32768 2 20 ∷ refuses 4128 12 32768 4 20 ∷ refuses 4128 32776 32768 8194 20 ∷ refuses 4128 8 32768 1 21 ∷
    []

unfoldable pub age_trials2 : List Trial
age_trials2 =
    -- Ages: by the intention page where a committed map names the record, else by the home page; 22, 23, 4 in this order.
    ages stamped2 0 10 10 (live (pos 1)) ∷ ages stamped2 3 16909050 10 (ahead (negsuc 9)) ∷ ages stamped2 63 12 10 (live (pos 1)) ∷ ages (put 0 empty2 stamped2) 0 10 10 (live (pos 8)) ∷
    ages (put 0 committed63 stamped2) 63 14 10 (live (pos 1)) ∷
    ages (replicate 4127 7) 64 0 0 (refused 22) ∷ ages (replicate 1056 7) 3 0 0 (refused 22) ∷ ages (replicate 4128 7) 64 0 0 (refused 23) ∷ ages stamped2 64 0 0 (refused 23) ∷
    ages stamped2 255 0 0 (refused 23) ∷ ages (replicate 4128 7) 63 0 0 (refused 4) ∷
    []

-- any one bit of a page 0 that is empty or committed makes it damaged
unfoldable pub bit_trials2 : List Trial
bit_trials2 = damaged_at empty2 0 256 ++ (damaged_at committed03_edition2 0 256 ++ damaged_at committed_all_edition2 0 256)

-- THE TABLES of edition 2, on bytes; and of the words, with those that hold in every edition
abbrev pub trials2 : List (List Trial)
trials2 = byte_trials2 ∷ page_trials2 ∷ length_trials2 ∷ age_trials2 ∷ bit_trials2 ∷ []

abbrev pub played2 : List (List Trial)
played2 = common_trials ∷ edge_trials ∷ word_trials2 ∷ commit_trials2 ∷ []
