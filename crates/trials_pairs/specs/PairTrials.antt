-- Rows of pairs (document 02, L5): the readings' vectors, mending, what is refused and changes nothing, words, lengths, ages; and those that hold in every edition.
use Rattle.std.specs.Prelude.{ℕ, zero, suc, ◌+◌, ◌*◌, List, [], ◌∷◌, ◌++◌, replicate, pos, negsuc}
use Rattle.rules.specs.Event.{begin, write, read, commit, crash}
use Rattle.rules.specs.Age.{ahead, live, refused}
use Rattle.trials_rows.specs.Rows.{word, fields, emptied, value, Trial, plays_fresh, refuses, takes, lays, ages, damages, zero_page, empty_page, with_a5, on, top, locks, on_fresh, writes_a5, words_with_bit, put, while_down}
use Rattle.trials_rows.specs.CommonTrials.{common_trials}
use Rattle.trials_rows.specs.EdgeTrials.{edge_trials}
use Rattle.trials_pairs.specs.TornRows.{with_first, with_second, with_both, torn_store, TornRow, leaves, Calm, calm, stirred, fresh_pairs, nine, committed3, made1, made2, made3, made4, torn_recovery}

-- The readings' vectors, word by word.
unfoldable pub vector_trials : List Trial
vector_trials =
    -- 5.1: all four writes are made and yet it is cut: down, and nothing is left to recover; at the count 4 nothing tears.
    on_fresh (writes_a5 ++ (word 0x50000303 0x0B04 ∷ word 0x1F800000 0x0200 ∷ word 0x80003F00 0x0000 ∷ word 0x1F800000 0x0000 ∷ [])) (emptied ∷ value 3 with_a5 ∷ []) ∷
    on_fresh (writes_a5 ++ (word 0x50000302 0x0B04 ∷ word 0x1F800000 0x0200 ∷ word 0x80003F00 0x0000 ∷ [])) (emptied ∷ value 3 with_a5 ∷ []) ∷
    on_fresh (writes_a5 ++ (word 0x50000403 0x0004 ∷ word 0x1F800000 0x0000 ∷ on (locks 0 3) 0x0000 ∷ on (read 0 3 2) 0x00A5 ∷ [])) (emptied ∷ value 3 with_a5 ∷ []) ∷
    -- 5.2: without effect for a top transaction that changed nothing, for a child, and for a recovery over an empty commit page.
    on_fresh (on top 0x0000 ∷ word 0x50000003 0x0000 ∷ on top 0x0000 ∷ on (locks 0 3) 0x0000 ∷ word 0x50000001 0x0000 ∷ on top 0x0000 ∷ word 0x50000002 0x0000 ∷ []) (emptied ∷ []) ∷
    on_fresh (on top 0x0000 ∷ on (begin 0) 0x0001 ∷ on (locks 1 3) 0x0000 ∷ on (write 1 3 2 0xA5) 0x0000 ∷ word 0x50800003 0x0000 ∷ word 0x50003F00 0x0004 ∷ []) (emptied ∷ value 3 with_a5 ∷ []) ∷
    plays_fresh (word 0x80000001 0x0000 ∷ on top 0x0000 ∷ on crash 0x0000 ∷ word 0x80000002 0x0000 ∷ on crash 0x0000 ∷ word 0x80000003 0x0000 ∷ on top 0x0000 ∷ []) (emptied ∷ []) ∷
    -- Above 3 is 1, before anything else: while down, while up, of a transaction that isn't live, and with a damaged store.
    plays_fresh (word 0x80000004 0x0100 ∷ word 0x50000004 0x0100 ∷ word 0x800000FF 0x0100 ∷ word 0x80000003 0x0000 ∷ word 0x80000004 0x0100 ∷ word 0x50000004 0x0100 ∷ word 0x5F800008 0x0100 ∷ []) (emptied ∷ []) ∷
    on_fresh (writes_a5 ++ (word 0x50003F04 0x0100 ∷ word 0x50003F03 0x0004 ∷ [])) (emptied ∷ value 3 with_a5 ∷ []) ∷
    -- 5.3: n = 1, at the commit page: lost, there, there.
    on_fresh (writes_a5 ++ (word 0x50000101 0x0B01 ∷ word 0x80003F00 0x0000 ∷ [])) (emptied ∷ value 3 zero_page ∷ []) ∷
    on_fresh (writes_a5 ++ (word 0x50000102 0x0B02 ∷ [])) (value 3 with_a5 ∷ []) ∷
    on_fresh (writes_a5 ++ (word 0x50000103 0x0B02 ∷ word 0x80003F00 0x0002 ∷ [])) (emptied ∷ value 3 with_a5 ∷ []) ∷
    -- Two records, W = 6: lost up to the tear of write 2 in way 1, there from way 2 on.
    on_fresh (writes_a5 ++ (on (locks 0 9) 0x0000 ∷ on (write 0 9 2 0xA5) 0x0000 ∷ word 0x50000103 0x0B02 ∷ [])) (value 3 zero_page ∷ value 9 zero_page ∷ []) ∷
    on_fresh (writes_a5 ++ (on (locks 0 9) 0x0000 ∷ on (write 0 9 2 0xA5) 0x0000 ∷ word 0x50000201 0x0B02 ∷ [])) (value 3 zero_page ∷ value 9 zero_page ∷ []) ∷
    on_fresh (writes_a5 ++ (on (locks 0 9) 0x0000 ∷ on (write 0 9 2 0xA5) 0x0000 ∷ word 0x50000202 0x0B03 ∷ [])) (value 3 with_a5 ∷ value 9 with_a5 ∷ []) ∷
    on_fresh (writes_a5 ++ (on (locks 0 9) 0x0000 ∷ on (write 0 9 2 0xA5) 0x0000 ∷ word 0x50000502 0x0B06 ∷ word 0x80000000 0x0000 ∷ [])) (emptied ∷ value 3 with_a5 ∷ value 9 with_a5 ∷ []) ∷
    []

-- every bit of every kind: while down a bad word is 1 and any other but a crash and a recover is 2
unfoldable pub pair_word_trials : List Trial
pair_word_trials =
    -- begin: the transaction; lock: transaction, record, and the value to 1
    while_down (words_with_bit 0x10000000 0 23 0x0100 ++ words_with_bit 0x10000000 23 5 0x0200) ∷
    while_down (words_with_bit 0x20000000 0 1 0x0200 ++ (words_with_bit 0x20000000 1 18 0x0100 ++ words_with_bit 0x20000000 19 9 0x0200)) ∷
    -- write: all but the count; read: neither count nor value
    while_down (words_with_bit 0x30000000 0 8 0x0200 ++ (words_with_bit 0x30000000 8 6 0x0100 ++ words_with_bit 0x30000000 14 14 0x0200)) ∷
    while_down (words_with_bit 0x40000000 0 14 0x0100 ++ words_with_bit 0x40000000 14 14 0x0200) ∷
    -- commit: transaction, count, and the value to 3
    while_down (words_with_bit 0x50000000 0 2 0x0200 ++ (words_with_bit 0x50000000 2 6 0x0100 ++ (words_with_bit 0x50000000 8 6 0x0200 ++ (words_with_bit 0x50000000 14 9 0x0100 ++ (words_with_bit 0x50000000 23 5 0x0200 ++ (word 0x50000003 0x0200 ∷ [])))))) ∷
    -- abort: transaction, and the value to 1; crash: nothing
    while_down (words_with_bit 0x60000000 0 1 0x0200 ++ (words_with_bit 0x60000000 1 22 0x0100 ++ words_with_bit 0x60000000 23 5 0x0200)) ∷
    while_down (words_with_bit 0x70000000 0 28 0x0100 ++ (word 0x70000000 0x0000 ∷ [])) ∷
    -- recover: the count, and the value to 3
    while_down (words_with_bit 0x80000000 2 6 0x0100 ++ (words_with_bit 0x80000000 14 14 0x0100 ++ (words_with_bit 0x80000000 0 1 0x0000 ++ (words_with_bit 0x80000000 1 1 0x0300 ++ (words_with_bit 0x80000000 8 6 0x0300 ++ (word 0x80003F03 0x0300 ∷ [])))))) ∷
    -- there is no other kind: 9 to 11 are bad with any field, and while up too
    while_down (
    word 0x90000000 0x0100 ∷ word 0xA0000000 0x0100 ∷ word 0xB0000000 0x0100 ∷ word 0x00000000 0x0100 ∷ word 0xC0000000 0x0100 ∷ word 0xF0000000 0x0100 ∷
    words_with_bit 0x90000000 0 28 0x0100 ++ (words_with_bit 0xA0000000 0 28 0x0100 ++ words_with_bit 0xB0000000 0 28 0x0100)) ∷
    on_fresh (
    on top 0x0000 ∷ on (locks 0 3) 0x0000 ∷ on (write 0 3 2 7) 0x0000 ∷ fields 9 0 0 0 63 7 0x0100 ∷ fields 10 0 0 1 63 7 0x0100 ∷ fields 10 0 0 0 63 7 0x0100 ∷ fields 11 0 0 0 0 7 0x0100 ∷
    on (commit 0 63) 0x0004 ∷ []) [] ∷
    []

-- a store whose first copies of some pages are bad, others' second; the same with other pages in the bad copies
abbrev pub halves : List ℕ
halves = with_first 0 0 committed3 (with_second 1 0 nine (with_first 4 2 with_a5 (with_second 20 255 with_a5 (with_first 32 7 nine (with_second 16 0 nine fresh_pairs)))))

-- Mending, and what is refused and changes nothing: with every byte of the store.
unfoldable pub mend_rows : List TornRow
mend_rows =
    -- Before a recovery each pair is mended from its first good copy: from the second where the first is bad, whatever its status; two good ones from the first.
    leaves halves (torn_recovery 63 0 0x0000 ∷ on top 0x0000 ∷ []) fresh_pairs ∷
    leaves (with_first 7 1 nine (with_second 7 1 with_a5 fresh_pairs)) (torn_recovery 63 0 0x0000 ∷ []) (with_both 7 nine fresh_pairs) ∷
    leaves (with_first 7 0 nine (with_second 7 1 with_a5 fresh_pairs)) (torn_recovery 63 0 0x0000 ∷ []) (with_both 7 with_a5 fresh_pairs) ∷
    leaves (with_first 7 2 nine (with_second 7 1 with_a5 fresh_pairs)) (torn_recovery 63 0 0x0000 ∷ []) (with_both 7 with_a5 fresh_pairs) ∷
    leaves (with_first 7 255 nine (with_second 7 1 with_a5 fresh_pairs)) (torn_recovery 63 0 0x0000 ∷ []) (with_both 7 with_a5 fresh_pairs) ∷
    leaves (with_first 7 1 nine (with_second 7 3 with_a5 fresh_pairs)) (torn_recovery 63 0 0x0000 ∷ []) (with_both 7 nine fresh_pairs) ∷
    -- 5.7: a recovery cut before its first write has mended all; mending is not counted; nor is anything mended by a crash or a refused event.
    leaves (with_first 7 0 nine made2) (torn_recovery 0 0 0x0B00 ∷ on top 0x0200 ∷ []) (with_both 7 zero_page made2) ∷
    leaves (with_first 7 0 nine (with_second 20 0 with_a5 made2)) (torn_recovery 1 0 0x0B01 ∷ []) (with_both 7 zero_page made3) ∷
    leaves (with_first 7 0 nine (with_second 20 0 with_a5 made2)) (torn_recovery 0 1 0x0B00 ∷ []) (torn_store 1 20 nine zero_page made2) ∷
    leaves (with_first 7 0 nine made2) (on crash 0x0000 ∷ on top 0x0200 ∷ word 0x80000004 0x0100 ∷ []) (with_first 7 0 nine made2) ∷
    -- The commit page is read from its first good copy: committed, empty, committed.
    leaves (with_first 0 1 committed3 (with_second 0 1 empty_page made1)) (torn_recovery 63 0 0x0002 ∷ []) made4 ∷
    leaves (with_first 0 1 empty_page (with_second 0 1 committed3 made1)) (torn_recovery 63 0 0x0000 ∷ []) made1 ∷
    leaves (with_first 0 0 empty_page (with_second 0 1 committed3 made1)) (torn_recovery 63 0 0x0002 ∷ []) made4 ∷
    -- The intention page is read so too: what goes home is the first good copy's page.
    leaves (with_first 4 1 nine (with_second 4 1 with_a5 made2)) (torn_recovery 63 0 0x0002 ∷ []) made4 ∷ leaves (with_first 4 0 with_a5 made2) (torn_recovery 63 0 0x0002 ∷ []) made4 ∷
    -- 5.5: any pair all bad is 4, and no pair is mended; nor by later tries.
    leaves (with_first 20 0 zero_page (with_second 20 7 zero_page (with_first 5 0 nine fresh_pairs))) (torn_recovery 63 0 0x0400 ∷ on top 0x0200 ∷ on crash 0x0000 ∷ torn_recovery 0 3 0x0400 ∷ []) (
    with_first 20 0 zero_page (with_second 20 7 zero_page (with_first 5 0 nine fresh_pairs))) ∷
    leaves (with_first 32 0 zero_page (with_second 32 0 zero_page (with_second 5 0 nine made2))) (torn_recovery 63 0 0x0400 ∷ []) (with_first 32 0 zero_page (with_second 32 0 zero_page (with_second 5 0 nine made2))) ∷
    leaves (with_first 0 0 empty_page (with_second 0 2 empty_page fresh_pairs)) (torn_recovery 63 0 0x0400 ∷ []) (with_first 0 0 empty_page (with_second 0 2 empty_page fresh_pairs)) ∷
    -- 5.6: page 0 damaged in its first good copy is 4, though the second is sound; a bad first copy isn't read. State 3 is damaged.
    leaves (with_first 0 1 zero_page (with_first 5 0 nine fresh_pairs)) (torn_recovery 63 0 0x0400 ∷ []) (with_first 0 1 zero_page (with_first 5 0 nine fresh_pairs)) ∷
    leaves (with_first 0 0 zero_page fresh_pairs) (torn_recovery 63 0 0x0000 ∷ []) fresh_pairs ∷
    leaves (with_second 0 1 zero_page fresh_pairs) (torn_recovery 63 0 0x0000 ∷ []) fresh_pairs ∷
    leaves (with_first 0 0 empty_page (with_second 0 1 zero_page fresh_pairs)) (torn_recovery 63 0 0x0400 ∷ []) (with_first 0 0 empty_page (with_second 0 1 zero_page fresh_pairs)) ∷
    leaves (with_both 0 (0x13 ∷ 0x10 ∷ 0x00 ∷ 0x08 ∷ 0x2A ∷ replicate 27 0) fresh_pairs) (torn_recovery 63 0 0x0400 ∷ []) (with_both 0 (0x13 ∷ 0x10 ∷ 0x00 ∷ 0x08 ∷ 0x2A ∷ replicate 27 0) fresh_pairs) ∷
    leaves (with_both 0 (0x20 ∷ replicate 31 0) fresh_pairs) (torn_recovery 63 0 0x0400 ∷ []) (with_both 0 (0x20 ∷ replicate 31 0) fresh_pairs) ∷
    []

-- L1's soundness: while up every pair is good and alike, and the commit page empty.
unfoldable pub calm_rows : List Calm
calm_rows =
    calm fresh_pairs ∷ calm made1 ∷ calm made4 ∷ calm (with_both 16 nine fresh_pairs) ∷ stirred made2 ∷ stirred made3 ∷
    -- good and different; alike and bad, in the first copy and in the second, of the first pair and of the last
    stirred (with_first 32 1 nine fresh_pairs) ∷ stirred (with_second 32 1 nine fresh_pairs) ∷ stirred (with_first 32 0 zero_page fresh_pairs) ∷ stirred (with_second 32 0 zero_page fresh_pairs) ∷
    stirred (with_first 0 2 empty_page fresh_pairs) ∷ stirred (with_second 0 0 empty_page fresh_pairs) ∷ stirred (with_second 0 1 committed3 fresh_pairs) ∷ stirred (with_first 17 255 zero_page fresh_pairs) ∷
    stirred (with_first 5 0 zero_page (with_second 5 0 zero_page fresh_pairs)) ∷
    []

-- each of the 33 pairs, all bad: such a store is damaged
abbrev pub lost_from : ℕ → ℕ → List Trial
lost_from p zero = []
lost_from p (suc n) = damages (put (66 * p) (0 ∷ []) (put (66 * p + 33) (0 ∷ []) fresh_pairs)) ∷ lost_from (suc p) n

unfoldable pub lost_trials : List Trial
lost_trials = lost_from 0 33

unfoldable pub length_trials : List Trial
length_trials =
    -- 5.10: a fresh store, of 2,178 bytes only.
    lays 2178 0 ∷ lays 2177 22 ∷ lays 2179 22 ∷ lays 1056 22 ∷
    takes 2178 8 8192 5 ∷ refuses 2177 3 8191 0 22 ∷ refuses 1056 4 8192 2 22 ∷ refuses 2178 3 8191 0 24 ∷ refuses 2178 3 8192 0 20 ∷ refuses 2178 16388 8192 0 20 ∷ refuses 2178 4 8192 1 21 ∷
    []

-- Stamps: the commit page names record 3, whose intention page says 9 and whose home page 2; record 5 isn't named, and says 7.
abbrev pub stamped_pairs : List ℕ
stamped_pairs = with_both 0 committed3 (with_both 4 (0 ∷ 0 ∷ 0 ∷ 9 ∷ replicate 28 0) (with_both 20 (0 ∷ 0 ∷ 0 ∷ 2 ∷ replicate 28 0) (with_both 22 (0 ∷ 0 ∷ 0 ∷ 7 ∷ replicate 28 0) fresh_pairs)))

abbrev pub stamp_page : ℕ → List ℕ
stamp_page n = 0 ∷ 0 ∷ 0 ∷ n ∷ replicate 28 0

-- 5.9: an age reads through the pairs: 22, 23, 4 in this order; the first good copy, of the commit page too; any pair all bad is 4, of another record too.
unfoldable pub pair_age_trials : List Trial
pair_age_trials =
    ages stamped_pairs 3 10 10 (live (pos 1)) ∷ ages stamped_pairs 5 5 10 (ahead (negsuc 1)) ∷ ages (with_both 0 empty_page stamped_pairs) 3 10 10 (live (pos 8)) ∷
    ages (with_second 22 1 (stamp_page 8) stamped_pairs) 5 10 10 (live (pos 3)) ∷ ages (with_first 22 0 (stamp_page 8) stamped_pairs) 5 10 10 (live (pos 3)) ∷ ages (with_first 22 1 (stamp_page 8) stamped_pairs) 5 10 10 (live (pos 2)) ∷
    ages (with_first 22 2 (stamp_page 8) stamped_pairs) 5 10 10 (live (pos 3)) ∷ ages (with_second 4 1 (stamp_page 3) stamped_pairs) 3 10 10 (live (pos 1)) ∷ ages (with_first 4 0 (stamp_page 3) stamped_pairs) 3 10 10 (live (pos 1)) ∷
    ages (with_second 0 1 empty_page stamped_pairs) 3 10 10 (live (pos 1)) ∷ ages (with_first 0 0 empty_page stamped_pairs) 3 10 10 (live (pos 1)) ∷ ages (with_first 0 1 empty_page stamped_pairs) 3 10 10 (live (pos 8)) ∷
    ages (with_first 20 0 zero_page (with_second 20 0 zero_page stamped_pairs)) 0 10 10 (refused 4) ∷ ages (with_first 32 0 zero_page (with_second 32 3 zero_page stamped_pairs)) 5 10 10 (refused 4) ∷
    ages (with_first 0 1 zero_page stamped_pairs) 5 10 10 (refused 4) ∷ ages (with_second 0 1 zero_page stamped_pairs) 5 10 10 (live (pos 3)) ∷
    ages (replicate 2177 7) 16 0 0 (refused 22) ∷ ages (replicate 1056 7) 3 0 0 (refused 22) ∷ ages (replicate 2178 7) 16 0 0 (refused 23) ∷ ages (replicate 2178 7) 15 0 0 (refused 4) ∷
    []

-- THE TABLES of the form whose pages can tear
abbrev pub trials_of_pairs : List (List Trial)
trials_of_pairs = lost_trials ∷ length_trials ∷ pair_age_trials ∷ []

abbrev pub played_pairs : List (List Trial)
played_pairs = common_trials ∷ edge_trials ∷ vector_trials ∷ pair_word_trials ∷ []
