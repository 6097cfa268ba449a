-- Rows for the event word: every bit of every kind. While down a bad word is 1 and any other but a crash and a recover is 2, so each bit tells
-- whether its field is used.
use Rattle.std.specs.Prelude.{List, [], ◌∷◌, ◌++◌}
use Rattle.rules.specs.Event.{write, read, commit}
use Rattle.trials_rows.specs.Rows.{Line, word, Trial, plays, page, fresh_bytes, empty_page, on, top, locks, on_fresh, words_with_bit, tops}

abbrev pub while_down_on_bytes : List Line → Trial
while_down_on_bytes ls = plays fresh_bytes ls (page 0 empty_page ∷ [])

unfoldable pub word_trials : List Trial
word_trials =
    -- begin: the transaction, bits 23 to 27
    while_down_on_bytes (words_with_bit 0x10000000 0 23 0x0100 ++ words_with_bit 0x10000000 23 5 0x0200) ∷
    -- lock: transaction, record, and the value to 1
    while_down_on_bytes (words_with_bit 0x20000000 0 1 0x0200 ++ (words_with_bit 0x20000000 1 18 0x0100 ++ words_with_bit 0x20000000 19 9 0x0200)) ∷
    -- write: all but the count
    while_down_on_bytes (words_with_bit 0x30000000 0 8 0x0200 ++ (words_with_bit 0x30000000 8 6 0x0100 ++ words_with_bit 0x30000000 14 14 0x0200)) ∷
    -- read: neither count nor value
    while_down_on_bytes (words_with_bit 0x40000000 0 14 0x0100 ++ words_with_bit 0x40000000 14 14 0x0200) ∷
    -- commit: transaction and count
    while_down_on_bytes (words_with_bit 0x50000000 0 8 0x0100 ++ (words_with_bit 0x50000000 8 6 0x0200 ++ (words_with_bit 0x50000000 14 9 0x0100 ++ words_with_bit 0x50000000 23 5 0x0200))) ∷
    -- abort: transaction, and the value to 1
    while_down_on_bytes (words_with_bit 0x60000000 0 1 0x0200 ++ (words_with_bit 0x60000000 1 22 0x0100 ++ words_with_bit 0x60000000 23 5 0x0200)) ∷
    -- crash: nothing
    while_down_on_bytes (words_with_bit 0x70000000 0 28 0x0100 ++ (word 0x70000000 0x0000 ∷ [])) ∷
    -- recover: the count; each bit of it is a count that an empty commit page doesn't ask for, and then the store is up
    while_down_on_bytes (words_with_bit 0x80000000 0 8 0x0100 ++ (words_with_bit 0x80000000 14 14 0x0100 ++ (words_with_bit 0x80000000 8 1 0x0000 ++ words_with_bit 0x80000000 9 5 0x0300))) ∷
    -- prepare: transaction, count and value
    while_down_on_bytes (words_with_bit 0x90000000 0 14 0x0200 ++ (words_with_bit 0x90000000 14 9 0x0100 ++ words_with_bit 0x90000000 23 5 0x0200)) ∷
    -- decide: count and value, and the offset to 1
    while_down_on_bytes (words_with_bit 0xA0000000 0 15 0x0200 ++ words_with_bit 0xA0000000 15 13 0x0100) ∷
    -- query: the value
    while_down_on_bytes (words_with_bit 0xB0000000 0 8 0x0200 ++ words_with_bit 0xB0000000 8 20 0x0100) ∷
    -- there is no other kind
    while_down_on_bytes (
    word 0x00000000 0x0100 ∷ word 0xC0000000 0x0100 ∷ word 0xD0000000 0x0100 ∷ word 0xE0000000 0x0100 ∷ word 0xF0000000 0x0100 ∷ words_with_bit 0x00000000 0 28 0x0100 ++
    (words_with_bit 0xC0000000 0 28 0x0100)) ∷
    -- The last of each field: transaction 23, record 15, offset 31, value FF. A field is neither wider nor narrower, and stands beside its neighbour.
    on_fresh (tops 0 24 ++ (
    word 0x2BF80000 0x0000 ∷ word 0x3BFFC0FF 0x0000 ∷ word 0x4BFFC000 0x00FF ∷ word 0x4BFF8000 0x0000 ∷ word 0x4BF80000 0x0000 ∷ word 0x4BF7C000 0x0900 ∷ word 0x4B7FC000 0x0900 ∷
    word 0x5B803F00 0x0004 ∷ word 0x4BFFC000 0x0500 ∷ [])) (
    page 32 (0 ∷ 0 ∷ []) ∷ page 0 empty_page ∷ []) ∷
    -- The first of each: transaction 0, record 0, offset 0.
    on_fresh (on top 0x0000 ∷ word 0x20000000 0x0000 ∷ word 0x30000001 0x0000 ∷ word 0x40000000 0x0001 ∷ word 0x40004000 0x0000 ∷ word 0x50000400 0x0004 ∷ []) (
    page 17 (1 ∷ 0 ∷ []) ∷ page 1 (1 ∷ 0 ∷ []) ∷ page 18 (0 ∷ 0 ∷ []) ∷ page 0 empty_page ∷ []) ∷
    -- Transaction 3 and record 3 are two things; so are offset 3 and count 3.
    on_fresh (tops 0 4 ++ (
    on (locks 3 5) 0x0000 ∷ on (locks 0 3) 0x0000 ∷ on (read 3 3 3) 0x0900 ∷ on (write 3 5 3 9) 0x0000 ∷ on (read 3 5 3) 0x0009 ∷ on (read 0 3 3) 0x0000 ∷
    on (commit 3 3) 0x0B03 ∷ [])) (page 6 (0 ∷ 0 ∷ 0 ∷ 9 ∷ 0 ∷ []) ∷ page 22 (0 ∷ 0 ∷ 0 ∷ 9 ∷ 0 ∷ []) ∷ page 20 (0 ∷ 0 ∷ 0 ∷ 0 ∷ []) ∷ []) ∷
    []
