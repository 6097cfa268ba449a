-- The table of trials of edition 1: the trials at the edges that document 01 marks, with rows that shut out its five shortcuts, and rows for the locks of
-- document 02. What holds in every edition stands in CommonTrials and EdgeTrials; here, and in WordTrials, PageTrials and PreparedTrials, are the rows with
-- edition 1's words, pages and lengths.
use Rattle.std.specs.Prelude.{◌+◌, ◌*◌, List, [], ◌∷◌, ◌++◌, set, negsuc}
use Rattle.rules.specs.Event.{begin, recover}
use Rattle.rules.specs.Age.{ahead}
use Rattle.trials_rows.specs.Rows.{Line, word, Trial, plays, refuses, ages, page, value, fresh_bytes, empty_page, with_a5, on, top, locks, on_fresh}
use Rattle.trials_rows.specs.CommonTrials.{common_trials}
use Rattle.trials_rows.specs.EdgeTrials.{edge_trials}
use Rattle.trials.specs.WordTrials.{word_trials}
use Rattle.trials.specs.PageTrials.{page_trials, age_trials, bit_trials}
use Rattle.trials.specs.PreparedTrials.{prepared_trials}

-- document 01's worked list in words, to its eleventh event and from there
abbrev pub words_to_cut : List Line
words_to_cut =
    word 0x80003F00 0x0000 ∷ word 0x1F800000 0x0000 ∷ word 0x10000000 0x0001 ∷ word 0x20980000 0x0000 ∷ word 0x309880A5 0x0000 ∷
    word 0x50803F00 0x0000 ∷ word 0x10000000 0x0001 ∷ word 0x20980000 0x0000 ∷ word 0x30988011 0x0000 ∷ word 0x60800000 0x0000 ∷
    word 0x50000200 0x0B02 ∷ []

abbrev pub words_from_cut : List Line
words_from_cut =
    word 0x40188000 0x0200 ∷ word 0x80003F00 0x0002 ∷ word 0x1F800000 0x0000 ∷ word 0x20180000 0x0000 ∷ word 0x40188000 0x00A5 ∷ []

unfoldable pub first_trials : List Trial
first_trials =
    -- 1: the list in full, and its commit page after the eleventh event
    plays fresh_bytes words_to_cut (page 0 (0x15 ∷ 0x10 ∷ 0x00 ∷ 0x08 ∷ []) ∷ []) ∷
    plays fresh_bytes (words_to_cut ++ words_from_cut) (page 0 empty_page ∷ value 3 with_a5 ∷ []) ∷
    -- 11: committed state with map 0
    plays (set fresh_bytes 0 0x15) (on (recover 63) 0x0400 ∷ []) (page 0 (0x15 ∷ 0x00 ∷ []) ∷ []) ∷
    -- 14: clock 5, stamp 7
    ages (set fresh_bytes (32 * 20 + 3) 7) 3 5 10 (ahead (negsuc 1)) ∷
    -- Names: 24 to 30 are never live, 31 only in begin is no name; stray bits are 1 before all else.
    on_fresh (
    on (begin 24) 0x0500 ∷ on (begin 30) 0x0500 ∷ on (locks 31 3) 0x0500 ∷ word 0x70000001 0x0100 ∷ word 0xC0000000 0x0100 ∷ word 0x00000000 0x0100 ∷
    word 0x20000002 0x0100 ∷ on (recover 63) 0x0300 ∷ []) [] ∷
    -- Read locks. What is held and what is retained are apart: a retainer in write mode that holds to read does not write.
    plays fresh_bytes (
    word 0x80003F00 0x0000 ∷ word 0x1F800000 0x0000 ∷ word 0x10000000 0x0001 ∷ word 0x20980000 0x0000 ∷ word 0x50803F00 0x0000 ∷
    word 0x20180001 0x0000 ∷ word 0x30180001 0x0900 ∷ word 0x20180000 0x0000 ∷ word 0x30180001 0x0000 ∷ []) [] ∷
    -- A lock takes the values 0 and 1; another is 1, also while down.
    plays fresh_bytes (word 0x20180002 0x0100 ∷ word 0x20180001 0x0200 ∷ []) [] ∷
    on_fresh (on top 0x0000 ∷ word 0x20180002 0x0100 ∷ word 0x201800FF 0x0100 ∷ word 0x20180001 0x0000 ∷ []) [] ∷
    -- An abort takes the values 0 and 1; another is 1, also while down.
    plays fresh_bytes (word 0x60000002 0x0100 ∷ word 0x60000001 0x0200 ∷ []) [] ∷
    on_fresh (on top 0x0000 ∷ word 0x60000002 0x0100 ∷ word 0x600000FF 0x0100 ∷ word 0x60000000 0x0000 ∷ []) [] ∷
    -- Refused before the first event, in the order 22, 24, 20, 21, with nothing touched.
    refuses 1055 5 8191 0 22 ∷ refuses 1056 5 8191 0 24 ∷ refuses 1056 5 8192 0 20 ∷
    refuses 1056 16388 8192 8194 20 ∷ refuses 1056 8 8192 3 21 ∷
    []

-- THE TABLES of edition 1: these rows, what holds in every edition, every bit of the event word, the store, prepared transactions.
abbrev pub trials : List (List Trial)
trials = first_trials ∷ common_trials ∷ edge_trials ∷ word_trials ∷ page_trials ∷ age_trials ∷ bit_trials ∷ prepared_trials ∷ []
