-- A word of each edition, by its bytes and by whether pages tear.
use borrow.Author.Rules.{rules}
use lib.ListN.{length}
use Rattle.engine_list.proofs.Words.{four, room, tells_wide, tells_torn, tells_first}
use Rattle.engine_list.proofs.event_at.Goals as goal

pub word_at-requires : goal.word_at-requires
word_at-requires c =
    let a = c.args in
    (c.requires.2, room 8 a.k (length a.events.now) c.if-word-eq-WIDE_WORD.true c.requires.4)

pub returns-then-word-eq-WIDE_WORD : goal.returns-then-word-eq-WIDE_WORD
returns-then-word-eq-WIDE_WORD c =
    λ edition s j. let a = c.args in
    tells_wide a.word a.k _ a.events.now _ c.if-word-eq-WIDE_WORD.true c.word_at.ensures c.of_word.ensures edition s

pub word_at-w-requires : goal.word_at-w-requires
word_at-w-requires c =
    let a = c.args in
    (search rules, room 4 a.k (length a.events.now) (four c.requires.3 c.if-word-eq-WIDE_WORD.false) c.requires.4)

pub returns-then-tears : goal.returns-then-tears
returns-then-tears c =
    let if1 = c.if-word-eq-WIDE_WORD in
    λ edition s j. let a = c.args in
    tells_torn a.word a.k _ a.events.now _ c.if-tears.true (four c.requires.3 if1.false) c.word_at-w.ensures c.of_word-then-tears.ensures edition s j

pub returns : goal.returns
returns c =
    let if1 = c.if-word-eq-WIDE_WORD in
    λ edition s j. let a = c.args in
    tells_first a.word a.k _ a.events.now _ c.if-tears.false (four c.requires.3 if1.false) c.word_at-w.ensures c.of_word-2.ensures edition s j
