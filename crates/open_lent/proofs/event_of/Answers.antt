-- The word of edition 1, or the one where pages tear.
use mathlib.Core.Path.{refl, sym, ap, ◌∙◌}
use Rattle.rules.specs.Event.{decode}
use Rattle.rules.specs.Editions.{geometry_of}
use Rattle.engine_list.proofs.Words.{tells_torn, tells_first}
use Rattle.engine_page_write.proofs.Numbered.{word_is}
use Rattle.state_whole.proofs.Parameters.{flag_set, flag_clear}
use Rattle.open_lent.proofs.event_of.Goals as goal

pub returns-then-this-ne0 : goal.returns-then-this-ne0
returns-then-this-ne0 o c =
    let word_at = c.word_at-word in
    let if1 = c.if-this-ne0 in
    λ edition s j. let a = c.args in let t = tells_torn 4 0 _ a.event.now _ (flag_set _ if1.true) refl word_at.ensures c.of_word.ensures edition s j in (ap (decode (geometry_of edition)) (sym (word_is 4 a.event.now c.requires)) ∙ t.0, t.1)

pub returns : goal.returns
returns o c =
    let word_at = c.word_at-word in
    let if1 = c.if-this-ne0 in
    λ edition s j. let a = c.args in let t = tells_first 4 0 _ a.event.now _ (flag_clear _ if1.false) refl word_at.ensures c.of_word-2.ensures edition s j in (ap (decode (geometry_of edition)) (sym (word_is 4 a.event.now c.requires)) ∙ t.0, t.1)
