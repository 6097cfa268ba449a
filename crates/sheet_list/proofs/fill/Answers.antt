-- The list is filled as far as the text is read.
use native.Mathlib.Omega.{arith}
use Rattle.sheet_text.proofs.Turning.{filling_start, filling_room, filling_more, filling_all}
use Rattle.sheet_list.proofs.fill.Goals as goal

pub loop-i-init : goal.loop-i-init
loop-i-init c =
    let event_word_lem = c.event_word in
    (filling_start c.args.s.now c.requires.0 c.args.list.now _ event_word_lem.result c.requires.1 c.put_word.ensures event_word_lem.ensures, omega arith)

pub put_word-requires-in-loop-i : goal.put_word-requires-in-loop-i
put_word-requires-in-loop-i c =
    let loop = c.loop-i in
    filling_room c.args.s.now c.requires.0 loop.invariant.0 c.next_turn-t.ensures

pub overflow_add-k : goal.overflow_add-k
overflow_add-k c =
    let loop = c.loop-i in
    let next_turn = c.next_turn-t in
    let r = filling_room c.args.s.now c.requires.0 loop.invariant.0 next_turn.ensures in
    omega (arith, r.0)

pub loop-i-preserved : goal.loop-i-preserved
loop-i-preserved c =
    let loop = c.loop-i in
    let next_turn = c.next_turn-t in
    (filling_more c.args.s.now c.requires.0 loop.invariant.0 next_turn.ensures c.put_word-in-loop-i.ensures, omega arith)

pub returns : goal.returns
returns c =
    let event_word_lem = c.event_word in
    let put_word = c.put_word in
    filling_all c.args.s.now c.requires.0 c.args.list.now _ _ event_word_lem.result c.requires.1 put_word.ensures event_word_lem.ensures c.loop-i.invariant.1 c.loop-i.invariant.0 (omega arith)
