-- A transaction begins, commits or aborts; what is none of these is another step.
use native.Mathlib.Omega.{arith}
use Rattle.sheet_text.proofs.Turning.{inside_low, open_turns, commit_turns, abort_turns}
use Rattle.sheet_list.proofs.next_turn.Goals as goal

pub overflow_sub-t : goal.overflow_sub-t
overflow_sub-t c =
    let low = inside_low c.args.s.now c.requires.2 c.args.at c.args.levels c.requires.0 c.requires.1 in
    omega arith

pub overflow_sub-result : goal.overflow_sub-result
overflow_sub-result c =
    let t = open_turns c.args.s.now c.requires.2 c.args.at c.args.levels c.event_word.result c.requires.0 c.requires.1 c.if-b-eq123.true c.event_word.ensures in
    omega (arith, t.0)

pub returns-then-b-eq123 : goal.returns-then-b-eq123
returns-then-b-eq123 c =
    (open_turns c.args.s.now c.requires.2 c.args.at c.args.levels c.event_word.result c.requires.0 c.requires.1 c.if-b-eq123.true c.event_word.ensures).1

pub returns-then-b-eq125 : goal.returns-then-b-eq125
returns-then-b-eq125 c =
    commit_turns c.args.s.now c.requires.2 c.args.at c.args.levels c.event_word-then-b-eq125.result c.requires.0 c.requires.1 c.if-b-eq125.true c.event_word-then-b-eq125.ensures

pub returns-then-b-eq33 : goal.returns-then-b-eq33
returns-then-b-eq33 c =
    abort_turns c.args.s.now c.requires.2 c.args.at c.args.levels c.event_word-then-b-eq33.result c.requires.0 c.requires.1 c.if-b-eq33.true c.event_word-then-b-eq33.ensures
