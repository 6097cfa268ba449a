-- A lock or a read; what is neither is a write.
use native.Mathlib.Omega.{arith}
use Rattle.sheet_text.proofs.Turning.{inside_low, lock_long, lock_turns, read_long, read_turns, write_long, write_turns, must_write}
use Rattle.sheet_list.proofs.plain_turn.Goals as goal

pub overflow_sub-t : goal.overflow_sub-t
overflow_sub-t c =
    let low = inside_low c.args.s.now c.requires.2 c.args.at c.args.levels c.requires.0 c.requires.1 in
    omega arith

pub bounds-s-at-then-b-eq76 : goal.bounds-s-at-then-b-eq76
bounds-s-at-then-b-eq76 c =
    omega (arith, lock_long c.args.s.now c.requires.2 c.args.at c.args.levels c.requires.0 c.requires.1 c.if-b-eq76.true)

pub returns-then-b-eq76 : goal.returns-then-b-eq76
returns-then-b-eq76 c =
    let if1 = c.if-b-eq76 in
    lock_turns c.args.s.now c.requires.2 c.args.at c.args.levels c.event_word.result c.digit_value.result c.requires.0 c.requires.1 if1.true c.digit_value.ensures.0 c.event_word.ensures

pub bounds-s-at-then-b-eq82 : goal.bounds-s-at-then-b-eq82
bounds-s-at-then-b-eq82 c =
    omega (arith, read_long c.args.s.now c.requires.2 c.args.at c.args.levels c.requires.0 c.requires.1 c.if-b-eq82.true)

pub offset_at-requires : goal.offset_at-requires
offset_at-requires c =
    omega (arith, read_long c.args.s.now c.requires.2 c.args.at c.args.levels c.requires.0 c.requires.1 c.if-b-eq82.true)

pub returns-then-b-eq82 : goal.returns-then-b-eq82
returns-then-b-eq82 c =
    let if2 = c.if-b-eq82 in
    read_turns c.args.s.now c.requires.2 c.args.at c.args.levels c.event_word-then-b-eq82.result c.digit_value-then-b-eq82.result c.offset_at.result c.requires.0 c.requires.1 if2.true c.digit_value-then-b-eq82.ensures.0 c.offset_at.ensures.0 c.event_word-then-b-eq82.ensures

pub bounds-s-at-2 : goal.bounds-s-at-2
bounds-s-at-2 c =
    let writes = must_write c.args.s.now c.requires.2 c.args.at c.args.levels c.requires.0 c.requires.1 c.requires.3 c.requires.4 c.requires.5 c.if-b-eq76.false c.if-b-eq82.false in
    omega (arith, write_long c.args.s.now c.requires.2 c.args.at c.args.levels c.requires.0 c.requires.1 writes)

pub offset_at-requires-2 : goal.offset_at-requires-2
offset_at-requires-2 c =
    let if1 = c.if-b-eq76 in
    let writes = must_write c.args.s.now c.requires.2 c.args.at c.args.levels c.requires.0 c.requires.1 c.requires.3 c.requires.4 c.requires.5 if1.false c.if-b-eq82.false in
    omega (arith, write_long c.args.s.now c.requires.2 c.args.at c.args.levels c.requires.0 c.requires.1 writes)

pub two_digits-requires : goal.two_digits-requires
two_digits-requires c =
    let if1 = c.if-b-eq76 in
    let if2 = c.if-b-eq82 in
    let writes = must_write c.args.s.now c.requires.2 c.args.at c.args.levels c.requires.0 c.requires.1 c.requires.3 c.requires.4 c.requires.5 if1.false if2.false in
    omega (arith, write_long c.args.s.now c.requires.2 c.args.at c.args.levels c.requires.0 c.requires.1 writes)

pub returns : goal.returns
returns c =
    let if1 = c.if-b-eq76 in
    let if2 = c.if-b-eq82 in
    let digit_value3 = c.digit_value-2 in
    let writes = must_write c.args.s.now c.requires.2 c.args.at c.args.levels c.requires.0 c.requires.1 c.requires.3 c.requires.4 c.requires.5 if1.false if2.false in
    write_turns c.args.s.now c.requires.2 c.args.at c.args.levels c.event_word-2.result digit_value3.result c.offset_at-2.result c.two_digits.result c.requires.0 c.requires.1 writes digit_value3.ensures.0 c.offset_at-2.ensures.0 c.two_digits.ensures.0 c.event_word-2.ensures
