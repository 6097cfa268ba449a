-- The cycle of the two readers: each reads on, so that the bytes that are left fall; the transaction's reader hands its place on to the step's, so its
-- measure is one more.
use mathlib.Core.Path.{◌≡◌}
use lib.ListN.{get_or}
use Prim.Native.Nat.{◌+◌}
use native.Mathlib.Omega.{arith}
use Rattle.sheet_text.specs.Scan.{between, letter_of, closing}
use Rattle.sheet_text.proofs.Letters.{is_closing, is_closing_too}
use Rattle.sheet_reader.proofs.Scanning.{left_on, between_short, no_level_on, too_few_on, opened_on, inner_left, from_before}
use Rattle.sheet_reader.proofs.+read_step_read_transaction.Goals.{read_transaction-then-b-eq125-via-then-b-eq125, read_transaction-then-b-eq125-via-else-b-eq125+then-b-eq33}
use Rattle.sheet_reader.proofs.+read_step_read_transaction.Goals as goal

pub read_transaction-returns-then-b-eq125 : goal.read_transaction-returns-then-b-eq125
read_transaction-returns-then-b-eq125 t c =
    let l = c.loop-c in
    let closes : letter_of (get_or c.args.s.now l.c.at 0) ≡ closing =
    elim c.then-b-eq125.branch [
      | read_transaction-then-b-eq125-via-then-b-eq125 w ↦ is_closing w.if-b-eq125.true
      | read_transaction-then-b-eq125-via-else-b-eq125+then-b-eq33 w ↦ is_closing_too w.if-b-eq33.true
    ] in
    record { further = omega arith; within = omega arith; stands = left_on l.invariant.2 closes }

pub read_transaction-returns : goal.read_transaction-returns
read_transaction-returns t c =
    let l = c.loop-c in between_short (omega arith) l.invariant.2

pub read_step-returns-then-levels-eq0 : goal.read_step-returns-then-levels-eq0
read_step-returns-then-levels-eq0 t c =
    let h = c.requires in
    no_level_on h.0 h.1 c.if-s-at-eq123.true c.if-levels-eq0.true

pub read_step-returns-then-room-lt2 : goal.read_step-returns-then-room-lt2
read_step-returns-then-room-lt2 t c =
    let h = c.requires in
    too_few_on h.0 h.1 c.if-s-at-eq123.true c.if-room-lt2.true

pub read_step-read_transaction-requires : goal.read_step-read_transaction-requires
read_step-read_transaction-requires t c =
    let a = c.args in
    let h = c.requires in
    (omega arith, (omega arith, opened_on a.levels a.room h.1 c.if-s-at-eq123.true (omega arith) (omega arith), omega arith))

pub read_step-returns-then-s-at-eq123 : goal.read_step-returns-then-s-at-eq123
read_step-returns-then-s-at-eq123 t c =
    let a = c.args in
    let h = c.requires in
    from_before a.s.now a.at (a.at + 1) (between a.levels) c.read_transaction.result (omega arith) (inner_left a.s.now (a.at + 1) a.levels c.read_transaction.result (omega arith) h.2 c.read_transaction.ensures)
