-- Where the reading comes to an end there is a sheet, where it stops there is the fault.
use mathlib.Core.Path.{◌≡◌, sym, ap, ◌∙◌}
use native.Mathlib.Omega.{arith}
use lib.ListN.{length}
use Rattle.sheet_text.specs.Scan.{scan_after}
use Rattle.sheet_reader.proofs.Scanning.{empty_text, unopened_text, opened_text, trailing, top_left}
use borrow.Author.Rules.{rules}
use Rattle.sheet_text.proofs.Following.{stuck_fault, whole_taken, room_most}
use Rattle.sheet_reader.proofs.check.Goals as goal

pub returns-then-s-eq0 : goal.returns-then-s-eq0
returns-then-s-eq0 c = stuck_fault c.args.s.now 0 (empty_text c.if-s-eq0.true)

pub returns-then-s-ne123 : goal.returns-then-s-ne123
returns-then-s-ne123 c =
    stuck_fault c.args.s.now 0 (unopened_text c.if-s-ne123.true)

pub read_transaction-requires : goal.read_transaction-requires
read_transaction-requires c = (omega arith, opened_text (omega arith), omega arith)

pub returns-in_err-c : goal.returns-in_err-c
returns-in_err-c c = let fails = stuck_fault c.args.s.now c.in_err-c.field-0.0.at c.in_err-c.ensures in search rules

pub returns-then-c-s : goal.returns-then-c-s
returns-then-c-s c = stuck_fault c.args.s.now _ (trailing c.if-c-s.true (top_left c.in_ok-c.ensures.stands))

pub overflow_sub-result : goal.overflow_sub-result
overflow_sub-result c =
    let h = c.in_ok-c.ensures in
    omega (arith, room_most c.args.s.now _ _ h.within (top_left h.stands).is)

pub returns : goal.returns
returns c =
    let s = c.args.s.now in
    let h = c.in_ok-c.ensures in
    let e : c.in_ok-c.c.at ≡ length s = omega (arith, h.within) in
    let w = whole_taken s c.in_ok-c.c.room (ap (scan_after s) (sym e) ∙ (top_left h.stands).is) in
    record { sheet = w.sheet; taken = w.taken; long = omega (arith, w.counts) }
