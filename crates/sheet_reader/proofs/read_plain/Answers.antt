-- By the letter.
use mathlib.Core.Path.{refl, ap, ◌∙◌}
use Prim.Native.Nat.{ℕ}
use native.Mathlib.Omega.{arith}
use lib.ListN.{get_or}
use Rattle.sheet_text.specs.Scan.{letter_of, stepped}
use Rattle.sheet_reader.proofs.Scanning.{letter_bad, plain_on, no_step}
use Rattle.sheet_text.proofs.Letters.{is_lock_lem, is_write, is_read, is_unknown, no_letter}
use Rattle.sheet_reader.proofs.read_plain.Goals as goal

pub returns-then-room-eq0 : goal.returns-then-room-eq0
returns-then-room-eq0 c =
    let a = c.args in
    let h = c.requires in
    letter_bad h.0 h.1 refl (ap (λ (r : ℕ). stepped (letter_of (get_or a.s.now a.at 0)) a.levels r) c.if-room-eq0.true ∙ no_step (get_or a.s.now a.at 0) a.levels h.2 h.3 h.4)

pub read_digits-requires : goal.read_digits-requires
read_digits-requires c =
    let a = c.args in
    let h = c.requires in
    (omega arith, omega arith, plain_on a.room 0 9 h.1 (is_lock_lem c.if-b-eq76.true) (omega arith))

pub read_digits-requires-then-b-eq87 : goal.read_digits-requires-then-b-eq87
read_digits-requires-then-b-eq87 c =
    let a = c.args in
    let h = c.requires in
    (omega arith, omega arith, plain_on a.room 4 3 h.1 (is_write c.if-b-eq87.true) (omega arith))

pub read_digits-requires-then-b-eq82 : goal.read_digits-requires-then-b-eq82
read_digits-requires-then-b-eq82 c =
    let a = c.args in
    let h = c.requires in
    (omega arith, omega arith, plain_on a.room 2 1 h.1 (is_read c.if-b-eq82.true) (omega arith))

pub returns : goal.returns
returns c =
    let a = c.args in
    let h = c.requires in
    letter_bad h.0 h.1 (is_unknown (get_or a.s.now a.at 0) h.2 h.3 h.4 c.if-b-eq76.false c.if-b-eq87.false c.if-b-eq82.false) (no_letter a.levels a.room)
