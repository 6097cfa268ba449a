-- The digits are read one by one: so many are to come.
use mathlib.Core.Path.{◌≡◌, sym, ◌∙◌}
use Prim.Native.Nat.{◌+◌, ◌-◌}
use native.Mathlib.Omega.{arith}
use Rattle.laws.specs.Tests.{same}
use Rattle.sheet_reader.proofs.Scanning.{digit_on, digit_bad, digit_short, to_come_lem, come_as, none_to_come, all_to_come}
use Rattle.sheet_reader.proofs.read_digits.Goals as goal

pub loop-i-init : goal.loop-i-init
loop-i-init c = (c.requires.0, omega arith, omega arith, come_as _ _ _ _ (omega arith) (all_to_come c.requires.2))

pub returns-then-s-i : goal.returns-then-s-i
returns-then-s-i c =
    let l = c.loop-i in
    let a = c.args in
    digit_short (omega arith) (to_come_lem (a.at + a.n - l.i) (omega arith) l.invariant.3)

pub returns-then-not-is_digit : goal.returns-then-not-is_digit
unfolding same
returns-then-not-is_digit c =
    let l = c.loop-i in
    let a = c.args in
    digit_bad (omega arith) (to_come_lem (a.at + a.n - l.i) (omega arith) l.invariant.3) (sym c.is_digit.ensures ∙ c.if-not-is_digit.true)

pub loop-i-preserved : goal.loop-i-preserved
unfolding same
loop-i-preserved c =
    let l = c.loop-i in
    let a = c.args in
    let on = digit_on (to_come_lem (a.at + a.n - l.i) (omega arith) l.invariant.3) (sym c.is_digit.ensures ∙ c.if-not-is_digit.false) in
    (omega arith, omega arith, omega arith, come_as _ _ _ _ (omega arith) on)

pub returns : goal.returns
returns c =
    let l = c.loop-i in
    let a = c.args in
    let done : l.i ≡ a.at + a.n + 1 = omega arith in
    let stands = none_to_come a.s.now l.i (a.at + a.n + 1 - l.i) a.low a.levels a.room (omega arith) l.invariant.3 in
    record { further = omega arith; within = omega arith; stands = rw done at stands }
