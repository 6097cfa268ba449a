-- By its tests.
use mathlib.Core.Path.{sym, ◌∙◌, ap, ap₂}
use mathlib.Core.Bool.{Bool, ◌&&◌, ◌||◌}
use lib.Dec.{leb, leb-suc-suc}
use Rattle.laws.specs.Tests.{under}
use Rattle.sheet_text.specs.Scan.{is_digit}
use Rattle.sheet_reader.proofs.is_digit.Goals as goal

pub returns-then-low : goal.returns-then-low
unfolding is_digit under
returns-then-low c =
    let b = c.args.b in
    ap (λ (x : Bool). leb 48 b && x) (sym (leb-suc-suc b 49)) ∙ ap (λ (low : Bool). is_digit low b) (sym c.if-low.true)

pub returns : goal.returns
unfolding is_digit under
returns c =
    let b = c.args.b in
    ap₂ (λ (x y : Bool). (leb 48 b && x) || (leb 65 b && y)) (sym (leb-suc-suc b 57)) (sym (leb-suc-suc b 70)) ∙ ap (λ (low : Bool). is_digit low b) (sym c.if-low.false)
