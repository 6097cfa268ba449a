-- Past the array's end the line is empty.
use mathlib.Core.Path.{◌≡◌, sym}
use native.Mathlib.Omega.{arith}
use lib.ListN.{get_or, get_or-eq_default}
use Rattle.sound_tree.proofs.line_at.Goals as goal

pub returns : goal.returns
returns c = let a = c.args in let e : get_or a.line.now a.p 0 ≡ 0 = get_or-eq_default a.line.now 0 (omega arith) in sym e
