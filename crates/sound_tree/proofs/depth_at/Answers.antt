-- Past the array's end the depth is 0.
use mathlib.Core.Path.{◌≡◌, sym}
use native.Mathlib.Omega.{arith}
use lib.ListN.{get_or, get_or-eq_default}
use borrow.Author.Rules.{rules}
use Rattle.sound_tree.proofs.depth_at.Goals as goal

pub returns : goal.returns
returns c = let a = c.args in let e : get_or a.depth.now a.p 0 ≡ 0 = get_or-eq_default a.depth.now 0 (omega arith) in (sym e, search rules)
