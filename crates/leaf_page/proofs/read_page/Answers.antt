-- The bytes read so far are those of the part.
use Rattle.laws.proofs.Filled.{filled_all}
use mathlib.Core.Path.{sym, ◌∙◌}
use native.Mathlib.Omega.{arith}
use lib.ListN.{drop, length-take, length-drop}
use lib.Seq.{get_or-take, get_or-drop}
use Rattle.leaf_page.proofs.read_page.Goals as goal

pub returns : goal.returns
returns c =
    let a = c.args in
    let inv = c.loop-i.invariant in
    filled_all _ inv.2 (omega arith) (inv.1 ∙ sym (simp (length-take, length-drop) (omega arith)))
    (λ k lt. get_or-take 32 (drop a.at a.bytes.now) k 0 (omega arith) ∙ get_or-drop a.at a.bytes.now k 0)
