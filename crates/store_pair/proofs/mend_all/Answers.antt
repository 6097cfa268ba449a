-- So far the pairs below p are mended.
use borrow.Author.Rules.{rules}
use native.Mathlib.Omega.{arith}
use Rattle.store_pair.proofs.Shown.{mended-none, mended_more, mended-all}
use Rattle.store_pair.proofs.mend_all.Goals as goal

pub loop-p-init : goal.loop-p-init
loop-p-init c = (search rules, search rules, mended-none)

pub loop-p-preserved : goal.loop-p-preserved
loop-p-preserved c =
    let loop = c.loop-p in
    (search rules, search rules, mended_more loop.invariant.2 c.mend_pair.ensures)

pub returns : goal.returns
returns c =
    let a = c.args in
    let l = c.loop-p in
    mended-all a.n l.p a.bytes.now c.requires.1 (omega arith) l.invariant.2
