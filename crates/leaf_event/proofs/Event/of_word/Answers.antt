-- The law of words taken apart, with edition 1's numbers.
use native.Mathlib.Omega.{arith}
use Rattle.rules.specs.Editions.{geometry1}
use Rattle.rules.proofs.Editions.{proper1}
use Rattle.leaf_event.specs.Flags.{flags}
use Rattle.leaf_event.proofs.Words.{right1, told_apart}
use Rattle.leaf_event.proofs.Meaning.{in_range1}
use Rattle.leaf_event.proofs.Event.of_word.Goals as goal

pub returns : goal.returns
returns c =
    let a = c.args in
    let p = told_apart geometry1 flags right1 proper1 a.w a.table.now (omega arith) c.requires in
    rw c.apart.ensures.0 (p.0, in_range1 _ p.1)
