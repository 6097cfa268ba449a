-- As edition 1's word, with edition 2's numbers.
use native.Mathlib.Omega.{arith}
use Rattle.rules.specs.Event.{field, fields}
use Rattle.rules.specs.Editions.{geometry2}
use Rattle.rules.proofs.Editions.{proper2}
use Rattle.leaf_event.specs.Flags.{flags2}
use Rattle.leaf_event.proofs.Words.{right2, passes, fails}
use Rattle.leaf_event.proofs.edition2.Edition2.of_word.Goals as goal

pub returns-then-w-uses-eq0 : goal.returns-then-w-uses-eq0
unfolding fields field
returns-then-w-uses-eq0 c = passes geometry2 flags2 right2 proper2 c.args.w _ _ (omega arith) c.requires c.from.ensures c.if-w-uses-eq0.true

pub returns-else-w-uses-eq0 : goal.returns-else-w-uses-eq0
unfolding fields field
returns-else-w-uses-eq0 c = fails geometry2 flags2 right2 proper2 c.args.w _ _ (omega arith) c.requires c.from.ensures c.if-w-uses-eq0.false
