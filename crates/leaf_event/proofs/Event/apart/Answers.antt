-- The test against the table decides the kind; the other fields are as they are.
use Rattle.laws.specs.Tests.{same}
use Rattle.laws.proofs.Tests.{ne_false}
use Rattle.rules.specs.Event.{field, fields}
use Rattle.leaf_event.specs.Meaning.{apart}
use borrow.Author.Rules.{rules}
use Rattle.leaf_event.proofs.Event.apart.Goals as goal

pub returns-then-w-uses-eq0 : goal.returns-then-w-uses-eq0
unfolding fields field apart same
returns-then-w-uses-eq0 c = let k = c.from.ensures in (rw (← k, c.if-w-uses-eq0.true), search rules)

pub returns-else-w-uses-eq0 : goal.returns-else-w-uses-eq0
unfolding fields field apart
returns-else-w-uses-eq0 c = let k = c.from.ensures in (rw (← k, ne_false _ 0 c.if-w-uses-eq0.false), search rules)
