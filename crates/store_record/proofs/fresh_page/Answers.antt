-- Page 0 of a fresh store is the empty commit page, every other is blank.
use lib.Pow.{pow_pos}
use Rattle.laws.specs.Tests.{same}
use Rattle.laws.proofs.Tests.{ne_false}
use Rattle.rules.specs.Store.{fresh, blank}
use Rattle.store_record.proofs.fresh_page.Goals as goal

pub commit_page-requires : goal.commit_page-requires
commit_page-requires c = (c.requires, pow_pos c.args.n)

pub returns-then-p-eq0 : goal.returns-then-p-eq0
unfolding fresh same
returns-then-p-eq0 c = λ g L. rw c.if-p-eq0.true (c.commit_page.ensures g L)

pub returns : goal.returns
unfolding fresh blank
returns c = λ g L. rw (ne_false _ 0 c.if-p-eq0.false)
