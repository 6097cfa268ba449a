-- One more bit at the end.
use borrow.Author.Rules.{rules}
use Rattle.audit_page.proofs.grown.Goals as goal

pub returns-then-yes : goal.returns-then-yes
returns-then-yes c = rw c.if-yes.true

pub returns : goal.returns
returns c = rw c.if-yes.false (search rules)
