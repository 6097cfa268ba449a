-- By the decision.
use mathlib.Core.Bool.{false}
use Rattle.event_decision.proofs.Decisions.{by_decision}
use Rattle.event_decision.proofs.decide_pages.Goals as goal

pub returns-then-commits : goal.returns-then-commits
returns-then-commits c =
    let if1 = c.if-commits in
    λ g G H. by_decision false g _ _ _ _ _ _ _ if1.true (c.commit_decided.ensures g G H)

pub returns : goal.returns
returns c =
    let if1 = c.if-commits in
    λ g G H. by_decision false g _ _ _ _ _ _ _ if1.false (c.abort_decided.ensures g G)
