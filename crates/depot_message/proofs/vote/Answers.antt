-- By kind.
use mathlib.Core.Path.{sym, ◌∙◌}
use native.Mathlib.Omega.{arith}
use Rattle.laws.specs.Tests.{same}
use Rattle.depot_message.proofs.Votes.{on_prepare, on_query, on_other}
use Rattle.depot_message.proofs.vote.Goals as goal

pub returns-in-9 : goal.returns-in-9
unfolding same
returns-in-9 c = let a = c.args in c.word.ensures ∙ sym (on_prepare a.kind a.number a.value c.in-9.is)

pub returns-in-11 : goal.returns-in-11
unfolding same
returns-in-11 c = let a = c.args in c.word-in-11.ensures ∙ sym (on_query a.kind a.number a.value c.in-11.is)

pub returns-in_default : goal.returns-in_default
returns-in_default c = let a = c.args in sym (on_other a.kind a.number a.value (λ e. omega arith) (λ e. omega arith))
