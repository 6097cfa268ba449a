-- Who holds the lock in write mode writes its version; else the write is refused.
use mathlib.Core.Path.{sym, ◌∙◌}
use Rattle.rules.specs.Editions.{geometry_of, form_in}
use Rattle.leaf_number.specs.Named.{transaction_of, record_of}
use Rattle.event_access.proofs.Steps.{write_steps, write_refuses}
use borrow.Author.Rules.{rules}
use Rattle.event_access.proofs.write_event.Goals as goal

pub returns-then-holds_writing-clause-does : goal.returns-then-holds_writing-clause-does
returns-then-holds_writing-clause-does g c =
    λ k tears up line retained h I R.
    let a = c.args in
    write_steps (form_in tears (geometry_of k)) _ I (transaction_of a.t) (record_of a.r) a.o a.v _ h R (sym c.holds_writing.ensures ∙ c.if-holds_writing.true) _ _ (search rules) c.write.ensures

pub returns-clause-does : goal.returns-clause-does
returns-clause-does g c =
    λ k tears up line retained h I R.
    let a = c.args in
    write_refuses (form_in tears (geometry_of k)) _ I (transaction_of a.t) (record_of a.r) a.o a.v R (sym c.holds_writing.ensures ∙ c.if-holds_writing.false)
