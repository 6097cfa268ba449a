-- Who holds the lock in any mode reads what the rules show; else the read is refused.
use mathlib.Core.Path.{sym, ◌∙◌}
use Rattle.rules.specs.Editions.{geometry_of, form_in}
use Rattle.leaf_number.specs.Named.{transaction_of, record_of}
use Rattle.event_access.proofs.Steps.{read_steps, read_refuses}
use Rattle.event_access.proofs.read_event.Goals as goal

pub returns-then-holds : goal.returns-then-holds
returns-then-holds g c =
    λ k tears up line retained h I R.
    let a = c.args in
    read_steps (form_in tears (geometry_of k)) _ I (transaction_of a.t) (record_of a.r) a.o _ _ h R (sym c.holds.ensures ∙ c.if-holds.true) c.read-read.ensures

pub returns : goal.returns
returns g c =
    λ k tears up line retained h I R.
    let a = c.args in
    read_refuses (form_in tears (geometry_of k)) _ I (transaction_of a.t) (record_of a.r) a.o R (sym c.holds.ensures ∙ c.if-holds.false)
