-- A reserved record is barred. Else the grant is the grant of the rules, and a lock that is not granted is barred.
use mathlib.Core.Path.{◌∙◌}
use Rattle.rules.specs.Editions.{geometry_of, form_in}
use Rattle.state_array.specs.Changes.{access_when}
use Rattle.leaf_number.specs.Named.{transaction_of, record_of}
use Rattle.state_whole.proofs.Reserves.{reserved_refuses}
use Rattle.event_access.proofs.Steps.{is_reserved_lem, lock_steps, lock_refuses}
use Rattle.event_access.proofs.lock_event.Goals as goal

pub returns-then-names-clause-does : goal.returns-then-names-clause-does
returns-then-names-clause-does g c =
    λ k joint tears up identity parent depth writers work store N H I R.
    let a = c.args in
    let is = is_reserved_lem tears (geometry_of k) _ _ identity _ N.many H _ _ _ c.number.ensures.0 c.requires.named c.names.ensures in
    reserved_refuses tears (geometry_of k) _ I (transaction_of a.t) (record_of a.r) (access_when a.reading) R (is ∙ c.if-names.true)

pub returns-then-lock-clause-does : goal.returns-then-lock-clause-does
returns-then-lock-clause-does g c =
    λ k joint tears up identity parent depth writers work store N H I R.
    let a = c.args in
    let is = is_reserved_lem tears (geometry_of k) _ _ identity _ N.many H _ _ _ c.number.ensures.0 c.requires.named c.names.ensures in
    lock_steps (form_in tears (geometry_of k)) _ I (access_when a.reading) (transaction_of a.t) (record_of a.r) R (is ∙ c.if-names.false) _ _ c.lock.ensures c.if-lock.true

pub returns-clause-does : goal.returns-clause-does
returns-clause-does g c =
    λ k joint tears up identity parent depth writers work store N H I R.
    let a = c.args in
    let is = is_reserved_lem tears (geometry_of k) _ _ identity _ N.many H _ _ _ c.number.ensures.0 c.requires.named c.names.ensures in
    lock_refuses (form_in tears (geometry_of k)) _ I (access_when a.reading) (transaction_of a.t) (record_of a.r) R (is ∙ c.if-names.false) _ _ c.lock.ensures c.if-lock.false
