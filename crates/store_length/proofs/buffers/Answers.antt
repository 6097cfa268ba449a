-- The tests in the order of the refusals.
use mathlib.Core.Path.{sym, ◌∙◌}
use Rattle.store_length.specs.Lengths.{length_told}
use Rattle.store_length.proofs.Lengths.{buffers_store, buffers_work, buffers_well}
use Rattle.store_length.proofs.buffers.Goals as goal

pub returns-then-store-store_size : goal.returns-then-store-store_size
unfolding length_told
returns-then-store-store_size c = let a = c.args in buffers_store a.tears a.records a.store a.work (λ e. c.if-store-store_size.true (e ∙ sym c.store_size.ensures))

pub returns-then-work-records : goal.returns-then-work-records
unfolding length_told
returns-then-work-records c = let a = c.args in buffers_work a.tears a.records a.store a.work (c.if-store-store_size.false ∙ c.store_size.ensures) c.if-work-records.true

pub returns : goal.returns
unfolding length_told
returns c = let a = c.args in buffers_well a.tears a.records a.store a.work (c.if-store-store_size.false ∙ c.store_size.ensures) c.if-work-records.false
