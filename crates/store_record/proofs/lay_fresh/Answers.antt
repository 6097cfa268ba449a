-- A store of another size is refused; else every page is laid.
use mathlib.Core.Path.{sym, ◌∙◌}
use Rattle.leaf_commit_page.proofs.Places.{known_small}
use Rattle.store_record.proofs.Laying.{fresh_refused, fresh_laid}
use Rattle.store_record.proofs.lay_fresh.Goals as goal

pub store_size-requires : goal.store_size-requires
store_size-requires c = (known_small _ c.requires).0

pub returns-then-store-store_size : goal.returns-then-store-store_size
returns-then-store-store_size c =
    λ g L.
    let q = fresh_refused c.args.tears g _ L.many _ (λ e. c.if-store-store_size.true (e ∙ sym c.store_size.ensures)) in
    (c.from.ensures ∙ q.0, q.1)

pub lay-requires : goal.lay-requires
lay-requires c =
    (c.requires, c.if-store-store_size.false ∙ c.store_size.ensures)

pub returns : goal.returns
returns c =
    let store_size = c.store_size in
    let if1 = c.if-store-store_size in
    λ g L. fresh_laid c.args.tears g _ L.many _ _ (if1.false ∙ store_size.ensures) (c.lay.ensures g L)
