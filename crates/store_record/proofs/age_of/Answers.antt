-- The refusals in their order, then the age of the record.
use Rattle.std.specs.Prelude.{Err}
use mathlib.Core.Path.{◌≡◌, ap, sym, ◌∙◌}
use Prim.Native.Nat.{ℕ}
use Rattle.leaf_commit_page.proofs.Places.{known_small}
use Rattle.store_record.specs.Ages.{told_as, age_in}
use Rattle.store_record.specs.declared.Refusal.TheVariants.{NoSuchRecord}
use Rattle.store_record.proofs.Ages.{age_short, age_no_record, age_in_lem, named_small, named_below, named_none, some_from_ok, none_from_err}
use borrow.Author.Rules.{rules}
use Rattle.store_record.proofs.age_of.Goals as goal

pub returns-then-store-store_size : goal.returns-then-store-store_size
unfolding told_as
returns-then-store-store_size c =
    λ g L j. age_short c.args.tears g _ L.many _ _ _ _ (λ e. c.if-store-store_size.true (e ∙ sym c.store_size.ensures))

pub returns-in_err-r : goal.returns-in_err-r
unfolding told_as
returns-in_err-r c =
    let a = c.args in
    let none = none_from_err c.checked.result NoSuchRecord (sym c.ok_or.ensures.value ∙ c.in_err-r.was) in
    let err : c.from_residual.result ≡ Err c.in_err-r.field-0.0 = search rules in
    λ g L j.
    ap told_as (err ∙ ap Err none.1)
    ∙ age_no_record a.tears g _ L.many a.store.now a.number a.clock.0 a.limit.0 (c.if-store-store_size.false ∙ c.store_size.ensures)
    (named_none _ a.number (sym c.checked.ensures ∙ none.0))

pub age_in-requires : goal.age_in-requires
age_in-requires c =
    let p = c.requires in
    let some = some_from_ok c.checked.result NoSuchRecord (sym c.ok_or.ensures.value ∙ c.in_ok-r.was) in
    (p.0, p.1, c.if-store-store_size.false ∙ c.store_size.ensures, named_below _ (known_small _ p.0).0 _ _ (sym c.checked.ensures ∙ some))

pub returns : goal.returns
returns c =
    let a = c.args in
    let few = (known_small _ c.requires.0).0 in
    let some = some_from_ok c.checked.result NoSuchRecord (sym c.ok_or.ensures.value ∙ c.in_ok-r.was) in
    let m = named_small _ few a.number c.in_ok-r.r (sym c.checked.ensures ∙ some) in
    λ g L j.
    c.age_in.ensures g L j
    ∙ ap (λ (k : ℕ). age_in a.tears g a.store.now k a.clock.0 a.limit.0) m.1
    ∙ age_in_lem a.tears g _ L.many a.store.now a.number a.clock.0 a.limit.0 (c.if-store-store_size.false ∙ c.store_size.ensures) m.0
