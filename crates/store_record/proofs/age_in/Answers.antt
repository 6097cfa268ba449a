-- Where a page has no good copy, or the commit page that is shown is damaged, the age is refused; else it is that of the settled page's stamp.
use Rattle.std.specs.Prelude.{Err}
use mathlib.Core.Path.{◌≡◌, refl, sym, ap, ◌∙◌}
use mathlib.Core.Bool.{true, false}
use Rattle.leaf_age.specs.Meaning.{judged_age}
use Rattle.leaf_number.specs.Named.{record_of}
use Rattle.store_record.specs.Ages.{told_as}
use Rattle.store_record.specs.declared.Refusal.TheVariants.{Damaged}
use Rattle.leaf_commit_page.specs.Heard.{map_told}
use Rattle.store_record.proofs.Ages.{told_lost, told_good, told_bad, some_from_ok, none_from_err}
use borrow.Author.Rules.{rules}
use Rattle.store_record.proofs.age_in.Goals as goal

pub returns-then-any_lost : goal.returns-then-any_lost
unfolding told_as
returns-then-any_lost c =
    λ g L j.
    let a = c.args in
    told_lost a.tears g _ L.many a.store.now _ (record_of a.r) a.clock.0 a.limit.0 c.any_lost.ensures c.if-any_lost.true

pub returns-in_err-map : goal.returns-in_err-map
unfolding told_as map_told
returns-in_err-map c =
    let a = c.args in
    let read = c.read_page-c in
    let none = none_from_err read.result Damaged (sym c.ok_or.ensures.value ∙ c.in_err-map.was) in
    let err : c.from_residual.result ≡ Err c.in_err-map.field-0.0 = search rules in
    λ g L j.
    ap told_as (err ∙ ap Err none.1)
    ∙ told_bad a.tears g _ L.many a.store.now _ c.get_page.result (record { good = false; map = 0 }) (record_of a.r) a.clock.0 a.limit.0
    c.any_lost.ensures c.if-any_lost.false c.get_page.ensures (ap map_told (sym none.0) ∙ read.ensures.0 g L j) refl

pub returns : goal.returns
unfolding told_as map_told
returns c =
    let a = c.args in
    let read = c.read_page-c in
    let some = some_from_ok read.result Damaged (sym c.ok_or.ensures.value ∙ c.in_ok-map.was) in
    λ g L j.
    told_good a.tears g _ L.many a.store.now _ c.get_page.result (record { good = true; map = c.in_ok-map.map }) (record_of a.r) a.clock.0 a.limit.0
    c.settled_page.result c.new-stamp.result.0 c.since.result.0 (judged_age c.judged_by.result)
    c.any_lost.ensures c.if-any_lost.false c.get_page.ensures (ap map_told (sym some) ∙ read.ensures.0 g L j) refl c.requires.3
    (c.settled_page.ensures.0 g L.many) (c.new-stamp.ensures ∙ c.stamp_on.ensures) c.since.ensures c.judged_by.ensures
