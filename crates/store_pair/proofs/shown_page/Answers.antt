-- The first copy is taken where it is good, or the second is bad too; else the second.
use mathlib.Core.Path.{◌∙◌}
use Rattle.store_pair.proofs.Shown.{shows_first, shows_second}
use Rattle.store_pair.proofs.shown_page.Goals as goal

pub returns-then-is_good : goal.returns-then-is_good
returns-then-is_good c =
    let is_good_lem = c.is_good in
    let a = c.args in
    c.page_of.ensures ∙ shows_first a.bytes.now a.n is_good_lem.ensures c.is_good-2.ensures c.if-is_good.true

pub returns : goal.returns
returns c =
    let is_good_lem = c.is_good in
    let a = c.args in
    c.page_of-2.ensures ∙ shows_second a.bytes.now a.n is_good_lem.ensures c.is_good-2.ensures c.if-is_good.false
