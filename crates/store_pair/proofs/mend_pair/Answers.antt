-- A pair all bad stays; else both copies take the page that is shown.
use mathlib.Core.Path.{sym, ap, ◌∙◌}
use Rattle.laws.specs.Functions.{updated}
use Rattle.rules.specs.Store.{Page}
use Rattle.rules.specs.Pairs.{whole, pairs_of}
use Rattle.store_pair.proofs.Shown.{mend_lost, mend_found}
use Rattle.store_pair.proofs.mend_pair.Goals as goal

pub returns-then-is_lost : goal.returns-then-is_lost
returns-then-is_lost c =
    let a = c.args in
    mend_lost (pairs_of a.bytes.now) a.n (sym c.is_lost.ensures ∙ c.if-is_lost.true)

pub returns : goal.returns
returns c =
    let is_lost = c.is_lost in
    let if1 = c.if-is_lost in
    let shown_page = c.shown_page-shown in
    let a = c.args in
    let s = pairs_of a.bytes.now in
    c.put_pair.ensures ∙ ap (λ (p : Page). updated a.n (whole p) s) shown_page.ensures
    ∙ mend_found s a.n (sym is_lost.ensures ∙ if1.false)
