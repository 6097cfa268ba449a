-- `prepared` asks whether the map of what is prepared isn't 0.
use mathlib.Core.Path.{refl, ap, ◌∙◌}
use mathlib.Core.Bool.{not}
use mathlib.Core.Logic.{inl}
use Rattle.laws.specs.Tests.{same}
use Rattle.rules.specs.Store.{Page, pages_of, read_prepared}
use Rattle.rules.specs.Editions.{geometry1}
use Rattle.leaf_commit_page.specs.Heard.{overheard}
use Rattle.leaf_commit_page.proofs.Places.{layout1, told_some}
use Rattle.leaf_commit_page.specs.declared.PreparedMap.{PreparedMap}
use Rattle.audit_verdict.proofs.Busy.{busy_is}
use Rattle.audit_verdict.proofs.prepared.Goals as goal

pub read_prepared-p-requires : goal.read_prepared-p-requires
read_prepared-p-requires c = (inl refl, λ e. refl)

pub returns : goal.returns
unfolding same
returns c =
    let page = pages_of c.args.start.now 0 in
    c.is_some.ensures ∙ told_some c.read_prepared-p.result c.read_prepared-p.ensures.2
    ∙ ap (λ (p : PreparedMap). not (same p.map 0)) (c.read_prepared-p.ensures.0 geometry1 layout1 refl ∙ ap (λ (x : Page). overheard (read_prepared geometry1 x)) c.get_page.ensures)
    ∙ busy_is page (read_prepared geometry1 page) refl
