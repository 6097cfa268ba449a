-- `read_map` reads page 0 and takes what `read_page` says of it.
use mathlib.Core.Logic.{inl}
use mathlib.Core.Path.{ap, ◌∙◌, refl}
use Rattle.leaf_commit_page.specs.Heard.{understood}
use Rattle.leaf_commit_page.proofs.Places.{layout1}
use Rattle.rules.specs.Editions.{geometry1}
use Rattle.audit_page.proofs.read_map.Goals as goal

pub read_page-requires : goal.read_page-requires
read_page-requires c = (inl refl, λ e. refl)

pub returns : goal.returns
returns c = c.read_page.ensures.0 geometry1 layout1 refl ∙ ap (understood geometry1) c.get_page.ensures
