-- The age of one of sixteen records.
use mathlib.Core.Path.{refl}
use mathlib.Core.Logic.{inl}
use Rattle.rules.specs.Editions.{geometry1}
use Rattle.leaf_commit_page.proofs.Places.{layout1}
use Rattle.nekahuiro.proofs.nekahuiro_age.Goals as goal

pub tell-requires : goal.tell-requires
tell-requires c = (inl refl, λ e. refl)

pub returns : goal.returns
returns c = c.tell.ensures geometry1 layout1 refl
