-- A fresh store of sixty-four records.
use mathlib.Core.Path.{refl}
use mathlib.Core.Logic.{inr}
use Rattle.rules.specs.Editions.{geometry2}
use Rattle.leaf_commit_page.proofs.Places.{layout2}
use Rattle.nekahuiro_edition2.proofs.nekahuiro_fresh_edition2.Goals as goal

pub lay_fresh-requires : goal.lay_fresh-requires
lay_fresh-requires c = inr refl

pub returns : goal.returns
returns c = c.lay_fresh.ensures geometry2 layout2
