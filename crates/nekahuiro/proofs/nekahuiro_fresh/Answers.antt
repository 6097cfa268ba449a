-- A fresh store of sixteen records.
use mathlib.Core.Path.{refl}
use mathlib.Core.Logic.{inl}
use Rattle.rules.specs.Editions.{geometry1}
use Rattle.leaf_commit_page.proofs.Places.{layout1}
use Rattle.nekahuiro.proofs.nekahuiro_fresh.Goals as goal

pub lay_fresh-requires : goal.lay_fresh-requires
lay_fresh-requires c = inl refl

pub returns : goal.returns
returns c = c.lay_fresh.ensures geometry1 layout1
