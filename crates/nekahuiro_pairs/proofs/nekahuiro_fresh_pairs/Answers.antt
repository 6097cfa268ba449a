-- A fresh store of sixteen records, on pages that tear.
use mathlib.Core.Path.{refl}
use mathlib.Core.Logic.{inl}
use Rattle.rules.specs.Editions.{geometry_pairs}
use Rattle.leaf_commit_page.proofs.Places.{layout_pairs}
use Rattle.nekahuiro_pairs.proofs.nekahuiro_fresh_pairs.Goals as goal

pub lay_fresh-requires : goal.lay_fresh-requires
lay_fresh-requires c = inl refl

pub returns : goal.returns
returns c = c.lay_fresh.ensures geometry_pairs layout_pairs
