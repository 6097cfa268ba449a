-- The age of one of sixteen records, on pages that tear.
use mathlib.Core.Path.{refl, sym}
use mathlib.Core.Bool.{true≢false}
use mathlib.Core.Logic.{inl}
use Rattle.rules.specs.Editions.{geometry_pairs}
use Rattle.leaf_commit_page.proofs.Places.{layout_pairs}
use Rattle.nekahuiro_pairs.proofs.nekahuiro_age_pairs.Goals as goal

pub tell-requires : goal.tell-requires
tell-requires c = (inl refl, λ e. absurd (true≢false (sym e)))

pub returns : goal.returns
returns c = c.tell.ensures geometry_pairs layout_pairs refl
