-- The age of one of sixty-four records.
use mathlib.Core.Path.{refl, sym}
use mathlib.Core.Bool.{true≢false}
use mathlib.Core.Logic.{inr}
use Rattle.rules.specs.Editions.{geometry2}
use Rattle.leaf_commit_page.proofs.Places.{layout2}
use Rattle.nekahuiro_edition2.proofs.nekahuiro_age_edition2.Goals as goal

pub tell-requires : goal.tell-requires
tell-requires c = (inr refl, λ e. absurd (true≢false (sym e)))

pub returns : goal.returns
returns c = c.tell.ensures geometry2 layout2 refl
