-- An empty commit page has no prepared transaction; another is read.
use mathlib.Core.Path.{refl, sym, ap, ◌∙◌}
use mathlib.Core.Logic.{inl}
use Rattle.leaf_commit_page.specs.declared.PreparedMap.{PreparedMap}
use Rattle.leaf_commit_page.specs.Heard.{prepared_told}
use Rattle.sound_clause.proofs.Clauses.{empty_none}
use Rattle.sound_up.proofs.prepared_map.Goals as goal

pub returns-then-empty : goal.returns-then-empty
returns-then-empty c = λ g L j. sym (empty_none g c.args.page (c.requires g L c.if-empty.true))

pub read_prepared-p-requires : goal.read_prepared-p-requires
read_prepared-p-requires c = (inl refl, λ _. refl)

pub returns-in-Some : goal.returns-in-Some
unfolding prepared_told
returns-in-Some c = λ g L j. ap (λ (p : PreparedMap). p.map) (ap prepared_told (sym c.in-Some.is) ∙ c.read_prepared-p.ensures.0 g L j)

pub returns-in-None : goal.returns-in-None
unfolding prepared_told
returns-in-None c = λ g L j. ap (λ (p : PreparedMap). p.map) (ap prepared_told (sym c.in-None.is) ∙ c.read_prepared-p.ensures.0 g L j)
