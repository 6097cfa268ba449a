-- One step up, or none.
use mathlib.Core.Path.{refl, sym, ◌∙◌}
use native.Mathlib.Omega.{arith}
use Rattle.state_version.specs.Parts.{ended, found, passed}
use Rattle.state_version.proofs.one_up.Goals as goal

pub returns-then-left-eq0 : goal.returns-then-left-eq0
returns-then-left-eq0 c = ended c.if-left-eq0.true refl

pub contains-requires : goal.contains-requires
contains-requires c = let h = c.requires (omega arith) in omega arith

pub returns-then-contains : goal.returns-then-contains
returns-then-contains c = found (sym c.contains.ensures ∙ c.if-contains.true) refl

pub bounds-parent-at : goal.bounds-parent-at
bounds-parent-at c = c.requires (omega arith)

pub returns : goal.returns
returns c = passed (sym c.contains.ensures ∙ c.if-contains.false) (omega arith) refl
