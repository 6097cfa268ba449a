-- A byte of the store is a byte of the page that begins at `at`.
use mathlib.Core.Path.{sym, ◌∙◌}
use lib.ListN.{drop}
use lib.Seq.{get_or-take, get_or-drop}
use native.Mathlib.Omega.{arith}
use Rattle.leaf_page.proofs.byte_at.Goals as goal

pub returns : goal.returns
returns c = let a = c.args in sym (get_or-take 32 (drop a.at a.source.now) a.offset 0 (omega arith) ∙ get_or-drop a.at a.source.now a.offset 0)
