-- The language counts the ones of a number as the rules count the records that a map names.
use lib.Count.{ones-le}
use Rattle.leaf_commit_page.proofs.Maps.{count_ones, ones_fit}
use native.Mathlib.Omega.{arith}
use Rattle.leaf_commit_page.proofs.ones.Goals as goal

pub returns : goal.returns
returns c = (λ g h. count_ones g c.args.map h, λ n h. ones-le n c.args.map h)

pub overflow_cast-result : goal.overflow_cast-result
overflow_cast-result c = ones_fit c.args.map (omega arith)
