-- The bit of record r.
use native.Mathlib.Omega.{arith}
use Rattle.laws.specs.Tests.{same}
use Rattle.leaf_commit_page.proofs.Maps.{names_bit}
use Rattle.leaf_commit_page.proofs.names.Goals as goal

pub returns : goal.returns
unfolding same
returns c = λ g q. names_bit g c.args.n c.args.map c.args.r (omega arith) q
