-- The check says which of the three it is.
use native.Mathlib.Omega.{arith}
use Rattle.sheet_list.proofs.Making.{whole_ends, made_list}
use Rattle.sheet_list.proofs.made.Goals as goal

pub fill-requires : goal.fill-requires
fill-requires c = (whole_ends _ _ c.in_ok-n.ensures, omega arith)

pub returns : goal.returns
returns c = λ told. made_list c.args.sheet.now c.args.list.now c.fill.new.list told c.in_ok-n.n (omega arith) c.in_ok-n.ensures c.fill.ensures
