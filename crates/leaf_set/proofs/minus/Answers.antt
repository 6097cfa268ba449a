-- One law of bits.
use mathlib.Core.Path.{fun_ext}
use Rattle.laws.proofs.Bits.{bits_minus}
use Rattle.leaf_set.proofs.minus.Goals as goal

pub returns : goal.returns
returns c = fun_ext (bits_minus _ _)
