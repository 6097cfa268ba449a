-- One law of bits.
use mathlib.Core.Path.{fun_ext}
use native.Mathlib.Omega.{arith}
use Rattle.laws.proofs.Bits.{bits_single}
use Rattle.leaf_set.proofs.single.Goals as goal

pub returns : goal.returns
returns c = fun_ext (λ k. bits_single 32 c.args.t k (omega arith))
