-- A flag that is a const parameter: the goals give its number.
use mathlib.Core.Path.{◌≡◌, ap}
use mathlib.Core.Bool.{Bool, true, false, not}
use mathlib.Core.Logic.{◌≢◌}
use Prim.Native.Nat.{ℕ}
use lib.Dec.{eqb}
use Rattle.laws.specs.Tests.{same}
use Rattle.laws.proofs.Tests.{ne_false}

abbrev pub flag : ℕ → Bool
flag n = not (eqb n 0)

pub flag_set : (n : ℕ) → n ≢ 0 → flag n ≡ true
unfolding same
flag_set n h = ap not (ne_false n 0 h)

pub flag_clear : (n : ℕ) → n ≡ 0 → flag n ≡ false
flag_clear n e = ap flag e
