-- A function changed at one number; a list's places as a function.
use Rattle.std.specs.Prelude.{cond, ℕ}
use Rattle.laws.specs.Tests.{same}

module _ {A : Type 0} where
  unfoldable pub updated : ℕ → A → (ℕ → A) → ℕ → A
  updated n a f k = cond (same k n) a (f k)

-- opens the definitions of this module: for what is proved by computing
unfoldable pub open_functions : Unit {0}
unfolding updated
open_functions = tt
