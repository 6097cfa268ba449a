-- Tests of two numbers. They stay shut in proofs: a proof goes by the decision that carries the test's result (proofs/Tests).
use Rattle.std.specs.Prelude.{Bool, ℕ, eqb, ltb}

-- a is b
unfoldable pub same : ℕ → ℕ → Bool
same a b = eqb a b

-- a is below b
unfoldable pub under : ℕ → ℕ → Bool
under a b = ltb a b

-- opens the definitions of this module: for what is proved by computing
unfoldable pub open_tests : Unit {0}
unfolding same under
open_tests = tt
