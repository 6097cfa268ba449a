-- Where no lock has more than one transaction, what each has of each lock goes with what others have.
use mathlib.Core.Path.{◌≡◌}
use mathlib.Core.Bool.{Bool, false, ◌||◌}
use mathlib.Core.List.{List}
use mathlib.Core.Logic.{dite}
use native.Mathlib.Decide.{dec_lt}
use native.Mathlib.Omega.{arith}
use Prim.Native.Nat.{ℕ, ◌+◌, ◌<◌}
use Rattle.laws.proofs.Tests.{or_false_left, or_false_right}
use Rattle.sound_clause.specs.Clauses.{Shares, Lined}
use Rattle.sound_state.specs.Sole.{Sole}
use Rattle.sound_state.proofs.Beneath.{shares_alone}

-- what holds of all below a bound and of the bound, if two tests fail, holds of one more
pub no_more : (P : ℕ → Type 0) (a b : Bool) (i : ℕ) → (a ≡ false → (k : ℕ) → k < i → P k) → (b ≡ false → P i) → (a || b) ≡ false → (k : ℕ) → k < i + 1 → P k
no_more P a b i f g e k h = dite (dec_lt k i) (λ lt. f (or_false_left a b e) k lt) (λ ge. at (omega arith) (g (or_false_right a b e)))
  where
    at : k ≡ i → P i → P k
    at q p = rw q p

pub shares_sole : (line held retained : List ℕ) → Lined line held retained → Sole held retained → Shares line held retained
shares_sole line held retained lined sole r h = shares_alone line held retained r (lined r h) (sole r h)
