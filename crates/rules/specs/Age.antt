-- How old a record is.
use Rattle.std.specs.Prelude.{ℕ, Bool, not, cond, List, [], ◌∷◌, length, take, ℤ, pos}
use Rattle.std.proofs.Math.Option.{Option, none, some}
use Rattle.std.proofs.Math.IntN.{sub_ℕ}
use Rattle.std.specs.Int.Signed.{lt_z, le_z}
use Rattle.laws.specs.Tests.{same, under}
use Rattle.laws.specs.Bytes.{number}
use Rattle.rules.specs.Geometry.{records}
use Rattle.rules.specs.Form.{Form}
use Rattle.rules.specs.Step.{first_of}

-- ahead, live or stale, each with its age; or refused, with a number
pub data Age : Type 0 where
  ahead live stale : ℤ → Age
  refused : ℕ → Age

-- below 0 ahead, 0 to the limit live, above it stale
unfoldable pub judged : ℤ → ℕ → Age
judged age limit = cond (lt_z age (pos 0)) (ahead age) (cond (le_z age (pos limit)) (live age) (stale age))

module _ (f : Form) where
  -- the first four bytes of the settled value
  unfoldable pub stamp : List ℕ → ℕ → ℕ
  stamp store r = number (take 4 (f.medium.settled (f.medium.from_bytes store) r))

  unfoldable pub age_refusals : List ℕ → ℕ → List (ℕ × Bool)
  age_refusals store r =
      (22, not (same (length store) f.medium.size)) ∷
      (23, not (under r (records f.geometry))) ∷
      (4, f.medium.damaged (f.medium.from_bytes store)) ∷
      []

  unfoldable pub age_by : List ℕ → ℕ → ℕ → ℕ → Option ℕ → Age
  age_by store r clock limit none = judged (sub_ℕ clock (stamp store r)) limit
  age_by store r clock limit (some n) = refused n

  -- the age is clock minus stamp
  unfoldable pub age_of : List ℕ → ℕ → ℕ → ℕ → Age
  age_of store r clock limit = age_by store r clock limit (first_of (age_refusals store r))

-- opens the definitions of this module: for what is proved by computing
unfoldable pub open_age : Unit {0}
unfolding judged stamp age_refusals age_by age_of
open_age = tt
