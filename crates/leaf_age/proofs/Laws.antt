-- A reading that was widened; the three judgements by their tests.
use mathlib.Core.Path.{◌≡◌}
use mathlib.Core.Bool.{true, false}
use Prim.Native.Nat.{ℕ, ◌<◌, ◌^◌}
use native.Mathlib.Omega.{arith}
use lib.IntN.{ℤ, pos}
use lib.Signed.{lt_z, le_z}
use mir.Syntax.{w32, w64}
use mir.Val.{Fits, to_z}
use mir.Facts.{to_z_pos, Fits-lt-pow}
use Rattle.rules.specs.Age.{ahead, live, stale, judged}

-- a reading that was widened
pub widened : {n : ℕ} → Fits w32 n → to_z w64 n ≡ pos n
widened f = let small : _ < 2 ^ 32 = Fits-lt-pow f in to_z_pos w64 (omega arith)

pub is_ahead : (age : ℤ) (limit : ℕ) → lt_z age (pos 0) ≡ true → ahead age ≡ judged age limit
unfolding judged
is_ahead age limit e = rw e

pub is_live : (age : ℤ) (limit : ℕ) → lt_z age (pos 0) ≡ false → le_z age (pos limit) ≡ true → live age ≡ judged age limit
unfolding judged
is_live age limit e q = rw (e, q)

pub is_stale : (age : ℤ) (limit : ℕ) → lt_z age (pos 0) ≡ false → le_z age (pos limit) ≡ false → stale age ≡ judged age limit
unfolding judged
is_stale age limit e q = rw (e, q)
