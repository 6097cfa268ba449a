-- Where the pages of a store lie: there is room for each of them, on either medium.
use mathlib.Core.Path.{◌≡◌}
use mathlib.Core.Bool.{Bool, true, false}
use mathlib.Core.List.{List}
use Prim.Native.Nat.{ℕ, ◌+◌, ◌*◌, ◌≤◌, ◌<◌}
use native.Mathlib.Omega.{arith}
use lib.ListN.{length}
use Rattle.store_write.specs.Phase.{stride_of}

module _ (n : ℕ) (bytes : List ℕ) where
  pub room : (b : Bool) (p : ℕ) → p < 1 + (n + n) → length bytes ≡ stride_of b * (1 + (n + n)) → stride_of b * p + stride_of b ≤ length bytes
  room false p h e = omega arith
  room true p h e = omega arith

  pub all_room : (b : Bool) → length bytes ≡ stride_of b * (1 + (n + n)) → length bytes ≡ stride_of b * (1 + n + n)
  all_room false e = omega arith
  all_room true e = omega arith

  pub no_more : (b : Bool) → length bytes ≡ stride_of b * (1 + (n + n)) → stride_of b * (1 + n + n) ≤ length bytes
  no_more b e = omega (arith, all_room b e)
