-- One record's page write: made where the record is picked and something is left of the count.
use mathlib.Core.Path.{◌≡◌, sym}
use mathlib.Core.Bool.{Bool, true, false, ◌&&◌, true≢false}
use Prim.Native.Nat.{ℕ, ◌+◌, ◌-◌, ◌<◌}
use native.Mathlib.Omega.{arith}
use borrow.Author.Tests.{ltb-true, ltb-false}
use lib.Dec.{ltb}
use Rattle.laws.specs.Functions.{updated}
use Rattle.rules.specs.Store.{Page, Pages}
use Rattle.store_write.specs.Phase.{WritesPhase}
use Rattle.store_write.proofs.Phases.{phase_one, phase_spent}
use Rattle.store_commit.specs.Phase.{write_if_picked, copies}
use Rattle.store_commit.proofs.Sweeps.{row_made, row-not}

pub some_left : (b : Bool) (k : ℕ) → (b && ltb 0 k) ≡ true → 0 < k
some_left true k e = ltb-true 0 k e
some_left false k e = absurd (true≢false (sym e))

module _ (p : ℕ → Bool) (first : ℕ) (new : ℕ → Page) (r k : ℕ) {s : Pages} where
  pub row_written : {t : Pages} (b : Bool) → p r ≡ b → (b && ltb 0 k) ≡ true → t ≡ updated (first + r) (new r) s → WritesPhase false k (write_if_picked p (copies first new) r) s t (k - 1)
  row_written true q e h = row_made p first new r k q (phase_one (ltb-true 0 k e) h)
  row_written false q e h = absurd (true≢false (sym e))

  pub row_left : (b : Bool) → p r ≡ b → (b && ltb 0 k) ≡ false → WritesPhase false k (write_if_picked p (copies first new) r) s s k
  row_left true q e = row_made p first new r k q (phase_spent (omega (arith, ltb-false 0 k e)))
  row_left false q e = row-not p first new r k q
