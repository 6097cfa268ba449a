-- Versions that are lifted to the slots one up, record by record.
use mathlib.Core.Path.{◌≡◌, refl, sym, ap, ap₂, ◌∙◌}
use mathlib.Core.Bool.{Bool, true, false, cond, ◌&&◌, and-false}
use mathlib.Core.Logic.{dite}
use native.Mathlib.Decide.{dec_lt, ℕ_discrete}
use Prim.Native.Nat.{ℕ, ◌+◌, ◌-◌, ◌*◌, ◌/◌, ◌%◌, ◌≤◌, ◌<◌}
use native.Mathlib.Omega.{arith}
use Rattle.laws.specs.Tests.{same}
use Rattle.laws.specs.Functions.{updated}
use Rattle.laws.proofs.Tests.{same_refl, ne_false}
use Rattle.laws.proofs.Updated.{updated_same, updated_other}
use Rattle.rules.specs.Store.{Page}
use Rattle.rules.specs.Editions.{depths}
use Rattle.state_array.specs.View.{Owners, slot}
use Rattle.state_array.proofs.Sweep.{Swept}
use Rattle.state_version.specs.Parts.{lifted}

is_true : (a b : ℕ) → a ≡ b → same a b ≡ true
is_true a b e = rw e (same_refl b)

module _ (w : Owners) (t d : ℕ) (p : ℕ → Page) (big : 1 < d) (small : d ≤ depths) where
  pub hit : (n r : ℕ) → n / depths ≡ r → n % depths ≡ d - 2 → w r t ≡ true → lifted w t d p n ≡ p (r * depths + (d - 1))
  unfolding lifted
  hit n r e m f =
      ap₂ (λ (x y : Bool). cond (x && y) (p (n / depths * depths + (d - 1))) (p n)) (is_true _ _ m) (ap (λ (k : ℕ). w k t) e ∙ f)
      ∙ ap (λ (k : ℕ). p (k * depths + (d - 1))) e

  pub miss_depth : (n : ℕ) → (n % depths ≡ d - 2 → ⊥) → lifted w t d p n ≡ p n
  unfolding lifted
  miss_depth n m = ap (λ (x : Bool). cond (x && w (n / depths) t) (p (n / depths * depths + (d - 1))) (p n)) (ne_false _ _ m)

  pub miss_row : (n r : ℕ) → n / depths ≡ r → w r t ≡ false → lifted w t d p n ≡ p n
  unfolding lifted
  miss_row n r e f =
      ap (λ (x : Bool). cond x (p (n / depths * depths + (d - 1))) (p n))
      (ap (λ (y : Bool). same (n % depths) (d - 2) && y) (ap (λ (k : ℕ). w k t) e ∙ f) ∙ and-false (same (n % depths) (d - 2)))

  pub lifts_row : (r : ℕ) (f g : ℕ → Page) → Swept f p (lifted w t d p) (r * depths) → (b : Bool) → w r t ≡ b
      → g ≡ cond b (updated (slot r (d - 1)) (f (slot r d)) f) f → Swept g p (lifted w t d p) ((r + 1) * depths)
  unfolding slot
  lifts_row r f g S true e q = record {
    below = λ n lt.
        ap (λ (g : ℕ → Page). g n) q
        ∙ dite (dec_lt n (r * depths))
        (λ lo. updated_other (r * depths + (d - 1 - 1)) _ f n (λ x. omega arith) ∙ S.below n lo)
        (λ ge.
        dite (ℕ_discrete n (r * depths + (d - 1 - 1)))
        (λ x.
        ap (updated (r * depths + (d - 1 - 1)) (f (r * depths + (d - 1))) f) x ∙ updated_same (r * depths + (d - 1 - 1)) (f (r * depths + (d - 1))) f
        ∙ S.above (r * depths + (d - 1)) (omega arith)
        ∙ sym (hit n r (omega arith) (omega arith) e))
        (λ x.
        updated_other (r * depths + (d - 1 - 1)) _ f n x ∙ S.above n (omega arith)
        ∙ sym (miss_depth n (λ y. omega arith))));
    above = λ n le.
        ap (λ (g : ℕ → Page). g n) q
        ∙ updated_other (r * depths + (d - 1 - 1)) _ f n (λ x. omega arith) ∙ S.above n (omega arith);
  }
  lifts_row r f g S false e q = record {
    below = λ n lt.
        ap (λ (g : ℕ → Page). g n) q
        ∙ dite (dec_lt n (r * depths)) (λ lo. S.below n lo) (λ ge. S.above n (omega arith) ∙ sym (miss_row n r (omega arith) e));
    above = λ n le. ap (λ (g : ℕ → Page). g n) q ∙ S.above n (omega arith);
  }

  pub lifts_past : (n k : ℕ) → ((r : ℕ) → n ≤ r → w r t ≡ false) → n * depths ≤ k → p k ≡ lifted w t d p k
  lifts_past n k past h = sym (miss_row k (k / depths) refl (past (k / depths) (omega arith)))
