-- A test of some number of a range, as the rules say it.
use mathlib.Core.Path.{◌≡◌, refl, sym, ap, ap₂, ◌∙◌}
use mathlib.Core.Bool.{Bool, ◌||◌}
use Prim.Native.Nat.{ℕ, zero, suc, ◌+◌}
use native.Mathlib.Nat.{add-zero}
use native.Mathlib.Omega.{arith}
use Rattle.std.specs.List.{range_with_len, list_any}
use Rattle.laws.specs.Counting.{any}
use Rattle.laws.proofs.Any.{any_first}

pub same_any : (n : ℕ) (p q : ℕ → Bool) → ((k : ℕ) → p k ≡ q k) → any n p ≡ any n q
unfolding any
same_any zero p q h = refl
same_any (suc n) p q h = ap₂ (λ (x y : Bool). x || y) (same_any n p q h) (h n)

any_from : (n a : ℕ) (p : ℕ → Bool) → list_any p (range_with_len a n) ≡ any n (λ k. p (a + k))
unfolding any
any_from zero a p = refl
any_from (suc n) a p =
    ap₂ (λ (x y : Bool). x || y) (ap p (sym (add-zero a))) (any_from n (a + 1) p ∙ same_any n (λ k. p (a + 1 + k)) (λ k. p (a + suc k)) (λ k. let e : a + 1 + k ≡ a + suc k = omega arith in ap p e))
    ∙ sym (any_first n (λ k. p (a + k)))

pub any_range : (n : ℕ) (p : ℕ → Bool) → list_any p (range_with_len 0 n) ≡ any n p
any_range n p = any_from n 0 p ∙ same_any n _ p (λ k. let e : 0 + k ≡ k = omega arith in ap p e)
