-- A function changed at one number: its value there, and elsewhere.
use mathlib.Core.Path.{◌≡◌, fun_ext}
use mathlib.Core.Bool.{cond}
use mathlib.Core.Logic.{◌≢◌}
use Prim.Native.Nat.{ℕ}
use Rattle.laws.specs.Tests.{same}
use Rattle.laws.specs.Functions.{updated}
use Rattle.laws.proofs.Tests.{same_cases, Same, is, isnt, same_refl, ne_false}

module _ {A : Type 0} where
  pub updated_same : (n : ℕ) (a : A) (f : ℕ → A) → updated n a f n ≡ a
  unfolding updated
  updated_same n a f = rw (same_refl n)

  pub updated_other : (n : ℕ) (a : A) (f : ℕ → A) (k : ℕ) → k ≢ n → updated n a f k ≡ f k
  unfolding updated
  updated_other n a f k h = rw (ne_false k n h)

  -- a value that is there already; a value that is replaced at once
  pub updated_self : (n : ℕ) (f : ℕ → A) → f ≡ updated n (f n) f
  unfolding updated
  updated_self n f = fun_ext (λ k. go k (same_cases k n))
    where
      go : (k : ℕ) → Same k n → f k ≡ cond (same k n) (f n) (f k)
      go k (is e s _) = rw (s, e)
      go k (isnt e s _) = rw s

  pub updated_again : (n : ℕ) (a b : A) (f : ℕ → A) → updated n b (updated n a f) ≡ updated n b f
  unfolding updated
  updated_again n a b f = fun_ext (λ k. go k (same_cases k n))
    where
      go : (k : ℕ) → Same k n → cond (same k n) b (cond (same k n) a (f k)) ≡ cond (same k n) b (f k)
      go k (is e s _) = rw s
      go k (isnt e s _) = rw s
