-- Membership in the list of the numbers below a bound of which a test holds.
use mathlib.Core.Path.{◌≡◌, refl, sym, ◌∙◌}
use mathlib.Core.Bool.{Bool, true, false, cond, ◌||◌, true≢false, false≢true, or-false, or-true}
use mathlib.Core.List.{List, [], ◌∷◌, ◌++◌}
use Prim.Native.Nat.{ℕ, zero, suc, ◌<◌}
use native.Mathlib.Omega.{arith}
use lib.ListN.{take}
use Rattle.laws.specs.Tests.{same}
use Rattle.laws.specs.Counting.{those}
use Rattle.laws.proofs.Tests.{same_cases, Same, is, isnt, same-eq, same_refl, Is, is_cases, yes', no'}
use Rattle.laws.proofs.Booleans.{or_cases}
use Rattle.rules.specs.State.{mem}

pub mem_head : (q : ℕ) (rs : List ℕ) → mem q (q ∷ rs) ≡ true
unfolding mem
mem_head q rs = rw (same_refl q)

pub mem_later : (q r : ℕ) (rs : List ℕ) → mem q rs ≡ true → mem q (r ∷ rs) ≡ true
unfolding mem
mem_later q r rs e = rw e (or-true (same q r))

pub mem-take : (k q : ℕ) (rs : List ℕ) → mem q (take k rs) ≡ true → mem q rs ≡ true
unfolding mem
mem-take zero q rs e = absurd (false≢true e)
mem-take (suc k) q [] e = e
mem-take (suc k) q (r ∷ rs) e = or_cases (same q r) (mem q (take k rs)) e (λ d. rw d) (λ d. rw (mem-take k q rs d) (or-true (same q r)))

mem-append : (q : ℕ) (xs ys : List ℕ) → mem q (xs ++ ys) ≡ (mem q xs || mem q ys)
unfolding mem
mem-append q [] ys = refl
mem-append q (x ∷ xs) ys = rw (mem-append q xs ys) (go (same q x))
  where
    go : (b : Bool) → (b || (mem q xs || mem q ys)) ≡ ((b || mem q xs) || mem q ys)
    go true = refl
    go false = refl

pub those_only : (n : ℕ) (p : ℕ → Bool) (q : ℕ) → mem q (those n p) ≡ true → p q ≡ true
unfolding those mem
those_only zero p q e = absurd (false≢true e)
those_only (suc n) p q e =
    or_cases (mem q (those n p)) (mem q (cond (p n) (n ∷ []) [])) (sym (mem-append q (those n p) (cond (p n) (n ∷ []) [])) ∙ e)
    (those_only n p q) (go (p n) refl)
  where
    go : (b : Bool) → p n ≡ b → mem q (cond b (n ∷ []) []) ≡ true → p q ≡ true
    go true d z = rw (same-eq q n (sym (or-false (same q n)) ∙ z)) d
    go false d z = absurd (false≢true z)

pub those-all : (n : ℕ) (p : ℕ → Bool) (q : ℕ) → q < n → p q ≡ true → mem q (those n p) ≡ true
unfolding those mem
those-all zero p q h e = absurd (omega arith)
those-all (suc n) p q h e = mem-append q (those n p) (cond (p n) (n ∷ []) []) ∙ go (same_cases q n) (λ k. those-all n p q k e)
  where
    go : Same q n → (q < n → mem q (those n p) ≡ true) → (mem q (those n p) || mem q (cond (p n) (n ∷ []) [])) ≡ true
    go (isnt k _ _) ih = rw (ih (omega (arith, k)))
    go (is k _ _) ih = rw (← k, e, same_refl q) (or-true (mem q (those q p)))

pub those_below : (n : ℕ) (p : ℕ → Bool) (q : ℕ) → mem q (those n p) ≡ true → q < n
unfolding those mem
those_below zero p q e = absurd (false≢true e)
those_below (suc n) p q e =
    or_cases (mem q (those n p)) (mem q (cond (p n) (n ∷ []) [])) (sym (mem-append q (those n p) (cond (p n) (n ∷ []) [])) ∙ e)
    (λ d. let k : q < n = those_below n p q d in omega arith) (go (p n))
  where
    go : (b : Bool) → mem q (cond b (n ∷ []) []) ≡ true → q < suc n
    go true z = let k : q ≡ n = same-eq q n (sym (or-false (same q n)) ∙ z) in omega arith
    go false z = absurd (false≢true z)

-- where the test holds only below the bound, the list has exactly those of which it holds
pub those_is : (n : ℕ) (p : ℕ → Bool) → ((q : ℕ) → p q ≡ true → q < n) → (q : ℕ) → mem q (those n p) ≡ p q
those_is n p h q = go (is_cases (p q)) (is_cases (mem q (those n p)))
  where
    go : Is (p q) → Is (mem q (those n p)) → mem q (those n p) ≡ p q
    go (yes' a) b = those-all n p q (h q a) a ∙ sym a
    go (no' a) (no' b) = b ∙ sym a
    go (no' a) (yes' b) = absurd (true≢false (sym (those_only n p q b) ∙ a))
