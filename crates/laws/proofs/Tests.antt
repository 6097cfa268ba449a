-- Decisions on numbers that carry the test's result, and facts about Booleans.
use mathlib.Core.Path.{◌≡◌, refl, sym, ◌∙◌}
use mathlib.Core.Bool.{Bool, true, false, not, ◌||◌, true≢false}
use mathlib.Core.Logic.{◌≢◌}
use Prim.Native.Nat.{ℕ, ◌<◌, ◌≤◌}
use lib.Dec.{T, eqb, eqb→eq, eqb_refl, ltb, ltb→lt, lt→ltb, nltb→le}
use Rattle.laws.specs.Tests.{same, under}

T_true : (b : Bool) → b ≡ true → T b
T_true true e = tt
T_true false e = absurd (true≢false (sym e))

true_T : (b : Bool) → T b → b ≡ true
true_T true t = refl
true_T false t = elim t [ ]

pub same-eq : (a b : ℕ) → same a b ≡ true → a ≡ b
unfolding same
same-eq a b e = eqb→eq a b (T_true (eqb a b) e)

pub same_refl : (a : ℕ) → same a a ≡ true
unfolding same
same_refl a = true_T (eqb a a) (eqb_refl a)

-- a number is another or it isn't, with the test's result
pub data Same (a b : ℕ) : Type 0 where
  is : a ≡ b → same a b ≡ true → same b a ≡ true → Same a b
  isnt : a ≢ b → same a b ≡ false → same b a ≡ false → Same a b

pub ne_false : (a b : ℕ) → a ≢ b → same a b ≡ false
ne_false a b n = go (same a b) refl
  where
    go : (t : Bool) → same a b ≡ t → same a b ≡ false
    go true e = absurd (n (same-eq a b e))
    go false e = e

pub same_cases : (a b : ℕ) → Same a b
same_cases a b = go (same a b) refl
  where
    go : (t : Bool) → same a b ≡ t → Same a b
    go true e = let q = same-eq a b e in is q e (rw q (same_refl b))
    go false e = let n : a ≢ b = λ q. true≢false (sym (same_refl b) ∙ rw q at e) in isnt n e (ne_false b a (λ q. n (sym q)))

-- what a false disjunction says of its parts
pub or_false_left : (a b : Bool) → (a || b) ≡ false → a ≡ false
or_false_left true b e = e
or_false_left false b e = refl

pub or_false_right : (a b : Bool) → (a || b) ≡ false → b ≡ false
or_false_right true b e = absurd (true≢false e)
or_false_right false b e = e

-- a Boolean is true or false, with the equation
pub data Is (b : Bool) : Type 0 where
  yes' : b ≡ true → Is b
  no' : b ≡ false → Is b

pub is_cases : (b : Bool) → Is b
is_cases true = yes' refl
is_cases false = no' refl

pub under-lt : (a b : ℕ) → under a b ≡ true → a < b
unfolding under
under-lt a b e = ltb→lt a b (T_true (ltb a b) e)

pub lt-under : (a b : ℕ) → a < b → under a b ≡ true
unfolding under
lt-under a b h = true_T (ltb a b) (lt→ltb a b h)

pub not-under : (a b : ℕ) → under a b ≡ false → b ≤ a
unfolding under
not-under a b e = nltb→le a b (T_true (not (ltb a b)) (rw e))
