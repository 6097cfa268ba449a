-- Tests that decide statements, joined: both, either, an implication, all below a bound.
use mathlib.Core.Path.{◌≡◌, refl, sym, ◌∙◌}
use mathlib.Core.Bool.{Bool, true, false, not, ◌&&◌, ◌||◌, true≢false, false≢true}
use mathlib.Core.Logic.{◌⊎◌, inl, inr, dite}
use native.Mathlib.Decide.{dec_lt}
use native.Mathlib.Omega.{arith}
use Prim.Native.Nat.{ℕ, ◌+◌, ◌<◌, ◌≤◌}
use lib.Dec.{ltb, leb}
use borrow.Author.Tests.{ltb-true, ltb-false, leb-true, leb-false}
use Rattle.laws.specs.Tests.{same}
use Rattle.laws.specs.Counting.{all}
use Rattle.laws.proofs.Tests.{same_cases, Same, is, isnt}
use Rattle.laws.proofs.Booleans.{or_cases, clash}
use Rattle.laws.proofs.Counting.{all_true_lem, all_of}
use Rattle.sound_clause.specs.Decides.{Decides}

-- a statement that says the same
pub decides_as : {b : Bool} {P Q : Type 0} → (P → Q) → (Q → P) → Decides b P → Decides b Q
decides_as f g d = record { yes = λ e. f (d.yes e); no = λ e q. d.no e (g q) }

-- a test with the same result
pub decides_by : {a b : Bool} {P : Type 0} → a ≡ b → Decides b P → Decides a P
decides_by e d = record { yes = λ h. d.yes (sym e ∙ h); no = λ h. d.no (sym e ∙ h) }

-- what holds is decided without a test
pub decides-true : {P : Type 0} → P → Decides true P
decides-true p = record { yes = λ e. p; no = λ e q. true≢false e }

pub decides_self : (b : Bool) → Decides b (b ≡ true)
decides_self b = record { yes = λ e. e; no = λ e f. clash f e }

pub decides_and : {a b : Bool} {P Q : Type 0} → Decides a P → Decides b Q → Decides (a && b) (P × Q)
decides_and {a = true} d e = record { yes = λ h. (d.yes refl, e.yes h); no = λ h x. e.no h x.1 }
decides_and {a = false} d e = record { yes = λ h. absurd (false≢true h); no = λ h x. d.no refl x.0 }

-- the second test need decide only where the first statement holds
pub decides_given : {a b : Bool} {P Q : Type 0} → Decides a P → (P → Decides b Q) → Decides (a && b) (P × Q)
decides_given {a = true} d e = let p = d.yes refl in record { yes = λ h. (p, (e p).yes h); no = λ h x. (e p).no h x.1 }
decides_given {a = false} d e = record { yes = λ h. absurd (false≢true h); no = λ h x. d.no refl x.0 }

pub decides_or : {a b : Bool} {P Q : Type 0} → Decides a P → Decides b Q → Decides (a || b) (P ⊎ Q)
decides_or {a} {b} {P} {Q} d e = record { yes = λ h. or_cases a b h (λ x. inl (d.yes x)) (λ x. inr (e.yes x)); no = λ h s. neither a b d e h s }
  where
    neither : (a b : Bool) → Decides a P → Decides b Q → (a || b) ≡ false → P ⊎ Q → ⊥
    neither true b d e h s = true≢false h
    neither false b d e h (inl p) = d.no refl p
    neither false b d e h (inr q) = e.no h q

pub decides_if : (a : Bool) {b : Bool} {P : Type 0} → Decides b P → Decides (not a || b) (a ≡ true → P)
decides_if true d = record { yes = λ h e. d.yes h; no = λ h f. d.no h (f refl) }
decides_if false d = record { yes = λ h e. absurd (false≢true e); no = λ h f. true≢false h }

pub decides_unless : (a : Bool) {b : Bool} {P : Type 0} → Decides b P → Decides (a || b) (a ≡ false → P)
decides_unless true d = record { yes = λ h e. absurd (true≢false e); no = λ h f. true≢false h }
decides_unless false d = record { yes = λ h e. d.yes h; no = λ h f. d.no h (f refl) }

pub decides_same : (a b : ℕ) → Decides (same a b) (a ≡ b)
decides_same a b = go (same_cases a b)
  where
    go : Same a b → Decides (same a b) (a ≡ b)
    go (is q s _) = record { yes = λ e. q; no = λ e f. true≢false (sym s ∙ e) }
    go (isnt q s _) = record { yes = λ e. absurd (true≢false (sym e ∙ s)); no = λ e f. q f }

pub decides_less : (a b : ℕ) → Decides (ltb a b) (a < b)
decides_less a b = record { yes = ltb-true a b; no = λ e h. let k : b ≤ a = ltb-false a b e in omega arith }

pub decides_most : (a b : ℕ) → Decides (leb a b) (a ≤ b)
decides_most a b = record { yes = leb-true a b; no = λ e h. let k : b < a = leb-false a b e in omega arith }

-- Statements about all numbers below a bound: none yet, one more.
pub decides-none : (P : ℕ → Type 0) → Decides true ((k : ℕ) → k < 0 → P k)
decides-none P = record { yes = λ e k h. absurd (omega arith); no = λ e f. true≢false e }

pub decides_more : {a b : Bool} (P : ℕ → Type 0) (i : ℕ) → Decides a ((k : ℕ) → k < i → P k) → Decides b (P i) → Decides (a && b) ((k : ℕ) → k < i + 1 → P k)
decides_more P i d e =
    decides_as (λ x. join x) (λ f. ((λ k h. f k (omega arith)), f i (omega arith))) (decides_and d e)
  where
    at : {k : ℕ} → k ≡ i → P i → P k
    at q p = rw q p

    join : ((k : ℕ) → k < i → P k) × P i → (k : ℕ) → k < i + 1 → P k
    join x k h = dite (dec_lt k i) (λ lt. x.0 k lt) (λ ge. at (omega arith) x.1)

pub decides_bound : {b : Bool} (P : ℕ → Type 0) (i n : ℕ) → i ≡ n → Decides b ((k : ℕ) → k < i → P k) → Decides b ((k : ℕ) → k < n → P k)
decides_bound P i n e d = decides_as (λ f k h. f k (omega arith)) (λ f k h. f k (omega arith)) d

implied : (p q : Bool) → (not p || q) ≡ true → p ≡ true → q ≡ true
implied true q e h = e
implied false q e h = absurd (false≢true h)

implies : (p q : Bool) → (p ≡ true → q ≡ true) → (not p || q) ≡ true
implies true q f = f refl
implies false q f = refl

-- one set is within another
pub decides_within : {b : Bool} (n : ℕ) (p q : ℕ → Bool) → b ≡ all n (λ k. not (p k) || q k) → Decides b ((k : ℕ) → k < n → p k ≡ true → q k ≡ true)
decides_within n p q e = decides_by e
    (decides_as
    (λ x k h. implied (p k) (q k) (all_true_lem n (λ k. not (p k) || q k) k x h))
    (λ f. all_of n (λ k. not (p k) || q k) (λ k h. implies (p k) (q k) (f k h)))
    (decides_self (all n (λ k. not (p k) || q k))))
