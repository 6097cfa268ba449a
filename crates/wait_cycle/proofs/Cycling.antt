-- Cycles stay in what is left; what is left falls.
use mathlib.Core.Path.{◌≡◌, refl, sym, ◌∙◌, ap, subst}
use mathlib.Core.Bool.{Bool, true, false, not, ◌&&◌, ◌||◌, false≢true, and-false}
use mathlib.Core.List.{List, [], ◌∷◌}
use Prim.Native.Nat.{ℕ, ◌<◌, ◌≤◌}
use native.Mathlib.Omega.{arith}
use lib.ListN.{length, get_or, get_or-eq_default}
use Rattle.laws.specs.Tests.{same, under}
use Rattle.laws.specs.Counting.{any, all, count, lowest}
use Rattle.laws.specs.Bits.{bits}
use Rattle.laws.proofs.Tests.{same_refl, same-eq, Is, is_cases, yes', no', under-lt, not-under, or_false_left, or_false_right}
use Rattle.laws.proofs.Booleans.{and_left, and_right, or_cases, or_left, or_right, not-true, not-false, clash}
use Rattle.laws.proofs.Counting.{any_of, all_true_lem, lowest_fails}
use Rattle.laws.proofs.Bits.{bits-zero}
use Rattle.laws.proofs.All.{all_at}
use Rattle.laws.proofs.Any.{any_one}
use Rattle.laws.proofs.Counts.{count_fewer}
use Rattle.rules.specs.Geometry.{transactions}
use Rattle.rules.specs.State.{mem}
use Rattle.leaf_set.specs.Sets.{sets}
use Rattle.rules.specs.Waiting.{Pointings, leads, distinct, is_cycle}
use Rattle.wait_cycle.specs.Search.{goes_on, Holds}

-- each of a chain points to one of it, or to its end
record Points (p : Pointings) (y : ℕ) (l : List ℕ) (z : ℕ) : Type 0 where
  to : ℕ
  does : p y to ≡ true
  among : (mem to l || same to z) ≡ true

points_on : (p : Pointings) (a : ℕ) (l : List ℕ) (z y : ℕ) → leads p a l z ≡ true → mem y (a ∷ l) ≡ true → Points p y l z
unfolding leads mem
points_on p a [] z y e m = or_cases (same y a) _ m (λ q. record { to = z; does = subst (λ (x : ℕ). p x z ≡ true) (sym (same-eq y a q)) e; among = same_refl z }) (λ q. absurd (false≢true q))
points_on p a (x ∷ l) z y e m = or_cases (same y a) _ m
    (λ q. record { to = x; does = subst (λ (w : ℕ). p w x ≡ true) (sym (same-eq y a q)) (and_left (p a x) _ e); among = or_left (same x x || mem x l) (same x z) (or_left (same x x) (mem x l) (same_refl x)) })
    (λ q. let r = points_on p x l z y (and_right (p a x) _ e) q in
    record { to = r.to; does = r.does; among = or_cases (mem r.to l) _ r.among (λ k. or_left (same r.to x || mem r.to l) (same r.to z) (or_right (same r.to x) (mem r.to l) k)) (λ k. or_right (same r.to x || mem r.to l) (same r.to z) k) })

-- each of a cycle points to one of it
record Turns (p : Pointings) (l : List ℕ) (y : ℕ) : Type 0 where
  to : ℕ
  does : p y to ≡ true
  among : mem to l ≡ true

turns : (p : Pointings) (l : List ℕ) (y : ℕ) → is_cycle p l ≡ true → mem y l ≡ true → Turns p l y
unfolding is_cycle mem
turns p [] y e m = absurd (false≢true e)
turns p (x ∷ l) y e m =
    let r = points_on p x l x y (and_right (distinct (x ∷ l)) _ e) m in
    record { to = r.to; does = r.does; among = or_cases (mem r.to l) _ r.among (λ k. or_right (same r.to x) (mem r.to l) k) (λ k. or_left (same r.to x) (mem r.to l) k) }

-- what has every cycle, less those that do not point into it, has every cycle
pub holds_on : (p : Pointings) (m : ℕ → Bool) → ((t u : ℕ) → p t u ≡ true → u < transactions) → Holds p m → Holds p (goes_on p m)
unfolding goes_on
holds_on p m small h l c y e =
    let r = turns p l y c e in
    let q : any transactions (λ u. p y u && m u) ≡ true = any_one transactions (λ u. p y u && m u) r.to (small y r.to r.does) (rw (r.does, h l c r.to r.among)) in
    rw (h l c y e, q)

-- all transactions
ones : (k : ℕ) → k < 24 → bits 16777215 k ≡ true
unfolding all bits same
ones k h = all_at 24 (bits 16777215) refl k h

pub holds_first : (p : Pointings) → ((t u : ℕ) → p t u ≡ true → t < transactions) → Holds p (bits 16777215)
holds_first p small l c y e = let r = turns p l y c e in ones y (small y r.to r.does)

-- no pointings past the last transaction
pub sets_small : (l : List ℕ) (t u : ℕ) → length l ≡ 24 → sets l t u ≡ true → t < 24
unfolding sets
sets_small l t u n e = go (is_cases (under t 24))
  where
    go : Is (under t 24) → t < 24
    go (yes' q) = under-lt t 24 q
    go (no' q) = clash e (ap (λ (w : ℕ). bits w u) (get_or-eq_default l 0 (omega (arith, not-under t 24 q))) ∙ bits-zero u)

-- what is left has fewer, unless all of it is left
pub fewer : (p : Pointings) (m : ℕ → Bool) → all transactions (λ k. not (m k) || goes_on p m k) ≡ false → count transactions (goes_on p m) < count transactions m
unfolding goes_on
fewer p m e =
    let r = lowest_fails transactions (λ k. not (m k) || goes_on p m k) e in
    let u = lowest transactions (λ k. not (not (m k) || goes_on p m k)) in
    count_fewer transactions (goes_on p m) m u (λ k l q. and_left (m k) _ q) r.1 (or_false_right (not (m u)) (goes_on p m u) r.0) (not-false (m u) (or_false_left (not (m u)) (goes_on p m u) r.0))

-- all of it is left
pub closed_at : (p : Pointings) (m : ℕ → Bool) → all transactions (λ k. not (m k) || goes_on p m k) ≡ true → (t : ℕ) → t < transactions → m t ≡ true → goes_on p m t ≡ true
closed_at p m e t l q = or_cases (not (m t)) (goes_on p m t) (all_true_lem transactions (λ k. not (m k) || goes_on p m k) t e l) (λ n. clash q (not-true (m t) n)) (λ g. g)

-- nobody past the last goes on
pub goes_past : (l : List ℕ) (m : ℕ → Bool) (k : ℕ) → length l ≤ k → goes_on (sets l) m k ≡ false
unfolding goes_on sets
goes_past l m k h =
    let z : any transactions (λ u. bits (get_or l k 0) u && m u) ≡ false = any_of transactions _ (λ u q. ap (λ (w : ℕ). bits w u && m u) (get_or-eq_default l 0 h) ∙ ap (λ (b : Bool). b && m u) (bits-zero u)) in
    ap (λ (b : Bool). m k && b) z ∙ and-false (m k)
