-- The bytes of a pair as its two copies: what the page-writing leaf leaves of them.
use mathlib.Core.Path.{◌≡◌, sym, ap, ap₂, ◌∙◌, fun_ext}
use mathlib.Core.List.{List, [], ◌∷◌, ◌++◌, append-nil}
use Prim.Native.Nat.{ℕ, suc, ◌+◌, ◌*◌, ◌≤◌}
use native.Mathlib.Omega.{arith}
use lib.ListN.{length, take, drop, set, length-drop, length-append, drop_of_length-le, take-append-drop}
use lib.Seq.{take_at, set_at, length-take-le}
use Rattle.laws.specs.Functions.{updated}
use Rattle.laws.proofs.Tests.{same_cases, Same, is, isnt}
use Rattle.rules.specs.Pairs.{Pair, Pairs, good, bad, whole, torn, copy_in, copy_bytes, pair_in, pair_bytes, pairs_of}
use Rattle.rules.proofs.Cells.{cells_of, cells_put}
use Rattle.rules.proofs.PairBytes.{Paired, copy_bytes_lem}

-- a copy with a page behind its status
pub copy_set : (s p : List ℕ) → length s ≡ 33 → set (take 1 s ++ (p ++ drop 33 s)) 0 1 ≡ copy_bytes (good p)
unfolding copy_bytes good
copy_set [] p h = absurd (omega arith)
copy_set (x ∷ l) p h = ap (λ (t : List ℕ). 1 ∷ (p ++ t)) (drop_of_length-le (x ∷ l) {i = 33} (omega arith)) ∙ ap (λ (t : List ℕ). 1 ∷ t) (append-nil p)

second_bytes : (s : List ℕ) → length s ≡ 66 → copy_bytes (copy_in (drop 33 s)) ≡ drop 33 s
second_bytes s h = copy_bytes_lem (drop 33 s) (let e = length-drop 33 s in omega arith)

-- the first copy is new, the second as it was
pub first_new : (s p : List ℕ) → length s ≡ 66 → copy_bytes (good p) ++ drop 33 s ≡ pair_bytes (torn 3 p (pair_in s))
unfolding pair_bytes torn pair_in
first_new s p h = ap (λ (t : List ℕ). copy_bytes (good p) ++ t) (sym (second_bytes s h))

-- the second copy is new too
pub second_new : (s p : List ℕ) → length p ≡ 32 → length s ≡ 66 → take 33 (pair_bytes (torn 3 p (pair_in s))) ++ (copy_bytes (good p) ++ drop 66 (pair_bytes (torn 3 p (pair_in s)))) ≡ pair_bytes (whole p)
unfolding pair_bytes torn pair_in whole copy_bytes good
second_new s p hp h =
    ap₂ (λ (a b : List ℕ). a ++ ((1 ∷ p) ++ b)) (take_at (1 ∷ p) _ 33 (ap suc hp))
    (drop_of_length-le ((1 ∷ p) ++ copy_bytes (copy_in (drop 33 s))) {i = 66} (let e = length-append (1 ∷ p) (copy_bytes (copy_in (drop 33 s))) in let f = ap length (second_bytes s h) ∙ length-drop 33 s in omega arith))
    ∙ ap (λ (b : List ℕ). (1 ∷ p) ++ b) (append-nil (1 ∷ p))

-- the first copy is left bad
pub first_bad : (s p : List ℕ) → length s ≡ 66 → set s 0 0 ≡ pair_bytes (torn 1 p (pair_in s))
unfolding pair_bytes torn pair_in copy_bytes copy_in bad
first_bad [] p h = absurd (omega arith)
first_bad (x ∷ l) p h = ap (λ (t : List ℕ). 0 ∷ t) (sym (take-append-drop 32 l) ∙ ap (λ (t : List ℕ). take 32 l ++ t) (sym (unfold copy_bytes copy_in in second_bytes (x ∷ l) h)))

-- the first copy is new, the second left bad
pub second_bad : (s p : List ℕ) → length p ≡ 32 → set (pair_bytes (torn 3 p (pair_in s))) 33 0 ≡ pair_bytes (torn 2 p (pair_in s))
unfolding pair_bytes torn pair_in copy_bytes good bad
second_bad s p hp = set_at (1 ∷ p) _ _ 0 33 (ap suc hp)

-- a pair put in place in the bytes
pub pairs_put : (n : ℕ) (new bs : List ℕ) → length new ≡ 66 → 66 * n + 66 ≤ length bs
    → pairs_of (take (66 * n) bs ++ (new ++ drop (66 * n + 66) bs)) ≡ updated n (pair_in new) (pairs_of bs)
unfolding pairs_of cells_of
pairs_put n new bs h k = ap {B = Pairs} (λ (f : ℕ → List ℕ) (p : ℕ). pair_in (f p)) (cells_put 66 n new bs h k) ∙ fun_ext (λ p. go p (same_cases p n))
  where
    go : (p : ℕ) → Same p n → pair_in (updated n new (cells_of 66 bs) p) ≡ updated n (pair_in new) (λ q. pair_in (cells_of 66 bs q)) p
    go p (is e z _) = unfold updated in rw z
    go p (isnt e z _) = unfold updated in rw z

pub pair_long : (c : Pair) → Paired c → length (pair_bytes c) ≡ 66
unfolding pair_bytes copy_bytes
pair_long c C = length-append (c.first.status ∷ c.first.page) (c.second.status ∷ c.second.page) ∙ (let a = C.one in let b = C.two in omega arith)

pub paired_in : (l : List ℕ) → length l ≡ 66 → Paired (pair_in l)
unfolding pair_in copy_in
paired_in l h = record {
  one = let a = length-take-le 33 l (omega arith) in length-drop 1 (take 33 l) ∙ omega arith;
  two = length-drop 1 (drop 33 l) ∙ (let a = length-drop 33 l in omega arith);
}
