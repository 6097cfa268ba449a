-- A store of pairs in bytes, and back; the sizes of its pages, kept by mending and by page writes, whole and torn.
use mathlib.Core.Path.{◌≡◌, refl, sym, ◌∙◌, ap, ap₂, fun_ext}
use mathlib.Core.Bool.{not, cond, ◌||◌}
use mathlib.Core.List.{List, [], ◌∷◌, ◌++◌}
use Prim.Native.Nat.{ℕ, zero, suc, ◌*◌, ◌≤◌, ◌<◌}
use native.Mathlib.Omega.{arith}
use lib.ListN.{length, take, drop, length-drop, length-append, take-append-drop}
use lib.Seq.{length-take-le, take_at, drop_at}
use Rattle.laws.specs.Tests.{same, under}
use Rattle.laws.specs.Functions.{updated}
use Rattle.laws.proofs.Tests.{same_cases, Same, is, isnt, Is, is_cases, yes', no', under-lt, not-under}
use Rattle.rules.specs.Store.{Page, flat}
use Rattle.rules.specs.Commit.{PageWrite, sets}
use Rattle.rules.specs.Pairs.{Copy, Pair, Pairs, is_good, good, bad, whole, shows, shown, all_bad, mend, mended, torn, put_all, tear_first, copy_in, pair_in, copy_bytes, pair_bytes, pairs_of, flat_pairs}
use Rattle.rules.proofs.Cells.{cells_of, flat_cells_of, cells_of_celled, flat_cell, flat-length}
use Rattle.rules.proofs.Pages.{Sized}
use Rattle.rules.proofs.Writable.{Fit}

-- The bytes of a pair.
pub copy_bytes_lem : (l : List ℕ) → 0 < length l → copy_bytes (copy_in l) ≡ l
unfolding copy_bytes copy_in
copy_bytes_lem [] h = absurd (omega arith)
copy_bytes_lem (x ∷ l) h = refl

copy_in_lem : (c : Copy) → copy_in (copy_bytes c) ≡ c
unfolding copy_bytes copy_in
copy_in_lem c = refl

pub bytes_in : (l : List ℕ) → length l ≡ 66 → pair_bytes (pair_in l) ≡ l
unfolding pair_bytes pair_in
bytes_in l h =
    ap₂ (λ (a b : List ℕ). a ++ b)
    (copy_bytes_lem (take 33 l) (let e = length-take-le 33 l (omega arith) in omega arith))
    (copy_bytes_lem (drop 33 l) (let e = length-drop 33 l in omega arith))
    ∙ take-append-drop 33 l

pub in_bytes : (c : Pair) → length c.first.page ≡ 32 → pair_in (pair_bytes c) ≡ c
unfolding pair_bytes pair_in copy_bytes
in_bytes c h =
    ap₂ (λ (a b : List ℕ). record { first = copy_in a; second = copy_in b })
    (take_at (c.first.status ∷ c.first.page) (c.second.status ∷ c.second.page) 33 (ap suc h))
    (drop_at (c.first.status ∷ c.first.page) (c.second.status ∷ c.second.page) 33 (ap suc h))
    ∙ ap₂ (λ (a b : Copy). record { first = a; second = b }) (copy_in_lem c.first) (copy_in_lem c.second)

flat_same : (n : ℕ) (s t : ℕ → List ℕ) → ((p : ℕ) → p < n → s p ≡ t p) → flat n s ≡ flat n t
unfolding flat
flat_same zero s t h = refl
flat_same (suc n) s t h = ap₂ (λ (a b : List ℕ). a ++ b) (flat_same n s t (λ p k. h p (omega arith))) (h n (omega arith))

-- both copies are pages
pub record Paired (c : Pair) : Type 0 where
  pub one : length c.first.page ≡ 32
  pub two : length c.second.page ≡ 32

-- n pairs of pages, and nothing beyond them
pub record SizedPairs (n : ℕ) (s : Pairs) : Type 0 where
  pub full : (p : ℕ) → p < n → Paired (s p)
  pub beyond : (p : ℕ) → n ≤ p → s p ≡ pair_in []

pub whole_paired : (p : Page) → length p ≡ 32 → Paired (whole p)
unfolding whole good
whole_paired p h = record { one = h; two = h }

pub torn_paired : (v : ℕ) (p : Page) (c : Pair) → length p ≡ 32 → Paired c → Paired (torn v p c)
unfolding torn good bad
torn_paired zero p c h C = C
torn_paired (suc zero) p c h C = record { one = C.one; two = C.two }
torn_paired (suc (suc zero)) p c h C = record { one = h; two = C.two }
torn_paired (suc (suc (suc v))) p c h C = record { one = h; two = C.two }

pub shows-length : (c : Pair) → Paired c → length (shows c) ≡ 32
unfolding shows
shows-length c C = go (is_cases (is_good c.first || not (is_good c.second)))
  where
    go : Is (is_good c.first || not (is_good c.second)) → length (cond (is_good c.first || not (is_good c.second)) c.first.page c.second.page) ≡ 32
    go (yes' e) = rw e C.one
    go (no' e) = rw e C.two

updated_pairs : (n : ℕ) (s : Pairs) (q : ℕ) (c : Pair) → q < n → Paired c → SizedPairs n s → SizedPairs n (updated q c s)
unfolding updated
updated_pairs n s q c h C S = record { full = λ p k. full' p k (same_cases p q); beyond = λ p k. beyond' p k (same_cases p q) }
  where
    full' : (p : ℕ) → p < n → Same p q → Paired (cond (same p q) c (s p))
    full' p k (is e z _) = rw z C
    full' p k (isnt e z _) = rw z (S.full p k)

    beyond' : (p : ℕ) → n ≤ p → Same p q → cond (same p q) c (s p) ≡ pair_in []
    beyond' p k (is e z _) = absurd (omega arith)
    beyond' p k (isnt e z _) = rw z (S.beyond p k)

pub mended_pairs : (n : ℕ) (s : Pairs) → SizedPairs n s → SizedPairs n (mended s)
unfolding mended mend
mended_pairs n s S = record { full = λ p k. full' p k (is_cases (all_bad (s p))); beyond = λ p k. ap mend (S.beyond p k) ∙ nothing }
  where
    full' : (p : ℕ) → p < n → Is (all_bad (s p)) → Paired (cond (all_bad (s p)) (s p) (whole (shows (s p))))
    full' p k (yes' e) = rw e (S.full p k)
    full' p k (no' e) = rw e (whole_paired (shows (s p)) (shows-length (s p) (S.full p k)))

    nothing : mend (pair_in []) ≡ pair_in []
    nothing = unfold mend all_bad pair_in copy_in is_good same in refl

-- the pages that are shown
pub shown_sized : (n : ℕ) (s : Pairs) → SizedPairs n s → Sized n (shown s)
unfolding shown
shown_sized n s S = record { full = λ p k. shows-length (s p) (S.full p k); beyond = λ p k. ap shows (S.beyond p k) ∙ nothing }
  where
    nothing : shows (pair_in []) ≡ []
    nothing = unfold shows pair_in copy_in is_good same in refl

-- sizes, through whole and torn page writes
pub put_sized : (n k v : ℕ) (ws : List PageWrite) (s : Pairs) → Fit n ws → SizedPairs n s → SizedPairs n (tear_first v (drop k ws) (put_all (take k ws) s))
unfolding Fit put_all tear_first
put_sized n zero v [] s F S = S
put_sized n (suc k) v [] s F S = S
put_sized n zero v (sets q p ∷ ws) s F S = updated_pairs n s q (torn v p (s q)) F.0 (torn_paired v p (s q) F.1 (S.full q F.0)) S
put_sized n (suc k) v (sets q p ∷ ws) s F S = put_sized n k v ws (updated q (whole p) s) F.2 (updated_pairs n s q (whole p) F.0 (whole_paired p F.1) S)

-- bytes as pairs, and back
pub pairs_sized : (n : ℕ) (bs : List ℕ) → length bs ≡ n * 66 → SizedPairs n (pairs_of bs)
unfolding pairs_of cells_of pair_in copy_in
pairs_sized n bs h = let C = cells_of_celled 66 n bs h in record {
  full = λ p k. let l : length (take 66 (drop (66 * p) bs)) ≡ 66 = C.full p k in
      record {
        one = let a = length-take-le 33 (take 66 (drop (66 * p) bs)) (omega arith) in length-drop 1 (take 33 (take 66 (drop (66 * p) bs))) ∙ omega arith;
        two = length-drop 1 (drop 33 (take 66 (drop (66 * p) bs))) ∙ (let a = length-drop 33 (take 66 (drop (66 * p) bs)) in omega arith);
      };
  beyond = λ p k. ap pair_in (C.beyond p k);
}

pair_length : (c : Pair) → Paired c → length (pair_bytes c) ≡ 66
unfolding pair_bytes copy_bytes
pair_length c C = length-append (c.first.status ∷ c.first.page) (c.second.status ∷ c.second.page) ∙ (let a = C.one in let b = C.two in omega arith)

-- a store's pairs have their size
pub pairs_length : (n : ℕ) (s : Pairs) → SizedPairs n s → length (flat_pairs n s) ≡ n * 66
unfolding flat_pairs
pairs_length n s S = flat-length 66 n (λ p. pair_bytes (s p)) (λ p k. pair_length (s p) (S.full p k)) ∙ omega arith

pub from_to : (n : ℕ) (s : Pairs) → SizedPairs n s → pairs_of (flat_pairs n s) ≡ s
unfolding pairs_of flat_pairs cells_of
from_to n s S = fun_ext (λ p. go p (is_cases (under p n)))
  where
    sizes : (p : ℕ) → p < n → length (pair_bytes (s p)) ≡ 66
    sizes p k = pair_length (s p) (S.full p k)

    len : length (flat n (λ p. pair_bytes (s p))) ≡ n * 66
    len = flat-length 66 n (λ p. pair_bytes (s p)) sizes ∙ omega arith

    go : (p : ℕ) → Is (under p n) → pair_in (cells_of 66 (flat n (λ p. pair_bytes (s p))) p) ≡ s p
    go p (yes' k) = let l = under-lt p n k in ap pair_in (flat_cell 66 n (λ p. pair_bytes (s p)) sizes p l) ∙ in_bytes (s p) (S.full p l).one
    go p (no' k) = let l = not-under p n k in ap pair_in ((cells_of_celled 66 n (flat n (λ p. pair_bytes (s p))) len).beyond p l) ∙ sym (S.beyond p l)

pub to_from : (n : ℕ) (bs : List ℕ) → length bs ≡ n * 66 → flat_pairs n (pairs_of bs) ≡ bs
unfolding pairs_of flat_pairs cells_of
to_from n bs h =
    flat_same n (λ p. pair_bytes (pair_in (cells_of 66 bs p))) (cells_of 66 bs) (λ p k. bytes_in (cells_of 66 bs p) ((cells_of_celled 66 n bs h).full p k))
    ∙ flat_cells_of 66 n bs h
