-- The bytes of a pair, read: whether its copies are good, and the page that it shows. Mending, pair by pair.
use mathlib.Core.Path.{◌≡◌, refl, sym, ap, ap₂, ◌∙◌, fun_ext}
use mathlib.Core.Bool.{Bool, true, false, not, cond, ◌&&◌, ◌||◌}
use mathlib.Core.List.{List, [], ◌∷◌}
use Prim.Native.Nat.{ℕ, zero, suc, ◌+◌, ◌*◌, ◌≤◌, ◌<◌}
use native.Mathlib.Omega.{arith}
use lib.ListN.{length, take, drop, get_or}
use lib.Seq.{get_or-take, get_or-drop, take-take, drop-drop, take-nil}
use Rattle.laws.specs.Tests.{same, under}
use Rattle.laws.specs.Functions.{updated}
use Rattle.laws.specs.Bytes.{same_list}
use Rattle.laws.proofs.Booleans.{both}
use Rattle.laws.proofs.Tests.{same_cases, Same, is, isnt, under-lt, not-under, Is, is_cases, yes', no'}
use Rattle.laws.proofs.Updated.{updated_same, updated_other, updated_self}
use Rattle.rules.specs.Pairs.{Pairs, is_good, whole, shows, shown, all_bad, is_whole, mend, mended, copy_in, pair_in, pairs_of}
use Rattle.rules.proofs.PairBytes.{SizedPairs, pairs_sized, mended_pairs}

drop-take : (a b k : ℕ) (l : List ℕ) → b ≡ a + k → drop a (take b l) ≡ take k (drop a l)
drop-take zero b k l e = ap (λ (j : ℕ). take j l) (let q : b ≡ k = omega arith in q)
drop-take (suc a) zero k l e = absurd (omega arith)
drop-take (suc a) (suc b) k [] e = sym (take-nil k)
drop-take (suc a) (suc b) k (x ∷ l) e = drop-take a b k l (omega arith)

-- pair n of a store's bytes, where one copy and then the other begins
module _ (bs : List ℕ) (n : ℕ) where
  first_good : is_good (pairs_of bs n).first ≡ same (get_or bs (66 * n) 0) 1
  unfolding pairs_of pair_in copy_in is_good
  first_good =
      ap (λ (v : ℕ). same v 1)
      (get_or-take 33 (take 66 (drop (66 * n) bs)) 0 0 (omega arith) ∙ get_or-take 66 (drop (66 * n) bs) 0 0 (omega arith) ∙ get_or-drop (66 * n) bs 0 0
      ∙ ap (λ (k : ℕ). get_or bs k 0) (let e : 66 * n + 0 ≡ 66 * n = omega arith in e))

  second_good : is_good (pairs_of bs n).second ≡ same (get_or bs (66 * n + 33) 0) 1
  unfolding pairs_of pair_in copy_in is_good
  second_good =
      ap (λ (v : ℕ). same v 1)
      (get_or-drop 33 (take 66 (drop (66 * n) bs)) 0 0 ∙ get_or-take 66 (drop (66 * n) bs) 33 0 (omega arith) ∙ get_or-drop (66 * n) bs 33 0)

  pub first_page : (pairs_of bs n).first.page ≡ take 32 (drop (66 * n + 1) bs)
  unfolding pairs_of pair_in copy_in
  first_page =
      ap (drop 1) (take-take 33 66 (drop (66 * n) bs) (omega arith)) ∙ drop-take 1 33 32 (drop (66 * n) bs) refl
      ∙ ap (take 32) (drop-drop 1 (66 * n) bs)

  second_page : (pairs_of bs n).second.page ≡ take 32 (drop (66 * n + 33 + 1) bs)
  unfolding pairs_of pair_in copy_in
  second_page =
      ap (drop 1) (drop-take 33 66 33 (drop (66 * n) bs) refl) ∙ drop-take 1 33 32 (drop 33 (drop (66 * n) bs)) refl
      ∙ ap (λ (l : List ℕ). take 32 (drop 1 l)) (drop-drop 33 (66 * n) bs) ∙ ap (take 32) (drop-drop 1 (66 * n + 33) bs)

  -- what the status bytes say, one and the other
  module _ {a b : Bool} (first : a ≡ same (get_or bs (66 * n) 0) 1) (second : b ≡ same (get_or bs (66 * n + 33) 0) 1) where
    pub lost_is : not (a || b) ≡ all_bad (pairs_of bs n)
    unfolding all_bad
    lost_is = ap₂ (λ (x y : Bool). not (x || y)) (first ∙ sym first_good) (second ∙ sym second_good)

    by_status : (a || not b) ≡ (is_good (pairs_of bs n).first || not (is_good (pairs_of bs n).second))
    by_status = ap₂ (λ (x y : Bool). x || not y) (first ∙ sym first_good) (second ∙ sym second_good)

    pub shows_first : (a || not b) ≡ true → take 32 (drop (66 * n + 1) bs) ≡ shown (pairs_of bs) n
    unfolding shown shows
    shows_first e = sym (ap (λ (x : Bool). cond x (pairs_of bs n).first.page (pairs_of bs n).second.page) (sym by_status ∙ e) ∙ first_page)

    pub shows_second : (a || not b) ≡ false → take 32 (drop (66 * n + 33 + 1) bs) ≡ shown (pairs_of bs) n
    unfolding shown shows
    shows_second e = sym (ap (λ (x : Bool). cond x (pairs_of bs n).first.page (pairs_of bs n).second.page) (sym by_status ∙ e) ∙ second_page)

-- a pair that is good and alike shows the bytes of its first copy
pub place_shows : (bs : List ℕ) (n : ℕ) → is_whole (pairs_of bs n) ≡ true → take 32 (drop (66 * n + 1) bs) ≡ shown (pairs_of bs) n
unfolding shown shows is_whole
place_shows bs n e =
    let c = pairs_of bs n in
    sym (ap (λ (b : Bool). cond (b || not (is_good c.second)) c.first.page c.second.page)
    (both (is_good c.first) (is_good c.second && same_list c.first.page c.second.page) e).0
    ∙ first_page bs n)

-- one pair is mended: nothing to mend from, and a write of what it shows
pub mend_lost : (s : Pairs) (n : ℕ) → all_bad (s n) ≡ true → s ≡ updated n (mend (s n)) s
unfolding mend
mend_lost s n e = updated_self n s ∙ ap (λ (b : Bool). updated n (cond b (s n) (whole (shows (s n)))) s) (sym e)

pub mend_found : (s : Pairs) (n : ℕ) → all_bad (s n) ≡ false → updated n (whole (shown s n)) s ≡ updated n (mend (s n)) s
unfolding mend shown
mend_found s n e = ap (λ (b : Bool). updated n (cond b (s n) (whole (shows (s n)))) s) (sym e)

-- A store that a loop mends in order: the pairs below i are mended, the others as they were. Three laws: none yet, one more, all.
pub record MendedTo (i : ℕ) (s t : Pairs) : Type 0 where
  pub below : (p : ℕ) → p < i → t p ≡ mend (s p)
  pub from_there : (p : ℕ) → i ≤ p → t p ≡ s p

pub mended-none : {s : Pairs} → MendedTo 0 s s
mended-none = record { below = λ p h. absurd (omega arith); from_there = λ p h. refl }

pub mended_more : {i : ℕ} {s t u : Pairs} → MendedTo i s t → u ≡ updated i (mend (t i)) t → MendedTo (i + 1) s u
mended_more {i} {s} {t} {u} M e = record { below = λ p h. ap (λ (f : Pairs). f p) e ∙ go p h (same_cases p i); from_there = λ p h. ap (λ (f : Pairs). f p) e ∙ updated_other i (mend (t i)) t p (λ q. omega arith) ∙ M.from_there p (omega arith) }
  where
    go : (p : ℕ) → p < i + 1 → Same p i → updated i (mend (t i)) t p ≡ mend (s p)
    go p h (is q _ _) = ap (updated i (mend (t i)) t) q ∙ updated_same i (mend (t i)) t ∙ ap mend (M.from_there i (omega arith) ∙ ap s (sym q))
    go p h (isnt q _ _) = updated_other i (mend (t i)) t p q ∙ M.below p (omega (arith, q))

-- beyond the store's n pairs there is nothing to mend
pub mended-all : (n i : ℕ) (bs : List ℕ) {t : Pairs} → length bs ≡ 66 * n → n ≤ i → MendedTo i (pairs_of bs) t → t ≡ mended (pairs_of bs)
mended-all n i bs {t} long past M = fun_ext (λ p. go p (is_cases (under p i)))
  where
    sized : SizedPairs n (pairs_of bs)
    sized = pairs_sized n bs (omega arith)

    go : (p : ℕ) → Is (under p i) → t p ≡ mended (pairs_of bs) p
    go p (yes' u) = unfold mended in M.below p (under-lt p i u)
    go p (no' u) =
        let h : i ≤ p = not-under p i u in
        M.from_there p h ∙ sized.beyond p (omega arith) ∙ sym ((mended_pairs n (pairs_of bs) sized).beyond p (omega arith))
