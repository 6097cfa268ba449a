-- Mending that is broken off is harmless: the pairs show the same pages, no pair is all bad that wasn't, and a recovery has the same answer and leaves the same store.
use mathlib.Core.Path.{◌≡◌, refl, sym, ap, ap₂, ◌∙◌, fun_ext}
use mathlib.Core.Bool.{Bool, true, false, not, cond, ◌||◌}
use Prim.Native.Nat.{ℕ}
use Rattle.laws.specs.Tests.{same}
use Rattle.laws.specs.Counting.{any}
use Rattle.laws.specs.Functions.{updated}
use Rattle.laws.proofs.Tests.{same_cases, Same, is, isnt, Is, is_cases, yes', no'}
use Rattle.rules.specs.Geometry.{Geometry, page_count}
use Rattle.rules.specs.Store.{Page, Pages, damaged}
use Rattle.rules.specs.Commit.{recover_plan}
use Rattle.rules.specs.Pairs.{Pair, Pairs, is_good, good, bad, whole, shows, shown, all_bad, mend, mended, cut_pairs, damaged_pairs, recover_pairs}
use Rattle.rules.proofs.Pairs.{shows_mend, lost_mend}
use Rattle.claim_device.specs.CopyWrites.{first, second}
use Rattle.claim_device_pairs.specs.Copies.{made, spoiled}
use Rattle.claim_device_pairs.specs.Mending.{mending, Mends, begun, mends, spoils}

good_is : (p : Page) → is_good (good p) ≡ true
unfolding good is_good same
good_is p = refl

bad_is : (p : Page) → is_good (bad p) ≡ false
unfolding bad is_good same
bad_is p = refl

-- a pair is mended to the page of its first good copy
by_first : (c : Pair) → is_good c.first ≡ true → mend c ≡ whole c.first.page
unfolding mend all_bad shows
by_first c e = rw e

by_second : (c : Pair) → is_good c.first ≡ false → is_good c.second ≡ true → mend c ≡ whole c.second.page
unfolding mend all_bad shows
by_second c e h = rw (e, h)

-- where the first is bad and not both are, the second is good
other_good : (c : Pair) → all_bad c ≡ false → is_good c.first ≡ false → is_good c.second ≡ true
unfolding all_bad
other_good c h e = go (is_good c.second) (rw e at h)
  where
    go : (b : Bool) → not b ≡ false → b ≡ true
    go true q = refl
    go false q = sym q

-- a store in which one pair is another, which is mended to the same
mended_same : (n : ℕ) (d : Pair) (s : Pairs) → mend d ≡ mend (s n) → mended (updated n d s) ≡ mended s
unfolding mended updated
mended_same n d s e = fun_ext (λ k. go k (same_cases k n))
  where
    go : (k : ℕ) → Same k n → mend (cond (same k n) d (s k)) ≡ mend (s k)
    go k (is q z _) = ap (λ (b : Bool). mend (cond b d (s k))) z ∙ e ∙ ap (λ (j : ℕ). mend (s j)) (sym q)
    go k (isnt q z _) = ap (λ (b : Bool). mend (cond b d (s k))) z

module _ (n : ℕ) (s : Pairs) (found : all_bad (s n) ≡ false) where
  -- the copy write is made: the pair is mended to the same
  made_same : mended (made (mending n (s n)) s) ≡ mended s
  unfolding mending
  made_same = go (is_cases (is_good (s n).first))
    where
      go : Is (is_good (s n).first) → mended (made (cond (is_good (s n).first) (second n (s n).first.page) (first n (s n).second.page)) s) ≡ mended s
      go (yes' e) =
          ap (λ (b : Bool). mended (made (cond b (second n (s n).first.page) (first n (s n).second.page)) s)) e
          ∙ (unfold made in mended_same n (record { first = (s n).first; second = good (s n).first.page }) s
          (by_first (record { first = (s n).first; second = good (s n).first.page }) e ∙ sym (by_first (s n) e)))
      go (no' e) =
          ap (λ (b : Bool). mended (made (cond b (second n (s n).first.page) (first n (s n).second.page)) s)) e
          ∙ (unfold made in mended_same n (record { first = good (s n).second.page; second = (s n).second }) s
          (by_first (record { first = good (s n).second.page; second = (s n).second }) (good_is (s n).second.page) ∙ page_of ∙ sym (by_second (s n) e (other_good (s n) found e))))
        where
          page_of : whole (good (s n).second.page).page ≡ whole (s n).second.page
          page_of = unfold good in refl

  -- the power goes within it: so too
  spoiled_same : mended (spoiled (mending n (s n)) s) ≡ mended s
  unfolding mending
  spoiled_same = go (is_cases (is_good (s n).first))
    where
      go : Is (is_good (s n).first) → mended (spoiled (cond (is_good (s n).first) (second n (s n).first.page) (first n (s n).second.page)) s) ≡ mended s
      go (yes' e) =
          ap (λ (b : Bool). mended (spoiled (cond b (second n (s n).first.page) (first n (s n).second.page)) s)) e
          ∙ (unfold spoiled in mended_same n (record { first = (s n).first; second = bad (s n).second.page }) s
          (by_first (record { first = (s n).first; second = bad (s n).second.page }) e ∙ sym (by_first (s n) e)))
      go (no' e) =
          ap (λ (b : Bool). mended (spoiled (cond b (second n (s n).first.page) (first n (s n).second.page)) s)) e
          ∙ (unfold spoiled in mended_same n (record { first = bad (s n).first.page; second = (s n).second }) s
          (by_second (record { first = bad (s n).first.page; second = (s n).second }) (bad_is (s n).first.page) (other_good (s n) found e)
          ∙ sym (by_second (s n) e (other_good (s n) found e))))

mends_same : {s t : Pairs} → Mends s t → mended t ≡ mended s
mends_same begun = refl
mends_same (mends {t} n m h) = made_same n t h ∙ mends_same m
mends_same (spoils {t} n m h) = spoiled_same n t h ∙ mends_same m

-- what pairs show, and which are all bad, is told by what they are mended to
shown_mended : (s : Pairs) → shown (mended s) ≡ shown s
unfolding shown mended
shown_mended s = fun_ext (λ n. shows_mend (s n))

lost_mended : (s : Pairs) (n : ℕ) → all_bad (mended s n) ≡ all_bad (s n)
unfolding mended
lost_mended s n = lost_mend (s n)

-- MENDING THAT IS BROKEN OFF, anywhere and any number of times: a recovery is refused as before, and one that isn't has the same answer and leaves the same store
pub record Harmless (g : Geometry) (s t : Pairs) : Type 0 where
  pub shows_same : shown t ≡ shown s
  pub refused_same : damaged_pairs g t ≡ damaged_pairs g s
  pub recovers_same : (c : ℕ) → recover_pairs g t c ≡ recover_pairs g s c

pub mending_harmless : (g : Geometry) {s t : Pairs} → Mends s t → Harmless g s t
unfolding damaged_pairs recover_pairs
mending_harmless g {s} {t} m =
    let e = mends_same m in
    let w : shown t ≡ shown s = sym (shown_mended t) ∙ ap shown e ∙ shown_mended s in
    let b : ◌≡◌ {A = ℕ → Bool} (λ n. all_bad (t n)) (λ n. all_bad (s n)) = fun_ext (λ n. sym (lost_mended t n) ∙ ap (λ (x : Pairs). all_bad (x n)) e ∙ lost_mended s n) in
    record {
      shows_same = w;
      refused_same = ap₂ (λ (p : ℕ → Bool) (x : Pages). any (page_count g) p || damaged g x) b w;
      recovers_same = λ c. ap₂ (λ (x : Pages) (y : Pairs). cut_pairs c (recover_plan g x) y) w e;
    }
