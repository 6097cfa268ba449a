-- A store as numbered pages and as a list of bytes: the two ways between them, and a page write in the bytes.
use mathlib.Core.Path.{◌≡◌, refl, sym, ◌∙◌, ap, fun_ext}
use mathlib.Core.List.{List, [], ◌++◌, append_assoc}
use Prim.Native.Nat.{ℕ, zero, suc, ◌+◌, ◌-◌, ◌*◌, ◌≤◌, ◌<◌}
use native.Mathlib.Omega.{arith}
use lib.ListN.{length, take, drop, length-append, length-drop, take-append-drop, drop_of_length-le}
use lib.Seq.{length-take-le, take-add, take_at, drop_at, take-append-le, drop-append-le, drop-append-add, drop-drop, take_all, take-nil}
use Rattle.laws.specs.Tests.{under}
use Rattle.laws.specs.Functions.{updated}
use Rattle.laws.proofs.Tests.{same_cases, Same, is, isnt, Is, is_cases, yes', no', under-lt, not-under}
use Rattle.laws.proofs.Updated.{updated_same, updated_other}
use Rattle.rules.specs.Geometry.{page_size}
use Rattle.rules.specs.Store.{Page, Pages, pages_of, flat}

-- n pages of the page's size, and nothing beyond them
pub record Sized (n : ℕ) (s : Pages) : Type 0 where
  pub full : (p : ℕ) → p < n → length (s p) ≡ page_size
  pub beyond : (p : ℕ) → n ≤ p → s p ≡ []

flat_pages : (n : ℕ) (bs : List ℕ) → flat n (pages_of bs) ≡ take (32 * n) bs
unfolding flat pages_of
flat_pages zero bs = refl
flat_pages (suc n) bs =
    ap {B = List ℕ} (λ x. x ++ take 32 (drop (32 * n) bs)) (flat_pages n bs)
    ∙ sym (take-add (32 * n) 32 bs)
    ∙ ap (λ k. take k bs) step
  where
    step : 32 * n + 32 ≡ 32 * suc n
    step = omega arith

-- bytes, as pages, are those bytes again
pub flat-pages_of : (n : ℕ) (bs : List ℕ) → length bs ≡ n * page_size → flat n (pages_of bs) ≡ bs
flat-pages_of n bs h = flat_pages n bs ∙ take_all (32 * n) bs (omega arith)

pub pages_of_sized : (n : ℕ) (bs : List ℕ) → length bs ≡ n * page_size → Sized n (pages_of bs)
unfolding pages_of
pages_of_sized n bs h = record {
  full = λ p k. length-take-le 32 (drop (32 * p) bs) (rw (length-drop (32 * p) bs) (omega arith));
  beyond = λ p k. ap (take 32) (drop_of_length-le bs {i = 32 * p} (omega arith)) ∙ take-nil 32;
}

pub flat-length : (n : ℕ) (s : Pages) → ((p : ℕ) → p < n → length (s p) ≡ 32) → length (flat n s) ≡ 32 * n
unfolding flat
flat-length zero s h = refl
flat-length (suc n) s h = length-append (flat n s) (s n) ∙ rw (flat-length n s (λ p k. h p (omega arith)), h n (omega arith)) (omega arith)

front : (xs ys : List ℕ) (q : ℕ) → 32 * q + 32 ≤ length xs → pages_of (xs ++ ys) q ≡ pages_of xs q
unfolding pages_of
front xs ys q h =
    ap (take 32) (drop-append-le (32 * q) xs ys (omega arith))
    ∙ take-append-le 32 (drop (32 * q) xs) ys (rw (length-drop (32 * q) xs) (omega arith))

pub flat_page : (n : ℕ) (s : Pages) → ((p : ℕ) → p < n → length (s p) ≡ 32) → (p : ℕ) → p < n → pages_of (flat n s) p ≡ s p
unfolding flat pages_of
flat_page zero s h p k = absurd (omega arith)
flat_page (suc n) s h p k = go (same_cases p n) (λ l. flat_page n s (λ p k. h p (omega arith)) p l)
  where
    sizes : (p : ℕ) → p < n → length (s p) ≡ 32
    sizes p k = h p (omega arith)

    last : pages_of (flat n s ++ s n) n ≡ s n
    last = ap (take 32) (drop_at (flat n s) (s n) (32 * n) (flat-length n s sizes)) ∙ take_all 32 (s n) (omega (arith, h n (omega arith)))

    go : Same p n → (p < n → pages_of (flat n s) p ≡ s p) → pages_of (flat n s ++ s n) p ≡ s p
    go (is e _ _) ih = ap (λ q. pages_of (flat n s ++ s n) q) e ∙ last ∙ ap s (sym e)
    go (isnt e _ _) ih = let l : p < n = omega (arith, e) in front (flat n s) (s n) p (omega (arith, flat-length n s sizes)) ∙ ih l

-- pages, as bytes, are those pages again
pub pages_of-flat : (n : ℕ) (s : Pages) → Sized n s → pages_of (flat n s) ≡ s
pages_of-flat n s S = fun_ext λ p. go p (is_cases (under p n))
  where
    len : length (flat n s) ≡ n * 32
    len = flat-length n s S.full ∙ omega arith

    go : (p : ℕ) → Is (under p n) → pages_of (flat n s) p ≡ s p
    go p (yes' k) = flat_page n s S.full p (under-lt p n k)
    go p (no' k) = (pages_of_sized n (flat n s) len).beyond p (not-under p n k) ∙ sym (S.beyond p (not-under p n k))

-- a page write keeps the sizes
pub updated_sized : (n : ℕ) (s : Pages) (q : ℕ) (new : Page) → q < n → length new ≡ page_size → Sized n s → Sized n (updated q new s)
updated_sized n s q new h len S = record { full = λ p k. full' p k (same_cases p q); beyond = λ p k. updated_other q new s p (λ e. omega arith) ∙ S.beyond p k }
  where
    full' : (p : ℕ) → p < n → Same p q → length (updated q new s p) ≡ 32
    full' p k (is e _ _) = ap (λ x. length (updated q new s x)) e ∙ ap length (updated_same q new s) ∙ len
    full' p k (isnt e _ _) = ap length (updated_other q new s p e) ∙ S.full p k

-- the bytes with a page in place of page p
unfoldable pub splice : ℕ → Page → List ℕ → List ℕ
splice p new bs = take (page_size * p) bs ++ (new ++ drop (page_size * p + page_size) bs)

module _ (p : ℕ) (new : Page) (bs : List ℕ) (whole : length new ≡ page_size) (inside : page_size * p + page_size ≤ length bs) where
  before : length (take (32 * p) bs) ≡ 32 * p
  before = length-take-le (32 * p) bs (omega arith)

  at_page : pages_of (splice p new bs) p ≡ new
  unfolding pages_of splice
  at_page = ap (take 32) (drop_at (take (32 * p) bs) _ (32 * p) before) ∙ take_at new _ 32 whole

  below_page : (q : ℕ) → q < p → pages_of (splice p new bs) q ≡ pages_of bs q
  unfolding splice
  below_page q h =
      front (take (32 * p) bs) _ q (rw before (omega arith))
      ∙ sym (front (take (32 * p) bs) (drop (32 * p) bs) q (rw before (omega arith)))
      ∙ ap (λ x. pages_of x q) (take-append-drop (32 * p) bs)

  above_page : (q : ℕ) → p < q → pages_of (splice p new bs) q ≡ pages_of bs q
  unfolding pages_of splice
  above_page q h = ap (take 32)
      (ap (drop (32 * q)) (sym (append_assoc (take (32 * p) bs) new (drop (32 * p + 32) bs)))
      ∙ ap (λ k. drop k ((take (32 * p) bs ++ new) ++ drop (32 * p + 32) bs)) split
      ∙ drop-append-add (take (32 * p) bs ++ new) (drop (32 * p + 32) bs) (32 * q - (32 * p + 32))
      ∙ drop-drop (32 * q - (32 * p + 32)) (32 * p + 32) bs
      ∙ ap (λ k. drop k bs) join)
    where
      len : length (take (32 * p) bs ++ new) ≡ 32 * p + 32
      len = length-append (take (32 * p) bs) new ∙ rw (before, whole) refl

      split : 32 * q ≡ length (take (32 * p) bs ++ new) + (32 * q - (32 * p + 32))
      split = omega (arith, len)

      join : 32 * p + 32 + (32 * q - (32 * p + 32)) ≡ 32 * q
      join = omega arith

  -- a page put in place in the bytes is a write of that page, and of no other
  pub pages_splice : pages_of (splice p new bs) ≡ updated p new (pages_of bs)
  pages_splice = fun_ext λ q. go q (same_cases q p) (is_cases (under q p))
    where
      go : (q : ℕ) → Same q p → Is (under q p) → pages_of (splice p new bs) q ≡ updated p new (pages_of bs) q
      go q (is e _ _) b = ap (pages_of (splice p new bs)) e ∙ at_page ∙ sym (updated_same p new (pages_of bs)) ∙ ap (updated p new (pages_of bs)) (sym e)
      go q (isnt e _ _) (yes' k) = below_page q (under-lt q p k) ∙ sym (updated_other p new (pages_of bs) q e)
      go q (isnt e _ _) (no' k) = above_page q (omega (arith, not-under q p k, e)) ∙ sym (updated_other p new (pages_of bs) q e)

-- so a page write changes those bytes and leaves all others
pub flat_updated : (n : ℕ) (s : Pages) (p : ℕ) (new : Page) → Sized n s → p < n → length new ≡ page_size → flat n (updated p new s) ≡ splice p new (flat n s)
unfolding splice
flat_updated n s p new S h len =
    ap (λ (x : Pages). flat n (updated p new x)) (sym (pages_of-flat n s S))
    ∙ ap (flat n) (sym (pages_splice p new (flat n s) len inside))
    ∙ flat-pages_of n (splice p new (flat n s)) size
  where
    total : length (flat n s) ≡ 32 * n
    total = flat-length n s S.full

    inside : 32 * p + 32 ≤ length (flat n s)
    inside = omega (arith, total)

    size : length (splice p new (flat n s)) ≡ n * 32
    size =
        length-append (take (32 * p) (flat n s)) (new ++ drop (32 * p + 32) (flat n s))
        ∙ rw (length-append new (drop (32 * p + 32) (flat n s)), length-drop (32 * p + 32) (flat n s), length-take-le (32 * p) (flat n s) (omega (arith, inside)), len, total) (omega arith)
