-- What a part that was lent leaves of the whole; what replacing one byte does to the pages: page n is new, every other as it was.
use mathlib.Core.Path.{◌≡◌, refl, sym, ap, ◌∙◌, fun_ext}
use mathlib.Core.List.{List, ◌++◌}
use mathlib.Core.Bool.{cond}
use native.Mathlib.Omega.{arith}
use Prim.Native.Nat.{ℕ, ◌+◌, ◌-◌, ◌*◌, ◌≤◌, ◌<◌}
use lib.ListN.{length, get_or, set, take, drop, length-take, length-drop, length-set}
use lib.Seq.{drop-drop, get_or-take, get_or-drop, get_or-set_same, get_or-set_other, ext_get_or}
use borrow.Rule.Slice.PartMut.{put_mid}
use Rattle.laws.specs.Tests.{same}
use Rattle.laws.specs.Functions.{updated}
use Rattle.laws.proofs.Tests.{Same, is, isnt, same_cases}
use Rattle.rules.specs.Store.{pages_of}

-- what a part that was lent from `at` to `at + k` leaves of the whole
pub put_at : (at k : ℕ) (xs p : List ℕ) → put_mid at (at + k - at) xs p ≡ take at xs ++ (p ++ drop (at + k) xs)
put_at at k xs p =
    let e : at + (at + k - at) ≡ at + k = omega arith in
    ap (λ (l : List ℕ). take at xs ++ (p ++ l)) (drop-drop (at + k - at) at xs ∙ ap (λ (m : ℕ). drop m xs) e)

pub page_long : (n : ℕ) (s : List ℕ) → 32 * n + 32 ≤ length s → length (pages_of s n) ≡ 32
unfolding pages_of
page_long n s h = simp (length-take, length-drop) (omega arith)

-- a byte of a page is a byte of the list
pub byte_of : (n o : ℕ) (s : List ℕ) → o < 32 → get_or (pages_of s n) o 0 ≡ get_or s (32 * n + o) 0
unfolding pages_of
byte_of n o s h = get_or-take 32 (drop (32 * n) s) o 0 h ∙ get_or-drop (32 * n) s o 0

-- one byte of page n is replaced
module _ (n o v : ℕ) (s : List ℕ) (small : o < 32) (room : 32 * n + 32 ≤ length s) where
  long_as : (m : ℕ) (l : List ℕ) → length l ≡ length s → length (pages_of l m) ≡ length (pages_of s m)
  unfolding pages_of
  long_as m l e = simp (length-take, length-drop, e) refl

  changed : List ℕ
  changed = set s (32 * n + o) v

  changed_long : (m : ℕ) → length (pages_of changed m) ≡ length (pages_of s m)
  unfolding changed
  changed_long m = long_as m changed (length-set s (32 * n + o) v)

  under_32 : (m k : ℕ) → k < length (pages_of s m) → k < 32
  unfolding pages_of
  under_32 m k h = omega (arith, length-take 32 (drop (32 * m) s))

  other : (m : ℕ) → (m ≡ n → ⊥) → pages_of changed m ≡ pages_of s m
  unfolding changed
  other m ne =
      ext_get_or 0 (pages_of changed m) (pages_of s m) (changed_long m) (λ k lt.
      let h = under_32 m k (omega (arith, changed_long m)) in
      byte_of m k changed h ∙ get_or-set_other s (32 * n + o) (32 * m + k) v 0 (λ q. ne (omega arith)) ∙ sym (byte_of m k s h))

  this : pages_of changed n ≡ set (pages_of s n) o v
  unfolding changed
  this =
      ext_get_or 0 (pages_of changed n) (set (pages_of s n) o v) (changed_long n ∙ sym (length-set (pages_of s n) o v)) (λ k lt.
      let h = under_32 n k (omega (arith, changed_long n)) in
      byte_of n k changed h ∙ go k h (same_cases k o))
    where
      go : (k : ℕ) → k < 32 → Same k o → get_or (set s (32 * n + o) v) (32 * n + k) 0 ≡ get_or (set (pages_of s n) o v) k 0
      go k h (is e _ _) =
          rw e (get_or-set_same s (32 * n + o) v 0 (omega arith) ∙ sym (get_or-set_same (pages_of s n) o v 0 (omega (arith, page_long n s room))))
      go k h (isnt e _ _) =
          get_or-set_other s (32 * n + o) (32 * n + k) v 0 (λ q. e (omega arith)) ∙ sym (byte_of n k s h)
          ∙ sym (get_or-set_other (pages_of s n) o k v 0 e)

  pub pages_set : pages_of (set s (32 * n + o) v) ≡ updated n (set (pages_of s n) o v) (pages_of s)
  unfolding updated changed
  pages_set = fun_ext (λ m. go m (same_cases m n))
    where
      go : (m : ℕ) → Same m n → pages_of (set s (32 * n + o) v) m ≡ cond (same m n) (set (pages_of s n) o v) (pages_of s m)
      go m (is e t _) = rw (t, e) this
      go m (isnt e t _) = rw t (other m e)
