-- A list of bytes as cells of one width, and back: the law of pages of 32 bytes and of pairs of 66.
use mathlib.Core.Path.{◌≡◌, refl, sym, ◌∙◌, ap, fun_ext}
use mathlib.Core.List.{List, [], ◌++◌, append_assoc}
use Prim.Native.Nat.{ℕ, zero, suc, ◌+◌, ◌-◌, ◌*◌, ◌≤◌, ◌<◌}
use native.Mathlib.Omega.{arith}
use native.Mathlib.Nat.{mul-suc, mul-zero, mul_comm, mul-le-mul_right}
use lib.ListN.{length, take, drop, length-append, length-drop, take-append-drop, drop_of_length-le}
use lib.Seq.{length-take-le, take-add, take_at, drop_at, drop-append-add, drop-drop, take-append-le, drop-append-le, take_all, take-nil}
use Rattle.laws.specs.Tests.{under}
use Rattle.laws.proofs.Tests.{same_cases, Same, is, isnt, Is, is_cases, yes', no', under-lt, not-under}
use Rattle.laws.specs.Functions.{updated}
use Rattle.laws.proofs.Updated.{updated_same, updated_other}
use Rattle.rules.specs.Store.{flat}

module _ (w : ℕ) where
  unfoldable pub cells_of : List ℕ → ℕ → List ℕ
  cells_of bs p = take w (drop (w * p) bs)

  -- n cells of the width, and nothing beyond them
  pub record Celled (n : ℕ) (s : ℕ → List ℕ) : Type 0 where
    pub full : (p : ℕ) → p < n → length (s p) ≡ w
    pub beyond : (p : ℕ) → n ≤ p → s p ≡ []

  at_suc : (n : ℕ) → w * suc n ≡ w * n + w
  at_suc n = mul-suc w n

  up : (a b : ℕ) → a ≤ b → w * a ≤ w * b
  up a b h = let k : a * w ≤ b * w = mul-le-mul_right w h in let e = mul_comm a w in let f = mul_comm b w in omega arith

  -- w cells more fit below a higher number
  at_most : (p n : ℕ) → p < n → w * p + w ≤ w * n
  at_most p n h = let e = at_suc p in let k = up (suc p) n h in omega arith

  flat_cells : (n : ℕ) (bs : List ℕ) → flat n (cells_of bs) ≡ take (w * n) bs
  unfolding flat cells_of
  flat_cells zero bs = ap (λ k. take k bs) (sym (mul-zero w))
  flat_cells (suc n) bs =
      ap {B = List ℕ} (λ x. x ++ take w (drop (w * n) bs)) (flat_cells n bs)
      ∙ sym (take-add (w * n) w bs)
      ∙ ap (λ k. take k bs) (sym (at_suc n))

  -- bytes, as cells, are those bytes again
  pub flat_cells_of : (n : ℕ) (bs : List ℕ) → length bs ≡ n * w → flat n (cells_of bs) ≡ bs
  flat_cells_of n bs h = flat_cells n bs ∙ take_all (w * n) bs (let e = mul_comm n w in omega arith)

  pub cells_of_celled : (n : ℕ) (bs : List ℕ) → length bs ≡ n * w → Celled n (cells_of bs)
  unfolding cells_of
  cells_of_celled n bs h = let e = mul_comm n w in record {
    full = λ p k. length-take-le w (drop (w * p) bs) (rw (length-drop (w * p) bs) (let m = at_most p n k in omega arith));
    beyond = λ p k. ap (take w) (drop_of_length-le bs {i = w * p} (let m = up n p k in omega arith)) ∙ take-nil w;
  }

  pub flat-length : (n : ℕ) (s : ℕ → List ℕ) → ((p : ℕ) → p < n → length (s p) ≡ w) → length (flat n s) ≡ w * n
  unfolding flat
  flat-length zero s h = sym (mul-zero w)
  flat-length (suc n) s h = length-append (flat n s) (s n) ∙ rw (flat-length n s (λ p k. h p (omega arith)), h n (omega arith)) (sym (at_suc n))

  front : (xs ys : List ℕ) (q : ℕ) → w * q + w ≤ length xs → cells_of (xs ++ ys) q ≡ cells_of xs q
  unfolding cells_of
  front xs ys q h =
      ap (take w) (drop-append-le (w * q) xs ys (omega arith))
      ∙ take-append-le w (drop (w * q) xs) ys (rw (length-drop (w * q) xs) (omega arith))

  pub flat_cell : (n : ℕ) (s : ℕ → List ℕ) → ((p : ℕ) → p < n → length (s p) ≡ w) → (p : ℕ) → p < n → cells_of (flat n s) p ≡ s p
  unfolding flat cells_of
  flat_cell zero s h p k = absurd (omega arith)
  flat_cell (suc n) s h p k = go (same_cases p n) (λ l. flat_cell n s (λ p k. h p (omega arith)) p l)
    where
      sizes : (p : ℕ) → p < n → length (s p) ≡ w
      sizes p k = h p (omega arith)

      last : cells_of (flat n s ++ s n) n ≡ s n
      last = ap (take w) (drop_at (flat n s) (s n) (w * n) (flat-length n s sizes)) ∙ take_all w (s n) (omega (arith, h n (omega arith)))

      go : Same p n → (p < n → cells_of (flat n s) p ≡ s p) → cells_of (flat n s ++ s n) p ≡ s p
      go (is e _ _) ih = ap (λ q. cells_of (flat n s ++ s n) q) e ∙ last ∙ ap s (sym e)
      go (isnt e _ _) ih =
          let l : p < n = omega (arith, e) in
          let m = at_most p n l in
          front (flat n s) (s n) p (omega (arith, flat-length n s sizes)) ∙ ih l

  -- a cell put in place in the bytes is a change of that cell, and of no other
  module _ (n : ℕ) (new bs : List ℕ) (whole : length new ≡ w) (inside : w * n + w ≤ length bs) where
    put : List ℕ
    put = take (w * n) bs ++ (new ++ drop (w * n + w) bs)

    before : length (take (w * n) bs) ≡ w * n
    before = length-take-le (w * n) bs (omega arith)

    at_cell : cells_of put n ≡ new
    unfolding cells_of put
    at_cell = ap (take w) (drop_at (take (w * n) bs) _ (w * n) before) ∙ take_at new _ w whole

    below_cell : (q : ℕ) → q < n → cells_of put q ≡ cells_of bs q
    unfolding put
    below_cell q h =
        let m = at_most q n h in
        front (take (w * n) bs) _ q (rw before (omega arith))
        ∙ sym (front (take (w * n) bs) (drop (w * n) bs) q (rw before (omega arith)))
        ∙ ap (λ x. cells_of x q) (take-append-drop (w * n) bs)

    above_cell : (q : ℕ) → n < q → cells_of put q ≡ cells_of bs q
    unfolding cells_of put
    above_cell q h = ap (take w)
        (ap (drop (w * q)) (sym (append_assoc (take (w * n) bs) new (drop (w * n + w) bs)))
        ∙ ap (λ k. drop k ((take (w * n) bs ++ new) ++ drop (w * n + w) bs)) split
        ∙ drop-append-add (take (w * n) bs ++ new) (drop (w * n + w) bs) (w * q - (w * n + w))
        ∙ drop-drop (w * q - (w * n + w)) (w * n + w) bs
        ∙ ap (λ k. drop k bs) join)
      where
        len : length (take (w * n) bs ++ new) ≡ w * n + w
        len = length-append (take (w * n) bs) new ∙ rw (before, whole) refl

        split : w * q ≡ length (take (w * n) bs ++ new) + (w * q - (w * n + w))
        split = let m = at_most n q h in omega (arith, len)

        join : w * n + w + (w * q - (w * n + w)) ≡ w * q
        join = let m = at_most n q h in omega arith

    pub cells_put : cells_of (take (w * n) bs ++ (new ++ drop (w * n + w) bs)) ≡ updated n new (cells_of bs)
    unfolding put
    cells_put = fun_ext λ q. go q (same_cases q n) (is_cases (under q n))
      where
        go : (q : ℕ) → Same q n → Is (under q n) → cells_of put q ≡ updated n new (cells_of bs) q
        go q (is e _ _) b = ap (cells_of put) e ∙ at_cell ∙ sym (updated_same n new (cells_of bs)) ∙ ap (updated n new (cells_of bs)) (sym e)
        go q (isnt e _ _) (yes' k) = below_cell q (under-lt q n k) ∙ sym (updated_other n new (cells_of bs) q e)
        go q (isnt e _ _) (no' k) = above_cell q (omega (arith, not-under q n k, e)) ∙ sym (updated_other n new (cells_of bs) q e)
