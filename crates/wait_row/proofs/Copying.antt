-- One row more is copied: the words so far, with the next word in the place of the first zero.
use mathlib.Core.Path.{◌≡◌, refl, sym, ◌∙◌, ap, subst}
use mathlib.Core.List.{List, [], ◌∷◌, ◌++◌, map}
use Prim.Native.Nat.{ℕ, zero, suc, ◌-◌, ◌<◌, ◌≤◌}
use native.Mathlib.Nat.{not-suc-le-zero, le_of_suc-le-suc}
use native.Mathlib.Omega.{arith}
use lib.ListN.{length, take, replicate, set, get_or, length-map, get_or-map}
use Rattle.wait_row.specs.declared.Row.{Row}
use Rattle.wait_row.specs.Copied.{zero_row, word_of, words_to, least}

next : (ws : List ℕ) (i m : ℕ) → i < length ws → set (take i ws ++ replicate (suc m) 0) i (get_or ws i 0) ≡ take (suc i) ws ++ replicate m 0
next [] i m l = absurd (not-suc-le-zero l)
next (w ∷ ws) zero m l = refl
next (w ∷ ws) (suc i) m l = ap (λ (t : List ℕ). w ∷ t) (next ws i m (le_of_suc-le-suc l))

module _ (ys : List Row) where
  pub one_more : (i : ℕ) → i < 24 → i < length ys → set (words_to i ys) i (word_of (get_or ys i zero_row)) ≡ words_to (suc i) ys
  unfolding words_to
  one_more i small l =
      let room : 24 - i ≡ suc (24 - suc i) = omega arith in
      let long : i < length (map word_of ys) = subst (λ (n : ℕ). i < n) (sym (length-map ys word_of)) l in
      ap (λ (w : ℕ). set (take i (map word_of ys) ++ replicate (24 - i) 0) i w) (sym (get_or-map word_of ys i zero_row))
      ∙ ap (λ (m : ℕ). set (take i (map word_of ys) ++ replicate m 0) i (get_or (map word_of ys) i 0)) room ∙ next (map word_of ys) i (24 - suc i) long

pub least_small : (n : ℕ) → least n ≤ 24
unfolding least
least_small n = omega arith

pub least_within : (n : ℕ) → least n ≤ n
unfolding least
least_within n = omega arith
