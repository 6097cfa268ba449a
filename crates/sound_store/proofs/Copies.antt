-- Where the copies of a pair lie in the store's bytes: pair n from byte 66 n, its second copy 33 bytes behind the first.
use mathlib.Core.Path.{◌≡◌, refl, sym, ap, ap₂, ◌∙◌}
use mathlib.Core.List.{List, [], ◌∷◌}
use Prim.Native.Nat.{ℕ, suc, ◌+◌, ◌*◌, ◌≤◌}
use native.Mathlib.Nat.{add-zero}
use native.Mathlib.Omega.{arith}
use lib.ListN.{length, take, drop, get_or, length-drop}
use lib.Seq.{length-take-le, take-take, take-add, take-nil, drop-drop, drop_at, get_or-take, get_or-drop}
use Rattle.laws.specs.Tests.{same}
use Rattle.laws.specs.Bytes.{same_list}
use Rattle.laws.specs.Counting.{all}
use Rattle.laws.proofs.All.{all_same}
use Rattle.laws.proofs.Compared.{same_list_all}
use Rattle.rules.specs.Pairs.{copy_in, pair_in, pairs_of}

-- a copy's page is behind its status
behind : (n : ℕ) (l : List ℕ) → drop 1 (take (suc n) l) ≡ take n (drop 1 l)
behind n [] = sym (take-nil n)
behind n (x ∷ l) = refl

module _ (bs : List ℕ) (n : ℕ) (inside : 66 * n + 66 ≤ length bs) where
  long : 66 ≤ length (drop (66 * n) bs)
  long = let e = length-drop (66 * n) bs in omega arith

  second_half : drop 33 (take 66 (drop (66 * n) bs)) ≡ take 33 (drop 33 (drop (66 * n) bs))
  second_half =
      let l = drop (66 * n) bs in
      let h = long in
      ap (drop 33) (take-add 33 33 l) ∙ drop_at (take 33 l) (take 33 (drop 33 l)) 33 (length-take-le 33 l (omega arith))

  pub first_status : (pairs_of bs n).first.status ≡ get_or bs (66 * n) 0
  unfolding pairs_of pair_in copy_in
  first_status =
      let l = drop (66 * n) bs in
      get_or-take 33 (take 66 l) 0 0 (omega arith) ∙ get_or-take 66 l 0 0 (omega arith) ∙ get_or-drop (66 * n) bs 0 0 ∙ ap (λ (k : ℕ). get_or bs k 0) (add-zero (66 * n))

  pub second_status : (pairs_of bs n).second.status ≡ get_or bs (66 * n + 33) 0
  unfolding pairs_of pair_in copy_in
  second_status =
      let l = drop (66 * n) bs in
      get_or-drop 33 (take 66 l) 0 0 ∙ get_or-take 66 l 33 0 (omega arith) ∙ get_or-drop (66 * n) bs 33 0

  pub first_page : (pairs_of bs n).first.page ≡ take 32 (drop (66 * n + 1) bs)
  unfolding pairs_of pair_in copy_in
  first_page =
      let l = drop (66 * n) bs in
      ap (drop 1) (take-take 33 66 l (omega arith)) ∙ behind 32 l ∙ ap (take 32) (drop-drop 1 (66 * n) bs)

  pub second_page : (pairs_of bs n).second.page ≡ take 32 (drop (66 * n + 33 + 1) bs)
  unfolding pairs_of pair_in copy_in
  second_page =
      let l = drop (66 * n) bs in
      ap (drop 1) second_half ∙ behind 32 (drop 33 l) ∙ ap (take 32) (ap (drop 1) (drop-drop 33 (66 * n) bs) ∙ drop-drop 1 (66 * n + 33) bs)

  -- the pages of both copies, byte by byte
  pub alike_is : all 32 (λ k. same (get_or bs (66 * n + 1 + k) 0) (get_or bs (66 * n + 33 + 1 + k) 0)) ≡ same_list (pairs_of bs n).first.page (pairs_of bs n).second.page
  alike_is =
      let one : length (take 32 (drop (66 * n + 1) bs)) ≡ 32 = length-take-le 32 (drop (66 * n + 1) bs) (let e = length-drop (66 * n + 1) bs in let h = inside in omega arith) in
      let two : length (take 32 (drop (66 * n + 33 + 1) bs)) ≡ 32 = length-take-le 32 (drop (66 * n + 33 + 1) bs) (let e = length-drop (66 * n + 33 + 1) bs in let h = inside in omega arith) in
      all_same 32 _ (λ k. same (get_or (take 32 (drop (66 * n + 1) bs)) k 0) (get_or (take 32 (drop (66 * n + 33 + 1) bs)) k 0))
      (λ k lt. ap₂ same (sym (get_or-take 32 (drop (66 * n + 1) bs) k 0 lt ∙ get_or-drop (66 * n + 1) bs k 0)) (sym (get_or-take 32 (drop (66 * n + 33 + 1) bs) k 0 lt ∙ get_or-drop (66 * n + 33 + 1) bs k 0)))
      ∙ sym (same_list_all 32 (take 32 (drop (66 * n + 1) bs)) (take 32 (drop (66 * n + 33 + 1) bs)) one two)
      ∙ ap₂ same_list (sym first_page) (sym second_page)
