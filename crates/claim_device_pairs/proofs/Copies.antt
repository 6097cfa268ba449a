-- THE TEARS ARE POWER CUTS: wherever the power goes among the copy writes of some page writes, between two or within one, the medium is what the rules' cut leaves with
-- the count and the value that tell the place.
use mathlib.Core.Path.{◌≡◌, refl, sym, ap, ap₂, ◌∙◌}
use mathlib.Core.List.{List, [], ◌∷◌}
use Prim.Native.Nat.{ℕ, zero, suc, ◌+◌, ◌-◌, ◌*◌, ◌/◌, ◌%◌, ◌≤◌}
use native.Mathlib.Omega.{arith}
use lib.ListN.{length, take, drop, drop_of_length-le}
use lib.Seq.{take_all}
use Rattle.laws.specs.Functions.{updated}
use Rattle.laws.proofs.Updated.{updated_same, updated_again}
use Rattle.rules.specs.Store.{Page}
use Rattle.rules.specs.Commit.{PageWrite, sets}
use Rattle.rules.specs.Pairs.{Pair, Pairs, good, bad, whole, torn, put_all, tear_first, cut_pairs}
use Rattle.rules.proofs.Pairs.{cut_none, cut_append, cut_one_whole}
use Rattle.claim_device.specs.CopyWrites.{first, second, copies_of}
use Rattle.claim_device_pairs.specs.Copies.{made, spoiled, carried_all, carried_copies, spoiled_at, behind, within}

module _ (n : ℕ) (p : Page) (s : Pairs) where
  abbrev half : Pair
  half = record { first = good p; second = (s n).second }

  -- both copies, one after the other
  put_both : made (second n p) (made (first n p) s) ≡ updated n (whole p) s
  unfolding made whole
  put_both =
      ap (λ (c : Pair). updated n (record { first = c.first; second = good p }) (updated n half s)) (updated_same n half s)
      ∙ updated_again n half (record { first = good p; second = good p }) s

  -- the first, and the power goes within the second
  put_half : spoiled (second n p) (made (first n p) s) ≡ updated n (torn 2 p (s n)) s
  unfolding made spoiled torn
  put_half =
      ap (λ (c : Pair). updated n (record { first = c.first; second = bad c.second.page }) (updated n half s)) (updated_same n half s)
      ∙ updated_again n half (record { first = good p; second = bad (s n).second.page }) s

  cut_half : (ws : List PageWrite) → (cut_pairs 2 (sets n p ∷ ws) s).store ≡ updated n (torn 2 p (s n)) s
  unfolding cut_pairs put_all tear_first
  cut_half ws = refl

cut_nil : (c : ℕ) (s : Pairs) → (cut_pairs c [] s).store ≡ s
unfolding cut_pairs
cut_nil c s = go (c / 4)
  where
    go : (k : ℕ) → tear_first (c % 4) (drop k []) (put_all (take k []) s) ≡ s
    go zero = unfold tear_first put_all in refl
    go (suc k) = unfold tear_first put_all in refl

-- a cut four further on: one write is whole, and the cut is in the rest
cut_next : (c n : ℕ) (p : Page) (ws : List PageWrite) (s : Pairs) → (cut_pairs (4 + c) (sets n p ∷ ws) s).store ≡ (cut_pairs c ws (updated n (whole p) s)).store
cut_next c n p ws s =
    let e : 4 + c - 4 * 1 ≡ c = omega arith in
    cut_append (4 + c) (sets n p ∷ []) ws s
    ∙ ap₂ (λ (k : ℕ) (x : Pairs). (cut_pairs k ws x).store) e (cut_one_whole (4 + c) n p s (omega arith))

pub copies_behind : (j : ℕ) (ws : List PageWrite) (s : Pairs) → carried_copies j (copies_of ws) s ≡ (cut_pairs (behind j) ws s).store
unfolding carried_copies copies_of behind
copies_behind zero ws s = sym (cut_none ws s)
copies_behind (suc zero) [] s = sym (cut_nil 3 s)
copies_behind (suc zero) (sets n p ∷ ws) s = unfold made cut_pairs put_all tear_first torn in refl
copies_behind (suc (suc j)) [] s = sym (cut_nil (4 + behind j) s)
copies_behind (suc (suc j)) (sets n p ∷ ws) s = ap (carried_copies j (copies_of ws)) (put_both n p s) ∙ copies_behind j ws (updated n (whole p) s) ∙ sym (cut_next (behind j) n p ws s)

pub copies_within : (j : ℕ) (ws : List PageWrite) (s : Pairs) → spoiled_at j (copies_of ws) s ≡ (cut_pairs (within j) ws s).store
unfolding spoiled_at copies_of within
copies_within zero [] s = sym (cut_nil 1 s)
copies_within zero (sets n p ∷ ws) s = unfold spoiled cut_pairs put_all tear_first torn in refl
copies_within (suc zero) [] s = sym (cut_nil 2 s)
copies_within (suc zero) (sets n p ∷ ws) s = put_half n p s ∙ sym (cut_half n p s ws)
copies_within (suc (suc j)) [] s = sym (cut_nil (4 + within j) s)
copies_within (suc (suc j)) (sets n p ∷ ws) s = ap (spoiled_at j (copies_of ws)) (put_both n p s) ∙ copies_within j ws (updated n (whole p) s) ∙ sym (cut_next (within j) n p ws s)

copies-all : (ws : List PageWrite) (s : Pairs) → carried_all (copies_of ws) s ≡ put_all ws s
unfolding carried_all copies_of put_all
copies-all [] s = refl
copies-all (sets n p ∷ ws) s = ap (carried_all (copies_of ws)) (put_both n p s) ∙ copies-all ws (updated n (whole p) s)

-- all of them, where the cut lies behind the last
pub copies_whole : (c : ℕ) (ws : List PageWrite) (s : Pairs) → length ws ≤ c / 4 → carried_all (copies_of ws) s ≡ (cut_pairs c ws s).store
unfolding cut_pairs
copies_whole c ws s h =
    copies-all ws s
    ∙ sym (ap₂ (λ (xs ys : List PageWrite). tear_first (c % 4) xs (put_all ys s)) (drop_of_length-le ws {i = c / 4} h) (take_all (c / 4) ws h) ∙ (unfold tear_first in refl))

pub none_cut : (c : ℕ) (s : Pairs) → (cut_pairs c [] s).store ≡ s
none_cut = cut_nil
