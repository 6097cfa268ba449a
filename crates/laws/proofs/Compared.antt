-- Two lists of the same length are the same exactly if they are at each place.
use mathlib.Core.Path.{◌≡◌, refl, sym, ap, ◌∙◌}
use mathlib.Core.Bool.{Bool, true, ◌&&◌}
use mathlib.Core.List.{List, [], ◌∷◌}
use Prim.Native.Nat.{ℕ, zero, suc}
use native.Mathlib.Omega.{arith}
use lib.ListN.{length, get_or}
use Rattle.laws.specs.Tests.{same}
use Rattle.laws.specs.Counting.{all}
use Rattle.laws.specs.Bytes.{same_list}
use Rattle.laws.proofs.All.{all_first}

all_none : (p : ℕ → Bool) → true ≡ all 0 p
unfolding all
all_none p = refl

pub same_list_all : (n : ℕ) (xs ys : List ℕ) → length xs ≡ n → length ys ≡ n → same_list xs ys ≡ all n (λ k. same (get_or xs k 0) (get_or ys k 0))
unfolding same_list
same_list_all zero [] [] h k = all_none (λ k. same 0 0)
same_list_all zero [] (y ∷ ys) h k = absurd (omega arith)
same_list_all zero (x ∷ xs) ys h k = absurd (omega arith)
same_list_all (suc n) [] ys h k = absurd (omega arith)
same_list_all (suc n) (x ∷ xs) [] h k = absurd (omega arith)
same_list_all (suc n) (x ∷ xs) (y ∷ ys) h k =
    ap (λ (b : Bool). same x y && b) (same_list_all n xs ys (omega arith) (omega arith))
    ∙ sym (all_first n (λ k. same (get_or (x ∷ xs) k 0) (get_or (y ∷ ys) k 0)))
