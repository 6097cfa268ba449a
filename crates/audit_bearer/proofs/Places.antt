-- The first place at which a test passes, as an iterator finds it, is the rules' lowest number.
use mathlib.Core.Path.{◌≡◌, refl, ap, ◌∙◌}
use mathlib.Core.Bool.{Bool, cond}
use mathlib.Core.List.{List}
use Prim.Native.Nat.{ℕ, ◌<◌}
use native.Mathlib.Omega.{arith}
use lib.Dec.{ltb}
use lib.ListN.{length, get_or}
use Rattle.std.specs.Prelude.{Option, Some, None, IfSome}
use Rattle.std.specs.List.{position_or_len, range_with_len}
use Rattle.std.proofs.lemmas.List.FromFn.{length-range_with_len, get_or-range_with_len}
use Rattle.std.proofs.lemmas.Bool.{lt-ltb, le-ltb}
use Rattle.std.proofs.lemmas.List.Sums.{position_or_len_is}
use Rattle.laws.specs.Counting.{lowest}
use Rattle.laws.proofs.Counting.{Lowest, found, missing, lowest_is}
use Rattle.audit_bearer.specs.Tables.{place_among}

-- what is found at place m of n
abbrev pub Found : ℕ → ℕ → Option ℕ
Found m n = cond (ltb m n) (Some m) None

module _ {X : Type 0} (n : ℕ) (p : ℕ → Bool) (test : X → Bool) (xs : List X) (d : X) (long : length xs ≡ n) (alike : (t : ℕ) → t < n → test (get_or xs t d) ≡ p t) where
  position_is : position_or_len test xs ≡ lowest n p
  position_is = go (lowest_is n p)
    where
      go : Lowest n p 0 (lowest n p) → position_or_len test xs ≡ lowest n p
      go (found e h k) = position_or_len_is test xs (lowest n p) d (omega (arith, h, long)) (λ t lt. alike t (omega (arith, lt, h)) ∙ k t (omega arith) lt) (λ lt. alike (lowest n p) (omega (arith, h)) ∙ e)
      go (missing e k) = position_or_len_is test xs (lowest n p) d (omega (arith, e, long)) (λ t lt. alike t (omega (arith, lt, e)) ∙ k t (omega arith) (omega (arith, lt, e))) (λ lt. absurd (omega (arith, lt, e, long)))

  pub place_lowest : (place_among n (Found (position_or_len test xs) (length xs)) ≡ lowest n p) × IfSome (Found (position_or_len test xs) (length xs)) (λ t. t < n)
  unfolding place_among
  place_lowest = rw (position_is, long) (go (lowest_is n p))
    where
      go : Lowest n p 0 (lowest n p) → (place_among n (Found (lowest n p) n) ≡ lowest n p) × IfSome (Found (lowest n p) n) (λ t. t < n)
      go (found e h k) = let lt : lowest n p < n = omega (arith, h) in rw (lt-ltb (lowest n p) n lt) (refl, lt)
      go (missing e k) = rw (le-ltb (lowest n p) n (omega (arith, e))) (omega (arith, e), tt)

-- among the numbers of a range
pub place_in_range : (n : ℕ) (p : ℕ → Bool) → let xs = range_with_len 0 n in
    (place_among n (Found (position_or_len p xs) (length xs)) ≡ lowest n p) × IfSome (Found (position_or_len p xs) (length xs)) (λ t. t < n)
place_in_range n p =
    place_lowest n p p (range_with_len 0 n) 0 (length-range_with_len 0 n) (λ t lt. let e : get_or (range_with_len 0 n) t 0 ≡ t = get_or-range_with_len 0 n t 0 lt ∙ omega arith in ap p e)
