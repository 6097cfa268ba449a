-- One set of a list of words is replaced; past a list's end the sets are empty.
use mathlib.Core.Path.{◌≡◌, ap, ◌∙◌, fun_ext}
use mathlib.Core.Bool.{false, cond}
use mathlib.Core.List.{List}
use Prim.Native.Nat.{ℕ, ◌≤◌, ◌<◌}
use lib.ListN.{length, get_or, set, get_or-eq_default}
use lib.Seq.{get_or-set_same, get_or-set_other}
use Rattle.laws.specs.Tests.{same}
use Rattle.laws.specs.Functions.{updated}
use Rattle.laws.specs.Bits.{bits}
use Rattle.laws.proofs.Tests.{same_cases, Same, is, isnt}
use Rattle.laws.proofs.Bits.{bits-zero}
use Rattle.leaf_set.specs.Sets.{sets}

pub sets-set : (l : List ℕ) (r v : ℕ) → r < length l → sets (set l r v) ≡ updated r (bits v) (sets l)
unfolding sets updated
sets-set l r v h = fun_ext (λ q. go q (same_cases q r))
  where
    go : (q : ℕ) → Same q r → bits (get_or (set l r v) q 0) ≡ cond (same q r) (bits v) (bits (get_or l q 0))
    go q (is e s _) = rw (s, e) (ap bits (get_or-set_same l r v 0 h))
    go q (isnt e s _) = rw s (ap bits (get_or-set_other l r q v 0 e))

pub sets_past : (l : List ℕ) (r k : ℕ) → length l ≤ r → sets l r k ≡ false
unfolding sets
sets_past l r k h = ap (λ (x : ℕ). bits x k) (get_or-eq_default l 0 h) ∙ bits-zero k
