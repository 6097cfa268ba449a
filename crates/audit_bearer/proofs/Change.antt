-- One entry of an array changes: what the arrays stand for then.
use mathlib.Core.Path.{◌≡◌, refl, ap, ◌∙◌, fun_ext}
use mathlib.Core.Bool.{Bool, true, false, cond}
use mathlib.Core.List.{List}
use Prim.Native.Nat.{ℕ, ◌+◌, ◌-◌, ◌<◌}
use native.Mathlib.Omega.{arith}
use lib.ListN.{length, get_or, set, length-set}
use lib.Seq.{get_or-set_same, get_or-set_other}
use Rattle.laws.specs.Tests.{same, under, open_tests}
use Rattle.laws.specs.Functions.{updated}
use Rattle.laws.proofs.Tests.{same_cases, Same, is, isnt, under-lt, lt-under}
use Rattle.laws.proofs.Booleans.{refute}
use Rattle.history.specs.History.{bearing, ended}
use Rattle.audit_link.specs.Links.{fate_of, passed_of, entry_at, fate_in, passed_in}

pub entry_set : (l : List ℕ) (i v k : ℕ) → i < length l → get_or (set l i v) k 0 ≡ cond (same k i) v (get_or l k 0)
entry_set l i v k h = go (same_cases k i)
  where
    go : Same k i → get_or (set l i v) k 0 ≡ cond (same k i) v (get_or l k 0)
    go (is e s _) = rw (s, e) (get_or-set_same l i v 0 h)
    go (isnt e s _) = rw s (get_or-set_other l i k v 0 e)

pub entries-set : (l : List ℕ) (i v : ℕ) → i < length l → entry_at (set l i v) ≡ updated i v (entry_at l)
unfolding entry_at updated
entries-set l i v h = fun_ext (λ k. entry_set l i v k h)

pub fates_set : (l : List ℕ) (i v : ℕ) → i < length l → fate_in (set l i v) ≡ updated i (fate_of v) (fate_in l)
unfolding fate_in updated
fates_set l i v h = fun_ext (λ k. ap fate_of (entry_set l i v k h) ∙ push (same k i) k)
  where
    push : (b : Bool) (k : ℕ) → fate_of (cond b v (get_or l k 0)) ≡ cond b (fate_of v) (fate_of (get_or l k 0))
    push true k = refl
    push false k = refl

pub passes-set : (l : List ℕ) (i v : ℕ) → i < length l → passed_in (set l i v) ≡ updated i (passed_of v) (passed_in l)
unfolding passed_in updated
passes-set l i v h = fun_ext (λ k. ap passed_of (entry_set l i v k h) ∙ push (same k i) k)
  where
    push : (b : Bool) (k : ℕ) → passed_of (cond b v (get_or l k 0)) ≡ cond b (passed_of v) (passed_of (get_or l k 0))
    push true k = refl
    push false k = refl

-- a fate that says who bears a number
pub fate_bears : (t : ℕ) → fate_of (32 + t) ≡ bearing t
unfolding fate_of
fate_bears t =
    let high = refute (under (32 + t) 32) (λ d. let k = under-lt (32 + t) 32 d in omega (arith, k)) in
    let same_number : 32 + t - 32 ≡ t = omega arith in
    rw (high, same_number)

pub pass_bears : (t : ℕ) → passed_of (32 + t) ≡ false
unfolding passed_of
pass_bears t =
    let high = refute (under (32 + t) 32) (λ d. let k = under-lt (32 + t) 32 d in omega (arith, k)) in
    rw (high, lt-under 0 (32 + t) (omega arith))

pub fate_ended : fate_of 0 ≡ ended
unfolding fate_of open_tests
fate_ended = refl

pub pass_ended : passed_of 0 ≡ false
unfolding passed_of open_tests
pass_ended = refl

-- an entry that may change: as many entries, and as small ones
pub cond_length : (b : Bool) (l : List ℕ) (i v : ℕ) → length (cond b (set l i v) l) ≡ length l
cond_length true l i v = length-set l i v
cond_length false l i v = refl

pub cond_small : (b : Bool) (l : List ℕ) (i k m : ℕ) → 0 < m → i < length l → ((u : ℕ) → get_or l u 0 < m) → get_or (cond b (set l i 0) l) k 0 < m
cond_small true l i k m z h all = rw (entry_set l i 0 k h) (go (same k i))
  where
    go : (b : Bool) → cond b 0 (get_or l k 0) < m
    go true = z
    go false = all k
cond_small false l i k m z h all = all k
