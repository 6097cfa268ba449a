-- The sets of the live transactions and of each parent's live children stay right when a transaction begins and when some end, and they answer
-- for the arrays. All is number by number: who ends is in no set, and who stays keeps its parent.
use mathlib.Core.Path.{◌≡◌, refl, ap, ◌∙◌, fun_ext}
use mathlib.Core.Bool.{Bool, true, false, not, cond, ◌&&◌, ◌||◌, or-false, and-false}
use mathlib.Core.List.{List}
use mathlib.Core.Logic.{dite}
use native.Mathlib.Decide.{dec_lt}
use Prim.Native.Nat.{ℕ, ◌<◌}
use native.Mathlib.Omega.{arith}
use lib.ListN.{length, get_or, set, length-set, replicate, length-replicate, get_or-replicate, get_or-eq_default}
use lib.Seq.{get_or-set_same, get_or-set_other}
use Rattle.laws.specs.Tests.{same}
use Rattle.laws.specs.Counting.{lowest}
use Rattle.laws.specs.Functions.{updated}
use Rattle.laws.specs.Bits.{bits}
use Rattle.laws.proofs.Tests.{same_cases, Same, is, isnt, same_refl, ne_false}
use Rattle.laws.proofs.Bits.{bits-zero}
use Rattle.leaf_set.specs.Sets.{sets}
use Rattle.leaf_set.proofs.Sets.{sets-set, sets_past}
use Rattle.state_array.specs.View.{Owners}
use Rattle.state_array.specs.Changes.{joined, less, leaving, SetChanged, Rows, places, cleared, Cleared}
use Rattle.state_array.specs.Kin.{DerivedSets}
use Rattle.state_array.proofs.Joined.{sets_joined}

-- an array after one write
at_set : (l : List ℕ) (i v k : ℕ) → i < length l → get_or (set l i v) k 0 ≡ cond (same k i) v (get_or l k 0)
at_set l i v k h = go (same_cases k i)
  where
    go : Same k i → get_or (set l i v) k 0 ≡ cond (same k i) v (get_or l k 0)
    go (is e s _) = rw (s, e) (get_or-set_same l i v 0 h)
    go (isnt e s _) = rw s (get_or-set_other l i k v 0 e)

-- one set is another: the sets then, and how many there are
row_sets : (r : ℕ) (s : ℕ → Bool) (l l' : List ℕ) → SetChanged r s l l' → r < length l → sets l' ≡ updated r s (sets l)
row_sets r s l l' R h = ap sets R.is ∙ sets-set l r R.word h ∙ ap {B = Owners} (λ (f : ℕ → Bool). updated r f (sets l)) R.holds

row_long : (r : ℕ) (s : ℕ → Bool) (l l' : List ℕ) → SetChanged r s l l' → length l' ≡ length l
row_long r s l l' R = ap length R.is ∙ length-set l r R.word

-- what the sets say of one number
live_at : {parent depth children : List ℕ} {live : ℕ} → DerivedSets parent depth live children → (k : ℕ) → bits live k ≡ not (same (get_or depth k 0) 0)
live_at K k = ap (λ (s : ℕ → Bool). s k) K.lives

child_at : {parent depth children : List ℕ} {live : ℕ} → DerivedSets parent depth live children → (q k : ℕ) → q < 32
    → sets children q k ≡ (not (same (get_or depth k 0) 0) && same (get_or parent k 0) q)
child_at K q k h = ap (λ (s : ℕ → Bool). s k) (K.under q h)

-- f begins under p at depth d
pub kin_begun : (parent depth children children' : List ℕ) (live live' f p d : ℕ) → DerivedSets parent depth live children → length parent ≡ 24 → length depth ≡ 24
    → f < 24 → get_or depth f 0 ≡ 0 → p < 32 → 0 < d → bits live' ≡ (λ k. bits live k || same k f)
    → SetChanged p (λ k. sets children p k || same k f) children children' → DerivedSets (set parent f p) (set depth f d) live' children'
unfolding joined
kin_begun parent depth children children' live live' f p d K np nd hf free hp hd le R = record {
  lives = le ∙ fun_ext (λ k. rw (live_at K k, at_set depth f d k (omega arith)) (lives k (same_cases k f)));
  under = λ q hq. ap (λ (o : Owners). o q) now ∙ fun_ext (λ k. rw (child_at K q k hq, at_set depth f d k (omega arith), at_set parent f p k (omega arith)) (under q k (same_cases k f) (same_cases q p)));
  named = λ k. rw (at_set parent f p k (omega arith)) (named (same k f) (get_or parent k 0) (K.named k));
  long = row_long _ _ _ _ R ∙ K.long;
}
  where
    named : (b : Bool) (m : ℕ) → m < 32 → cond b p m < 32
    named true m h = hp
    named false m h = h

    now : sets children' ≡ joined f p (sets children)
    now = ap sets R.is ∙ sets_joined children f p R.word (let n = K.long in omega arith) R.holds

    deep : same d 0 ≡ false
    deep = ne_false d 0 (λ z. absurd (omega arith))

    lives : (k : ℕ) → Same k f → (not (same (get_or depth k 0) 0) || same k f) ≡ not (same (cond (same k f) d (get_or depth k 0)) 0)
    lives k (is e s _) = rw (s, e, free, same_refl 0, deep)
    lives k (isnt e s _) = rw s (or-false (not (same (get_or depth k 0) 0)))

    under : (q k : ℕ) → Same k f → Same q p → ((not (same (get_or depth k 0) 0) && same (get_or parent k 0) q) || (same q p && same k f))
        ≡ (not (same (cond (same k f) d (get_or depth k 0)) 0) && same (cond (same k f) p (get_or parent k 0)) q)
    under q k (is e s _) (is _ a b) = rw (s, e, free, same_refl 0, deep, a, b)
    under q k (is e s _) (isnt _ a b) = rw (s, e, free, same_refl 0, deep, a, b)
    under q k (isnt e s _) _ = rw (s, and-false, or-false)

-- those that are gone end
pub kin_cleared : (gone : ℕ → Bool) (parent parent' depth depth' children children' : List ℕ) (live live' : ℕ) → DerivedSets parent depth live children
    → Cleared gone parent parent' → Cleared gone depth depth' → bits live' ≡ less gone (bits live) → Rows 32 (leaving gone (sets children)) children'
    → DerivedSets parent' depth' live' children'
unfolding less leaving places cleared
kin_cleared gone parent parent' depth depth' children children' live live' K P D le C = record {
  lives = le ∙ fun_ext (λ k. rw (live_at K k, at D k) (lives (gone k) (get_or depth k 0)));
  under = λ q hq. ap (λ (o : Owners). o q) C.are ∙ fun_ext (λ k. rw (child_at K q k hq, at D k, at P k) (under (gone k) (get_or depth k 0) (get_or parent k 0) q));
  named = λ k. rw (at P k) (named (gone k) (get_or parent k 0) (K.named k));
  long = C.long;
}
  where
    named : (b : Bool) (m : ℕ) → m < 32 → cond b 0 m < 32
    named true m h = omega arith
    named false m h = h

    at : {l l' : List ℕ} → Cleared gone l l' → (k : ℕ) → get_or l' k 0 ≡ cond (gone k) 0 (get_or l k 0)
    at C k = ap (λ (f : ℕ → ℕ). f k) C.are

    lives : (b : Bool) (n : ℕ) → (not b && not (same n 0)) ≡ not (same (cond b 0 n) 0)
    lives true n = rw (same_refl 0)
    lives false n = refl

    under : (b : Bool) (n m q : ℕ) → (not b && (not (same n 0) && same m q)) ≡ (not (same (cond b 0 n) 0) && same (cond b 0 m) q)
    under true n m q = rw (same_refl 0)
    under false n m q = refl

-- t alone ends: it is in no set but that of its parent, so no other is touched
pub kin_retired : (parent parent' depth depth' children children' : List ℕ) (live live' t p : ℕ) → DerivedSets parent depth live children
    → p ≡ get_or parent t 0 → p < 32 → Cleared (λ k. same k t) parent parent' → Cleared (λ k. same k t) depth depth'
    → bits live' ≡ (λ k. not (same k t) && bits live k) → SetChanged p (λ k. not (same k t) && sets children p k) children children' → DerivedSets parent' depth' live' children'
unfolding updated less leaving
kin_retired parent parent' depth depth' children children' live live' t p K e hp P D le R =
    kin_cleared (λ k. same k t) parent parent' depth depth' children children' live live' K P D le (record {
      are = row_sets _ _ _ _ R (let n = K.long in omega arith) ∙ fun_ext (λ q. fun_ext (λ k. go q k (same_cases q p) (same_cases k t)));
      long = row_long _ _ _ _ R ∙ K.long;
    })
  where
    other : (q : ℕ) → same p q ≡ false → sets children q t ≡ false
    other q n = dite (dec_lt q 32)
        (λ lt. child_at K q t lt ∙ rw (← e, n) (and-false (not (same (get_or depth t 0) 0))))
        (λ ge. sets_past children q t (let n = K.long in omega arith))

    go : (q k : ℕ) → Same q p → Same k t → cond (same q p) (λ k. not (same k t) && sets children p k) (sets children q) k ≡ (not (same k t) && sets children q k)
    go q k (is z a _) _ = rw (a, z)
    go q k (isnt z a b) (is y s _) = rw (a, s, y) (other q b)
    go q k (isnt z a b) (isnt y s _) = rw (a, s)

-- an array of zeros
none_at : (n k : ℕ) → get_or {A = ℕ} (replicate n 0) k 0 ≡ 0
none_at n k =
    dite (dec_lt k n) (λ lt. get_or-replicate n k 0 0 lt)
    (λ ge. let e : length {A = ℕ} (replicate n 0) ≡ n = length-replicate n 0 in get_or-eq_default {A = ℕ} (replicate n 0) 0 (omega arith))

pub none-sets : (n q k : ℕ) → sets (replicate n 0) q k ≡ false
unfolding sets
none-sets n q k = rw (none_at n q) (bits-zero k)

-- no transaction is live
pub kin_none : DerivedSets (replicate 24 0) (replicate 24 0) 0 (replicate 32 0)
kin_none = record {
  lives = fun_ext (λ k. rw (none_at 24 k, same_refl 0) (bits-zero k));
  under = λ q h. fun_ext (λ k. rw (none_at 24 k, same_refl 0) (none-sets 32 q k));
  named = λ k. let e = none_at 24 k in omega arith;
  long = length-replicate {A = ℕ} 32 0;
}

not-not : (b : Bool) → not (not b) ≡ b
not-not true = refl
not-not false = refl

-- the lowest number that isn't live is the lowest whose depth is 0
pub kin_lowest : (parent depth children : List ℕ) (live f : ℕ) → DerivedSets parent depth live children → f ≡ lowest 24 (λ u. not (bits live u)) → f ≡ lowest 24 (λ u. same (get_or depth u 0) 0)
kin_lowest parent depth children live f K e =
    e ∙ ap (lowest 24) (fun_ext (λ u. ap (λ (s : ℕ → Bool). not (s u)) K.lives ∙ not-not (same (get_or depth u 0) 0)))
