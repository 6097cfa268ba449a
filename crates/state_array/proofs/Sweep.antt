-- A loop over an array: below i as the goal says, from i on as it was. Three laws for each kind of goal: none yet, one more, all.
use mathlib.Core.Path.{◌≡◌, refl, sym, ap, ap₂, ◌∙◌, fun_ext}
use mathlib.Core.Bool.{Bool, true, false, not, cond, ◌&&◌, ◌||◌, or-false, and-false}
use mathlib.Core.List.{List}
use mathlib.Core.Logic.{dite}
use native.Mathlib.Decide.{dec_lt}
use Prim.Native.Nat.{ℕ, ◌+◌, ◌≤◌, ◌<◌}
use native.Mathlib.Omega.{arith}
use lib.ListN.{length, get_or, set, length-set, get_or-eq_default}
use lib.Seq.{get_or-set_same, get_or-set_other}
use Rattle.laws.specs.Tests.{same}
use Rattle.laws.specs.Functions.{updated}
use Rattle.laws.specs.Bits.{bits}
use Rattle.laws.proofs.Tests.{same_cases, Same, is, isnt}
use Rattle.leaf_set.specs.Sets.{sets}
use Rattle.leaf_set.proofs.Sets.{sets-set, sets_past}
use Rattle.state_array.specs.View.{Owners}
use Rattle.state_array.specs.Changes.{less, leaving, replacing, inheriting, handed, SetChanged, Rows, places, cleared, Cleared}

pub record Swept {A : Type 0} (f was goal : ℕ → A) (i : ℕ) : Type 0 where
  pub below : (k : ℕ) → k < i → f k ≡ goal k
  pub above : (k : ℕ) → i ≤ k → f k ≡ was k

pub swept_none : {A : Type 0} (f goal : ℕ → A) → Swept f f goal 0
swept_none f goal = record { below = λ k h. absurd (omega arith); above = λ k h. refl }

pub swept_more : {A : Type 0} {f was goal : ℕ → A} {i : ℕ} (g : ℕ → A) (x : A) → Swept f was goal i
    → g ≡ updated i x f → x ≡ goal i → Swept g was goal (i + 1)
unfolding updated
swept_more {A} {f} {was} {goal} {i} g x S e is' = record {
  below = λ k h. ap (λ (g : ℕ → A). g k) e ∙ lower k h (same_cases k i);
  above = λ k h. ap (λ (g : ℕ → A). g k) e ∙ upper k h (same_cases k i);
}
  where
    lower : (k : ℕ) → k < i + 1 → Same k i → cond (same k i) x (f k) ≡ goal k
    lower k h (is q s _) = rw (s, q) is'
    lower k h (isnt q s _) = rw s (S.below k (omega arith))

    upper : (k : ℕ) → i + 1 ≤ k → Same k i → cond (same k i) x (f k) ≡ was k
    upper k h (is q s _) = absurd (omega arith)
    upper k h (isnt q s _) = rw s (S.above k (omega arith))

pub swept_all : {A : Type 0} {f was goal : ℕ → A} {i : ℕ} → Swept f was goal i → ((k : ℕ) → i ≤ k → was k ≡ goal k) → f ≡ goal
swept_all {i = i} S past =
    fun_ext (λ k. dite (dec_lt k i) (λ lt. S.below k lt) (λ ge. S.above k (omega arith) ∙ past k (omega arith)))

-- Sets at n places.
pub record Upto (n : ℕ) (f : Owners) (l l₀ : List ℕ) (i : ℕ) : Type 0 where
  pub swept : Swept (sets l) (sets l₀) f i
  pub long : length l ≡ n

pub upto_none : (n : ℕ) (f : Owners) (l : List ℕ) → length l ≡ n → Upto n f l l 0
upto_none n f l h = record { swept = swept_none (sets l) f; long = h }

pub upto_more : (n : ℕ) (f : Owners) (l l₀ l' : List ℕ) (i : ℕ) (s : ℕ → Bool) → Upto n f l l₀ i → i < n → SetChanged i s l l' → s ≡ f i → Upto n f l' l₀ (i + 1)
upto_more n f l l₀ l' i s U h R e = record {
  swept = swept_more (sets l') s U.swept
      (ap sets R.is ∙ sets-set l i R.word (let k = U.long in omega arith) ∙ ap {B = Owners} (λ (s : ℕ → Bool). updated i s (sets l)) R.holds) e;
  long = ap length R.is ∙ length-set l i R.word ∙ U.long;
}

-- the same, where the set at i is told of the sets themselves
pub upto_next : (n : ℕ) (f : Owners) (l l₀ l' : List ℕ) (i : ℕ) (s : ℕ → Bool) → Upto n f l l₀ i → Rows n (updated i s (sets l)) l' → s ≡ f i → Upto n f l' l₀ (i + 1)
upto_next n f l l₀ l' i s U R e = record { swept = swept_more (sets l') s U.swept R.are e; long = R.long }

pub upto_all : (n : ℕ) (f : Owners) (l l₀ : List ℕ) (i : ℕ) → Upto n f l l₀ i → ((k : ℕ) → i ≤ k → sets l₀ k ≡ f k) → Rows n f l
upto_all n f l l₀ i U past = record { are = swept_all U.swept past; long = U.long }

pub leaving_past : (gone : ℕ → Bool) (l : List ℕ) (k : ℕ) → length l ≤ k → sets l k ≡ leaving gone (sets l) k
unfolding leaving less
leaving_past gone l k h = fun_ext (λ j. let e = sets_past l k j h in e ∙ sym (ap (λ (b : Bool). not (gone j) && b) e ∙ and-false (not (gone j))))

pub heirs_past : (had : Bool) (l : List ℕ) (t p k : ℕ) → had ≡ false → length l ≤ k → sets l k ≡ replacing had (sets l k) t p
unfolding replacing
heirs_past had l t p k f h = fun_ext (λ j. let e = sets_past l k j h in
    e ∙ sym (ap₂ (λ (b c : Bool). (not (same j t) && b) || (same j p && c)) e f ∙ ap₂ ◌||◌ (and-false (not (same j t))) (and-false (same j p))))

pub handed_past : (l : List ℕ) (t p k : ℕ) → length l ≤ k → sets l k ≡ handed t p (sets l) k
unfolding handed
handed_past l t p k h = heirs_past (sets l k t) l t p k (sets_past l k t h) h

pub inheriting_past : (l m : List ℕ) (t p k : ℕ) → length l ≤ k → length m ≤ k → sets m k ≡ inheriting t p (sets l) (sets m) k
unfolding inheriting
inheriting_past l m t p k h g = heirs_past (sets l k t || sets m k t) m t p k (ap₂ ◌||◌ (sets_past l k t h) (sets_past m k t g)) g

-- Numbers that are cleared.
pub record Clearing (gone : ℕ → Bool) (l l₀ : List ℕ) (i : ℕ) : Type 0 where
  pub swept : Swept (places l) (places l₀) (cleared gone (places l₀)) i
  pub long : length l ≡ 24

pub clearing_none : (gone : ℕ → Bool) (l : List ℕ) → length l ≡ 24 → Clearing gone l l 0
clearing_none gone l h = record { swept = swept_none (places l) (cleared gone (places l)); long = h }

clear_is : (b : Bool) (l l' : List ℕ) (i : ℕ) → i < length l → l' ≡ cond b (set l i 0) l
    → (places l' ≡ updated i (cond b 0 (places l i)) (places l)) × (length l' ≡ length l)
unfolding places updated
clear_is true l l' i h e = (ap places e ∙ fun_ext (λ q. go q (same_cases q i)), ap length e ∙ length-set l i 0)
  where
    go : (q : ℕ) → Same q i → get_or (set l i 0) q 0 ≡ cond (same q i) 0 (get_or l q 0)
    go q (is f s _) = rw (s, f) (get_or-set_same l i 0 0 h)
    go q (isnt f s _) = rw s (get_or-set_other l i q 0 0 f)
clear_is false l l' i h e = (ap places e ∙ fun_ext (λ q. go q (same_cases q i)), ap length e)
  where
    go : (q : ℕ) → Same q i → get_or l q 0 ≡ cond (same q i) (get_or l i 0) (get_or l q 0)
    go q (is f s _) = rw (s, f)
    go q (isnt f s _) = rw s

pub clearing_more : (gone : ℕ → Bool) (l l₀ l' : List ℕ) (i : ℕ) → Clearing gone l l₀ i → i < 24 → l' ≡ cond (gone i) (set l i 0) l → Clearing gone l' l₀ (i + 1)
unfolding cleared
clearing_more gone l l₀ l' i C h e =
    let a = clear_is (gone i) l l' i (let k = C.long in omega arith) e in
    record {
      swept = swept_more (places l') (cond (gone i) 0 (places l i)) C.swept a.0 (ap (λ (n : ℕ). cond (gone i) 0 n) (C.swept.above i (omega arith)));
      long = a.1 ∙ C.long;
    }

pub clearing_all : (gone : ℕ → Bool) (l l₀ : List ℕ) (i : ℕ) → Clearing gone l l₀ i → length l₀ ≤ i → Cleared gone l₀ l
unfolding cleared places
clearing_all gone l l₀ i C h = record { are = swept_all C.swept (λ k le. past k (gone k) (get_or-eq_default l₀ 0 (omega arith))); long = C.long }
  where
    past : (k : ℕ) (b : Bool) → get_or l₀ k 0 ≡ 0 → get_or l₀ k 0 ≡ cond b 0 (get_or l₀ k 0)
    past k true e = e
    past k false e = refl

-- One number is cleared.
pub cleared_one : (l : List ℕ) (t : ℕ) → length l ≡ 24 → t < 24 → Cleared (λ k. same k t) l (set l t 0)
unfolding cleared updated
cleared_one l t e h = let a = clear_is true l (set l t 0) t (omega arith) refl in record { are = a.0; long = a.1 ∙ e }

-- A set that is filled in order.
pub fills_more : (goal : ℕ → Bool) (m m' i : ℕ) (b : Bool) → Swept (bits m) (λ k. false) goal i → b ≡ goal i
    → bits m' ≡ (λ k. bits m k || (same k i && b)) → Swept (bits m') (λ k. false) goal (i + 1)
unfolding updated
fills_more goal m m' i b S e q = swept_more (bits m') b S (q ∙ fun_ext (λ k. go k (same_cases k i))) e
  where
    go : (k : ℕ) → Same k i → (bits m k || (same k i && b)) ≡ cond (same k i) b (bits m k)
    go k (is f s _) = rw (s, f, S.above i (omega arith))
    go k (isnt f s _) = rw (s, or-false)
