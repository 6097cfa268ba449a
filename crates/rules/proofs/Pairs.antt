-- Pairs of copies, one by one and as a store: what whole and torn page writes show, which pairs they leave good and alike, and which all bad.
use mathlib.Core.Path.{◌≡◌, refl, sym, ◌∙◌, ap, ap₂, fun_ext}
use mathlib.Core.Bool.{Bool, true, false, cond, ◌&&◌, ◌||◌}
use mathlib.Core.List.{List, [], ◌∷◌, ◌++◌}
use Prim.Native.Nat.{ℕ, zero, suc, ◌+◌, ◌-◌, ◌*◌, ◌/◌, ◌%◌, ◌≤◌, ◌<◌}
use native.Mathlib.Omega.{arith}
use lib.ListN.{length, take, drop, drop_of_length-le}
use lib.Seq.{take-add, take_all}
use Rattle.laws.specs.Tests.{same, under}
use Rattle.laws.specs.Functions.{updated}
use Rattle.laws.specs.Bytes.{same_list}
use Rattle.laws.proofs.Tests.{same_cases, Same, is, isnt, Is, is_cases, yes', no', under-lt, not-under, or_false_left, or_false_right}
use Rattle.laws.proofs.Booleans.{both, not-true}
use Rattle.laws.proofs.Bytes.{same_list_refl, same_list_eq}
use Rattle.laws.proofs.Updated.{updated_self}
use Rattle.rules.specs.Store.{Page}
use Rattle.rules.specs.Commit.{PageWrite, sets, written, applied}
use Rattle.rules.specs.Pairs.{Pair, Pairs, is_good, good, bad, whole, shows, shown, all_bad, is_whole, mend, torn, is_new, counted, put_all, tear_first, cut_pairs}
use Rattle.rules.proofs.Shows.{applied-append}

-- a pair that a torn write can't change but for the write: good and alike, or all bad
pub data Steady (c : Pair) : Type 0 where
  alike : is_whole c ≡ true → Steady c
  lost : all_bad c ≡ true → Steady c

-- what a pair good and alike says
whole_says : (c : Pair) → is_whole c ≡ true → (is_good c.first ≡ true) × (is_good c.second ≡ true) × (c.first.page ≡ c.second.page)
unfolding is_whole
whole_says c e =
    let x = both (is_good c.first) (is_good c.second && same_list c.first.page c.second.page) e in
    let y = both (is_good c.second) (same_list c.first.page c.second.page) x.1 in
    (x.0, y.0, same_list_eq c.first.page c.second.page y.1)

lost_says : (c : Pair) → all_bad c ≡ true → (is_good c.first ≡ false) × (is_good c.second ≡ false)
unfolding all_bad
lost_says c e =
    let x = not-true (is_good c.first || is_good c.second) e in
    (or_false_left (is_good c.first) (is_good c.second) x, or_false_right (is_good c.first) (is_good c.second) x)

module _ (p : Page) where
  pub shows_whole : shows (whole p) ≡ p
  unfolding shows whole good is_good same
  shows_whole = refl

  pub whole_whole : is_whole (whole p) ≡ true
  unfolding is_whole whole good is_good same
  whole_whole = same_list_refl p

  pub whole_found : all_bad (whole p) ≡ false
  unfolding all_bad whole good is_good same
  whole_found = refl

bad_is : (p : Page) → is_good (bad p) ≡ false
unfolding bad is_good same
bad_is p = refl

-- a torn write shows the new page where it counts as made, else the old one
pub shows_torn : (v : ℕ) (p : Page) (c : Pair) → Steady c → shows (torn v p c) ≡ cond (is_new v) p (shows c)
unfolding torn is_new bad
shows_torn zero p c S = refl
shows_torn (suc zero) p c (alike e) = let w = whole_says c e in unfold shows in rw (bad_is c.first.page, w.0, w.1) (sym w.2)
shows_torn (suc zero) p c (lost e) = let w = lost_says c e in unfold shows in rw (bad_is c.first.page, w.0, w.1) refl
shows_torn (suc (suc zero)) p c S = unfold shows good bad is_good same in refl
shows_torn (suc (suc (suc v))) p c S = unfold shows good is_good same in refl

-- it leaves a pair all bad only where that was so and it doesn't count
pub lost_torn : (v : ℕ) (p : Page) (c : Pair) → Steady c → all_bad (torn v p c) ≡ cond (is_new v) false (all_bad c)
unfolding torn is_new
lost_torn zero p c S = refl
lost_torn (suc zero) p c (alike e) = let w = whole_says c e in unfold all_bad in rw (bad_is c.first.page, w.0, w.1)
lost_torn (suc zero) p c (lost e) = let w = lost_says c e in unfold all_bad in rw (bad_is c.first.page, w.0, w.1)
lost_torn (suc (suc zero)) p c S = unfold all_bad good bad is_good same in refl
lost_torn (suc (suc (suc v))) p c S = unfold all_bad good is_good same in refl

-- mending: what is shown stays, only a pair all bad is not mended, and mending twice is mending once
pub shows_mend : (c : Pair) → shows (mend c) ≡ shows c
unfolding mend
shows_mend c = go (is_cases (all_bad c))
  where
    go : Is (all_bad c) → shows (cond (all_bad c) c (whole (shows c))) ≡ shows c
    go (yes' e) = rw e
    go (no' e) = rw e (shows_whole (shows c))

pub lost_mend : (c : Pair) → all_bad (mend c) ≡ all_bad c
unfolding mend
lost_mend c = go (is_cases (all_bad c))
  where
    go : Is (all_bad c) → all_bad (cond (all_bad c) c (whole (shows c))) ≡ all_bad c
    go (yes' e) = ap (λ (b : Bool). all_bad (cond b c (whole (shows c)))) e
    go (no' e) = ap (λ (b : Bool). all_bad (cond b c (whole (shows c)))) e ∙ whole_found (shows c) ∙ sym e

pub whole_mend : (c : Pair) → all_bad c ≡ false → is_whole (mend c) ≡ true
unfolding mend
whole_mend c e = ap (λ (b : Bool). is_whole (cond b c (whole (shows c)))) e ∙ whole_whole (shows c)

pub steady_mend : (c : Pair) → Steady (mend c)
steady_mend c = go (is_cases (all_bad c))
  where
    go : Is (all_bad c) → Steady (mend c)
    go (yes' e) = lost (lost_mend c ∙ e)
    go (no' e) = alike (whole_mend c e)

pub mend_twice : (c : Pair) → mend (mend c) ≡ mend c
unfolding mend
mend_twice c = go (is_cases (all_bad c))
  where
    go : Is (all_bad c) → cond (all_bad (mend c)) (mend c) (whole (shows (mend c))) ≡ mend c
    go (yes' e) = ap (λ (b : Bool). cond b (mend c) (whole (shows (mend c)))) (lost_mend c ∙ e)
    go (no' e) = ap₂ (λ (b : Bool) (p : Page). cond b (mend c) (whole p)) (lost_mend c ∙ e) (shows_mend c) ∙ sym (ap (λ (b : Bool). cond b c (whole (shows c))) e)

-- The store. Every page that is written is steady.
unfoldable pub SteadyAt : List PageWrite → Pairs → Type 0
SteadyAt [] s = Unit {0}
SteadyAt (sets n p ∷ ws) s = Steady (s n) × SteadyAt ws s

updated_steady : (s : Pairs) (n : ℕ) (c : Pair) (q : ℕ) → Steady c → Steady (s q) → Steady (updated n c s q)
unfolding updated
updated_steady s n c q C S = go (same_cases q n)
  where
    go : Same q n → Steady (cond (same q n) c (s q))
    go (is e k _) = rw k C
    go (isnt e k _) = rw k S

steady_later : (ws : List PageWrite) (s : Pairs) (n : ℕ) (c : Pair) → Steady c → SteadyAt ws s → SteadyAt ws (updated n c s)
unfolding SteadyAt
steady_later [] s n c C S = tt
steady_later (sets m p ∷ ws) s n c C S = (updated_steady s n c m C S.0, steady_later ws s n c C S.1)

pub steady_whole : (ws : List PageWrite) (s : Pairs) (n : ℕ) (p : Page) → SteadyAt ws s → SteadyAt ws (updated n (whole p) s)
steady_whole ws s n p S = steady_later ws s n (whole p) (alike (whole_whole p)) S

-- the pages shown after a page changed
shown_updated : (s : Pairs) (n : ℕ) (c : Pair) → shown (updated n c s) ≡ updated n (shows c) (shown s)
unfolding shown updated
shown_updated s n c = fun_ext (λ k. go k (same_cases k n))
  where
    go : (k : ℕ) → Same k n → shows (cond (same k n) c (s k)) ≡ cond (same k n) (shows c) (shows (s k))
    go k (is e z _) = rw z
    go k (isnt e z _) = rw z

shown_put : (ws : List PageWrite) (s : Pairs) → shown (put_all ws s) ≡ applied ws (shown s)
unfolding put_all applied written
shown_put [] s = refl
shown_put (sets n p ∷ ws) s =
    shown_put ws (updated n (whole p) s) ∙ ap (applied ws) (shown_updated s n (whole p) ∙ ap (λ (x : Page). updated n x (shown s)) (shows_whole p))

steady_drop : (k : ℕ) (ws : List PageWrite) (s : Pairs) → SteadyAt ws s → SteadyAt (drop k ws) (put_all (take k ws) s)
unfolding SteadyAt put_all
steady_drop zero ws s S = S
steady_drop (suc k) [] s S = tt
steady_drop (suc k) (sets n p ∷ ws) s S = steady_drop k ws (updated n (whole p) s) (steady_whole ws s n p S.1)

shown_torn : (v : ℕ) (ws : List PageWrite) (s : Pairs) → SteadyAt ws s → shown (tear_first v ws s) ≡ applied (take (counted v) ws) (shown s)
unfolding SteadyAt tear_first
shown_torn v [] s S = unfold applied in go (is_cases (is_new v))
  where
    go : Is (is_new v) → shown s ≡ applied (take (counted v) []) (shown s)
    go (yes' e) = unfold counted applied in rw e
    go (no' e) = unfold counted applied in rw e
shown_torn v (sets n p ∷ ws) s S = shown_updated s n (torn v p (s n)) ∙ ap (λ (x : Page). updated n x (shown s)) (shows_torn v p (s n) S.0) ∙ go (is_cases (is_new v))
  where
    go : Is (is_new v) → updated n (cond (is_new v) p (shows (s n))) (shown s) ≡ applied (take (counted v) (sets n p ∷ ws)) (shown s)
    go (yes' e) = unfold counted applied written in rw e
    go (no' e) = unfold counted applied written in rw e (unfold shown in sym (updated_self n (shown s)))

-- how many page writes a cut counts
unfoldable pub reach : ℕ → ℕ
reach c = c / 4 + counted (c % 4)

-- what a cut shows is what atomic pages have with a cut at the count that is reached
pub shown_cut : (c : ℕ) (ws : List PageWrite) (s : Pairs) → SteadyAt ws s → shown (cut_pairs c ws s).store ≡ applied (take (reach c) ws) (shown s)
unfolding cut_pairs reach
shown_cut c ws s S =
    shown_torn (c % 4) (drop (c / 4) ws) (put_all (take (c / 4) ws) s) (steady_drop (c / 4) ws s S)
    ∙ ap (applied (take (counted (c % 4)) (drop (c / 4) ws))) (shown_put (take (c / 4) ws) s)
    ∙ sym (applied-append (take (c / 4) ws) (take (counted (c % 4)) (drop (c / 4) ws)) (shown s))
    ∙ ap (λ (l : List PageWrite). applied l (shown s)) (sym (take-add (c / 4) (counted (c % 4)) ws))

-- Page writes in phases: what the first phase leaves of the cut is the cut of the next.
put_then : (k v : ℕ) (xs ys : List PageWrite) (s : Pairs) → length xs ≤ k
    → tear_first v (drop k (xs ++ ys)) (put_all (take k (xs ++ ys)) s) ≡ tear_first v (drop (k - length xs) ys) (put_all (take (k - length xs) ys) (put_all xs s))
unfolding put_all
put_then k v [] ys s h = ap (λ (j : ℕ). tear_first v (drop j ys) (put_all (take j ys) s)) (let e : k ≡ k - 0 = omega arith in e)
put_then zero v (sets n p ∷ xs) ys s h = absurd (omega arith)
put_then (suc k) v (sets n p ∷ xs) ys s h =
    put_then k v xs ys (updated n (whole p) s) (omega arith)
    ∙ ap (λ (j : ℕ). tear_first v (drop j ys) (put_all (take j ys) (put_all xs (updated n (whole p) s)))) (let e : k - length xs ≡ suc k - suc (length xs) = omega arith in e)

put_early : (k v : ℕ) (xs ys : List PageWrite) (s : Pairs) → k < length xs
    → tear_first v (drop k (xs ++ ys)) (put_all (take k (xs ++ ys)) s) ≡ tear_first v (drop k xs) (put_all (take k xs) s)
unfolding put_all tear_first
put_early k v [] ys s h = absurd (omega arith)
put_early zero v (sets n p ∷ xs) ys s h = refl
put_early (suc k) v (sets n p ∷ xs) ys s h = put_early k v xs ys (updated n (whole p) s) (omega arith)

-- a cut before the first write leaves all as it was
pub cut_none : (ws : List PageWrite) (s : Pairs) → (cut_pairs 0 ws s).store ≡ s
unfolding cut_pairs put_all tear_first torn
cut_none [] s = refl
cut_none (sets n p ∷ ws) s = sym (updated_self n s)

tear_all : (v : ℕ) (s : Pairs) → tear_first v [] s ≡ s
unfolding tear_first
tear_all v s = refl

cut_whole : (c : ℕ) (xs : List PageWrite) (s : Pairs) → length xs ≤ c / 4 → (cut_pairs c xs s).store ≡ put_all xs s
unfolding cut_pairs
cut_whole c xs s h = ap₂ (λ (a b : List PageWrite). tear_first (c % 4) a (put_all b s)) (drop_of_length-le xs {i = c / 4} h) (take_all (c / 4) xs h) ∙ tear_all (c % 4) (put_all xs s)

cut_early : (c : ℕ) (xs ys : List PageWrite) (s : Pairs) → c / 4 < length xs → (cut_pairs c (xs ++ ys) s).store ≡ (cut_pairs c xs s).store
unfolding cut_pairs
cut_early c xs ys s h = put_early (c / 4) (c % 4) xs ys s h

cut_late : (c : ℕ) (xs ys : List PageWrite) (s : Pairs) → length xs ≤ c / 4 → (cut_pairs c (xs ++ ys) s).store ≡ (cut_pairs (c - 4 * length xs) ys (put_all xs s)).store
unfolding cut_pairs
cut_late c xs ys s h =
    let q : (c - 4 * length xs) / 4 ≡ c / 4 - length xs = omega arith in
    let r : (c - 4 * length xs) % 4 ≡ c % 4 = omega arith in
    put_then (c / 4) (c % 4) xs ys s h ∙ ap₂ (λ (k v : ℕ). tear_first v (drop k ys) (put_all (take k ys) (put_all xs s))) (sym q) (sym r)

pub cut_append : (c : ℕ) (xs ys : List PageWrite) (s : Pairs) → (cut_pairs c (xs ++ ys) s).store ≡ (cut_pairs (c - 4 * length xs) ys (cut_pairs c xs s).store).store
cut_append c xs ys s = go (is_cases (under (c / 4) (length xs)))
  where
    go : Is (under (c / 4) (length xs)) → (cut_pairs c (xs ++ ys) s).store ≡ (cut_pairs (c - 4 * length xs) ys (cut_pairs c xs s).store).store
    go (yes' e) =
        let h : c / 4 < length xs = under-lt (c / 4) (length xs) e in
        let z : c - 4 * length xs ≡ 0 = omega arith in
        cut_early c xs ys s h ∙ sym (cut_none ys (cut_pairs c xs s).store) ∙ ap (λ (k : ℕ). (cut_pairs k ys (cut_pairs c xs s).store).store) (sym z)
    go (no' e) =
        let h : length xs ≤ c / 4 = not-under (c / 4) (length xs) e in
        cut_late c xs ys s h ∙ ap (λ (t : Pairs). (cut_pairs (c - 4 * length xs) ys t).store) (sym (cut_whole c xs s h))

-- one page write under a cut: whole, torn, or not begun
pub cut_one_whole : (c n : ℕ) (p : Page) (s : Pairs) → 4 ≤ c → (cut_pairs c (sets n p ∷ []) s).store ≡ updated n (whole p) s
cut_one_whole c n p s h = go (c / 4) refl
  where
    go : (k : ℕ) → c / 4 ≡ k → (cut_pairs c (sets n p ∷ []) s).store ≡ updated n (whole p) s
    go zero e = absurd (omega arith)
    go (suc k) e = unfold cut_pairs in ap (λ (j : ℕ). tear_first (c % 4) (drop j (sets n p ∷ [])) (put_all (take j (sets n p ∷ [])) s)) e ∙ more k
      where
        more : (k : ℕ) → tear_first (c % 4) (drop k []) (put_all (take (suc k) (sets n p ∷ [])) s) ≡ updated n (whole p) s
        more zero = unfold tear_first put_all in refl
        more (suc k) = unfold tear_first put_all in refl

pub cut_one_torn : (c n : ℕ) (p : Page) (s : Pairs) → c < 4 → (cut_pairs c (sets n p ∷ []) s).store ≡ updated n (torn c p (s n)) s
unfolding cut_pairs put_all tear_first
cut_one_torn c n p s h =
    ap₂ (λ (k v : ℕ). tear_first v (drop k (sets n p ∷ [])) (put_all (take k (sets n p ∷ [])) s)) (let e : c / 4 ≡ 0 = omega arith in e) (let e : c % 4 ≡ c = omega arith in e)
