-- Page writes over pairs, whole and torn: which pairs they leave all bad, which good and alike, and how their counts go with those of atomic pages.
use mathlib.Core.Path.{◌≡◌, refl, sym, ◌∙◌, ap, ap₂, fun_ext}
use mathlib.Core.Bool.{Bool, true, false, cond}
use mathlib.Core.List.{List, [], ◌∷◌, ◌++◌}
use Prim.Native.Nat.{ℕ, zero, suc, ◌+◌, ◌/◌, ◌%◌, ◌≤◌, ◌<◌}
use native.Mathlib.Omega.{arith}
use lib.ListN.{length, take, drop, drop_of_length-le}
use lib.Seq.{take_all}
use Rattle.laws.specs.Tests.{same, under}
use Rattle.laws.specs.Functions.{updated}
use Rattle.laws.proofs.Tests.{same_cases, Same, is, isnt, Is, is_cases, yes', no', under-lt, not-under}
use Rattle.rules.specs.Geometry.{Geometry, records, page_count}
use Rattle.rules.specs.Store.{Page, intention, home}
use Rattle.rules.specs.State.{mem}
use Rattle.rules.specs.Commit.{PageWrite, sets, intentions, homes, marks, commit_writes, recover_writes}
use Rattle.rules.specs.Pairs.{Pair, Pairs, whole, all_bad, is_whole, torn, is_new, counted, put_all, tear_first, cut_pairs}
use Rattle.rules.proofs.Members.{mem_head, mem_later}
use Rattle.rules.proofs.Cuts.{not_lt_under}
use Rattle.rules.proofs.Pairs.{Steady, whole_whole, whole_found, lost_torn, SteadyAt, steady_whole}

-- the numbers of the pages that are written
unfoldable pub targets : List PageWrite → List ℕ
targets [] = []
targets (sets q p ∷ ws) = q ∷ targets ws

-- which pairs are all bad, after whole and torn page writes
unfoldable pub lost_in : Pairs → ℕ → Bool
lost_in s n = all_bad (s n)

unfoldable pub cut_lost : ℕ → ℕ → List ℕ → (ℕ → Bool) → ℕ → Bool
cut_lost k v [] b = b
cut_lost zero v (t ∷ ts) b = updated t (cond (is_new v) false (b t)) b
cut_lost (suc k) v (t ∷ ts) b = cut_lost k v ts (updated t false b)

lost_updated : (s : Pairs) (n : ℕ) (c : Pair) → lost_in (updated n c s) ≡ updated n (all_bad c) (lost_in s)
unfolding lost_in updated
lost_updated s n c = fun_ext (λ k. go k (same_cases k n))
  where
    go : (k : ℕ) → Same k n → all_bad (cond (same k n) c (s k)) ≡ cond (same k n) (all_bad c) (all_bad (s k))
    go k (is e z _) = rw z
    go k (isnt e z _) = rw z

lost_put : (k v : ℕ) (ws : List PageWrite) (s : Pairs) → SteadyAt ws s → lost_in (tear_first v (drop k ws) (put_all (take k ws) s)) ≡ cut_lost k v (targets ws) (lost_in s)
unfolding SteadyAt put_all tear_first cut_lost targets
lost_put zero v [] s S = refl
lost_put (suc k) v [] s S = refl
lost_put zero v (sets q p ∷ ws) s S = lost_updated s q (torn v p (s q)) ∙ ap (λ (b : Bool). updated q b (lost_in s)) (lost_torn v p (s q) S.0) ∙ unfold lost_in in refl
lost_put (suc k) v (sets q p ∷ ws) s S =
    lost_put k v ws (updated q (whole p) s) (steady_whole ws s q p S.1)
    ∙ ap (cut_lost k v (targets ws)) (lost_updated s q (whole p) ∙ ap (λ (b : Bool). updated q b (lost_in s)) (whole_found p))

pub lost_cut : (c : ℕ) (ws : List PageWrite) (s : Pairs) → SteadyAt ws s → lost_in (cut_pairs c ws s).store ≡ cut_lost (c / 4) (c % 4) (targets ws) (lost_in s)
unfolding cut_pairs
lost_cut c ws s S = lost_put (c / 4) (c % 4) ws s S

-- no page write leaves a pair all bad that wasn't: a torn one spoils one copy of a pair that it found steady
pub cut_found : (k v : ℕ) (ts : List ℕ) (b : ℕ → Bool) (n : ℕ) → b n ≡ false → cut_lost k v ts b n ≡ false
unfolding cut_lost updated
cut_found zero v [] b n e = e
cut_found (suc k) v [] b n e = e
cut_found zero v (t ∷ ts) b n e = go (same_cases n t) (is_cases (is_new v))
  where
    go : Same n t → Is (is_new v) → cond (same n t) (cond (is_new v) false (b t)) (b n) ≡ false
    go (is q z _) (yes' w) = rw (z, w)
    go (is q z _) (no' w) = rw (z, w, ← q) e
    go (isnt q z _) w = rw z e
cut_found (suc k) v (t ∷ ts) b n e = cut_found k v ts (updated t false b) n (go (same_cases n t))
  where
    go : Same n t → cond (same n t) false (b n) ≡ false
    go (is q z _) = rw z
    go (isnt q z _) = rw z e

-- whole page writes leave good and alike what was so
whole_put : (ws : List PageWrite) (s : Pairs) (n : ℕ) → is_whole (s n) ≡ true → is_whole (put_all ws s n) ≡ true
unfolding put_all updated
whole_put [] s n e = e
whole_put (sets q p ∷ ws) s n e = whole_put ws (updated q (whole p) s) n (go (same_cases n q))
  where
    go : Same n q → is_whole (cond (same n q) (whole p) (s n)) ≡ true
    go (is _ z _) = ap (λ (b : Bool). is_whole (cond b (whole p) (s n))) z ∙ whole_whole p
    go (isnt _ z _) = ap (λ (b : Bool). is_whole (cond b (whole p) (s n))) z ∙ e

-- a cut that comes after the last write is none
pub whole_cut : (c : ℕ) (ws : List PageWrite) (s : Pairs) (n : ℕ) → (cut_pairs c ws s).crashed ≡ false → is_whole (s n) ≡ true → is_whole ((cut_pairs c ws s).store n) ≡ true
unfolding cut_pairs
whole_cut c ws s n d e =
    let h : length ws ≤ c / 4 = not-under (c / 4) (length ws) d in
    ap₂ (λ (xs ys : List PageWrite). is_whole (tear_first (c % 4) xs (put_all ys s) n)) (drop_of_length-le ws {i = c / 4} h) (take_all (c / 4) ws h)
    ∙ unfold tear_first in whole_put ws s n e

pub counted-le : (v : ℕ) → counted v ≤ 1
unfolding counted
counted-le v = go (is_cases (is_new v))
  where
    go : Is (is_new v) → cond (is_new v) 1 0 ≤ 1
    go (yes' e) = rw e (omega arith)
    go (no' e) = rw e (omega arith)

-- the counts are those of atomic pages with a cut at the count that is reached
pub made_same : (k j n : ℕ) → j ≤ 1 → cond (under k n) (k + j) n ≡ cond (under (k + j) n) (k + j) n
made_same k j n h = go (is_cases (under k n)) (is_cases (under (k + j) n))
  where
    go : Is (under k n) → Is (under (k + j) n) → cond (under k n) (k + j) n ≡ cond (under (k + j) n) (k + j) n
    go (yes' a) (yes' b) = rw (a, b)
    go (yes' a) (no' b) = let x : k < n = under-lt k n a in let y : n ≤ k + j = not-under (k + j) n b in rw (a, b) (omega arith)
    go (no' a) (yes' b) = let x : n ≤ k = not-under k n a in let y : k + j < n = under-lt (k + j) n b in absurd (omega arith)
    go (no' a) (no' b) = rw (a, b)

-- not cut by pairs, not cut by atomic pages
pub crash_same : (k j n : ℕ) → under k n ≡ false → under (k + j) n ≡ false
crash_same k j n e = let h : n ≤ k = not-under k n e in not_lt_under (k + j) n (omega arith)

-- all targets are pages that there are
unfoldable pub Below : ℕ → List PageWrite → Type 0
Below n [] = Unit {0}
Below n (sets q p ∷ ws) = (q < n) × Below n ws

below_append : (n : ℕ) (xs ys : List PageWrite) → Below n xs → Below n ys → Below n (xs ++ ys)
unfolding Below
below_append n [] ys a b = b
below_append n (sets q p ∷ xs) ys a b = (a.0, below_append n xs ys a.1 b)

pub steady_all : (n : ℕ) (ws : List PageWrite) (s : Pairs) → Below n ws → ((q : ℕ) → q < n → Steady (s q)) → SteadyAt ws s
unfolding Below SteadyAt
steady_all n [] s B h = tt
steady_all n (sets q p ∷ ws) s B h = (h q B.0, steady_all n ws s B.1 h)

targets_append : (xs ys : List PageWrite) → targets (xs ++ ys) ≡ targets xs ++ targets ys
unfolding targets
targets_append [] ys = refl
targets_append (sets q p ∷ xs) ys = ap (λ (l : List ℕ). q ∷ l) (targets_append xs ys)

module _ (g : Geometry) where
  below_intentions : (f : ℕ → Page) (rs : List ℕ) → ((q : ℕ) → mem q rs ≡ true → q < records g) → Below (page_count g) (intentions g f rs)
  unfolding Below intentions intention page_count
  below_intentions f [] h = tt
  below_intentions f (r ∷ rs) h = let e = h r (mem_head r rs) in (omega arith, below_intentions f rs (λ q z. h q (mem_later q r rs z)))

  below_homes : (f : ℕ → Page) (rs : List ℕ) → ((q : ℕ) → mem q rs ≡ true → q < records g) → Below (page_count g) (homes g f rs)
  unfolding Below homes home page_count
  below_homes f [] h = tt
  below_homes f (r ∷ rs) h = let e = h r (mem_head r rs) in (omega arith, below_homes f rs (λ q z. h q (mem_later q r rs z)))

  below_marks : (m : ℕ) (ws : List PageWrite) → Below (page_count g) ws → Below (page_count g) (marks g m ∷ ws)
  unfolding Below marks page_count
  below_marks m ws b = (omega arith, b)

  below_last : Below (page_count g) (marks g 0 ∷ [])
  unfolding Below
  below_last = below_marks 0 [] tt

  pub below_commit : (f : ℕ → Page) (m : ℕ) (rs : List ℕ) → ((q : ℕ) → mem q rs ≡ true → q < records g) → Below (page_count g) (commit_writes g f m rs)
  unfolding Below commit_writes
  below_commit f m [] h = tt
  below_commit f m (r ∷ rs) h =
      below_append (page_count g) (intentions g f (r ∷ rs)) (marks g m ∷ (homes g f (r ∷ rs) ++ (marks g 0 ∷ []))) (below_intentions f (r ∷ rs) h)
      (below_marks m (homes g f (r ∷ rs) ++ (marks g 0 ∷ [])) (below_append (page_count g) (homes g f (r ∷ rs)) (marks g 0 ∷ []) (below_homes f (r ∷ rs) h) below_last))

  pub below_recover : (f : ℕ → Page) (rs : List ℕ) → ((q : ℕ) → mem q rs ≡ true → q < records g) → Below (page_count g) (recover_writes g f rs)
  unfolding Below recover_writes
  below_recover f [] h = tt
  below_recover f (r ∷ rs) h = below_append (page_count g) (homes g f (r ∷ rs)) (marks g 0 ∷ []) (below_homes f (r ∷ rs) h) below_last

  -- the pages that are written are the same, whatever is written there
  targets_intentions : (f f' : ℕ → Page) (rs : List ℕ) → targets (intentions g f rs) ≡ targets (intentions g f' rs)
  unfolding targets intentions
  targets_intentions f f' [] = refl
  targets_intentions f f' (r ∷ rs) = ap (λ (l : List ℕ). intention r ∷ l) (targets_intentions f f' rs)

  targets_homes : (f f' : ℕ → Page) (rs : List ℕ) → targets (homes g f rs) ≡ targets (homes g f' rs)
  unfolding targets homes
  targets_homes f f' [] = refl
  targets_homes f f' (r ∷ rs) = ap (λ (l : List ℕ). home g r ∷ l) (targets_homes f f' rs)

  pub targets_recover : (f f' : ℕ → Page) (rs : List ℕ) → targets (recover_writes g f rs) ≡ targets (recover_writes g f' rs)
  unfolding recover_writes
  targets_recover f f' [] = refl
  targets_recover f f' (r ∷ rs) =
      targets_append (homes g f (r ∷ rs)) (marks g 0 ∷ []) ∙ ap (λ (l : List ℕ). l ++ targets (marks g 0 ∷ [])) (targets_homes f f' (r ∷ rs)) ∙ sym (targets_append (homes g f' (r ∷ rs)) (marks g 0 ∷ []))

  pub targets_commit : (f f' : ℕ → Page) (m : ℕ) (rs : List ℕ) → targets (commit_writes g f m rs) ≡ targets (commit_writes g f' m rs)
  unfolding commit_writes
  targets_commit f f' m [] = refl
  targets_commit f f' m (r ∷ rs) =
      targets_append (intentions g f (r ∷ rs)) (marks g m ∷ (homes g f (r ∷ rs) ++ (marks g 0 ∷ [])))
      ∙ ap₂ (λ (a b : List ℕ). a ++ b) (targets_intentions f f' (r ∷ rs)) (later ∙ sym later')
      ∙ sym (targets_append (intentions g f' (r ∷ rs)) (marks g m ∷ (homes g f' (r ∷ rs) ++ (marks g 0 ∷ []))))
    where
      later : targets (marks g m ∷ (homes g f (r ∷ rs) ++ (marks g 0 ∷ []))) ≡ 0 ∷ (targets (homes g f (r ∷ rs)) ++ targets (marks g 0 ∷ []))
      later = unfold targets marks in ap (λ (l : List ℕ). 0 ∷ l) (targets_append (homes g f (r ∷ rs)) (marks g 0 ∷ []))

      later' : targets (marks g m ∷ (homes g f' (r ∷ rs) ++ (marks g 0 ∷ []))) ≡ 0 ∷ (targets (homes g f (r ∷ rs)) ++ targets (marks g 0 ∷ []))
      later' = unfold targets marks in ap (λ (l : List ℕ). 0 ∷ l) (targets_append (homes g f' (r ∷ rs)) (marks g 0 ∷ []) ∙ ap (λ (l : List ℕ). l ++ targets (marks g 0 ∷ [])) (targets_homes f' f (r ∷ rs)))
