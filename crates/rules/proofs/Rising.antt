-- Page writes go by rising record: which pages a commit and a recovery write, in order, and that the records of a map come in rising order.
use mathlib.Core.Path.{◌≡◌, refl, ap, ◌∙◌}
use mathlib.Core.Bool.{Bool, true, false, cond, ◌&&◌}
use mathlib.Core.List.{List, [], ◌∷◌, ◌++◌, map, append-nil}
use Prim.Native.Nat.{ℕ, zero, suc, ◌<◌}
use Rattle.laws.specs.Tests.{same, under}
use Rattle.laws.specs.Counting.{those}
use Rattle.laws.proofs.Tests.{same_refl, lt-under}
use Rattle.laws.proofs.Booleans.{and_left, and_right, or_left, or_right}
use Rattle.rules.specs.Geometry.{Geometry}
use Rattle.rules.specs.Store.{Page, intention, home}
use Rattle.rules.specs.State.{mem}
use Rattle.rules.specs.Commit.{PageWrite, sets, intentions, homes, marks, commit_writes, recover_writes}
use Rattle.rules.proofs.Members.{those_below}

-- the pages that are written, in order
unfoldable pub touched : List PageWrite → List ℕ
touched [] = []
touched (sets n p ∷ ws) = n ∷ touched ws

-- each number is above the one before
unfoldable pub rising : List ℕ → Bool
rising [] = true
rising (x ∷ []) = true
rising (x ∷ y ∷ l) = under x y && rising (y ∷ l)

touched_append : (a b : List PageWrite) → touched (a ++ b) ≡ (touched a ++ touched b)
unfolding touched
touched_append [] b = refl
touched_append (sets n p ∷ a) b = ap (λ (l : List ℕ). n ∷ l) (touched_append a b)

touched_map : (page : ℕ → ℕ) (new : ℕ → Page) (rs : List ℕ) → touched (map (λ r. sets (page r) (new r)) rs) ≡ map page rs
unfolding touched
touched_map page new [] = refl
touched_map page new (r ∷ rs) = ap (λ (l : List ℕ). page r ∷ l) (touched_map page new rs)

-- one more at the end
rising_next : (l : List ℕ) (n : ℕ) → rising l ≡ true → ((q : ℕ) → mem q l ≡ true → q < n) → rising (l ++ (n ∷ [])) ≡ true
unfolding rising mem
rising_next [] n e h = refl
rising_next (x ∷ []) n e h = rw (lt-under x n (h x (or_left (same x x) false (same_refl x))))
rising_next (x ∷ y ∷ l) n e h =
    rw (and_left (under x y) (rising (y ∷ l)) e)
    (rising_next (y ∷ l) n (and_right (under x y) (rising (y ∷ l)) e) (λ q m. h q (or_right (same q x) (mem q (y ∷ l)) m)))

-- THE RECORDS OF A TEST COME IN RISING ORDER
pub records_rise : (n : ℕ) (p : ℕ → Bool) → rising (those n p) ≡ true
unfolding those rising
records_rise zero p = refl
records_rise (suc n) p = go (p n) (records_rise n p)
  where
    go : (b : Bool) → rising (those n p) ≡ true → rising (those n p ++ cond b (n ∷ []) []) ≡ true
    go true e = rising_next (those n p) n e (λ q m. those_below n p q m)
    go false e = ap rising (append-nil (those n p)) ∙ e

module _ (g : Geometry) where
  -- A COMMIT WRITES the intention pages in the records' order, page 0, the home pages in the records' order, page 0; a recovery the home pages and page 0.
  pub commit_order : (new : ℕ → Page) (m r : ℕ) (rs : List ℕ)
      → touched (commit_writes g new m (r ∷ rs)) ≡ (map intention (r ∷ rs) ++ (0 ∷ (map (home g) (r ∷ rs) ++ (0 ∷ []))))
  unfolding commit_writes intentions homes marks touched
  commit_order new m r rs =
      touched_append (map (λ q. sets (intention q) (new q)) (r ∷ rs)) (marks g m ∷ (homes g new (r ∷ rs) ++ (marks g 0 ∷ [])))
      ∙ ap (λ (l : List ℕ). l ++ (0 ∷ touched (map (λ q. sets (home g q) (new q)) (r ∷ rs) ++ (marks g 0 ∷ [])))) (touched_map intention new (r ∷ rs))
      ∙ ap (λ (l : List ℕ). map intention (r ∷ rs) ++ (0 ∷ l)) (homes_then_0 (r ∷ rs))
    where
      homes_then_0 : (qs : List ℕ) → touched (map (λ q. sets (home g q) (new q)) qs ++ (marks g 0 ∷ [])) ≡ (map (home g) qs ++ (0 ∷ []))
      homes_then_0 qs = touched_append (map (λ q. sets (home g q) (new q)) qs) (marks g 0 ∷ []) ∙ ap (λ (l : List ℕ). l ++ (0 ∷ [])) (touched_map (home g) new qs)

  pub recover_order : (planned : ℕ → Page) (r : ℕ) (rs : List ℕ) → touched (recover_writes g planned (r ∷ rs)) ≡ (map (home g) (r ∷ rs) ++ (0 ∷ []))
  unfolding recover_writes homes marks touched
  recover_order planned r rs =
      touched_append (map (λ q. sets (home g q) (planned q)) (r ∷ rs)) (marks g 0 ∷ []) ∙ ap (λ (l : List ℕ). l ++ (0 ∷ [])) (touched_map (home g) planned (r ∷ rs))
