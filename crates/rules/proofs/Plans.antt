-- The page writes of a prepare and of a decision in other words than their definitions: how many there are, which is the first and the last; and
-- a page of a prepared transaction is not damaged.
use mathlib.Core.Path.{◌≡◌, refl, ap, ◌∙◌}
use mathlib.Core.Bool.{true, false, not, ◌&&◌, and-false}
use mathlib.Core.List.{List, [], ◌∷◌, ◌++◌}
use mathlib.Core.Option.{Option, some}
use Prim.Native.Nat.{ℕ, suc, ◌+◌}
use native.Mathlib.Omega.{arith}
use lib.ListN.{length, length-append, length-map}
use Rattle.laws.proofs.Updated.{updated_same}
use Rattle.rules.specs.Geometry.{Geometry}
use Rattle.rules.specs.Store.{Page, Pages, intention, home, commit_page, read_commit, is_damaged, damaged, Prepared, prepared_page, read_prepared, is_prepared, prepared_map}
use Rattle.rules.specs.Commit.{PageWrite, sets, written, applied, cut_at, intentions, homes, marks, recover_writes, prepare_writes, decide_writes, decide_at}

-- the last of some page writes
unfoldable pub last_of : PageWrite → List PageWrite → PageWrite
last_of w [] = w
last_of w (x ∷ xs) = last_of x xs

last_behind : (w : PageWrite) (ws : List PageWrite) (x : PageWrite) → last_of w (ws ++ (x ∷ [])) ≡ x
unfolding last_of
last_behind w [] x = refl
last_behind w (y ∷ ys) x = last_behind y ys x

module _ (g : Geometry) where
  -- a prepare of n records takes n + 1 page writes, its last is the prepared page
  pub prepare_last : (new : ℕ → Page) (p : Prepared) (r : ℕ) (rs : List ℕ) (w : PageWrite) → last_of w (prepare_writes g new p (r ∷ rs)) ≡ sets 0 (prepared_page g p)
  unfolding prepare_writes
  prepare_last new p r rs w = last_behind w (intentions g new (r ∷ rs)) (sets 0 (prepared_page g p))

  pub prepare_takes : (new : ℕ → Page) (p : Prepared) (r : ℕ) (rs : List ℕ) → length (prepare_writes g new p (r ∷ rs)) ≡ length (r ∷ rs) + 1
  unfolding prepare_writes intentions
  prepare_takes new p r rs = length-append (intentions g new (r ∷ rs)) (sets 0 (prepared_page g p) ∷ []) ∙ ap (λ (n : ℕ). n + 1) (length-map (r ∷ rs) (λ q. sets (intention q) (new q)))

  -- a decision to commit n records takes n + 2: its first makes the commit page a committed one, its last an empty one
  pub commit_decision_first : (s : Pages) (p : Prepared) → read_prepared g (s 0) ≡ some p → (decide_at g s true 1).store 0 ≡ commit_page g p.map
  unfolding decide_at cut_at decide_writes applied marks written prepared_map
  commit_decision_first s p here = updated_same 0 (commit_page g (prepared_map (read_prepared g (s 0)))) s ∙ ap (λ (o : Option Prepared). commit_page g (prepared_map o)) here

  pub commit_decision_last : (planned : ℕ → Page) (map r : ℕ) (rs : List ℕ) (w : PageWrite) → last_of w (decide_writes g true planned map (r ∷ rs)) ≡ marks g 0
  unfolding decide_writes recover_writes last_of
  commit_decision_last planned map r rs w = last_behind (marks g map) (homes g planned (r ∷ rs)) (marks g 0)

  pub commit_decision_takes : (planned : ℕ → Page) (map r : ℕ) (rs : List ℕ) → length (decide_writes g true planned map (r ∷ rs)) ≡ length (r ∷ rs) + 2
  unfolding decide_writes recover_writes homes
  commit_decision_takes planned map r rs =
      ap suc (length-append (homes g planned (r ∷ rs)) (marks g 0 ∷ []) ∙ ap (λ (n : ℕ). n + 1) (length-map (r ∷ rs) (λ q. sets (home g q) (planned q)))) ∙ more (length rs)
    where
      more : (n : ℕ) → suc (suc n + 1) ≡ suc n + 2
      more n = omega arith

  -- one to abort takes 1, whatever was changed: no home page is written
  pub abort_decision_takes : (planned : ℕ → Page) (map : ℕ) (rs : List ℕ) → length (decide_writes g false planned map rs) ≡ 1
  unfolding decide_writes
  abort_decision_takes planned map rs = refl

  pub abort_decision_last : (planned : ℕ → Page) (map : ℕ) (rs : List ℕ) (w : PageWrite) → last_of w (decide_writes g false planned map rs) ≡ marks g 0
  unfolding decide_writes last_of
  abort_decision_last planned map rs w = refl

  pub prepared_readable : (s : Pages) (p : Prepared) → read_prepared g (s 0) ≡ some p → damaged g s ≡ false
  unfolding damaged is_prepared
  prepared_readable s p here = ap (λ (o : Option Prepared). is_damaged (read_commit g (s 0)) && not (is_prepared o)) here ∙ and-false (is_damaged (read_commit g (s 0)))
