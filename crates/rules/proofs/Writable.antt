-- Page writes that keep the sizes of pages: those of a commit, a recovery, a prepare and a decision.
use mathlib.Core.Path.{◌≡◌}
use mathlib.Core.Bool.{Bool, true, false}
use mathlib.Core.List.{List, [], ◌∷◌, ◌++◌}
use Prim.Native.Nat.{ℕ, zero, suc, ◌<◌}
use native.Mathlib.Omega.{arith}
use lib.ListN.{length, take}
use Rattle.rules.specs.Geometry.{Geometry, records, page_count}
use Rattle.rules.specs.Store.{Page, Pages, intention, home, Prepared, prepared_page}
use Rattle.rules.specs.State.{mem}
use Rattle.rules.specs.Commit.{PageWrite, sets, written, applied, intentions, homes, marks, commit_writes, recover_writes, prepare_writes, decide_writes}
use Rattle.rules.proofs.CommitPage.{commit_page-length}
use Rattle.rules.proofs.PreparedPage.{prepared_page-length}
use Rattle.rules.proofs.Members.{mem_head, mem_later}
use Rattle.rules.proofs.Pages.{Sized, updated_sized}

-- page writes that keep the sizes of n pages
unfoldable pub Fit : ℕ → List PageWrite → Type 0
Fit n [] = Unit {0}
Fit n (sets q p ∷ ws) = (q < n) × (length p ≡ 32) × Fit n ws

fit_append : (n : ℕ) (xs ys : List PageWrite) → Fit n xs → Fit n ys → Fit n (xs ++ ys)
unfolding Fit
fit_append n [] ys a b = b
fit_append n (sets q p ∷ xs) ys a b = (a.0, a.1, fit_append n xs ys a.2 b)

pub fit_take : (n k : ℕ) (ws : List PageWrite) → Fit n ws → Fit n (take k ws)
unfolding Fit
fit_take n zero ws a = tt
fit_take n (suc k) [] a = tt
fit_take n (suc k) (sets q p ∷ ws) a = (a.0, a.1, fit_take n k ws a.2)

pub applied_sized : (n : ℕ) (ws : List PageWrite) (s : Pages) → Fit n ws → Sized n s → Sized n (applied ws s)
unfolding Fit applied written
applied_sized n [] s a S = S
applied_sized n (sets q p ∷ ws) s a S = applied_sized n ws _ a.2 (updated_sized n s q p a.0 a.1 S)

module _ (g : Geometry) where
  -- the records of a list are records, and what is to be written for them are pages
  unfoldable pub Writable : (ℕ → Page) → List ℕ → Type 0
  Writable f rs = (q : ℕ) → mem q rs ≡ true → (q < records g) × (length (f q) ≡ 32)

  later : (f : ℕ → Page) (r : ℕ) (rs : List ℕ) → Writable f (r ∷ rs) → Writable f rs
  unfolding Writable
  later f r rs h q e = h q (mem_later q r rs e)

  fit_intentions : (f : ℕ → Page) (rs : List ℕ) → Writable f rs → Fit (page_count g) (intentions g f rs)
  unfolding Fit Writable intentions intention page_count
  fit_intentions f [] h = tt
  fit_intentions f (r ∷ rs) h = let e = h r (mem_head r rs) in (omega arith, e.1, fit_intentions f rs (later f r rs h))

  fit_homes : (f : ℕ → Page) (rs : List ℕ) → Writable f rs → Fit (page_count g) (homes g f rs)
  unfolding Fit Writable homes home page_count
  fit_homes f [] h = tt
  fit_homes f (r ∷ rs) h = let e = h r (mem_head r rs) in (omega arith, e.1, fit_homes f rs (later f r rs h))

  fit_marks : (m : ℕ) (ws : List PageWrite) → Fit (page_count g) ws → Fit (page_count g) (marks g m ∷ ws)
  unfolding Fit marks page_count
  fit_marks m ws a = (omega arith, commit_page-length g m, a)

  fit_last : Fit (page_count g) (marks g 0 ∷ [])
  unfolding Fit
  fit_last = fit_marks 0 [] tt

  pub fit_commit : (f : ℕ → Page) (m : ℕ) (rs : List ℕ) → Writable f rs → Fit (page_count g) (commit_writes g f m rs)
  unfolding Fit commit_writes
  fit_commit f m [] h = tt
  fit_commit f m (r ∷ rs) h =
      fit_append (page_count g) (intentions g f (r ∷ rs)) (marks g m ∷ (homes g f (r ∷ rs) ++ (marks g 0 ∷ []))) (fit_intentions f (r ∷ rs) h)
      (fit_marks m (homes g f (r ∷ rs) ++ (marks g 0 ∷ [])) (fit_append (page_count g) (homes g f (r ∷ rs)) (marks g 0 ∷ []) (fit_homes f (r ∷ rs) h) fit_last))

  pub fit_recover : (f : ℕ → Page) (rs : List ℕ) → Writable f rs → Fit (page_count g) (recover_writes g f rs)
  unfolding Fit recover_writes
  fit_recover f [] h = tt
  fit_recover f (r ∷ rs) h = fit_append (page_count g) (homes g f (r ∷ rs)) (marks g 0 ∷ []) (fit_homes f (r ∷ rs) h) fit_last

  pub fit_prepare : (f : ℕ → Page) (p : Prepared) (rs : List ℕ) → Writable f rs → Fit (page_count g) (prepare_writes g f p rs)
  unfolding Fit prepare_writes page_count
  fit_prepare f p [] h = tt
  fit_prepare f p (r ∷ rs) h = fit_append (page_count g) (intentions g f (r ∷ rs)) (sets 0 (prepared_page g p) ∷ []) (fit_intentions f (r ∷ rs) h) (omega arith, prepared_page-length g p, tt)

  pub fit_decide : (d : Bool) (f : ℕ → Page) (m : ℕ) (rs : List ℕ) → Writable f rs → Fit (page_count g) (decide_writes g d f m rs)
  unfolding decide_writes
  fit_decide true f m rs h = fit_marks m (recover_writes g f rs) (fit_recover f rs h)
  fit_decide false f m rs h = fit_last
