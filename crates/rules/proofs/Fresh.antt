-- A fresh store, laid as bytes: it has an empty commit page, and zeros for every record.
use mathlib.Core.Path.{◌≡◌, ◌∙◌, ap}
use mathlib.Core.Bool.{Bool, true, false, cond}
use Prim.Native.Nat.{ℕ, ◌+◌, ◌<◌}
use native.Mathlib.Omega.{arith}
use lib.ListN.{length, length-replicate}
use Rattle.laws.specs.Tests.{same}
use Rattle.laws.proofs.Tests.{same_cases, Same, is, isnt, same_refl}
use Rattle.rules.specs.Geometry.{Geometry, Proper, records, page_count}
use Rattle.rules.specs.Store.{Pages, pages_of, flat, blank, home, commit_page, read_commit, is_emptied, emptied, settled, fresh}
use Rattle.rules.proofs.CommitPage.{commit_page-length}
use Rattle.rules.proofs.Shows.{emptied-zero}
use Rattle.rules.proofs.Cuts.{home_settled}
use Rattle.rules.proofs.Pages.{flat_page}

module _ (g : Geometry) where
  -- the pages that the bytes of a fresh store spell
  unfoldable pub laid : Pages
  laid = pages_of (flat (page_count g) (fresh g))

  fresh_full : (p : ℕ) → p < page_count g → length (fresh g p) ≡ 32
  unfolding fresh blank
  fresh_full p h = go (same p 0)
    where
      go : (b : Bool) → length (cond b (commit_page g 0) blank) ≡ 32
      go true = commit_page-length g 0
      go false = length-replicate {A = ℕ} 32 0

  pub laid_page : (p : ℕ) → p < page_count g → laid p ≡ fresh g p
  unfolding laid
  laid_page p h = flat_page (page_count g) (fresh g) fresh_full p h

  pub laid_emptied : Proper g → emptied g laid ≡ true
  unfolding emptied fresh page_count
  laid_emptied proper = ap (λ p. is_emptied (read_commit g p)) (laid_page 0 (omega arith) ∙ rw (same_refl 0)) ∙ emptied-zero g proper

  pub laid_settled : Proper g → (r : ℕ) → r < records g → settled g laid r ≡ blank
  unfolding home page_count fresh
  laid_settled proper r h = home_settled g laid (laid_emptied proper) r ∙ laid_page (1 + (records g + r)) (omega arith) ∙ go (same_cases (1 + (records g + r)) 0)
    where
      go : Same (1 + (records g + r)) 0 → fresh g (1 + (records g + r)) ≡ blank
      go (is e _ _) = absurd (omega arith)
      go (isnt e z _) = rw z
