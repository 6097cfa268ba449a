-- What a store says before a recovery, from what its commit page says and whether some page has no good copy.
use mathlib.Core.Path.{◌≡◌, refl, ap, ap₂, ◌∙◌}
use mathlib.Core.Bool.{Bool, true, false, not, ◌&&◌, ◌||◌}
use Prim.Native.Nat.{ℕ, ◌+◌}
use native.Mathlib.Omega.{arith}
use Rattle.laws.specs.Counting.{any}
use Rattle.rules.specs.Geometry.{Geometry, records, page_count}
use Rattle.rules.specs.Store.{damaged}
use Rattle.rules.specs.Pairs.{Pairs, shown, all_bad, damaged_pairs}
use Rattle.leaf_commit_page.specs.Heard.{understood}
use Rattle.leaf_commit_page.specs.declared.CommitMap.{CommitMap}
use Rattle.store_write.specs.Phase.{StoreOf, shown_in, lost_in}
use Rattle.store_commit.specs.Phase.{understood_in}

neither : (x y : Bool) → (not x && not y) ≡ not (x || y)
neither true y = refl
neither false y = refl

module _ (g : Geometry) (n : ℕ) (many : records g ≡ n) where
  count_is : 1 + n + n ≡ page_count g
  unfolding page_count
  count_is = omega (arith, many)

  paired : (s : Pairs) (c : CommitMap) (lost : Bool) → lost ≡ any (1 + n + n) (λ p. all_bad (s p)) → c ≡ understood g (shown s 0)
      → (not lost && c.good) ≡ not (damaged_pairs g s)
  unfolding damaged_pairs damaged understood
  paired s c lost e h =
      ap₂ (λ (x y : Bool). not x && y) (e ∙ ap (λ (k : ℕ). any k (λ p. all_bad (s p))) count_is) (ap (λ (d : CommitMap). d.good) h)
      ∙ neither (any (page_count g) (λ p. all_bad (s p))) (damaged g (shown s))

  pub understood_is : (b : Bool) (s : StoreOf b) (c : CommitMap) (lost : Bool) → lost ≡ lost_in b (1 + n + n) s → c ≡ understood g (shown_in b s 0)
      → ◌≡◌ {A = CommitMap} (record { good = not lost && c.good; map = c.map }) (understood_in b g s)
  unfolding understood
  understood_is false s c lost e h = ap₂ (λ (x : Bool) (d : CommitMap). record { good = not x && d.good; map = d.map }) e h
  understood_is true s c lost e h = λ i. record { good = paired s c lost e h i; map = ap (λ (d : CommitMap). d.map) h i }
