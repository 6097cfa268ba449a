-- The bytes of a store and of a working buffer, by the number of records.
use mathlib.Core.Path.{◌≡◌, ap, ◌∙◌}
use mathlib.Core.Bool.{Bool, true, false}
use Prim.Native.Nat.{ℕ, ◌+◌, ◌*◌}
use native.Mathlib.Omega.{arith}
use Rattle.rules.specs.Geometry.{Geometry, records, page_count, work_size}
use Rattle.rules.specs.Editions.{depths, medium_of}
use Rattle.store_length.specs.Lengths.{store_bytes, work_bytes_for}

module _ (n : ℕ) (g : Geometry) (many : records g ≡ n) where
  pub store_size : (tears : Bool) → (medium_of tears g).size ≡ store_bytes tears n
  unfolding page_count
  store_size false = let h : (1 + (records g + records g)) * 32 ≡ store_bytes false n = omega (arith, many) in h
  store_size true = let h : (1 + (records g + records g)) * 66 ≡ store_bytes true n = omega (arith, many) in h

  -- the pages of a store
  pub pages_are : page_count g ≡ 1 + (n + n)
  unfolding page_count
  pages_are = let h : 1 + (records g + records g) ≡ 1 + (n + n) = omega (arith, many) in h

  pub work_size_lem : g.depth_limit ≡ depths → work_size g ≡ work_bytes_for n
  unfolding work_size
  work_size_lem deep = ap (λ (d : ℕ). records g * d * 32) deep ∙ (let h : records g * depths * 32 ≡ work_bytes_for n = omega (arith, many) in h)
