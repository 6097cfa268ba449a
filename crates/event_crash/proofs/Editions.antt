-- An edition in the numbers that the code gets: how its commit page lies, and which numbers there are.
use mathlib.Core.Path.{◌≡◌, refl, sym, subst, ◌∙◌}
use mathlib.Core.Bool.{Bool, true, false, true≢false}
use Prim.Native.Nat.{ℕ, ◌+◌, ◌*◌, ◌≤◌}
use native.Mathlib.Omega.{arith}
use Rattle.rules.specs.Geometry.{Geometry, records, page_count}
use Rattle.rules.specs.Editions.{Edition, first, second, paired, geometry_of, medium_of, form_of, InNumbers, depths}
use Rattle.state_whole.specs.Whole.{Served}
use Rattle.leaf_commit_page.specs.Layout.{Known, Layout}
use Rattle.leaf_commit_page.proofs.Places.{laid, known_records, joint_sixteen, known_small}
use Rattle.store_write.specs.Phase.{stride_of}

-- where transactions can be prepared no page tears
joint_whole : (k : Edition) → (geometry_of k).joint ≡ true → (geometry_of k).tears ≡ false
joint_whole first e = refl
joint_whole second e = refl
joint_whole paired e = absurd (true≢false (sym e))

module _ (k : Edition) (n : ℕ) (joint tears : Bool) (N : InNumbers k n joint tears) where
  pub layout_of : Layout (geometry_of k) n
  layout_of = subst (Layout (geometry_of k)) N.many (laid k)

  pub known_of : Known n
  known_of = subst Known N.many (known_records k)

  -- where transactions can be prepared there are sixteen records, and no page tears
  pub joint_of : joint ≡ true → n ≡ 16
  joint_of e = sym N.many ∙ joint_sixteen k (N.two_phase ∙ e)

  pub whole_of : joint ≡ true → tears ≡ false
  whole_of e = sym N.torn ∙ joint_whole k (N.two_phase ∙ e)

pub few : (n : ℕ) → Known n → n ≤ 64
few n K = (known_small n K).0

-- every edition is one that the engine serves
pub served_of : (k : Edition) → Served (form_of k)
served_of k = record { few = few (records (geometry_of k)) (known_records k); deep = deep k }
  where
    deep : (k : Edition) → (geometry_of k).depth_limit ≡ depths
    deep first = refl
    deep second = refl
    deep paired = refl

-- a store's bytes
pub size_is : (tears : Bool) (g : Geometry) (n : ℕ) → records g ≡ n → (medium_of tears g).size ≡ stride_of tears * (1 + (n + n))
unfolding page_count
size_is false g n e = let h : (1 + (records g + records g)) * 32 ≡ 32 * (1 + (n + n)) = omega arith in h
size_is true g n e = let h : (1 + (records g + records g)) * 66 ≡ 66 * (1 + (n + n)) = omega arith in h
