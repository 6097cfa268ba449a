-- What a top transaction has of the records, by the map of those that it changed.
use mathlib.Core.Path.{◌≡◌, sym, ap, ap₂, ◌∙◌, fun_ext}
use mathlib.Core.Bool.{Bool, cond}
use mathlib.Core.Option.{none, some}
use Prim.Native.Nat.{ℕ, ◌+◌, ◌-◌, ◌*◌}
use native.Mathlib.Omega.{arith}
use lib.ListN.{get_or}
use Rattle.laws.specs.Tests.{under}
use Rattle.laws.proofs.Tests.{Is, is_cases, yes', no', under-lt, not-under}
use Rattle.rules.specs.Geometry.{Geometry, records}
use Rattle.rules.specs.Store.{pages_of, map_of, named}
use Rattle.rules.specs.Editions.{depths, form_in}
use Rattle.rules.proofs.Map.{named-map_of}
use Rattle.leaf_set.specs.Sets.{sets}
use Rattle.leaf_set.proofs.Sets.{sets_past}
use Rattle.state_array.specs.View.{slot, versions_of}
use Rattle.store_commit.specs.Phase.{top_slot, versions_in}
use Rattle.state_whole.specs.Whole.{Arrays, view, Formed}

module _ (tears : Bool) (g : Geometry) where
  module _ (x : Arrays) (F : Formed (form_in tears g) x) (t m : ℕ) (mapped : m ≡ map_of g (λ r. sets x.writers r t)) (top : get_or x.depth t 0 ≡ 1) where
    abbrev d : ℕ
    d = get_or x.depth t 0

    version_at : (r : ℕ) → Is (under r (records g)) → cond (sets x.writers r t) (some (pages_of x.work (slot r d))) none ≡ versions_in g m x.work r
    unfolding versions_in top_slot slot
    version_at r (yes' e) =
        let s : r * depths + (d - 1) ≡ r * depths = omega arith in
        rw e (ap₂ (λ (c : Bool) (n : ℕ). cond c (some (pages_of x.work n)) none)
        (sym (ap (λ (m : ℕ). named g m r) mapped ∙ named-map_of g (λ r. sets x.writers r t) r (under-lt r (records g) e))) s)
    version_at r (no' e) =
        rw e (ap (λ (c : Bool). cond c (some (pages_of x.work (slot r d))) none) (sets_past x.writers r t (let h = not-under r (records g) e in let k = F.writerss in omega arith)))

    pub top_versions : (view (form_in tears g) x).version t ≡ versions_in g m x.work
    unfolding view versions_of
    top_versions = fun_ext (λ r. version_at r (is_cases (under r (records g))))
