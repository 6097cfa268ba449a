-- The line of a transaction by its depth: alone at the top, else above it stands its parent, which is another and one less deep. Every parent is a
-- name, and the sets of children say who has a child.
use mathlib.Core.Path.{◌≡◌, refl, sym, ap, ◌∙◌, fun_ext}
use mathlib.Core.Bool.{Bool, true}
use mathlib.Core.List.{List, [], ◌∷◌}
use mathlib.Core.Logic.{◌≢◌, ◌⊎◌, inl, inr}
use Prim.Native.Nat.{ℕ, zero, suc, ◌<◌}
use native.Mathlib.Omega.{arith}
use lib.ListN.{get_or}
use Rattle.laws.specs.Counting.{any}
use Rattle.rules.specs.Geometry.{nobody}
use Rattle.rules.specs.State.{Bearers, parent_in, depth_in, line_from, line_of, live}
use Rattle.rules.specs.Form.{Form}
use Rattle.rules.specs.Step.{has_child}
use Rattle.rules.proofs.Bearers.{up_one}
use Rattle.rules.proofs.Locks.{rooted_of}
use Rattle.leaf_set.specs.Sets.{sets}
use Rattle.state_array.specs.View.{bearer_at, bearers_of}
use Rattle.state_array.specs.Kin.{DerivedSets}
use Rattle.state_array.proofs.View.{depth_is, parent_is, child_is}
use Rattle.state_whole.specs.Whole.{Arrays, view, Intact}

module _ (f : Form) where
  module _ (x : Arrays) (I : Intact f x) (t : ℕ) where
    abbrev b : Bearers
    b = bearers_of x.parent x.depth

    abbrev d : ℕ → ℕ
    d j = get_or x.depth j 0

    pub top_line : d t ≡ 1 → line_of b t ≡ t ∷ []
    unfolding line_of line_from
    top_line top = ap (λ (m : ℕ). line_from b m t) (depth_is x.parent x.depth t ∙ top)

    module _ (n : ℕ) (deep : d t ≡ suc (suc n)) where
      abbrev p : ℕ
      p = get_or x.parent t 0

      pub parent_there : parent_in (b t) ≡ p
      parent_there = parent_is x.parent x.depth t (suc n) deep

      pub parent_deep : d p ≡ suc n
      unfolding view
      parent_deep =
          sym (depth_is x.parent x.depth p) ∙ ap (λ (j : ℕ). depth_in (b j)) (sym parent_there)
          ∙ up_one (rooted_of I.sound) t (suc n) (depth_is x.parent x.depth t ∙ deep)

      pub parent_other : p ≢ t
      parent_other e = let k = parent_deep in let m : d p ≡ d t = ap d e in absurd (omega arith)

      pub line_up : line_of b t ≡ t ∷ line_of b p
      unfolding line_of line_from
      line_up =
          ap (λ (m : ℕ). line_from b m t) (depth_is x.parent x.depth t ∙ deep)
          ∙ ap (λ (j : ℕ). t ∷ line_from b (suc n) j) parent_there
          ∙ ap (λ (m : ℕ). t ∷ line_from b m p) (sym (depth_is x.parent x.depth p ∙ parent_deep))

      -- the parent's own line begins with it
      pub parent_line : line_of b p ≡ p ∷ line_from b n (parent_in (b p))
      unfolding line_of line_from
      parent_line = ap (λ (m : ℕ). line_from b m p) (depth_is x.parent x.depth p ∙ parent_deep)

  -- every parent is a name: of a free number 0, of others nobody's or a live number
  pub parent_named : (x : Arrays) → Intact f x → (t : ℕ) → get_or x.parent t 0 < 32
  unfolding view bearers_of bearer_at
  parent_named x I t = go (get_or x.depth t 0) refl
    where
      go : (n : ℕ) → get_or x.depth t 0 ≡ n → get_or x.parent t 0 < 32
      go zero e = let z = I.form.tidy t e in omega arith
      go (suc n) e = named (I.sound.parented t (get_or x.parent t 0) (suc n) (ap (bearer_at (get_or x.parent t 0)) e))
        where
          named : (get_or x.parent t 0 ≡ nobody) ⊎ (live (view f x) (get_or x.parent t 0) ≡ true) → get_or x.parent t 0 < 32
          named (inl q) = omega arith
          named (inr q) = let h = I.sound.numbered (get_or x.parent t 0) q in omega arith

  -- the set of t's children is empty exactly if the rules find no child of t
  pub child_test : (x : Arrays) (live : ℕ) (children : List ℕ) (t : ℕ) (b : Bool) → DerivedSets x.parent x.depth live children → t < 32 → b ≡ any 24 (sets children t) → b ≡ has_child (view f x) t
  unfolding view has_child live
  child_test x live children t b K h e = e ∙ ap (any 24) (K.under t h ∙ fun_ext (λ u. child_is x.parent x.depth t u))
