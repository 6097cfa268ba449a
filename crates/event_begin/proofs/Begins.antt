-- Begins, in the rules.
use mathlib.Core.Path.{◌≡◌, refl, sym, ap, ap₂, subst⁻¹, ◌∙◌, fun_ext}
use mathlib.Core.Bool.{Bool, true, false, cond, ◌||◌, or-true}
use mathlib.Core.List.{List, ◌∷◌}
use mathlib.Core.Logic.{◌≢◌}
use mathlib.Core.Option.{none, some}
use Prim.Native.Nat.{ℕ, zero, suc, ◌+◌, ◌<◌, ◌≤◌}
use native.Mathlib.Omega.{arith}
use native.Mathlib.Numerals.{add-one}
use lib.ListN.{length, get_or, set, length-set}
use lib.Seq.{get_or-set_same, get_or-set_other}
use Rattle.laws.specs.Tests.{same}
use Rattle.laws.specs.Counting.{lowest}
use Rattle.laws.specs.Functions.{updated}
use Rattle.laws.specs.Bits.{bits}
use Rattle.laws.proofs.Tests.{same_cases, Same, is, isnt, same_refl, same-eq, ne_false}
use Rattle.laws.proofs.Booleans.{refute, clash}
use Rattle.laws.proofs.Counting.{Lowest, found, missing, lowest_is}
use Rattle.rules.specs.Geometry.{nobody}
use Rattle.rules.specs.Store.{pages_of}
use Rattle.rules.specs.Event.{begin}
use Rattle.rules.specs.State.{Bearers, active, is_active, depth_in, line_of, mem, live}
use Rattle.rules.specs.Form.{Form}
use Rattle.rules.specs.Step.{first_free, begun, finished}
use Rattle.rules.specs.Editions.{depths}
use Rattle.rules.proofs.Bearers.{begun_in, begun_line}
use Rattle.rules.proofs.Locks.{rooted_of, version_live}
use Rattle.leaf_set.specs.Sets.{sets}
use Rattle.leaf_set.proofs.Sets.{sets-set}
use Rattle.state_array.specs.View.{bearer_at, bearers_of, slot, versions_of}
use Rattle.state_array.specs.Changes.{SetChanged}
use Rattle.state_array.specs.Kin.{DerivedSets}
use Rattle.state_array.proofs.Kin.{kin_begun}
use Rattle.state_array.proofs.View.{depth_is, free_is}
use Rattle.state_whole.specs.Whole.{Arrays, arrays, view, line_in, Intact, Stepped}
use Rattle.state_whole.proofs.Rules.{full, not_full, begin_unknown, begin_deep, begin_full, begin_done}
use Rattle.state_whole.proofs.Steps.{answer, finishes, unmoved, state_eq, up_is, live_is, not_live, wrote_is}

module _ (form : Form) where
  -- the lowest place with depth 0 is the lowest free number
  first_free_lem : (x : Arrays) (f : ℕ) → f ≡ lowest 24 (λ u. same (get_or x.depth u 0) 0) → f ≡ first_free (view form x)
  unfolding view first_free live
  first_free_lem x f e = e ∙ ap (lowest 24) (fun_ext (λ u. free_is x.parent x.depth u))

  or_swap : (a b : Bool) → (a || b) ≡ (b || a)
  or_swap true true = refl
  or_swap true false = refl
  or_swap false true = refl
  or_swap false false = refl

  module _ (x : Arrays) (I : Intact form x) (u : x.up ≡ 1) (p f above : ℕ) (room : get_or x.depth p 0 < depths) (named : (same p nobody || live (view form x) p) ≡ true)
      (first : f ≡ lowest 24 (λ u. same (get_or x.depth u 0) 0)) (aboves : bits above ≡ sets x.line p) where
    abbrev b : Bearers
    b = bearers_of x.parent x.depth

    low : same (depth_in ((view form x).bearer p)) form.geometry.depth_limit ≡ false
    unfolding view
    low = ne_false _ _ (λ e. let k = depth_is x.parent x.depth p in let d = I.served.deep in absurd (omega arith))

    pub full_steps : f ≡ 24 → Stepped form x (some (begin p)) (answer 7 0) x
    unfolding first_free
    full_steps e =
        unmoved form x (some (begin p)) 7 I.form (begin_full form (view form x) p (up_is form x u) named low (full 24 (live (view form x)) (sym (first_free_lem x f first) ∙ e)))

    module _ (n : f ≢ 24) (line' : List ℕ) (L : SetChanged f (λ k. bits above k || same k f) x.line line') where
      f_small : f < 24
      unfolding first_free
      f_small = let q = first_free_lem x f first in let k = (not_full 24 (live (view form x)) (λ e. n (q ∙ e))).2 in omega arith

      idle : is_active (b f) ≡ false
      unfolding first_free view live
      idle = let q = first_free_lem x f first in ap (live (view form x)) q ∙ (not_full 24 (live (view form x)) (λ e. n (q ∙ e))).1

      abbrev parent' : List ℕ
      parent' = set x.parent f p

      abbrev depth' : List ℕ
      depth' = set x.depth f (get_or x.depth p 0 + 1)

      abbrev y : Arrays
      y = arrays x.up parent' depth' line' x.held x.retained x.writers x.work x.store

      bearer_at_lem : (j : ℕ) → Same j f → bearer_at (get_or parent' j 0) (get_or depth' j 0) ≡ begun_in b f p j
      unfolding bearers_of bearer_at updated
      bearer_at_lem j (is e s _) =
          let h = f_small in let k = I.form.parents in let m = I.form.depths in
          rw s (ap₂ bearer_at (ap (λ (i : ℕ). get_or parent' i 0) e ∙ get_or-set_same x.parent f p 0 (omega arith)) (ap (λ (i : ℕ). get_or depth' i 0) e ∙ get_or-set_same x.depth f (get_or x.depth p 0 + 1) 0 (omega arith) ∙ add-one (get_or x.depth p 0))
          ∙ ap (λ (d : ℕ). active p (suc d)) (sym (depth_is x.parent x.depth p)))
      bearer_at_lem j (isnt e s _) = rw s (ap₂ bearer_at (get_or-set_other x.parent f j p 0 e) (get_or-set_other x.depth f j (get_or x.depth p 0 + 1) 0 e))

      bearers_are : bearers_of parent' depth' ≡ begun_in b f p
      unfolding bearers_of
      bearers_are = fun_ext (λ j. bearer_at_lem j (same_cases j f))

      tidy_at : (j : ℕ) → Same j f → get_or depth' j 0 ≡ 0 → get_or parent' j 0 ≡ 0
      tidy_at j (is e s _) z =
          let h = f_small in let m = I.form.depths in
          let k : get_or depth' j 0 ≡ get_or x.depth p 0 + 1 = ap (λ (i : ℕ). get_or depth' i 0) e ∙ get_or-set_same x.depth f (get_or x.depth p 0 + 1) 0 (omega arith) in
          absurd (omega arith)
      tidy_at j (isnt e s _) z =
          get_or-set_other x.parent f j p 0 e ∙ I.form.tidy j (sym (get_or-set_other x.depth f j (get_or x.depth p 0 + 1) 0 e) ∙ z)

      no_writer : (r : ℕ) → sets x.writers r f ≡ false
      unfolding view live
      no_writer r = refute (sets x.writers r f) (λ e. clash (version_live I.sound f r (wrote_is form x f r ∙ e)) idle)

      version_at : (j r : ℕ) → Same j f → cond (sets x.writers r j) (some (pages_of x.work (slot r (get_or depth' j 0)))) none ≡ cond (sets x.writers r j) (some (pages_of x.work (slot r (get_or x.depth j 0)))) none
      version_at j r (is e s _) = rw (e, no_writer r)
      version_at j r (isnt e s _) = ap (λ (d : ℕ). cond (sets x.writers r j) (some (pages_of x.work (slot r d))) none) (get_or-set_other x.depth f j (get_or x.depth p 0 + 1) 0 e)

      versions_are : versions_of depth' x.writers x.work ≡ versions_of x.depth x.writers x.work
      unfolding versions_of
      versions_are = fun_ext (λ j. fun_ext (λ r. version_at j r (same_cases j f)))

      line_at : (j k : ℕ) → Same j f → updated f (λ k. bits above k || same k f) (sets x.line) j k ≡ mem k (cond (same j f) (f ∷ line_of b p) (line_of b j))
      unfolding updated mem line_in
      line_at j k (is e s _) = rw s (or_swap (bits above k) (same k f) ∙ ap (λ (c : Bool). same k f || c) (ap (λ (g : ℕ → Bool). g k) aboves ∙ ap (λ (g : ℕ → ℕ → Bool). g p k) I.form.lines))
      line_at j k (isnt e s _) = rw s (ap (λ (g : ℕ → ℕ → Bool). g j k) I.form.lines)

      lines_are : sets line' ≡ line_in (begun_in b f p)
      unfolding view line_in
      lines_are =
          ap sets L.is ∙ sets-set x.line f L.word (let h = f_small in let k = I.form.long in omega arith)
          ∙ ap {B = ℕ → ℕ → Bool} (λ (g : ℕ → Bool). updated f g (sets x.line)) L.holds
          ∙ fun_ext (λ j. fun_ext (λ k. line_at j k (same_cases j f) ∙ ap (mem k) (sym (begun_line (rooted_of I.sound) f p idle j))))

      y_is : view form y ≡ begun (view form x) f p
      unfolding view begun
      y_is = state_eq form refl bearers_are refl refl versions_are refl

      begin_steps : Stepped form x (some (begin p)) (answer 0 f) y
      unfolding first_free
      begin_steps =
          let e = first_free_lem x f first in
          finishes form x y (some (begin p)) (begun (view form x) f p) f
          (begin_done form (view form x) p (up_is form x u) named low (not_full 24 (live (view form x)) (λ q. n (e ∙ q))).0 ∙ ap (λ (i : ℕ). finished (begun (view form x) i p) i) (sym e))
          y_is
          (let F = I.form in record {
            lines = lines_are ∙ ap line_in (sym bearers_are);
            flag = F.flag;
            tidy = λ j. tidy_at j (same_cases j f);
            held_nested = F.held_nested;
            retained_nested = F.retained_nested;
            parents = length-set x.parent f p ∙ F.parents;
            depths = length-set x.depth f (get_or x.depth p 0 + 1) ∙ F.depths;
            long = ap length L.is ∙ length-set x.line f L.word ∙ F.long;
            helds = F.helds;
            retaineds = F.retaineds;
            writerss = F.writerss;
            works = F.works;
            stores = F.stores;
          })

  pub named_of : (x : Arrays) (p d : ℕ) → d ≡ get_or x.depth p 0 → (d ≡ 0 → p ≡ 31) → (same p nobody || live (view form x) p) ≡ true
  named_of x p zero e h = rw (h refl, same_refl 31)
  named_of x p (suc d) e h = rw (live_is form x p (omega arith)) (or-true (same p nobody))

  -- a free number is a place
  pub free_place : (f : ℕ) (depth : List ℕ) → f ≡ lowest 24 (λ u. same (get_or depth u 0) 0) → f ≢ 24 → f < 24
  free_place f depth e n = let k = lowest_small (lowest_is 24 (λ u. same (get_or depth u 0) 0)) in omega arith
    where
      lowest_small : Lowest 24 (λ u. same (get_or depth u 0) 0) 0 (lowest 24 (λ u. same (get_or depth u 0) 0)) → lowest 24 (λ u. same (get_or depth u 0) 0) ≤ 24
      lowest_small (found q h k) = omega arith
      lowest_small (missing q k) = omega arith

  -- and its depth is 0
  free_depth : (f : ℕ) (depth : List ℕ) → f ≡ lowest 24 (λ u. same (get_or depth u 0) 0) → f ≢ 24 → get_or depth f 0 ≡ 0
  free_depth f depth e n = same-eq (get_or depth f 0) 0 (ap (λ (i : ℕ). same (get_or depth i 0) 0) e ∙ go (lowest_is 24 (λ u. same (get_or depth u 0) 0)))
    where
      go : Lowest 24 (λ u. same (get_or depth u 0) 0) 0 (lowest 24 (λ u. same (get_or depth u 0) 0)) → same (get_or depth (lowest 24 (λ u. same (get_or depth u 0) 0)) 0) 0 ≡ true
      go (found q h k) = q
      go (missing q k) = absurd (n (e ∙ q))

  -- who has its place is among the live ones, and among the children of its parent
  pub begin_kin : (parent depth children parent' depth' children' : List ℕ) (live live' f p d : ℕ) → DerivedSets parent depth live children → length parent ≡ 24 → length depth ≡ 24
      → f ≡ lowest 24 (λ u. same (get_or depth u 0) 0) → f ≢ 24 → p < 32 → parent' ≡ set parent f p → depth' ≡ set depth f (d + 1)
      → bits live' ≡ (λ k. bits live k || same k f) → SetChanged p (λ k. sets children p k || same k f) children children' → DerivedSets parent' depth' live' children'
  begin_kin parent depth children parent' depth' children' live live' f p d K np nd first n hp P D L C =
      rw (P, D) (kin_begun parent depth children children' live live' f p (d + 1) K np nd (free_place f depth first n) (free_depth f depth first n) hp (omega arith) L C)

  -- a transaction has its place
  pub begin_placed : (x : Arrays) → Intact form x → x.up ≡ 1 → (p d f above : ℕ) → d < depths → d ≡ get_or x.depth p 0 → (d ≡ 0 → p ≡ 31)
      → f ≡ lowest 24 (λ u. same (get_or x.depth u 0) 0) → bits above ≡ sets x.line p → f ≢ 24
      → (parent depth line : List ℕ) → parent ≡ set x.parent f p → depth ≡ set x.depth f (d + 1) → SetChanged f (λ k. bits above k || same k f) x.line line
      → Stepped form x (some (begin p)) (answer 0 f) (arrays x.up parent depth line x.held x.retained x.writers x.work x.store)
  begin_placed x I u p d f above room e h first aboves n parent depth line P D L =
      subst⁻¹ (λ (l : List ℕ). Stepped form x (some (begin p)) (answer 0 f) (arrays x.up l depth line x.held x.retained x.writers x.work x.store)) P
      (subst⁻¹ (λ (l : List ℕ). Stepped form x (some (begin p)) (answer 0 f) (arrays x.up (set x.parent f p) l line x.held x.retained x.writers x.work x.store))
      (D ∙ ap (λ (m : ℕ). set x.depth f (m + 1)) e)
      (begin_steps x I u p f above (omega arith) (named_of x p d e h) first aboves n line L))

  pub begin_refuses_5 : (x : Arrays) → Intact form x → x.up ≡ 1 → (p : ℕ) → p ≢ 31 → get_or x.depth p 0 ≡ 0 → Stepped form x (some (begin p)) (answer 5 0) x
  begin_refuses_5 x I u p n e = unmoved form x (some (begin p)) 5 I.form (begin_unknown form (view form x) p (up_is form x u) (ne_false p 31 n) (not_live form x p e))

  pub begin_refuses_6 : (x : Arrays) → Intact form x → x.up ≡ 1 → (p : ℕ) → get_or x.depth p 0 ≡ depths → Stepped form x (some (begin p)) (answer 6 0) x
  unfolding view
  begin_refuses_6 x I u p e =
      unmoved form x (some (begin p)) 6 I.form (begin_deep form (view form x) p (up_is form x u) (named_of x p depths (sym e) (λ q. absurd (omega arith))) (ap (λ (n : ℕ). same n form.geometry.depth_limit) (depth_is x.parent x.depth p ∙ e ∙ sym I.served.deep) ∙ same_refl form.geometry.depth_limit))
