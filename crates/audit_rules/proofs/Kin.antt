-- Who is live, how deep, whose parent: as the history tells it.
use mathlib.Core.Path.{◌≡◌, refl, sym, ap, ◌∙◌, fun_ext}
use mathlib.Core.Bool.{true, not, cond, ◌&&◌}
use mathlib.Core.List.{List, [], ◌∷◌}
use mathlib.Core.Logic.{◌≢◌}
use Prim.Native.Nat.{ℕ, zero, suc, ◌<◌, ◌≤◌}
use native.Mathlib.Omega.{arith}
use Rattle.laws.specs.Tests.{same}
use Rattle.laws.specs.Counting.{any}
use Rattle.laws.proofs.Tests.{same_cases, Same, is, isnt, same_refl, ne_false, Is, is_cases, yes', no'}
use Rattle.laws.proofs.Booleans.{clash}
use Rattle.rules.specs.Geometry.{nobody, transactions}
use Rattle.rules.specs.State.{Bearer, Bearers, free, active, is_active, parent_in, depth_in, line_of, open_state}
use Rattle.rules.proofs.Tree.{is_cons}
use Rattle.rules.proofs.Bearers.{Rooted, rooted_tree, active_line, parent_line}
use Rattle.history.specs.History.{History}
use Rattle.history.proofs.Roots.{Root}
use Rattle.history.proofs.Table.{Table, bearer_some, bearer_one}
use Rattle.audit_rules.specs.Plain.{borne, height, depth_of, is_parent}

module _ {b : Bearers} {h : History} {root : ℕ → Root} (T : Table b h root) where
  pub borne_is : (t : ℕ) → borne h t ≡ is_active (b t)
  unfolding borne
  borne_is t = go (is_cases (is_active (b t)))
    where
      go : Is (is_active (b t)) → not (same (h.bearer t) 0) ≡ is_active (b t)
      go (yes' e) = rw (ne_false (h.bearer t) 0 (bearer_some T t e), e)
      go (no' e) = rw (T.vacant t e, same_refl 0, e)

  module _ {limit : ℕ} (S : Rooted limit nobody b) where
    -- the parent of a live transaction is begun before it
    before : (t p d : ℕ) → b t ≡ active p d → h.bearer p < h.bearer t
    unfolding is_active
    before t p d q = rw (T.above t p d q) at (T.earlier (h.bearer t) (let z = bearer_some T t (rw q) in omega arith))

    height_is : (n t : ℕ) → h.bearer t ≤ n → height h.parent n (h.bearer t) ≡ depth_in (b t)
    unfolding height open_state
    height_is zero t le = go (b t) refl
      where
        go : (c : Bearer) → b t ≡ c → 0 ≡ depth_in c
        go free q = refl
        go (active p d) q = absurd (bearer_some T t (rw q) (omega arith))
    height_is (suc n) t le = go (b t) refl (λ p k. height_is n p k)
      where
        go : (c : Bearer) → b t ≡ c → ((p : ℕ) → h.bearer p ≤ n → height h.parent n (h.bearer p) ≡ depth_in (b p))
            → cond (same (h.bearer t) 0) 0 (suc (height h.parent n (h.parent (h.bearer t)))) ≡ depth_in c
        go free q ih = rw (T.vacant t (rw q), same_refl 0)
        go (active p d) q ih =
            rw (ne_false (h.bearer t) 0 (bearer_some T t (rw q)), T.above t p d q, ih p (let k = before t p d q in omega (arith, k))) (sym (S.level t p d q))

    pub depth_is : (t : ℕ) → depth_of h (h.bearer t) ≡ depth_in (b t)
    unfolding depth_of
    depth_is t = height_is (h.bearer t) t (omega arith)

    -- a live transaction's parent is that of number t
    parent_same : (u t : ℕ) → is_active (b t) ≡ true → (borne h u && same (h.parent (h.bearer u)) (h.bearer t)) ≡ (is_active (b u) && same (parent_in (b u)) t)
    unfolding open_state
    parent_same u t e = rw (borne_is u) (go (b u) refl)
      where
        go : (c : Bearer) → b u ≡ c → (is_active c && same (h.parent (h.bearer u)) (h.bearer t)) ≡ (is_active c && same (parent_in c) t)
        go free q = refl
        go (active p d) q = rw (T.above u p d q) (each (same_cases p t))
          where
            each : Same p t → same (h.bearer p) (h.bearer t) ≡ same p t
            each (is z s _) = rw (z, same_refl (h.bearer t), same_refl t)
            each (isnt z s _) = ne_false (h.bearer p) (h.bearer t) (other (is_cases (is_active (b p)))) ∙ sym s
              where
                other : Is (is_active (b p)) → h.bearer p ≢ h.bearer t
                other (yes' l) y = z (bearer_one T p t l e y)
                other (no' l) y = bearer_some T t e (sym y ∙ T.vacant p l)

    pub child_is : (t : ℕ) → is_active (b t) ≡ true → is_parent h (h.bearer t) ≡ any transactions (λ u. is_active (b u) && same (parent_in (b u)) t)
    unfolding is_parent
    child_is t e = ap (any transactions) (fun_ext (λ u. parent_same u t e))

    -- by the line of x: the parent of a top transaction is none, that of a child is the next on the line
    pub top_parent : (x a : ℕ) → line_of b x ≡ a ∷ [] → h.parent (h.bearer x) ≡ 0
    unfolding open_state
    top_parent x a top = go (b x) refl
      where
        go : (c : Bearer) → b x ≡ c → h.parent (h.bearer x) ≡ 0
        go free q = clash {b = is_cons (line_of b x)} (ap is_cons top) (sym (active_line S x) ∙ ap is_active q)
        go (active p d) q =
            let e : x ∷ line_of b p ≡ a ∷ [] = sym (parent_line S x p d q) ∙ top in
            let none_up : line_of b p ≡ [] = cc in
            T.above x p d q ∙ T.vacant p (active_line S p ∙ ap is_cons none_up)

    pub child_parent : (x a y : ℕ) (l : List ℕ) → line_of b x ≡ a ∷ y ∷ l → h.parent (h.bearer x) ≡ h.bearer y
    unfolding open_state
    child_parent x a y l line = go (b x) refl
      where
        go : (c : Bearer) → b x ≡ c → h.parent (h.bearer x) ≡ h.bearer y
        go free q = clash {b = is_cons (line_of b x)} (ap is_cons line) (sym (active_line S x) ∙ ap is_active q)
        go (active p d) q =
            let e : x ∷ line_of b p ≡ a ∷ y ∷ l = sym (parent_line S x p d q) ∙ line in
            let up : line_of b p ≡ y ∷ l = cc in
            T.above x p d q ∙ ap h.bearer (sym ((rooted_tree S).first p y l up))
