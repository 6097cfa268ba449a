-- Where nothing can be prepared, kinds 9 to 11 are bad events and a page with state 3 is damaged: the rules are those without prepare, decide and
-- query.
use mathlib.Core.Path.{◌≡◌, refl, ap, ◌∙◌}
use mathlib.Core.Bool.{Bool, true, false, ◌&&◌}
use mathlib.Core.Option.{none, some}
use Prim.Native.Nat.{ℕ, suc, ◌-◌, ◌^◌, ◌<◌}
use native.Mathlib.Omega.{arith}
use Rattle.laws.specs.Tests.{under}
use Rattle.laws.proofs.Booleans.{and_right, clash}
use Rattle.rules.specs.Geometry.{Geometry}
use Rattle.rules.specs.Store.{Page, Pages, read_commit, read_prepared, is_prepared, is_damaged, damaged, pending}
use Rattle.rules.specs.Event.{prepare, decide, query, Fields, fields, uses_of, well_formed, decode, fits}
use Rattle.rules.proofs.JointKinds.{plain_kinds}
use Rattle.rules.proofs.Event.{decode_fits}
use Rattle.rules.proofs.Prepares.{pending_free}

-- fields of a kind that isn't known are no event's
unknown_bad : (g : Geometry) (x : Fields) → (uses_of g x.kind).known ≡ false → well_formed g x ≡ false
unfolding well_formed
unknown_bad g x e = rw e

module _ (g : Geometry) (plain : g.joint ≡ false) where
  -- the kinds above 8 are bad events, whatever the other fields
  pub no_kind : (w : ℕ) → 8 < (fields g w).kind → decode g w ≡ none
  unfolding decode
  no_kind w h = rw (unknown_bad g (fields g w) (unknown (fields g w).kind h))
    where
      unknown : (k : ℕ) → 8 < k → (uses_of g k).known ≡ false
      unknown k h = let e : k ≡ suc (suc (suc (suc (suc (suc (suc (suc (suc (k - 9))))))))) = omega (arith, h) in ap (λ (j : ℕ). (uses_of g j).known) e ∙ plain_kinds g plain (k - 9)

  pub no_prepare : (w t k i : ℕ) → decode g w ≡ some (prepare t k i) → ⊥
  unfolding fits
  no_prepare w t k i e = clash (and_right (under t 32 && under k (2 ^ g.cut_bits) && under i 256) g.joint (decode_fits g w (prepare t k i) e)) plain

  pub no_decide : (w : ℕ) (d : Bool) (k i : ℕ) → decode g w ≡ some (decide d k i) → ⊥
  unfolding fits
  no_decide w d k i e = clash (and_right (under k (2 ^ g.cut_bits) && under i 256) g.joint (decode_fits g w (decide d k i) e)) plain

  pub no_query : (w i : ℕ) → decode g w ≡ some (query i) → ⊥
  unfolding fits
  no_query w i e = clash (and_right (under i 256) g.joint (decode_fits g w (query i) e)) plain

  pub none-prepared : (page : Page) → read_prepared g page ≡ none
  unfolding read_prepared
  none-prepared page = rw plain

  -- a page that has no map is damaged
  pub plain_damaged : (s : Pages) → damaged g s ≡ is_damaged (read_commit g (s 0))
  unfolding damaged is_prepared
  plain_damaged s = rw (none-prepared (s 0)) (go (is_damaged (read_commit g (s 0))))
    where
      go : (b : Bool) → (b && true) ≡ b
      go true = refl
      go false = refl

  pub none-pending : (s : Pages) (r : ℕ) → pending g s r ≡ none
  none-pending s r = pending_free g s (none-prepared (s 0)) r
