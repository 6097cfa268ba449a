-- The replay follows a stored decision: it is whole, and ends what is prepared.
use mathlib.Core.Path.{◌≡◌, refl, ap, subst⁻¹, ◌∙◌}
use mathlib.Core.Bool.{Bool, true, false, cond, ◌&&◌}
use mathlib.Core.Option.{Option, none, some}
use Prim.Native.Nat.{ℕ, ◌^◌}
use Rattle.laws.specs.Tests.{under}
use Rattle.laws.proofs.Tests.{same_refl}
use Rattle.laws.proofs.Booleans.{and_left, and_right}
use Rattle.rules.specs.Event.{decide, fits}
use Rattle.rules.specs.State.{live}
use Rattle.rules.specs.Versions.{else}
use Rattle.rules.specs.Commit.{Cut}
use Rattle.rules.specs.Form.{Form}
use Rattle.rules.specs.Step.{number_of, first_of, is_for, StateOf, OutcomeOf, raised, concluded, refusals, refusal, recovers, decides, act, step}
use Rattle.rules.specs.Geometry.{uncut}
use Rattle.rules.proofs.Uncut.{uncut_alone}
use Rattle.rules.proofs.Medium.{MediumLaws}
use Rattle.history.proofs.Invariant.{now}
use Rattle.history.proofs.Holder.{prepared_in, pending_in}
use Rattle.claim_serial.specs.OneAtATime.{renamed}
use Rattle.claim_serial.proofs.Mirror.{again, acting, Open}

module _ (f : Form) (L : MediumLaws f.geometry f.medium) (v : StateOf f) (O : Open f L v) (name : ℕ → ℕ) (d : Bool) (k i : ℕ)
    (here : prepared_in f v ≡ some i) (fit : fits f.geometry (decide d k i) ≡ true) where
  pub record Rules (o : OutcomeOf f) : Type 0 where
    pub right : number_of o.answer ≡ 0
    pub still_up : o.state.up ≡ true
    pub idle : ((t : ℕ) → live v t ≡ false) → (t : ℕ) → live o.state t ≡ false
    pub now_is : (r : ℕ) → now f o.state r ≡ cond d (else (pending_in f v r) (now f v r)) (now f v r)
    pub vacant : prepared_in f o.state ≡ none

  abbrev c : Cut f.medium.Store
  c = f.medium.decide v.store d (uncut f.geometry)

  whole : c.crashed ≡ false
  whole = L.decide_uncut v.store d i here

  rules : Rules (concluded (raised v c.store) c false)
  unfolding concluded raised number_of
  rules = let made = (L.decide_whole v.store d (uncut f.geometry) i here whole).1 in record {
    right = refl;
    still_up = refl;
    idle = λ e t. unfold live in e t;
    now_is = λ r. L.decide_settled v.store d (uncut f.geometry) i r here made;
    vacant = L.decide_ended v.store d (uncut f.geometry) i here made;
  }

  open_v : refusal f v (decide d (uncut f.geometry) i) ≡ none
  unfolding refusal refusals first_of
  open_v = rw O.ready

  as_ruled : act f v (decide d (uncut f.geometry) i) ≡ concluded (raised v c.store) c false
  unfolding act decides recovers is_for
  as_ruled = ap (λ (o : Option ℕ). decides f v d (uncut f.geometry) (is_for i o)) here ∙ ap (decides f v d (uncut f.geometry)) (same_refl i) ∙ ap (concluded (raised v c.store) c) whole

  pub follow_decide : Rules (step f v (some (again f name (decide d k i))))
  unfolding renamed
  follow_decide = subst⁻¹ (λ (o : OutcomeOf f). Rules o) (acting f v (decide d (uncut f.geometry) i) open_v ∙ as_ruled) rules

  pub fit_decide : fits f.geometry (again f name (decide d k i)) ≡ true
  unfolding renamed fits
  fit_decide =
      rw (
        uncut_alone f.geometry (L.joint_untorn (and_right (under k (2 ^ f.geometry.cut_bits) && under i 256) f.geometry.joint fit)),
        and_right (under k (2 ^ f.geometry.cut_bits)) (under i 256) (and_left (under k (2 ^ f.geometry.cut_bits) && under i 256) f.geometry.joint fit),
        and_right (under k (2 ^ f.geometry.cut_bits) && under i 256) f.geometry.joint fit,
      )
