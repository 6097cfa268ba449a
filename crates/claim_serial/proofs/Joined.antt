-- As if one transaction at a time, of a chain of portions: a chain leaves what its joined list leaves, and of lists of words it is proved.
use mathlib.Core.Path.{◌≡◌, sym, ap, subst⁻¹, ◌∙◌}
use mathlib.Core.Bool.{Bool, false}
use mathlib.Core.List.{List}
use Prim.Native.Nat.{ℕ}
use lib.ListN.{length}
use Rattle.rules.specs.State.{down}
use Rattle.rules.specs.Form.{Form}
use Rattle.rules.specs.Step.{StateOf}
use Rattle.rules.specs.Portion.{Lent, chain_from}
use Rattle.rules.proofs.Medium.{MediumLaws}
use Rattle.history.specs.Demand3.{Row, settled_in}
use Rattle.history.specs.Claims.{state_after, rows_after}
use Rattle.history.specs.Joined.{rows_joined}
use Rattle.history.proofs.Claims.{rows_played}
use Rattle.history.proofs.Joined.{rows_joined_lem, settled_joined}
use Rattle.claim_serial.specs.OneAtATime.{Replays, in_order, replay, settled_after, OneAtATime, OneAtATimeHolds}
use Rattle.claim_serial.specs.Joined.{OneChainAtATimeHolds}
use Rattle.claim_serial.proofs.OneAtATime.{one_at_a_time}

module _ (f : Form) (L : MediumLaws f.geometry f.medium) (sound : StateOf f → Bool) (store : List ℕ) (sized : length store ≡ f.medium.size) where
  abbrev joined : List Lent → List ℕ
  joined ls = (chain_from f sound store ls).joined

  rows_are : (ls : List Lent) → rows_joined f sound store ls ≡ rows_after f store (joined ls)
  unfolding rows_after
  rows_are ls = rows_joined_lem f L sound store sized ls ∙ sym (rows_played f (down (f.medium.from_bytes store)) (joined ls))

  settled_are : (ls : List Lent) (r : ℕ) → settled_in f (chain_from f sound store ls).store r ≡ settled_after f store (joined ls) r
  unfolding settled_after state_after
  settled_are ls r = settled_joined f L sound store sized ls r

  module _ (ls ls' : List Lent) (again : joined ls' ≡ replay f store (rows_joined f sound store ls)) where
    claim : OneAtATime f store (joined ls)
    claim = unfold OneAtATimeHolds in one_at_a_time f L store (joined ls) sized

    same_list : joined ls' ≡ replay f store (rows_after f store (joined ls))
    same_list = again ∙ ap (replay f store) (rows_are ls)

    pub right : f.medium.damaged (f.medium.from_bytes store) ≡ false → Replays (in_order f store (rows_joined f sound store ls)) (rows_joined f sound store ls')
    right good =
        subst⁻¹ (λ (xs : List Row). Replays (in_order f store xs) (rows_joined f sound store ls')) (rows_are ls)
        (subst⁻¹ (λ (ys : List Row). Replays (in_order f store (rows_after f store (joined ls))) ys) (rows_are ls' ∙ ap (rows_after f store) same_list) (claim.right good))

    pub records_same : (r : ℕ) → settled_in f (chain_from f sound store ls').store r ≡ settled_in f (chain_from f sound store ls).store r
    records_same r =
        settled_are ls' r ∙ ap (λ (vs : List ℕ). settled_after f store vs r) same_list ∙ claim.records_same r ∙ sym (settled_are ls r)

-- ONE CHAIN AT A TIME
pub one_chain_at_a_time : (f : Form) → MediumLaws f.geometry f.medium → (sound : StateOf f → Bool) → OneChainAtATimeHolds f sound
unfolding OneChainAtATimeHolds
one_chain_at_a_time f L sound store ls ls' sized again = record {
  right = right f L sound store sized ls ls' again;
  or_nothing = λ bad. ap (in_order f store) (rows_are f L sound store sized ls) ∙ (claim f L sound store sized ls ls' again).or_nothing bad;
  records_same = records_same f L sound store sized ls ls' again;
}
