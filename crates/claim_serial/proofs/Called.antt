-- As if one transaction at a time, of calls that keep a portion's promise: they are a chain of portions, of which it is proved.
use mathlib.Core.Path.{◌≡◌, sym, ap, subst⁻¹, ◌∙◌}
use mathlib.Core.Bool.{Bool, true, false}
use mathlib.Core.List.{List}
use Prim.Native.Nat.{ℕ}
use Rattle.rules.specs.Form.{Form}
use Rattle.rules.specs.Step.{StateOf}
use Rattle.rules.specs.Portion.{chain_from}
use Rattle.rules.specs.Calls.{Call, lents, left, joined_of, AllPromised}
use Rattle.rules.proofs.Medium.{MediumLaws}
use Rattle.history.specs.Demand3.{Row, settled_in}
use Rattle.history.specs.Joined.{rows_joined}
use Rattle.history.specs.Called.{rows_called, Starts}
use Rattle.history.proofs.Called.{as_chain, rows_called_lem, settled_called}
use Rattle.claim_serial.specs.OneAtATime.{Replays, in_order, replay}
use Rattle.claim_serial.specs.Joined.{OneChainAtATime, OneChainAtATimeHolds}
use Rattle.claim_serial.specs.Called.{OneCallAtATimeHolds}
use Rattle.claim_serial.proofs.Joined.{one_chain_at_a_time}

-- whatever state is lent
abbrev found : (f : Form) → StateOf f → Bool
found f s = true

module _ (f : Form) (L : MediumLaws f.geometry f.medium) {X : Type 0} (view : X → StateOf f) (bytes : X → List ℕ) (proper : X → Type 0)
    (x : X) (cs : List (Call X)) (S : Starts f view bytes proper x) (P : AllPromised f view bytes proper x cs)
    (y : X) (ds : List (Call X)) (S' : Starts f view bytes proper y) (P' : AllPromised f view bytes proper y ds) (e : bytes y ≡ bytes x)
    (again : joined_of f ds ≡ replay f (bytes x) (rows_called f cs)) where
  rows_x : rows_called f cs ≡ rows_joined f (found f) (bytes x) (lents cs)
  rows_x = rows_called_lem f L view bytes proper x cs S P

  rows_y : rows_called f ds ≡ rows_joined f (found f) (bytes x) (lents ds)
  rows_y = rows_called_lem f L view bytes proper y ds S' P' ∙ ap (λ (bs : List ℕ). rows_joined f (found f) bs (lents ds)) e

  chained : OneChainAtATime f (found f) (bytes x) (lents cs) (lents ds)
  unfolding OneChainAtATimeHolds
  chained = one_chain_at_a_time f L (found f) (bytes x) (lents cs) (lents ds) S.sized
      (ap (λ (bs : List ℕ). (chain_from f (found f) bs (lents ds)).joined) (sym e)
      ∙ sym (as_chain f L view bytes proper y ds S' P').same_joined ∙ again ∙ ap (replay f (bytes x)) rows_x)

  pub right : f.medium.damaged (f.medium.from_bytes (bytes x)) ≡ false → Replays (in_order f (bytes x) (rows_called f cs)) (rows_called f ds)
  right good =
      subst⁻¹ (λ (a : List Row). Replays (in_order f (bytes x) a) (rows_called f ds)) rows_x
      (subst⁻¹ (λ (b : List Row). Replays (in_order f (bytes x) (rows_joined f (found f) (bytes x) (lents cs))) b) rows_y (chained.right good))

  pub records_same : (r : ℕ) → settled_in f (bytes (left y ds)) r ≡ settled_in f (bytes (left x cs)) r
  records_same r =
      settled_called f L view bytes proper y ds S' P' r
      ∙ ap (λ (bs : List ℕ). settled_in f (chain_from f (found f) bs (lents ds)).store r) e
      ∙ chained.records_same r ∙ sym (settled_called f L view bytes proper x cs S P r)

-- ONE CALL AT A TIME
pub one_call_at_a_time : (f : Form) → MediumLaws f.geometry f.medium
    → {X : Type 0} (view : X → StateOf f) (bytes : X → List ℕ) (proper : X → Type 0) → OneCallAtATimeHolds f view bytes proper
unfolding OneCallAtATimeHolds
one_call_at_a_time f L view bytes proper x cs S P y ds S' P' e again = record {
  right = right f L view bytes proper x cs S P y ds S' P' e again;
  or_nothing = λ bad. ap (in_order f (bytes x)) (rows_x f L view bytes proper x cs S P y ds S' P' e again) ∙ (chained f L view bytes proper x cs S P y ds S' P' e again).or_nothing bad;
  records_same = records_same f L view bytes proper x cs S P y ds S' P' e again;
}
