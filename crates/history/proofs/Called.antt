-- Demand 3, the central law and what crashes leave, of calls that keep a portion's promise: they are a chain of portions, of which these are proved.
use mathlib.Core.Path.{◌≡◌, sym, ap, ap₂, subst, subst⁻¹, ◌∙◌}
use mathlib.Core.Bool.{Bool, true}
use mathlib.Core.List.{List, [], ◌∷◌}
use Prim.Native.Nat.{ℕ}
use Rattle.rules.specs.Form.{Form}
use Rattle.rules.specs.Step.{StateOf}
use Rattle.rules.specs.Portion.{Chain, chain, chain_from}
use Rattle.rules.specs.Calls.{Call, lents, left, AllPromised}
use Rattle.rules.proofs.Medium.{MediumLaws}
use Rattle.rules.proofs.Portions.{Carried, carried_start}
use Rattle.rules.proofs.Calls.{AsChain, calls_chain}
use Rattle.history.specs.Demand3.{rows, history, settled_in, start_of}
use Rattle.history.specs.Claims.{restarts, state_after, history_after, ReadsOverlay}
use Rattle.history.specs.Joined.{rows_joined, history_joined, CommitSurvivesJoined, Demand3JoinedHolds}
use Rattle.history.specs.Called.{rows_called, history_called, Starts, Demand3CalledHolds, ReadsCalled, CommitSurvivesCalled}
use Rattle.history.proofs.Demand3.{overlay_as, independent_as}
use Rattle.history.proofs.Joined.{carried_joined, reads_joined, commit_survives_joined, demand_3_joined}

module _ (f : Form) (M : MediumLaws f.geometry f.medium) {X : Type 0} (view : X → StateOf f) (bytes : X → List ℕ) (proper : X → Type 0) where
  abbrev found : StateOf f → Bool
  found s = true

  -- what calls leave is written as a state is
  pub proper_left : (x : X) (cs : List (Call X)) → AllPromised f view bytes proper x cs → proper x → proper (left x cs)
  unfolding left
  proper_left x [] P W = W
  proper_left x (c ∷ cs) P W = proper_left c.after cs P.1 (P.0.1.written W)

  module _ (x : X) (cs : List (Call X)) (S : Starts f view bytes proper x) (P : AllPromised f view bytes proper x cs) where
    pub as_chain : AsChain f M view bytes proper x cs (chain_from f found (bytes x) (lents cs))
    unfolding chain_from
    as_chain = subst (λ (s : StateOf f). AsChain f M view bytes proper x cs (chain f found s (bytes x) (lents cs))) S.at_start
        (calls_chain f M view bytes proper x cs P S.written (subst⁻¹ (λ (s : StateOf f). Carried f M s (bytes x)) S.at_start (carried_start f M (bytes x) S.sized)))

    pub rows_called_lem : rows_called f cs ≡ rows_joined f found (bytes x) (lents cs)
    unfolding rows_called rows_joined
    rows_called_lem = ap₂ rows as_chain.same_joined as_chain.same_answers

    abbrev k : Chain f
    k = chain_from f found (bytes x) (lents cs)

    history_called_lem : history_called f (bytes x) cs ≡ history_joined f found (bytes x) (lents cs)
    unfolding history_called history_joined
    history_called_lem = ap (history f.geometry (start_of f (bytes x))) rows_called_lem

    -- THE CENTRAL LAW
    pub reads_called : ReadsCalled f view bytes proper x cs
    reads_called =
        let R = reads_joined f M found (bytes x) S.sized (lents cs) in
        record {
          state_is = as_chain.same_state ∙ R.state_is ∙ ap (state_after f (bytes x)) (sym as_chain.same_joined);
          history_is = history_called_lem ∙ R.history_is ∙ ap (history_after f (bytes x)) (sym as_chain.same_joined);
          overlay = subst⁻¹ (ReadsOverlay f (bytes x)) as_chain.same_joined R.overlay;
        }

    -- more calls, on what these left, are more portions
    more_chain : (ds : List (Call X)) → AllPromised f view bytes proper (left x cs) ds → AsChain f M view bytes proper (left x cs) ds (chain f found k.state k.store (lents ds))
    more_chain ds Q =
        let C = carried_joined f M found (bytes x) S.sized (lents cs) in
        let here : Carried f M (view (left x cs)) (bytes (left x cs))
        = subst⁻¹ (λ (s : StateOf f). Carried f M s (bytes (left x cs))) as_chain.same_state (subst⁻¹ (λ (bs : List ℕ). Carried f M k.state bs) as_chain.same_store C) in
        subst (λ (bs : List ℕ). AsChain f M view bytes proper (left x cs) ds (chain f found k.state bs (lents ds))) as_chain.same_store
        (subst (λ (s : StateOf f). AsChain f M view bytes proper (left x cs) ds (chain f found s (bytes (left x cs)) (lents ds))) as_chain.same_state
        (calls_chain f M view bytes proper (left x cs) ds Q (proper_left x cs P S.written) here))

    -- crashes and recoveries in more calls
    pub commit_survives_called : CommitSurvivesCalled f view bytes proper x cs
    unfolding CommitSurvivesCalled CommitSurvivesJoined
    commit_survives_called ds Q e =
        let D = more_chain ds Q in
        let back = subst (λ (ws : List ℕ). restarts f.geometry ws ≡ true) D.same_joined e in
        overlay_as (settled_in f (bytes x)) history_called_lem (λ r. ap (λ (bs : List ℕ). settled_in f bs r) D.same_store)
        (commit_survives_joined f M found (bytes x) S.sized (lents cs) (lents ds) back)

    pub settled_called : (r : ℕ) → settled_in f (bytes (left x cs)) r ≡ settled_in f (chain_from f found (bytes x) (lents cs)).store r
    settled_called r = ap (λ (bs : List ℕ). settled_in f bs r) as_chain.same_store

  -- DEMAND 3, of the calls
  pub demand_3_called : Demand3CalledHolds f view bytes proper
  unfolding Demand3CalledHolds Demand3JoinedHolds
  demand_3_called x cs S P =
      let D = demand_3_joined f M found (bytes x) (lents cs) S.sized in
      record {
        surviving_writes = overlay_as (settled_in f (bytes x)) (history_called_lem x cs S P) (settled_called x cs S P) D.surviving_writes;
        two_chains = λ y ds T e Q. independent_as f.geometry (start_of f (bytes x)) (rows_called_lem x cs S P) (settled_called x cs S P)
            (rows_called_lem y ds T Q ∙ ap (λ (bs : List ℕ). rows_joined f found bs (lents ds)) e)
            (λ r. settled_called y ds T Q r ∙ ap (λ (bs : List ℕ). settled_in f (chain_from f found bs (lents ds)).store r) e)
            (D.two_chains (lents ds));
      }
