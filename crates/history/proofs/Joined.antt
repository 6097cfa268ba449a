-- Demand 3 and the central law of a chain of portions: a chain leaves what its joined list leaves, and of lists of words both are proved.
use mathlib.Core.Path.{◌≡◌, sym, ap, ◌∙◌}
use mathlib.Core.Bool.{Bool}
use mathlib.Core.List.{List}
use Prim.Native.Nat.{ℕ}
use lib.ListN.{length}
use Rattle.rules.specs.Geometry.{Geometry}
use Rattle.rules.specs.State.{down}
use Rattle.rules.specs.Form.{Form}
use Rattle.rules.specs.Step.{StateOf}
use Rattle.rules.specs.Run.{play}
use Rattle.rules.specs.Portion.{Lent, Chain, chain, chain_from}
use Rattle.rules.proofs.Medium.{MediumLaws}
use Rattle.rules.proofs.Soundness.{reached_start}
use Rattle.rules.proofs.Portions.{play-append, Carried, carried_start, Whole, chain_whole}
use Rattle.history.specs.Demand3.{rows, history, settled_in, start_of}
use Rattle.history.specs.Claims.{state_after, rows_after, history_after, CommitSurvives}
use Rattle.history.specs.Joined.{rows_joined, history_joined, ReadsJoined, CommitSurvivesJoined, Demand3JoinedHolds}
use Rattle.history.proofs.Runs.{rows_from}
use Rattle.history.proofs.Demand3.{overlay_as, independent_as, words_independent}
use Rattle.history.proofs.Claims.{rows_played, reads_overlay, commit_survives}

module _ (f : Form) (M : MediumLaws f.geometry f.medium) (sound : StateOf f → Bool) where
  abbrev g : Geometry
  g = f.geometry

  -- the settled records in the bytes that a chain leaves are those of its state
  chain_settled : (s : StateOf f) (store : List ℕ) → Carried f M s store → (r : ℕ) → settled_in f store r ≡ f.medium.settled s.store r
  unfolding settled_in
  chain_settled s store C r = ap (λ (d : f.medium.Store). f.medium.settled d r) C.reads

  module _ (store : List ℕ) (sized : length store ≡ f.medium.size) where
    abbrev s₀ : StateOf f
    s₀ = down (f.medium.from_bytes store)

    whole : (ls : List Lent) → Whole f M sound s₀ store ls
    whole ls = chain_whole f M sound s₀ store ls (carried_start f M store sized)

    module _ (ls : List Lent) where
      abbrev c : Chain f
      c = chain_from f sound store ls

      pub rows_joined_lem : rows_joined f sound store ls ≡ rows_from f s₀ c.joined
      unfolding rows_joined chain_from
      rows_joined_lem = ap (rows c.joined) (whole ls).answers ∙ rows_played f s₀ c.joined

      history_joined_lem : history_joined f sound store ls ≡ history_after f store c.joined
      unfolding history_joined rows_joined chain_from rows_after history_after
      history_joined_lem = ap (λ (bs : List ℕ). history g (start_of f store) (rows c.joined bs)) (whole ls).answers

      state_joined : c.state ≡ state_after f store c.joined
      unfolding chain_from state_after
      state_joined = (whole ls).state

      pub carried_joined : Carried f M c.state c.store
      unfolding chain_from
      carried_joined = (whole ls).carried

      pub settled_joined : (r : ℕ) → settled_in f c.store r ≡ f.medium.settled (state_after f store c.joined).store r
      settled_joined r = chain_settled c.state c.store carried_joined r ∙ ap (λ (s : StateOf f). f.medium.settled s.store r) state_joined

    -- the central law
    pub reads_joined : (ls : List Lent) → ReadsJoined f sound store ls
    reads_joined ls = record { state_is = state_joined ls; history_is = history_joined_lem ls; overlay = reads_overlay f M store (c ls).joined sized }

    -- crashes and recoveries in more portions
    pub commit_survives_joined : (ls more : List Lent) → CommitSurvivesJoined f sound store ls more
    unfolding CommitSurvivesJoined CommitSurvives state_after
    commit_survives_joined ls more k =
        let d = chain f sound (c ls).state (c ls).store more in
        let W = chain_whole f M sound (c ls).state (c ls).store more (carried_joined ls) in
        overlay_as (settled_in f store) (history_joined_lem ls)
        (λ r. chain_settled d.state d.store W.carried r
        ∙ ap (λ (s : StateOf f). f.medium.settled s.store r)
        (W.state ∙ ap (λ (s : StateOf f). (play f s d.joined).state) (state_joined ls) ∙ sym (play-append f s₀ (c ls).joined d.joined).state))
        (commit_survives f M store (c ls).joined d.joined sized k)

  -- DEMAND 3, over the joined list
  pub demand_3_joined : Demand3JoinedHolds f sound
  unfolding Demand3JoinedHolds state_after
  demand_3_joined store ls sized =
      let words = (chain_from f sound store ls).joined in
      let end = settled_joined store sized ls in
      record {
        surviving_writes = overlay_as (settled_in f store) (history_joined_lem store sized ls) end (reads_overlay f M store words sized).settles;
        two_chains = λ ls'. independent_as g (start_of f store) (rows_joined_lem store sized ls) end (rows_joined_lem store sized ls') (settled_joined store sized ls')
            (words_independent f M store words (chain_from f sound store ls').joined (reached_start f M store sized));
      }
