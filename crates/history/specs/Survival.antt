-- When a top transaction survives its commit: a law in the commit's count, after any list of words.
use Rattle.std.specs.Prelude.{ℕ, ◌+◌, ◌≡◌, Bool, true, false, cond, ◌||◌, List, [], ◌∷◌, ◌++◌}
use Rattle.std.proofs.Math.Option.{none, some}
use Rattle.laws.specs.Tests.{same, under}
use Rattle.rules.specs.Geometry.{records, cut_count, cut_way}
use Rattle.rules.specs.Event.{commit, decode}
use Rattle.rules.specs.State.{line_of}
use Rattle.rules.specs.Form.{Form}
use Rattle.rules.specs.Pairs.{counted}
use Rattle.rules.specs.Step.{visible, refusal}
use Rattle.history.specs.History.{changed_by}
use Rattle.history.specs.Claims.{restarts, state_after, history_after}

-- How many page writes a cut at k lets count: k. Where pages tear, k tells a count and how the next write is torn, and "in cases 2 and 3 that write counts as
-- made, also in the answer and for the commit record" (document 02, L5).
abbrev pub reached : Bool → ℕ → ℕ
reached false k = k
reached true k = cut_count true k + counted (cut_way true k)

module _ (f : Form) where
  -- A TOP TRANSACTION SURVIVES EXACTLY IF n = 0 OR k IS AT LEAST n + 1 (as k is reached): after any list of words, its commit with count k that isn't refused, and then any
  -- crashes and recoveries, each record is settled as the transaction saw it, or as it was. n is told from the events and their answers.
  unfoldable pub SurvivesInK : List ℕ → List ℕ → List ℕ → ℕ → ℕ → ℕ → Type 0
  SurvivesInK store ws more w t k =
      let s = state_after f store ws in
      let h = history_after f store ws in
      let n : ℕ = changed_by (records f.geometry) h (h.bearer t) in
      decode f.geometry w ≡ some (commit t k) → refusal f s (commit t k) ≡ none → line_of s.bearer t ≡ t ∷ [] → restarts f.geometry more ≡ true
      → (r : ℕ) → f.medium.settled (state_after f store (ws ++ (w ∷ more))).store r ≡ cond (same n 0 || under n (reached f.geometry.tears k)) (visible f s t r) (f.medium.settled s.store r)
