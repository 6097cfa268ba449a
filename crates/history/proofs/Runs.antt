-- A list of words from a state: its rows, what becomes of the labels in the rest of it, and the first half of demand 3.
use mathlib.Core.Path.{◌≡◌, refl, sym, ap, subst⁻¹, ◌∙◌}
use mathlib.Core.Bool.{true}
use mathlib.Core.List.{List, [], ◌∷◌, ◌++◌}
use mathlib.Core.Logic.{◌≢◌}
use Prim.Native.Nat.{ℕ, ◌≤◌}
use native.Mathlib.Omega.{arith}
use Rattle.laws.specs.Tests.{open_tests}
use Rattle.laws.proofs.Tests.{ne_false}
use Rattle.rules.specs.Geometry.{records}
use Rattle.rules.specs.Store.{Page}
use Rattle.rules.specs.Event.{decode}
use Rattle.rules.specs.State.{live}
use Rattle.rules.specs.Form.{Form}
use Rattle.rules.specs.Step.{Answer, done, refused, cut, number_of, value_of, StateOf, OutcomeOf, step}
use Rattle.rules.specs.Run.{answer_bytes, play}
use Rattle.rules.proofs.Medium.{MediumLaws}
use Rattle.rules.proofs.Acceptance.{refused_number}
use Rattle.rules.proofs.Soundness.{Reached, reached_word}
use Rattle.history.specs.History.{History, survives, told}
use Rattle.history.specs.Demand3.{Row, answer_of, rows, heard, history, SurvivingOverlay}
use Rattle.history.proofs.Overlay.{overlaid_pick}
use Rattle.history.proofs.Roots.{Root, at, is_settled}
use Rattle.history.proofs.Table.{bearer_known, root_bearer, survives_is}
use Rattle.history.proofs.Invariant.{now, held_word, turn, Holds, After, step_after}

abbrev pub row_by : ℕ → Answer → Row
row_by w a = record { word = w; number = number_of a; value = value_of a }

-- an answer that is a refusal has a number from 1, and not 11: it is read back from its bytes
read_back : (w : ℕ) (a : Answer) → ((n : ℕ) → a ≡ refused n → (1 ≤ n) × (n ≤ 27) × (n ≢ 11)) → answer_of (row_by w a) ≡ a
unfolding answer_of number_of value_of open_tests
read_back w (done v) h = refl
read_back w (cut v) h = refl
read_back w (refused n) h = let k = h n refl in rw (ne_false n 0 (λ q. omega (arith, k.0)), ne_false n 11 k.2)

module _ (f : Form) where
  abbrev pub step_of : StateOf f → ℕ → OutcomeOf f
  step_of s w = step f s (decode f.geometry w)

  -- the rows of a list of words
  unfoldable pub rows_from : StateOf f → List ℕ → List Row
  rows_from s [] = []
  rows_from s (w ∷ ws) = row_by w (step_of s w).answer ∷ rows_from (step_of s w).state ws

  -- they are its words with its answer bytes, behind which others may stand
  pub rows_are : (s : StateOf f) (ws rest : List ℕ) → rows ws (answer_bytes (play f s ws).answers ++ rest) ≡ rows_from s ws
  unfolding rows rows_from play answer_bytes
  rows_are s [] rest = refl
  rows_are s (w ∷ ws) rest = ap (row_by w (step_of s w).answer ∷◌) (rows_are (step_of s w).state ws rest)

  pub answer_back : (s : StateOf f) (w : ℕ) → answer_of (row_by w (step_of s w).answer) ≡ (step_of s w).answer
  answer_back s w = read_back w (step_of s w).answer (refused_number f s (decode f.geometry w))

  abbrev pub told_of : History → StateOf f → ℕ → History
  told_of h s w = told (records f.geometry) h (decode f.geometry w) (step_of s w).answer

  pub heard_is : (h : History) (s : StateOf f) (w : ℕ) → heard f.geometry h (row_by w (step_of s w).answer) ≡ told_of h s w
  unfolding heard
  heard_is h s w = rw (answer_back s w)

  -- what becomes of the labels in the rest of a run
  unfoldable pub future : StateOf f → List ℕ → Root → Root
  future s [] c = c
  future s (w ∷ ws) c = future (step_of s w).state ws (turn f s (decode f.geometry w) (step_of s w).answer c)

module _ (f : Form) (M : MediumLaws f.geometry f.medium) where
  abbrev pub ReachedBy : StateOf f → Type 0
  ReachedBy s = Reached f M s

  pub run_after : {start : ℕ → Page} {s : StateOf f} {h : History} {root : ℕ → Root} (ws : List ℕ) → ReachedBy s → Holds f start s h root
      → After f start (play f s ws).state h (history f.geometry h (rows_from f s ws)) root (future f s ws)
  unfolding play history rows_from future
  run_after {root = root} [] R H = record { root' = root; turned = λ i k. refl; grown = omega arith; tells = H }
  run_after {start} {s} {h} {root} (w ∷ ws) R H =
      let A = step_after f M R.sound H (decode f.geometry w) (held_word f.geometry w) in
      let B = run_after {s = (step_of f s w).state} {h = told_of f h s w} ws (reached_word f M R w) A.tells in
      let le : h.begun ≤ (told_of f h s w).begun = A.grown in
      subst⁻¹ (λ (h' : History). After f start (play f (step_of f s w).state ws).state h (history f.geometry h' (rows_from f (step_of f s w).state ws)) root (λ c. future f (step_of f s w).state ws (turn f s (decode f.geometry w) (step_of f s w).answer c)))
      (heard_is f h s w)
      (record {
        root' = B.root';
        turned = λ i k. B.turned i (omega arith) ∙ ap (future f (step_of f s w).state ws) (A.turned i k);
        grown = (let more : (told_of f h s w).begun ≤ (history f.geometry (told_of f h s w) (rows_from f (step_of f s w).state ws)).begun = B.grown in omega arith);
        tells = B.tells;
      })

  -- what the settled records are after a list, by what the history tells then
  pub settled_is : {start : ℕ → Page} (s : StateOf f) {h : History} {root : ℕ → Root} → Holds f start s h root → SurvivingOverlay start h (now f s)
  settled_is {start} s {h} H r = H.data'.on_store r ∙ overlaid_pick r h.writes (start r) (λ i. sym (survives_is H.table i))

  -- a live transaction survives a list exactly if its label becomes settled in it
  pub final_is : {start : ℕ → Page} {s : StateOf f} {h : History} {root : ℕ → Root} (ws : List ℕ) → ReachedBy s → Holds f start s h root → (t : ℕ) → live s t ≡ true
      → survives (history f.geometry h (rows_from f s ws)) (h.bearer t) ≡ is_settled (future f s ws (at t))
  unfolding live
  final_is {h = h} {root = root} ws R H t e =
      let A = run_after ws R H in
      survives_is A.tells.table (h.bearer t) ∙ ap is_settled (A.turned (h.bearer t) (bearer_known H.table t e) ∙ ap (future f _ ws) (root_bearer H.table t e))
