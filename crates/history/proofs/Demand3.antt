-- Demand 3 of every run that is played: from its bytes to lists of words, and back.
use mathlib.Core.Path.{◌≡◌, refl, sym, ap, ◌∙◌}
use mathlib.Core.Bool.{not, false≢true}
use mathlib.Core.List.{List}
use mathlib.Core.Logic.{◌≢◌}
use mathlib.Core.Option.{Option, none, some}
use Prim.Native.Nat.{ℕ, ◌*◌}
use native.Mathlib.Omega.{arith}
use lib.ListN.{length, drop}
use Rattle.laws.specs.Tests.{same}
use Rattle.laws.proofs.Tests.{same-eq}
use Rattle.laws.proofs.Booleans.{not-false}
use Rattle.rules.specs.Geometry.{Geometry, records}
use Rattle.rules.specs.Store.{Page}
use Rattle.rules.specs.State.{down}
use Rattle.rules.specs.Form.{Form}
use Rattle.rules.specs.Step.{StateOf, first_of}
use Rattle.rules.specs.Run.{words, play, events_in, run_refusals, run_all, run_by, run}
use Rattle.rules.specs.Editions.{geometry1, edition1}
use Rattle.rules.proofs.Medium.{MediumLaws}
use Rattle.rules.proofs.Editions.{proper1}
use Rattle.rules.proofs.AtomicPages.{atomic_laws}
use Rattle.rules.proofs.Acceptance.{pass}
use Rattle.rules.proofs.Portions.{first_lacks}
use Rattle.rules.proofs.Soundness.{Reached, reached_start, reached_play}
use Rattle.history.specs.History.{History, nothing_yet, survives}
use Rattle.history.specs.Demand3.{Row, history, SurvivingOverlay, IndependentOfLostWrites, settled_in, start_of, Plays, rows_of, history_of, Demand3Holds}
use Rattle.history.proofs.Invariant.{now}
use Rattle.history.proofs.Runs.{rows_from, rows_are, run_after, settled_is}
use Rattle.history.proofs.Starts.{start_holds, plain_start}
use Rattle.history.proofs.TwoRuns.{twice}

-- both clauses carry over to equal histories, rows and records
pub overlay_as : (start : ℕ → Page) {end end₁ : ℕ → Page} {h h₁ : History}
    → h ≡ h₁ → ((r : ℕ) → end r ≡ end₁ r) → SurvivingOverlay start h₁ end₁ → SurvivingOverlay start h end
overlay_as start p e O r = rw p (e r ∙ O r)

pub independent_as : (g : Geometry) (h : History) {xs xs₁ ys ys₁ : List Row} {end end₁ end' end₁' : ℕ → Page}
    → xs ≡ xs₁ → ((r : ℕ) → end r ≡ end₁ r) → ys ≡ ys₁ → ((r : ℕ) → end' r ≡ end₁' r)
    → IndependentOfLostWrites g h xs₁ end₁ ys₁ end₁' → IndependentOfLostWrites g h xs end ys end'
independent_as g h p e q e' I = rw (p, q) (λ E. ((I E).0, λ r. e' r ∙ (I E).1 r ∙ sym (e r)))

module _ (f : Form) where
  -- no run is refused with 0
  not-zero : (store events work answers : List ℕ) → first_of (run_refusals f store events work answers) ≢ some 0
  unfolding run_refusals
  not-zero store events work answers = first_lacks 0 _ ((λ e. absurd (omega arith)), ((λ e. absurd (omega arith)), ((λ e. absurd (omega arith)), ((λ e. absurd (omega arith)), tt))))

  none_sized : (store events work answers : List ℕ) → first_of (run_refusals f store events work answers) ≡ none → length store ≡ f.medium.size
  unfolding run_refusals
  none_sized store events work answers q = same-eq (length store) f.medium.size (not-false _ (pass 22 (not (same (length store) f.medium.size)) _ q).0)

  -- a run that is played is refused with nothing
  pub plays-none : (store events work answers : List ℕ) → Plays f store events work answers → first_of (run_refusals f store events work answers) ≡ none
  unfolding Plays run run_by
  plays-none store events work answers h = go (first_of (run_refusals f store events work answers)) refl h
    where
      go : (o : Option ℕ) → first_of (run_refusals f store events work answers) ≡ o → (run_by f store events answers o).answer ≡ 0 → first_of (run_refusals f store events work answers) ≡ none
      go none q h = q
      go (some n) q h = absurd (not-zero store events work answers (q ∙ ap some h))

  -- it has a store of the right length, and plays all its events
  pub plays-all : (store events work answers : List ℕ) → Plays f store events work answers → (run f store events work answers ≡ run_all f store events answers) × (length store ≡ f.medium.size)
  unfolding run run_by
  plays-all store events work answers h =
      let q = plays-none store events work answers h in
      (ap (run_by f store events answers) q, none_sized store events work answers q)

-- where none is prepared in the start store the history begins with nothing, and demand 3 says what it says without prepared transactions
pub plain_store : (f : Form) → MediumLaws f.geometry f.medium → (store : List ℕ) → f.medium.prepared (f.medium.from_bytes store) ≡ none → start_of f store ≡ nothing_yet
unfolding start_of
plain_store f M store e = plain_start (records f.geometry) (f.medium.pending (f.medium.from_bytes store)) (λ r. M.free_pending (f.medium.from_bytes store) r e)

module _ (f : Form) (M : MediumLaws f.geometry f.medium) where
  abbrev g : Geometry
  g = f.geometry

  -- a played run: the start state, the words, and what they leave
  abbrev start : List ℕ → StateOf f
  start store = down (f.medium.from_bytes store)

  abbrev words_of : List ℕ → List ℕ
  words_of events = words g (events_in f events) events

  module _ (store events work answers : List ℕ) (P : Plays f store events work answers) where
    reached : Reached f M (start store)
    reached = reached_start f M store (plays-all f store events work answers P).1

    pub rows_of_lem : rows_of f store events work answers ≡ rows_from f (start store) (words_of events)
    unfolding rows_of run_all
    rows_of_lem = rw (plays-all f store events work answers P).0 (rows_are f (start store) (words_of events) (drop (2 * events_in f events) answers))

    history_of_lem : history_of f store events work answers ≡ history g (start_of f store) (rows_from f (start store) (words_of events))
    unfolding history_of
    history_of_lem = rw rows_of_lem

    pub settled_at_end : (r : ℕ) → settled_in f (run f store events work answers).store r ≡ f.medium.settled (play f (start store) (words_of events)).state.store r
    unfolding settled_in run_all
    settled_at_end r = rw (plays-all f store events work answers P).0
        (ap (λ (s : f.medium.Store). f.medium.settled s r) (M.from_to _ (reached_play f M (start store) reached (words_of events)).shaped))

  -- THE FIRST CLAUSE, of a list of words
  words_overlay : (store ws : List ℕ) → Reached f M (start store)
      → SurvivingOverlay (settled_in f store) (history g (start_of f store) (rows_from f (start store) ws)) (now f (play f (start store) ws).state)
  unfolding start_of settled_in
  words_overlay store ws R = settled_is f M (play f (start store) ws).state (run_after f M ws R (start_holds f M (f.medium.from_bytes store))).tells

  -- THE SECOND CLAUSE, of two lists of words from one start
  pub words_independent : (store ws us : List ℕ) → Reached f M (start store)
      → IndependentOfLostWrites g (start_of f store)
      (rows_from f (start store) ws) (now f (play f (start store) ws).state)
      (rows_from f (start store) us) (now f (play f (start store) us).state)
  unfolding down start_of
  words_independent store ws us R E =
      let d = f.medium.from_bytes store in
      let T = twice f M (survives (history g (start_of f store) (rows_from f (start store) ws))) R (start_holds f M d) (λ j r. none) d ws us (λ i. refl)
      (record { shape = λ j r. refl; alike = λ j r e. refl; stores = M.agree_refl d; calm = λ u. absurd (false≢true u); waits = λ z r. refl }) E in
      (T.0, λ r. M.agree_settled _ _ T.1 r)

  -- DEMAND 3
  pub demand_3 : Demand3Holds f
  unfolding Demand3Holds
  demand_3 store events work answers P =
      let R = reached store events work answers P in
      let end = settled_at_end store events work answers P in
      record {
        surviving_writes = overlay_as (settled_in f store) (history_of_lem store events work answers P) end (words_overlay store (words_of events) R);
        two_runs = λ events' work' answers' P'. independent_as g (start_of f store) (rows_of_lem store events work answers P) end
            (rows_of_lem store events' work' answers' P') (settled_at_end store events' work' answers' P')
            (words_independent store (words_of events) (words_of events') R);
      }

-- of edition 1
pub demand_3_edition1 : Demand3Holds edition1
demand_3_edition1 = demand_3 edition1 (atomic_laws geometry1 proper1)
