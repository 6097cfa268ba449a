-- What a run leaves that is refused or played; demand 3 of it, and that it can be played one transaction at a time.
use mathlib.Core.Path.{◌≡◌, refl, sym, ap, ◌∙◌}
use mathlib.Core.Bool.{Bool}
use mathlib.Core.List.{List, ◌++◌}
use mathlib.Core.Logic.{◌≢◌}
use mathlib.Core.Option.{Option, none, some}
use Prim.Native.Nat.{ℕ, ◌*◌}
use lib.ListN.{length, drop}
use Rattle.rules.specs.Geometry.{Geometry, records, word_size}
use Rattle.rules.specs.Form.{Form}
use Rattle.rules.specs.Step.{first_of, StateOf}
use Rattle.rules.specs.State.{down}
use Rattle.rules.specs.Run.{run_refusals, run_all, run_by, run, events_in, words, play, answer_bytes}
use Rattle.rules.specs.Editions.{depths, form_in}
use Rattle.history.specs.Demand3.{Demand3, Demand3Holds, Plays}
use Rattle.claim_serial.specs.OneAtATime.{OneRunAtATime, OneRunAtATimeHolds}
use Rattle.state_whole.specs.Whole.{Arrays, view}
use Rattle.state_whole.specs.Portion.{played, PortionPlayed}
use Rattle.store_length.specs.Lengths.{lengths_refused, refusal_number}
use Rattle.store_length.proofs.Lengths.{by_lengths, lengths_of}
use Rattle.open_run.specs.Running.{Ran}

-- a form in the numbers that the code gets: whether pages tear, so many records, so many bytes a word
module _ (tears : Bool) (n s : ℕ) (g : Geometry) (many : records g ≡ n) (wide : word_size g ≡ s) (deep : g.depth_limit ≡ depths) where
  -- a refused run
  pub run_refused : (store events work answers : List ℕ) (a : ℕ) → a ≡ refusal_number (lengths_refused tears n s (length store) (length events) (length work) (length answers)) → a ≢ 0
      → Ran (form_in tears g) store events work answers a store work answers
  unfolding run run_by refusal_number
  run_refused store events work answers a e h =
      go (lengths_refused tears n s (length store) (length events) (length work) (length answers)) (by_lengths tears n s g many wide deep store events work answers) e
    where
      go : (o : Option ℕ) → first_of (run_refusals (form_in tears g) store events work answers) ≡ o → a ≡ refusal_number o → Ran (form_in tears g) store events work answers a store work answers
      go none q z = absurd (h z)
      go (some m) q z = record {
        answered = z ∙ sym (ap (λ (o : Option ℕ). (run_by (form_in tears g) store events answers o).answer) q);
        stored = ap (λ (o : Option ℕ). (run_by (form_in tears g) store events answers o).store) (sym q);
        told = ap (λ (o : Option ℕ). (run_by (form_in tears g) store events answers o).answers) (sym q);
        untouched = λ k. refl;
        long = refl;
      }

  -- a run that is played
  pub run_played : (store events work answers store' work' answers' : List ℕ)
      → refusal_number (lengths_refused tears n s (length store) (length events) (length work) (length answers)) ≡ 0
      → (store' ≡ (run_all (form_in tears g) store events answers).store) × (answers' ≡ (run_all (form_in tears g) store events answers).answers) → length work' ≡ length work
      → Ran (form_in tears g) store events work answers 0 store' work' answers'
  unfolding run run_by run_all
  run_played store events work answers store' work' answers' z p l =
      let o = by_lengths tears n s g many wide deep store events work answers ∙ (lengths_of tears n s _ _ _ _ z).none_is in
      record {
        answered = ap (λ (x : Option ℕ). (run_by (form_in tears g) store events answers x).answer) (sym o);
        stored = p.0 ∙ ap (λ (x : Option ℕ). (run_by (form_in tears g) store events answers x).store) (sym o);
        told = p.1 ∙ ap (λ (x : Option ℕ). (run_by (form_in tears g) store events answers x).answers) (sym o);
        untouched = λ k. absurd (k refl);
        long = l;
      }

-- a portion from the start is the whole run
pub from_start : (f : Form) (store events answers : List ℕ) (x y : Arrays) (answers' : List ℕ) → view f x ≡ down (f.medium.from_bytes store)
    → PortionPlayed f x events answers y answers' → (y.store ≡ (run_all f store events answers).store) × (answers' ≡ (run_all f store events answers).answers)
unfolding run_all played
from_start f store events answers x y answers' v P = (
  P.store ∙ ap (λ (s : StateOf f). f.medium.to_bytes (play f s (words f.geometry (events_in f events) events)).state.store) v,
  P.answered ∙ ap (λ (s : StateOf f). answer_bytes (play f s (words f.geometry (events_in f events) events)).answers ++ drop (2 * events_in f events) answers) v,
)

-- What holds of a run that is played, in a form of which it holds: DEMAND 3, and ONE TRANSACTION AT A TIME.
module _ (f : Form) {store events work answers store' work' answers' : List ℕ} {n : ℕ} where
  pub ran_demand : Demand3Holds f → Ran f store events work answers n store' work' answers' → n ≡ 0 → Demand3 f store events work answers
  unfolding Demand3Holds Plays
  ran_demand D R z = D _ _ _ _ (sym R.answered ∙ z)

  pub ran_serial : OneRunAtATimeHolds f → Ran f store events work answers n store' work' answers' → n ≡ 0 → OneRunAtATime f store events work answers
  unfolding OneRunAtATimeHolds Plays
  ran_serial D R z = D _ _ _ _ (sym R.answered ∙ z)
