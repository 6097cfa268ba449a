-- THE RUN IS THE SAME WITH PREPARE, DECIDE AND QUERY AND WITHOUT, for a list that has none of them and a start store in which nothing is prepared.
use mathlib.Core.Path.{◌≡◌, refl, ap, ap₂, ◌∙◌}
use mathlib.Core.Bool.{false, true≢false}
use mathlib.Core.List.{List, [], ◌∷◌, ◌++◌}
use mathlib.Core.Option.{Option, none, some}
use Prim.Native.Nat.{ℕ, zero, suc, ◌*◌}
use lib.ListN.{length, take, drop}
use Rattle.laws.specs.Bytes.{number}
use Rattle.laws.proofs.Tests.{or_false_left, or_false_right, same-eq}
use Rattle.laws.proofs.Booleans.{not-false}
use Rattle.rules.specs.Geometry.{word_size, open_geometry}
use Rattle.rules.specs.Store.{Pages, pages_of, flat}
use Rattle.rules.specs.Event.{decode}
use Rattle.rules.specs.State.{State, down}
use Rattle.rules.specs.Step.{Answer, is_busy, Outcome, first_of, step}
use Rattle.rules.specs.Run.{Result, words, answer_bytes, play, events_in, run_refusals, run_all, run_by, run}
use Rattle.rules.specs.Editions.{geometry1, edition1}
use Rattle.rules.proofs.Editions.{proper1}
use Rattle.rules.proofs.AtomicPages.{atomic_laws}
use Rattle.rules.proofs.Acceptance.{pass}
use Rattle.rules.proofs.Medium.{MediumLaws}
use Rattle.rules.proofs.Soundness.{Reached, reached_start, reached_word}
use Rattle.audit_rules.specs.Audit.{is_two_phase, some_two_phase}
use Rattle.audit_rules.proofs.Free.{Free, plain_word, step_free}
use Rattle.audit_joint.specs.Without.{geometry_without, edition1_without, SameRun}
use Rattle.audit_joint.proofs.Steps.{decode_same, step_same}

M : MediumLaws geometry1 edition1.medium
M = atomic_laws geometry1 proper1

words_same : (n : ℕ) (bs : List ℕ) → words geometry_without n bs ≡ words geometry1 n bs
unfolding words word_size
words_same zero bs = refl
words_same (suc n) bs = ap (number (take 4 bs) ∷◌) (words_same n (drop 4 bs))

-- one word
word_same : (s : State Pages) (w : ℕ) → Free edition1 s → is_two_phase geometry1 w ≡ false
    → step edition1_without s (decode geometry_without w) ≡ step edition1 s (decode geometry1 w)
word_same s w F p = ap (step edition1_without s) (decode_same w p) ∙ step_same s F (decode geometry1 w) (plain_word geometry1 w p)

play_same : (s : State Pages) (ws : List ℕ) → Reached edition1 M s → Free edition1 s → some_two_phase geometry1 ws ≡ false
    → ((play edition1_without s ws).answers ≡ (play edition1 s ws).answers) × ((play edition1_without s ws).state ≡ (play edition1 s ws).state)
unfolding play some_two_phase
play_same s [] R F p = (refl, refl)
play_same s (w ∷ ws) R F p =
    let q : is_two_phase geometry1 w ≡ false = or_false_left (is_two_phase geometry1 w) (some_two_phase geometry1 ws) p in
    let o = word_same s w F q in
    let s' = (step edition1 s (decode geometry1 w)).state in
    let ih = play_same s' ws (reached_word edition1 M R w) (step_free edition1 M s F R.sound (decode geometry1 w) (plain_word geometry1 w q))
    (or_false_right (is_two_phase geometry1 w) (some_two_phase geometry1 ws) p) in (
      ap (λ (x : Outcome Pages). x.answer ∷ (play edition1_without x.state ws).answers) o ∙ ap ((step edition1 s (decode geometry1 w)).answer ∷◌) ih.0,
      ap (λ (x : Outcome Pages). (play edition1_without x.state ws).state) o ∙ ih.1,
    )

none-busy : (o : Option ℕ) → is_busy o ≡ false → o ≡ none
unfolding is_busy
none-busy none e = refl
none-busy (some i) e = absurd (true≢false e)

module _ (store events work answers : List ℕ) where
  -- what a run leaves that isn't refused
  abbrev ran : List Answer → State Pages → Result
  ran told s = record { answer = 0; store = flat 33 s.store; answers = answer_bytes told ++ drop (2 * events_in edition1 events) answers }

  refusals_same : first_of (run_refusals edition1_without store events work answers) ≡ first_of (run_refusals edition1 store events work answers)
  unfolding run_refusals events_in open_geometry
  refusals_same = refl

  all_same : length store ≡ edition1.medium.size → is_busy (edition1.medium.prepared (pages_of store)) ≡ false
      → some_two_phase geometry1 (words geometry1 (events_in edition1 events) events) ≡ false → run_all edition1_without store events answers ≡ run_all edition1 store events answers
  unfolding run_all events_in open_geometry down pages_of
  all_same sized busy plain =
      let P = play_same (down (pages_of store)) (words geometry1 (events_in edition1 events) events) (reached_start edition1 M store sized) (none-busy _ busy) plain in
      ap (λ (ws : List ℕ). ran (play edition1_without (down (pages_of store)) ws).answers (play edition1_without (down (pages_of store)) ws).state) (words_same (events_in edition1 events) events)
      ∙ ap₂ ran P.0 P.1

  by_refusal : is_busy (edition1.medium.prepared (pages_of store)) ≡ false → some_two_phase geometry1 (words geometry1 (events_in edition1 events) events) ≡ false
      → (o : Option ℕ) → first_of (run_refusals edition1 store events work answers) ≡ o → run_by edition1_without store events answers o ≡ run_by edition1 store events answers o
  unfolding run_by run_refusals
  by_refusal busy plain (some n) e = refl
  by_refusal busy plain none e = all_same (same-eq (length store) edition1.medium.size (not-false _ (pass 22 _ _ e).0)) busy plain

pub same_run : SameRun
unfolding SameRun run
same_run store events work answers busy plain =
    ap (run_by edition1_without store events answers) (refusals_same store events work answers)
    ∙ by_refusal store events work answers busy plain (first_of (run_refusals edition1 store events work answers)) refl
