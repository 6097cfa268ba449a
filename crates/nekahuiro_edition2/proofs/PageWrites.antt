-- A question for a page write after a list that is refused leaves every buffer as it was; one that is answered leaves what the run of the list leaves, and
-- tells what the rules plan.
use mathlib.Core.Path.{◌≡◌, refl, sym, ap, ◌∙◌}
use mathlib.Core.List.{List}
use mathlib.Core.Logic.{◌≢◌}
use mathlib.Core.Option.{Option, none, some}
use mathlib.Core.Bool.{true, false, true≢false}
use Prim.Native.Nat.{ℕ}
use lib.ListN.{length}
use Rattle.laws.specs.Bytes.{number}
use Rattle.rules.specs.Geometry.{open_geometry}
use Rattle.rules.specs.Event.{Event, decode}
use Rattle.rules.specs.State.{down}
use Rattle.rules.specs.Step.{StateOf, first_of}
use Rattle.rules.specs.Store.{pages_of}
use Rattle.rules.specs.Run.{words, play, events_in, run_refusals}
use Rattle.rules.specs.Editions.{geometry2, edition2}
use Rattle.leaf_commit_page.proofs.Places.{layout2}
use Rattle.leaf_event.proofs.Words.{bytes2}
use Rattle.claim_device.specs.Asked.{Asked, said_of, ask_lengths}
use Rattle.claim_device.specs.After.{or_else, state_after_bytes, refused_after, asked_after_by, asked_after, ToldAfter}
use Rattle.state_whole.specs.Whole.{Arrays, view}
use Rattle.state_whole.specs.Portion.{played, PortionPlayed}
use Rattle.store_length.specs.Lengths.{lengths_refused, question_refused, refusal_number}
use Rattle.store_length.proofs.Lengths.{by_lengths, lengths_of, question_of}
use Rattle.open_run.proofs.Running.{from_start}

module _ (store events work answers event : List ℕ) (index : ℕ) (write : List ℕ) where
  abbrev runs : Option ℕ
  runs = first_of (run_refusals edition2 store events work answers)

  abbrev asks : Option ℕ
  asks = first_of (ask_lengths false geometry2 store event work write)

  runs_by : runs ≡ lengths_refused false 64 8 (length store) (length events) (length work) (length answers)
  runs_by = by_lengths false 64 8 geometry2 layout2.many bytes2 refl store events work answers

  asks_by : asks ≡ question_refused false 64 8 (length store) (length event) (length work) (length write)
  unfolding ask_lengths question_refused open_geometry
  asks_by = refl

  refused_with : (n : ℕ) → or_else runs asks ≡ some n → ToldAfter geometry2 store events work answers event index write n store work answers write
  unfolding asked_after asked_after_by refused_after
  refused_with n q = record {
    answered = sym (ap (λ (o : Option ℕ). (asked_after_by geometry2 store events answers event index write o).answer) q);
    stored = sym (ap (λ (o : Option ℕ). (asked_after_by geometry2 store events answers event index write o).store) q);
    told_of = sym (ap (λ (o : Option ℕ). (asked_after_by geometry2 store events answers event index write o).answers) q);
    written = sym (ap (λ (o : Option ℕ). (asked_after_by geometry2 store events answers event index write o).write) q);
    untouched = λ m z. refl;
    long = refl;
  }

  -- as a run with the list
  pub list_refused : (n : ℕ) → n ≡ refusal_number (lengths_refused false 64 8 (length store) (length events) (length work) (length answers)) → n ≢ 0
      → ToldAfter geometry2 store events work answers event index write n store work answers write
  unfolding refusal_number or_else
  list_refused n e h = go (lengths_refused false 64 8 (length store) (length events) (length work) (length answers)) runs_by e
    where
      go : (o : Option ℕ) → runs ≡ o → n ≡ refusal_number o → ToldAfter geometry2 store events work answers event index write n store work answers write
      go none q z = absurd (h z)
      go (some m) q z = refused_with n (ap (λ (o : Option ℕ). or_else o asks) q ∙ ap some (sym z))

  module _ (fits : refusal_number (lengths_refused false 64 8 (length store) (length events) (length work) (length answers)) ≡ 0) where
    runs_none : runs ≡ none
    runs_none = runs_by ∙ (lengths_of false 64 8 _ _ _ _ fits).none_is

    -- by the event and the buffer for the page write
    pub event_refused : (n : ℕ) → n ≡ refusal_number (question_refused false 64 8 (length store) (length event) (length work) (length write)) → n ≢ 0
        → ToldAfter geometry2 store events work answers event index write n store work answers write
    unfolding refusal_number or_else
    event_refused n e h = go (question_refused false 64 8 (length store) (length event) (length work) (length write)) asks_by e
      where
        go : (o : Option ℕ) → asks ≡ o → n ≡ refusal_number o → ToldAfter geometry2 store events work answers event index write n store work answers write
        go none q z = absurd (h z)
        go (some m) q z = refused_with n (ap (λ (o : Option ℕ). or_else o asks) runs_none ∙ q ∙ ap some (sym z))

    module _ (asked : refusal_number (question_refused false 64 8 (length store) (length event) (length work) (length write)) ≡ 0) where
      passes : or_else runs asks ≡ none
      unfolding or_else
      passes = ap (λ (o : Option ℕ). or_else o asks) runs_none ∙ asks_by ∙ (question_of false 64 8 _ _ _ _ asked).none_is

      -- answered: from the start x the list led to y, and of the event on y this is said
      pub list_asked : (x y : Arrays) (answers' : List ℕ) → view edition2 x ≡ down (pages_of store) → PortionPlayed edition2 x events answers y answers' → length y.work ≡ length work
          → (o : Option Event) → decode geometry2 (number event) ≡ o → (answer : ℕ) (write' : List ℕ)
          → (let said = said_of false geometry2 (view edition2 y) o index write in (answer ≡ said.answer) × (write' ≡ said.write))
          → ToldAfter geometry2 store events work answers event index write answer y.store y.work answers' write'
      unfolding asked_after asked_after_by refused_after state_after_bytes played
      list_asked x y answers' begun P l o means answer write' W =
          let left = from_start edition2 store events answers x y answers' begun P in
          let there : view edition2 y ≡ state_after_bytes geometry2 store events = P.state ∙ ap (λ (s : StateOf edition2). played_from s) begun in
          let say : said_of false geometry2 (view edition2 y) o index write ≡ said_of false geometry2 (state_after_bytes geometry2 store events) (decode geometry2 (number event)) index write =
          (λ i. said_of false geometry2 (there i) (sym means i) index write) in
          record {
            answered = W.0 ∙ ap (λ (a : Asked). a.answer) say ∙ sym (ap (λ (o : Option ℕ). (asked_after_by geometry2 store events answers event index write o).answer) passes);
            stored = left.0 ∙ sym (ap (λ (o : Option ℕ). (asked_after_by geometry2 store events answers event index write o).store) passes);
            told_of = left.1 ∙ sym (ap (λ (o : Option ℕ). (asked_after_by geometry2 store events answers event index write o).answers) passes);
            written = W.1 ∙ ap (λ (a : Asked). a.write) say ∙ sym (ap (λ (o : Option ℕ). (asked_after_by geometry2 store events answers event index write o).write) passes);
            untouched = λ n q. let z : some n ≡ none = sym q ∙ passes in let c : true ≡ false = cc in absurd (true≢false c);
            long = l;
          }
        where
          played_from : StateOf edition2 → StateOf edition2
          played_from s = (play edition2 s (words geometry2 (events_in edition2 events) events)).state
