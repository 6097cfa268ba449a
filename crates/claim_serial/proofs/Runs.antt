-- As if one transaction at a time, of every run that is played: from its bytes to lists of words, and the replay's words to bytes.
use mathlib.Core.Path.{◌≡◌, refl, sym, ap, subst, subst⁻¹, ◌∙◌}
use mathlib.Core.Bool.{false, not, ◌||◌}
use mathlib.Core.List.{List, [], ◌∷◌}
use mathlib.Core.Option.{Option, none}
use Prim.Native.Nat.{ℕ, suc, ◌*◌, ◌%◌, ◌≤◌, ◌<◌}
use native.Mathlib.Nat.{mul_comm, mul-le-mul_right, div-le_of_le-mul}
use native.Mathlib.Omega.{arith}
use lib.ListN.{length}
use Rattle.laws.specs.Tests.{same, under}
use Rattle.laws.proofs.Tests.{same_refl, or_false_right, not-under}
use Rattle.rules.specs.Geometry.{Geometry, Proper, work_size, word_size, longest}
use Rattle.rules.specs.State.{down}
use Rattle.rules.specs.Form.{Form}
use Rattle.rules.specs.Step.{first_of}
use Rattle.rules.specs.Run.{words, play, events_in, run_refusals, run_all, run_by, run}
use Rattle.rules.specs.Editions.{geometry1, edition1, geometry2, edition2}
use Rattle.rules.proofs.Medium.{MediumLaws}
use Rattle.rules.proofs.Editions.{proper1, proper2}
use Rattle.rules.proofs.Cuts.{not_lt_under}
use Rattle.rules.proofs.AtomicPages.{atomic_laws}
use Rattle.rules.proofs.Acceptance.{pass}
use Rattle.rules.proofs.Portions.{words-length}
use Rattle.history.specs.Demand3.{Row, settled_in, Plays, rows_of, open_demand}
use Rattle.history.specs.Claims.{rows_after}
use Rattle.history.specs.Entries.{open_entries}
use Rattle.history.proofs.Claims.{rows_played}
use Rattle.history.proofs.Demand3.{plays-none, plays-all, rows_of_lem, settled_at_end}
use Rattle.history.proofs.Runs.{rows_from}
use Rattle.claim_serial.specs.Serial.{open_serial}
use Rattle.claim_serial.specs.OneAtATime.{Replays, in_order, replay, settled_after, word_bytes, OneAtATime, OneAtATimeHolds, OneRunAtATime, OneRunAtATimeHolds}
use Rattle.claim_serial.proofs.Words.{bytes_of_words, events_in_words, whole_words, words_of_bytes}
use Rattle.claim_serial.proofs.OneAtATime.{replay-length, replayed_events, one_at_a_time}

module _ (f : Form) (L : MediumLaws f.geometry f.medium) (proper : Proper f.geometry) (store events work answers : List ℕ) (P : Plays f store events work answers) where
  abbrev g : Geometry
  g = f.geometry

  abbrev ws : List ℕ
  ws = words g (events_in f events) events

  abbrev xs : List Row
  xs = rows_after f store ws

  -- the words of the replay, and their bytes
  abbrev vs : List ℕ
  vs = replay f store xs

  abbrev bs : List ℕ
  bs = word_bytes f vs

  sized : length store ≡ f.medium.size
  sized = (plays-all f store events work answers P).1

  claim : OneAtATime f store ws
  claim = unfold OneAtATimeHolds in one_at_a_time f L store ws sized

  rows_are : rows_of f store events work answers ≡ xs
  unfolding rows_after
  rows_are = rows_of_lem f L store events work answers P ∙ sym (rows_played f (down (f.medium.from_bytes store)) ws)

  -- a list of 4,096 events at most
  few : length ws ≤ longest
  unfolding run_refusals events_in
  few =
      let q = plays-none f store events work answers P in
      let a = pass 22 (not (same (length store) f.medium.size)) _ q in
      let b = pass 24 (not (same (length work) (work_size g))) _ a.1 in
      let c = pass 20 (not (same (length events % word_size g) 0) || under (longest * word_size g) (length events)) _ b.1 in
      let most : length events ≤ longest * word_size g = not-under (longest * word_size g) (length events) (or_false_right (not (same (length events % word_size g) 0)) _ c.0) in
      subst⁻¹ (λ (n : ℕ). n ≤ longest) (words-length g (events_in f events) events)
      (div-le_of_le-mul (word_size g) (subst (λ (n : ℕ). length events ≤ n) (mul_comm longest (word_size g)) most))

  few_again : length vs ≤ longest
  few_again = go ws refl
    where
      none_yet : ws ≡ [] → length (in_order f store xs) ≡ 0
      none_yet q = ap (λ (l : List ℕ). length (in_order f store (rows_after f store l))) q ∙ nothing
        where
          nothing : length (in_order f store (rows_after f store [])) ≡ 0
          nothing = unfold in_order rows_after open_entries open_serial open_demand in refl

      go : (l : List ℕ) → ws ≡ l → length vs ≤ longest
      go [] q = let a = replay-length f L store ws sized in let b = none_yet q in omega (arith, a, b)
      go (w ∷ l) q =
          let some_event : 0 < length ws = rw q (omega arith) in
          let a = claim.no_longer some_event in
          let b = few in
          omega (arith, a, b)

  -- the replay's bytes spell its words
  back : words g (events_in f bs) bs ≡ vs
  back = let E = replayed_events f L store ws sized in
      subst⁻¹ (λ (l : List ℕ). words g (events_in f (word_bytes f l)) (word_bytes f l) ≡ l) E.1 (words_of_bytes f proper E.0 E.2)

  module _ (work' answers' : List ℕ) where
    plays_again : length work' ≡ work_size g → 2 * suc (length (in_order f store xs)) ≤ length answers' → Plays f store bs work' answers'
    unfolding Plays run run_by run_all
    plays_again w a = ap (λ (o : Option ℕ). (run_by f store bs answers' o).answer) taken
      where
        taken : first_of (run_refusals f store bs work' answers') ≡ none
        taken = unfold run_refusals first_of in
            let long : length bs ≤ longest * word_size g = subst⁻¹ (λ (n : ℕ). n ≤ longest * word_size g) (bytes_of_words f proper vs) (mul-le-mul_right (word_size g) few_again) in
            let room : 2 * events_in f bs ≤ length answers' = let e = events_in_words f proper vs in let l = replay-length f L store ws sized in omega (arith, e, l, a) in
            rw (sized, same_refl f.medium.size, w, same_refl (work_size g), whole_words f proper vs, same_refl 0, not_lt_under (longest * word_size g) (length bs) long, not_lt_under (length answers') (2 * events_in f bs) room)

    module _ (Q : Plays f store bs work' answers') where
      rows_again : rows_of f store bs work' answers' ≡ rows_after f store vs
      unfolding rows_after
      rows_again =
          rows_of_lem f L store bs work' answers' Q ∙ ap (rows_from f (down (f.medium.from_bytes store))) back
          ∙ sym (rows_played f (down (f.medium.from_bytes store)) vs)

      right_again : f.medium.damaged (f.medium.from_bytes store) ≡ false → Replays (in_order f store xs) (rows_of f store bs work' answers')
      right_again good = subst⁻¹ (λ (ys : List Row). Replays (in_order f store xs) ys) rows_again (claim.right good)

      records_again : (r : ℕ) → settled_in f (run f store bs work' answers').store r ≡ settled_in f (run f store events work answers).store r
      unfolding settled_after
      records_again r =
          settled_at_end f L store bs work' answers' Q r
          ∙ ap (λ (l : List ℕ). f.medium.settled (play f (down (f.medium.from_bytes store)) l).state.store r) back
          ∙ claim.records_same r ∙ sym (settled_at_end f L store events work answers P r)

  one_run : OneRunAtATime f store events work answers
  one_run = record {
    plays = λ work' answers'. subst⁻¹ (λ (y : List Row). length work' ≡ work_size g → 2 * suc (length (in_order f store y)) ≤ length answers' → Plays f store (word_bytes f (replay f store y)) work' answers') rows_are
        (plays_again work' answers');
    right = λ work' answers'. subst⁻¹ (λ (y : List Row). Plays f store (word_bytes f (replay f store y)) work' answers' → f.medium.damaged (f.medium.from_bytes store) ≡ false
        → Replays (in_order f store y) (rows_of f store (word_bytes f (replay f store y)) work' answers')) rows_are
        (right_again work' answers');
    or_nothing = λ bad. ap (in_order f store) rows_are ∙ claim.or_nothing bad;
    records_same = λ work' answers'. subst⁻¹ (λ (y : List Row). Plays f store (word_bytes f (replay f store y)) work' answers'
        → (r : ℕ) → settled_in f (run f store (word_bytes f (replay f store y)) work' answers').store r ≡ settled_in f (run f store events work answers).store r) rows_are
        (records_again work' answers');
  }

-- ONE RUN AT A TIME
pub one_run_at_a_time : (f : Form) → MediumLaws f.geometry f.medium → Proper f.geometry → OneRunAtATimeHolds f
unfolding OneRunAtATimeHolds
one_run_at_a_time f L proper store events work answers P = one_run f L proper store events work answers P

-- of edition 1
pub one_run_at_a_time_edition1 : OneRunAtATimeHolds edition1
one_run_at_a_time_edition1 = one_run_at_a_time edition1 (atomic_laws geometry1 proper1) proper1

pub one_run_at_a_time_edition2 : OneRunAtATimeHolds edition2
one_run_at_a_time_edition2 = one_run_at_a_time edition2 (atomic_laws geometry2 proper2) proper2
