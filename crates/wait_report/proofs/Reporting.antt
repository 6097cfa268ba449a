-- What the arrays say is what the state says; what was copied are the rows.
use mathlib.Core.Path.{◌≡◌, refl, sym, ◌∙◌, ap, ap₂, subst}
use mathlib.Core.Bool.{Bool, true, false, not}
use mathlib.Core.List.{List, [], ◌∷◌, ◌++◌, map}
use Prim.Native.Nat.{ℕ, suc, ◌+◌, ◌*◌, ◌-◌, ◌/◌, ◌%◌, ◌<◌, ◌≤◌}
use native.Mathlib.Omega.{arith}
use lib.ListN.{length, take, replicate, length-map}
use lib.Seq.{take-append-le, take_all}
use Rattle.laws.specs.Tests.{under}
use Rattle.laws.proofs.Tests.{Is, is_cases, yes', no', under-lt, not-under}
use Rattle.rules.specs.Geometry.{records}
use Rattle.rules.specs.Step.{first_of}
use Rattle.rules.specs.Editions.{edition1}
use Rattle.store_length.specs.Lengths.{refusal_number}
use Rattle.leaf_set.specs.Sets.{sets}
use Rattle.state_array.specs.Kin.{lives_in}
use Rattle.state_whole.specs.Whole.{Arrays, view, line_in, Intact}
use Rattle.engine_portion.specs.declared.Engine.{Engine}
use Rattle.wait_row.specs.declared.Row.{Row}
use Rattle.wait_row.specs.Copied.{word_of, least, copied_of, Small, Smalls, open_copied}
use Rattle.rules.specs.Waiting.{WaitingRow, points_to, Found, rows_refusals, report_refusals}
use Rattle.wait_graph.specs.Pointing.{child_points, row_of, rows_in, rows_refusal}
use Rattle.wait_graph.proofs.Standing as standing
use Rattle.wait_report.specs.Reported.{aside, waiting_row, waiting_rows, Reported, copied_rows, ReportedSound, ReportedCopied}
use Rattle.wait_report.specs.declared.Ring.{Ring}

sixteen : records edition1.geometry ≡ 16
unfolding records
sixteen = refl

module _ (x : Arrays) (I : Intact edition1 x) (words : List ℕ) where
  whole : take (length words) words ≡ words
  whole = take_all (length words) words (omega arith)

  pub numbers_are : rows_refusal (lives_in x.depth) words 0 (length words) ≡ refusal_number (first_of (rows_refusals edition1 (view edition1 x) (map row_of words)))
  unfolding view line_in
  numbers_are = standing.numbers_are {f = edition1} (view edition1 x) x.parent x.depth x.line x.held x.retained refl refl refl I.form.lines I.form.held_nested I.form.retained_nested I.sound sixteen words (length words) (omega arith)
      ∙ ap (λ (l : List ℕ). refusal_number (first_of (rows_refusals edition1 (view edition1 x) (map row_of l)))) whole

  pub points_are : rows_in (child_points x.parent x.depth) (sets x.line) (sets x.held) (sets x.retained) words (length words) ≡ points_to (view edition1 x) (map row_of words)
  unfolding view line_in
  points_are = standing.points_are {f = edition1} (view edition1 x) x.parent x.depth x.line x.held x.retained refl refl refl I.form.lines I.form.held_nested I.form.retained_nested I.sound words (length words) (omega arith)
      ∙ ap (λ (l : List ℕ). points_to (view edition1 x) (map row_of l)) whole

  pub points_small : (t u : ℕ) → rows_in (child_points x.parent x.depth) (sets x.line) (sets x.held) (sets x.retained) words (length words) t u ≡ true → u < 24
  unfolding view line_in
  points_small t u e = standing.points_small {f = edition1} (view edition1 x) x.parent x.depth x.line x.held x.retained refl refl refl I.form.lines I.form.held_nested I.form.retained_nested I.sound words (length words) t u e

-- a row is told from its word
row_told : (r : Row) → Small r → row_of (word_of r) ≡ waiting_row r
row_told r s =
    let a : (r.transaction * 65536 + r.«record» * 256 + r.mode) / 65536 ≡ r.transaction = omega (arith, s.rec, s.mode) in
    let b : (r.transaction * 65536 + r.«record» * 256 + r.mode) / 256 % 256 ≡ r.«record» = omega (arith, s.rec, s.mode) in
    let c : (r.transaction * 65536 + r.«record» * 256 + r.mode) % 256 ≡ r.mode = omega (arith, s.mode) in
    λ i. record { transaction = a i; rec = b i; mode = c i }

rows_told : (rows : List Row) → Smalls (length rows) rows → map row_of (map word_of rows) ≡ waiting_rows rows
rows_told [] h = refl
rows_told (r ∷ rows) h = ap₂ (λ (w : WaitingRow) (l : List WaitingRow). w ∷ l) (row_told r (h 0 (omega arith))) (rows_told rows (λ j l. h (suc j) (omega arith)))

least-all : (n : ℕ) → n ≤ 24 → least n ≡ n
unfolding least
least-all n h = omega arith

pub count_is : (rows : List Row) → (copied_of rows).count ≡ length rows
unfolding open_copied
count_is rows = refl

pub copied_told : (rows : List Row) → length rows ≤ 24 → Smalls (least (length rows)) rows → copied_rows (copied_of rows) ≡ waiting_rows rows
unfolding open_copied
copied_told rows h s =
    let m : least (length rows) ≡ length rows = least-all (length rows) h in
    let w : length (map word_of rows) ≡ length rows = length-map rows word_of in
    let e : take (length rows) (take (least (length rows)) (map word_of rows) ++ replicate (24 - least (length rows)) 0) ≡ map word_of rows =
    ap (λ (k : ℕ). take (length rows) (take k (map word_of rows) ++ replicate (24 - k) 0)) m
    ∙ ap (λ (l : List ℕ). take (length rows) (l ++ replicate (24 - length rows) 0)) (take_all (length rows) (map word_of rows) (omega arith))
    ∙ take-append-le (length rows) (map word_of rows) (replicate (24 - length rows) 0) (omega arith)
    ∙ take_all (length rows) (map word_of rows) (omega arith) in
    ap (map row_of) e ∙ rows_told rows (subst (λ (k : ℕ). Smalls k rows) m s)

pub rows_long : (rows : List Row) → length (waiting_rows rows) ≡ length rows
rows_long rows = length-map rows waiting_row

-- the report on rows, from that on what was copied
module _ (e : Engine) (rows : List Row) (ring ring' : Ring) (answer : ℕ) (small : Smalls (least (length rows)) rows) (R : ReportedCopied e (copied_of rows) ring answer ring') where
  abbrev number_for : Bool → Bool → ℕ
  number_for unsound many = refusal_number (first_of ((25, unsound) ∷ (26, many) ∷ rows_refusals edition1 (view edition1 (aside e)) (waiting_rows rows)))

  number_is : {b c : Bool} → R.sound ≡ b → under 24 (length rows) ≡ c → number_for (not b) c ≡ refusal_number (first_of (report_refusals edition1 (view edition1 (aside e)) R.sound (waiting_rows rows)))
  unfolding report_refusals
  number_is p q = sym (ap₂ (λ (x y : Bool). number_for (not x) y) p (ap (under 24) (rows_long rows) ∙ q))

  many_count : under 24 (length rows) ≡ true → 24 < (copied_of rows).count
  many_count k = subst (λ (n : ℕ). 24 < n) (sym (count_is rows)) (under-lt 24 (length rows) k)

  few-count : under 24 (length rows) ≡ false → (copied_of rows).count ≤ 24
  few-count k = subst (λ (n : ℕ). n ≤ 24) (sym (count_is rows)) (not-under 24 (length rows) k)

  unsound_is : (c : Bool) → 25 ≡ number_for true c
  unfolding first_of refusal_number
  unsound_is c = refl

  many_is : 26 ≡ number_for false true
  unfolding first_of refusal_number
  many_is = refl

  few_is : refusal_number (first_of (rows_refusals edition1 (view edition1 (aside e)) (waiting_rows rows))) ≡ number_for false false
  unfolding first_of
  few_is = refl

  answer_of : ReportedSound e (copied_of rows) ring answer ring' → R.sound ≡ true → Is (under 24 (length rows)) → answer ≡ refusal_number (first_of (report_refusals edition1 (view edition1 (aside e)) R.sound (waiting_rows rows)))
  answer_of J q (yes' k) = J.many (many_count k) ∙ many_is ∙ number_is q k
  answer_of J q (no' k) =
      J.few (few-count k) ∙ ap (λ (w : List WaitingRow). refusal_number (first_of (rows_refusals edition1 (view edition1 (aside e)) w))) (copied_told rows (not-under 24 (length rows) k) small)
      ∙ few_is ∙ number_is q k

  told_of : ReportedSound e (copied_of rows) ring answer ring' → Is (under 24 (length rows)) → answer ≡ 0 → Found (points_to (view edition1 (aside e)) (waiting_rows rows)) ring'.length ring'.transactions
  told_of J (yes' k) z = let q = J.many (many_count k) in absurd (omega arith)
  told_of J (no' k) z = subst (λ (w : List WaitingRow). Found (points_to (view edition1 (aside e)) w) ring'.length ring'.transactions) (copied_told rows (not-under 24 (length rows) k) small) (J.told z)

  pub reported : Reported e rows ring answer ring'
  reported = go (is_cases R.sound)
    where
      go : Is R.sound → Reported e rows ring answer ring'
      go (yes' q) = record {
        sound = R.sound;
        found = R.found;
        answered = answer_of (R.judged q) q (is_cases (under 24 (length rows)));
        told = told_of (R.judged q) (is_cases (under 24 (length rows)));
        untouched = R.untouched;
      }
      go (no' q) = record {
        sound = R.sound;
        found = R.found;
        answered = R.refused q ∙ unsound_is (under 24 (length rows)) ∙ number_is q refl;
        told = λ z. let k = R.refused q in absurd (omega arith);
        untouched = R.untouched;
      }
