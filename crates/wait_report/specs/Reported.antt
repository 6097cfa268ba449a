-- The report on transactions that wait for each other (document 02, L8): what it promises of any bytes that come in.
use Rattle.std.specs.Prelude.{◌≡◌, Bool, true, false, List, map, Result, Ok, Err, ◌≢◌, ℕ, ◌<◌, ◌≤◌, take, replicate}
use Rattle.rules.specs.Step.{first_of}
use Rattle.rules.specs.Editions.{edition1, work_bytes}
use Rattle.rules.specs.Waiting.{WaitingRow, most_rows, points_to, Found, rows_refusals, report_refusals}
use Rattle.state_whole.specs.Whole.{Arrays, view, Intact}
use Rattle.sound_clause.specs.Decides.{Decides}
use Rattle.engine_portion.specs.Portion.{arrays_of}
use Rattle.engine_portion.specs.declared.Engine.{Engine}
use Rattle.store_length.specs.Lengths.{refusal_number}
use Rattle.wait_row.specs.declared.Row.{Row}
use Rattle.wait_row.specs.declared.Rows.{Rows}
use Rattle.wait_graph.specs.Pointing.{row_of, number_of_refusal}
use Rattle.wait_report.specs.declared.ReportRefusal.{ReportRefusal}
use Rattle.wait_report.specs.declared.ReportRefusal.TheVariants.{TooManyRows, Row as BadRow}
use Rattle.wait_report.specs.declared.Ring.{Ring}

-- what is lent as a state, store aside: over a fresh store, and a blank working buffer
abbrev pub aside : Engine → Arrays
aside e = arrays_of e (replicate work_bytes 0) (edition1.medium.to_bytes edition1.medium.fresh)

-- it encodes a sound state
abbrev pub SoundAside : Engine → Type 0
SoundAside e = Intact edition1 (aside e) × (e.spare ≡ replicate 3 0)

abbrev pub waiting_row : Row → WaitingRow
waiting_row r = record { transaction = r.transaction; rec = r.«record»; mode = r.mode }

abbrev pub waiting_rows : List Row → List WaitingRow
waiting_rows rows = map waiting_row rows

-- What a report promises: its answer; where that is 0, a cycle of pointings if there is one; where it is not, what is lent for the ring stays.
pub record Reported (e : Engine) (rows : List Row) (ring : Ring) (answer : ℕ) (ring' : Ring) : Type 0 where
  pub sound : Bool
  pub found : Decides sound (SoundAside e)
  pub answered : answer ≡ refusal_number (first_of (report_refusals edition1 (view edition1 (aside e)) sound (waiting_rows rows)))
  pub told : answer ≡ 0 → Found (points_to (view edition1 (aside e)) (waiting_rows rows)) ring'.length ring'.transactions
  pub untouched : answer ≢ 0 → ring' ≡ ring

-- the rows of a list that was copied
abbrev pub copied_rows : Rows → List WaitingRow
copied_rows l = map row_of (take l.count l.words)

-- The same of rows that are copied, where the state is sound.
pub record ReportedSound (e : Engine) (list : Rows) (ring : Ring) (answer : ℕ) (ring' : Ring) : Type 0 where
  pub many : most_rows < list.count → answer ≡ 26
  pub few : list.count ≤ most_rows → answer ≡ refusal_number (first_of (rows_refusals edition1 (view edition1 (aside e)) (copied_rows list)))
  pub told : answer ≡ 0 → Found (points_to (view edition1 (aside e)) (copied_rows list)) ring'.length ring'.transactions
  pub untouched : answer ≢ 0 → ring' ≡ ring

-- and of any state
pub record ReportedCopied (e : Engine) (list : Rows) (ring : Ring) (answer : ℕ) (ring' : Ring) : Type 0 where
  pub sound : Bool
  pub found : Decides sound (SoundAside e)
  pub refused : sound ≡ false → answer ≡ 25
  pub judged : sound ≡ true → ReportedSound e list ring answer ring'
  pub untouched : answer ≢ 0 → ring' ≡ ring

-- the number of a refusal
abbrev pub refusal_told : ReportRefusal → ℕ
refusal_told TooManyRows = 26
refusal_told (BadRow r) = number_of_refusal r

-- what is answered, and what the ring is then: a refusal leaves it as it was
abbrev pub number_told : Result Ring ReportRefusal → ℕ
number_told (Ok ring) = 0
number_told (Err r) = refusal_told r

abbrev pub ring_told : Ring → Result Ring ReportRefusal → Ring
ring_told ring (Ok shown) = shown
ring_told ring (Err r) = ring
