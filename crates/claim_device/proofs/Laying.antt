-- Laying down, cut anywhere.
use mathlib.Core.Path.{◌≡◌, refl, ap, ◌∙◌}
use mathlib.Core.Bool.{Bool, true, false, cond}
use mathlib.Core.List.{List, [], ◌∷◌, ◌++◌}
use mathlib.Core.Option.{some}
use Prim.Native.Nat.{ℕ, zero, suc, ◌+◌, ◌≤◌, ◌<◌}
use native.Mathlib.Omega.{arith}
use lib.ListN.{replicate}
use Rattle.laws.specs.Tests.{same, open_tests}
use Rattle.laws.specs.Counting.{open_counting}
use Rattle.laws.specs.Functions.{updated, open_functions}
use Rattle.laws.specs.Bytes.{open_bytes}
use Rattle.laws.proofs.Tests.{same_cases, Same, is, isnt, same_refl, ne_false}
use Rattle.laws.proofs.Updated.{updated_same, updated_other}
use Rattle.rules.specs.Geometry.{Geometry, records, page_count, open_geometry}
use Rattle.rules.specs.Store.{Pages, blank, commit_page, damaged, settled, fresh, open_store}
use Rattle.rules.specs.Event.{recover}
use Rattle.rules.specs.State.{down, open_state}
use Rattle.rules.specs.Commit.{PageWrite, written, marks, open_commit}
use Rattle.rules.specs.Form.{atomic}
use Rattle.rules.specs.Step.{done, refused, first_of, refusals, refusal, outcome_by, step, open_step}
use Rattle.rules.specs.Editions.{geometry1, geometry2}
use Rattle.rules.proofs.Cuts.{broken}
use Rattle.claim_device.specs.Plan.{carried, open_plan}
use Rattle.claim_device.specs.Laying.{blanks, lay_plan, relay_plan, Lays, Relays, open_laying}
use Rattle.claim_device.proofs.Plan.{carried_none}

module _ (g : Geometry) where
  -- the pages behind page p, then the empty commit page
  laying : ℕ → ℕ → List PageWrite
  laying p n = blanks p n ++ (marks g 0 ∷ [])

  early_mark : (k p n : ℕ) (m : Pages) → k ≤ n → carried k (laying p n) m 0 ≡ m 0
  unfolding carried laying blanks written
  early_mark zero p n m h = refl
  early_mark (suc k) p zero m h = absurd (omega arith)
  early_mark (suc k) p (suc n) m h = early_mark k (suc p) n (updated (suc p) blank m) (omega arith) ∙ updated_other (suc p) blank m 0 (λ e. omega arith)

  whole_mark : (k p n : ℕ) (m : Pages) → n < k → carried k (laying p n) m 0 ≡ commit_page g 0
  unfolding carried laying blanks written marks
  whole_mark zero p n m h = absurd (omega arith)
  whole_mark (suc k) p zero m h = ap (λ (x : Pages). x 0) (carried_none k (updated 0 (commit_page g 0) m)) ∙ updated_same 0 (commit_page g 0) m
  whole_mark (suc k) p (suc n) m h = whole_mark k (suc p) n (updated (suc p) blank m) (omega arith)

  -- a blank page stays blank
  stays_blank : (p q : ℕ) (m : Pages) → m (suc q) ≡ blank → updated (suc p) blank m (suc q) ≡ blank
  unfolding updated
  stays_blank p q m e = go (same (suc q) (suc p))
    where
      go : (b : Bool) → cond b blank (m (suc q)) ≡ blank
      go true = refl
      go false = e

  whole_kept : (k p n q : ℕ) (m : Pages) → n < k → m (suc q) ≡ blank → carried k (laying p n) m (suc q) ≡ blank
  unfolding carried laying blanks written marks
  whole_kept zero p n q m h e = absurd (omega arith)
  whole_kept (suc k) p zero q m h e =
      ap (λ (x : Pages). x (suc q)) (carried_none k (updated 0 (commit_page g 0) m)) ∙ updated_other 0 (commit_page g 0) m (suc q) (λ z. omega arith) ∙ e
  whole_kept (suc k) p (suc n) q m h e = whole_kept k (suc p) n q (updated (suc p) blank m) (omega arith) (stays_blank p q m e)

  whole_blank : (k p n q : ℕ) (m : Pages) → n < k → p ≤ q → q < p + n → carried k (laying p n) m (suc q) ≡ blank
  unfolding carried laying blanks written
  whole_blank zero p n q m h a b = absurd (omega arith)
  whole_blank (suc k) p zero q m h a b = absurd (omega arith)
  whole_blank (suc k) p (suc n) q m h a b = go (same_cases q p) (λ c. whole_blank k (suc p) n q (updated (suc p) blank m) (omega arith) c (omega arith))
    where
      go : Same q p → (suc p ≤ q → carried k (laying (suc p) n) (updated (suc p) blank m) (suc q) ≡ blank) → carried k (laying (suc p) n) (updated (suc p) blank m) (suc q) ≡ blank
      go (is e _ _) rest = whole_kept k (suc p) n q (updated (suc p) blank m) (omega arith) (rw e (updated_same (suc p) blank m))
      go (isnt e _ _) rest = rest (omega (arith, e))

  -- a machine that is down over a damaged store refuses to recover, with 4
  damaged_refuses : (m : Pages) (n : ℕ) → damaged g m ≡ true → (step (atomic g) (down m) (some (recover n))).answer ≡ refused 4
  unfolding step outcome_by refusal refusals first_of down
  damaged_refuses m n e = rw e

  mark_damaged : (m x : Pages) → x 0 ≡ m 0 → damaged g m ≡ true → damaged g x ≡ true
  unfolding damaged broken
  mark_damaged m x q e = ap (broken g) q ∙ e

  mark_kept : (k : ℕ) (m : Pages) → k ≤ records g + records g → carried k (lay_plan g) m 0 ≡ m 0
  unfolding lay_plan laying
  mark_kept k m h = early_mark k 0 (records g + records g) m h

  whole_fresh : (k : ℕ) (m : Pages) → records g + records g < k → (p : ℕ) → p < page_count g → carried k (lay_plan g) m p ≡ fresh g p
  unfolding lay_plan laying fresh page_count
  whole_fresh k m h zero b = whole_mark k 0 (records g + records g) m h ∙ rw (same_refl 0)
  whole_fresh k m h (suc q) b = whole_blank k 0 (records g + records g) q m h (omega arith) (omega arith) ∙ rw (ne_false (suc q) 0 (λ e. omega arith))

  pub lays : (m : Pages) (k : ℕ) → Lays g m k
  lays m k = record {
    mark = mark_kept k m;
    refused_4 = λ e h n. damaged_refuses (carried k (lay_plan g) m) n (mark_damaged m (carried k (lay_plan g) m) (mark_kept k m h) e);
    laid = whole_fresh k m;
  }

  -- where a page of zeros is no commit page
  module _ (zeros : broken g blank ≡ true) where
    wiped : (m : Pages) → damaged g (updated 0 blank m) ≡ true
    unfolding damaged broken
    wiped m = rw (updated_same 0 blank m) zeros

    relays_refused : (m : Pages) (k : ℕ) → 0 < k → k ≤ 1 + (records g + records g) → (n : ℕ) → (step (atomic g) (down (carried k (relay_plan g) m)) (some (recover n))).answer ≡ refused 4
    unfolding relay_plan carried written
    relays_refused m zero a h n = absurd (omega arith)
    relays_refused m (suc k) a h n = (lays (updated 0 blank m) k).refused_4 (wiped m) (omega arith) n

    relays_laid : (m : Pages) (k : ℕ) → 1 + (records g + records g) < k → (p : ℕ) → p < page_count g → carried k (relay_plan g) m p ≡ fresh g p
    unfolding relay_plan carried written
    relays_laid m zero h = absurd (omega arith)
    relays_laid m (suc k) h = (lays (updated 0 blank m) k).laid (omega arith)

    relays_none : (m : Pages) (k : ℕ) → k ≡ 0 → carried k (relay_plan g) m ≡ m
    unfolding carried
    relays_none m zero e = refl
    relays_none m (suc k) e = absurd (omega arith)

    pub relays : (m : Pages) (k : ℕ) → Relays g m k
    relays m k = record { untouched = relays_none m k; refused_4 = relays_refused m k; laid = relays_laid m k }

-- of edition 1
zeros1 : broken geometry1 blank ≡ true
unfolding broken open_store open_geometry open_bytes open_tests open_counting
zeros1 = refl

pub relays1 : (m : Pages) (k : ℕ) → Relays geometry1 m k
relays1 = relays geometry1 zeros1

-- of edition 2
zeros2 : broken geometry2 blank ≡ true
unfolding broken open_store open_geometry open_bytes open_tests open_counting
zeros2 = refl

pub relays2 : (m : Pages) (k : ℕ) → Relays geometry2 m k
relays2 = relays geometry2 zeros2

-- WHY PAGE 0 GOES FIRST over a store that can be read: a used store (every record a page of ones) laid down in the order of `lay_plan` and cut after 17
-- writes has record 0 blank and record 1 as it was, and its page 0 says that all is well.
abbrev used : Pages
used p = cond (same p 0) (commit_page geometry1 0) (replicate 32 1)

pub mixture : (damaged geometry1 (carried 17 (lay_plan geometry1) used) ≡ false)
    × (settled geometry1 (carried 17 (lay_plan geometry1) used) 0 ≡ replicate 32 0) × (settled geometry1 (carried 17 (lay_plan geometry1) used) 1 ≡ replicate 32 1)
    × ((step (atomic geometry1) (down (carried 17 (lay_plan geometry1) used)) (some (recover 63))).answer ≡ done 0)
unfolding open_state open_step open_store open_geometry open_bytes open_tests open_counting open_functions open_commit open_plan open_laying
mixture = (refl, refl, refl, refl)
