-- The reading, one byte further.
use mathlib.Core.Path.{◌≡◌, refl, sym, ◌∙◌, ap}
use mathlib.Core.Bool.{Bool, true, false, cond}
use mathlib.Core.List.{List}
use mathlib.Core.Logic.{◌≢◌}
use Prim.Native.Nat.{ℕ, zero, suc, ◌+◌, ◌-◌, ◌≤◌, ◌<◌}
use native.Mathlib.Numerals.{add-one}
use native.Mathlib.Omega.{arith}
use lib.ListN.{length, get_or}
use Rattle.laws.specs.Tests.{same, open_tests}
use Rattle.laws.proofs.Tests.{Same, is, isnt, same_cases}
use Rattle.sheet_text.specs.Scan.{Scan, between, within, ended, dead, Letter, closing, plain, letter_of, is_digit, to_come, opened, level_closed, stepped, scan_opened, scan_next, scan_after, Stands, Stuck, is_dead, is_ended, open_scan}
use Rattle.sheet_text.proofs.Letters.{is_opening, is_lock_lem, is_write, is_read, is_unknown, opening_is, begun-not, no_letter, no_room, no_level, too_few, has_both, level_up}
use Rattle.sheet_reader.specs.Reads.{Reads}
use Rattle.sheet_reader.specs.declared.Cursor.{Cursor}
use Rattle.sheet_reader.specs.declared.BadByte.{BadByte}
use Rattle.std.specs.Prelude.{Ok, Err}
use Rattle.std.specs.declared.result.Result.{Result}

-- one byte further
on : (s : List ℕ) (i : ℕ) (q : Scan) → scan_after s i ≡ q → scan_after s (i + 1) ≡ scan_next q (get_or s i 0)
unfolding open_scan
on s i q e = ap (scan_after s) (add-one i) ∙ ap (λ (p : Scan). scan_next p (get_or s i 0)) e

stuck : {s : List ℕ} {i : ℕ} {q : Scan} → i ≤ length s → Stands s i q → is_dead q ≡ false → is_ended q ≡ false → (i < length s → scan_next q (get_or s i 0) ≡ dead) → Stuck s i
stuck {s} {i} {q} w e a n stops = record {
  within = w;
  alive = ap is_dead e.is ∙ a;
  stops = λ l. ap (scan_after s) (sym (add-one i)) ∙ on s i q e.is ∙ stops l;
  short = λ _. ap is_ended e.is ∙ n;
}

-- a digit
pub digit_on : {s : List ℕ} {i k low l r : ℕ} → Stands s i (within k low l r) → is_digit (same k low) (get_or s i 0) ≡ true → Stands s (i + 1) (to_come k low l r)
unfolding open_scan
digit_on {s} {i} {k} {low} {l} {r} e d = record { is = on s i _ e.is ∙ ap (λ (t : Bool). cond t (to_come k low l r) dead) d }

pub digit_bad : {s : List ℕ} {i k low l r : ℕ} → i < length s → Stands s i (within k low l r) → is_digit (same k low) (get_or s i 0) ≡ false → Stuck s i
unfolding open_scan
digit_bad {s} {i} {k} {low} {l} {r} w e d = stuck (omega arith) e refl refl (λ _. ap (λ (t : Bool). cond t (to_come k low l r) dead) d)

pub digit_short : {s : List ℕ} {i k low l r : ℕ} → i ≡ length s → Stands s i (within k low l r) → Stuck s i
unfolding open_scan
digit_short {s} {i} w e = stuck (omega arith) e refl refl (λ l. absurd (omega arith))

-- between two steps
pub letter_on : {s : List ℕ} {i l r : ℕ} {x : Letter} → Stands s i (between l r) → letter_of (get_or s i 0) ≡ x → Stands s (i + 1) (stepped x l r)
unfolding open_scan
letter_on {s} {i} {l} {r} e d = record { is = on s i _ e.is ∙ ap (λ (y : Letter). stepped y l r) d }

pub letter_bad : {s : List ℕ} {i l r : ℕ} {x : Letter} → i < length s → Stands s i (between l r) → letter_of (get_or s i 0) ≡ x → stepped x l r ≡ dead → Stuck s i
unfolding open_scan
letter_bad {s} {i} {l} {r} {x} w e d z = stuck (omega arith) e refl refl (λ _. ap (λ (y : Letter). stepped y l r) d ∙ z)

pub between_short : {s : List ℕ} {i l r : ℕ} → i ≡ length s → Stands s i (between l r) → Stuck s i
unfolding open_scan
between_short {s} {i} w e = stuck (omega arith) e refl refl (λ l. absurd (omega arith))

-- where k digits are to come
pub to_come_lem : {s : List ℕ} {i k low l r : ℕ} (j : ℕ) → k ≡ suc j → Stands s i (to_come k low l r) → Stands s i (within j low l r)
unfolding open_scan
to_come_lem {s} {i} {k} {low} {l} {r} j e h = record { is = h.is ∙ ap (λ (m : ℕ). to_come m low l r) e }

pub come_as : {s : List ℕ} {i k : ℕ} (low l r j : ℕ) → k ≡ j → Stands s i (to_come k low l r) → Stands s i (to_come j low l r)
come_as low l r j e h = record { is = h.is ∙ ap (λ (m : ℕ). to_come m low l r) e }

pub none_to_come : (s : List ℕ) (i k low l r : ℕ) → k ≡ 0 → Stands s i (to_come k low l r) → Stands s i (between l r)
unfolding open_scan
none_to_come s i k low l r z e = record { is = e.is ∙ ap (λ (j : ℕ). to_come j low l r) z }

pub all_to_come : {s : List ℕ} {i n low l r : ℕ} → Stands s i (within n low l r) → Stands s i (to_come (n + 1) low l r)
unfolding open_scan
all_to_come {s} {i} {n} {low} {l} {r} e = record { is = e.is ∙ ap (λ (j : ℕ). to_come j low l r) (sym (add-one n)) }

-- what was read from further on
pub from_before : (s : List ℕ) (at at' : ℕ) (q : ℕ → Scan) (f : Result Cursor BadByte) → at ≤ at' → Reads s at' q f → Reads s at q f
from_before s at at' q (Ok c) w h = record { further = omega (arith, h.further); within = h.within; stands = h.stands }
from_before s at at' q (Err p) w h = h

pub has_room : (n low l r : ℕ) → 0 < r → stepped (plain n low) l r ≡ within n low l (r - 1)
unfolding open_scan
has_room n low l zero p = absurd (omega arith)
has_room n low l (suc r) p = ap (within n low l) (omega arith)

-- where no event is free, no lock, write or read can come
pub no_step : (b l : ℕ) → b ≢ 123 → b ≢ 125 → b ≢ 33 → stepped (letter_of b) l 0 ≡ dead
no_step b l n₁ n₂ n₃ = go (same_cases b 76) (same_cases b 87) (same_cases b 82)
  where
    go : Same b 76 → Same b 87 → Same b 82 → stepped (letter_of b) l 0 ≡ dead
    go (is e p p') w r = no_room (letter_of b) l (is_lock_lem e)
    go (isnt n p p') (is e o o') r = no_room (letter_of b) l (is_write e)
    go (isnt n p p') (isnt m o o') (is e t t') = no_room (letter_of b) l (is_read e)
    go (isnt n p p') (isnt m o o') (isnt k t t') = ap (λ (x : Letter). stepped x l 0) (is_unknown b n₁ n₂ n₃ n m k) ∙ no_letter l 0

-- a lock, write or read begins
pub plain_on : {s : List ℕ} {i l : ℕ} (r n low : ℕ) → Stands s i (between l r) → letter_of (get_or s i 0) ≡ plain n low → 0 < r → Stands s (i + 1) (within n low l (r - 1))
plain_on {s} {i} {l} r n low e x p = record { is = (letter_on e x).is ∙ has_room n low l r p }

-- a transaction begins within another, and one ends
pub opened_on : {s : List ℕ} {i : ℕ} (l r : ℕ) → Stands s i (between l r) → get_or s i 0 ≡ 123 → 0 < l → 2 ≤ r → Stands s (i + 1) (between (l - 1) (r - 2))
unfolding stepped
opened_on l r e x p q = record { is = (letter_on e (is_opening x)).is ∙ has_both l r p q }

pub left_on : {s : List ℕ} {i l r : ℕ} → Stands s i (between l r) → letter_of (get_or s i 0) ≡ closing → Stands s (i + 1) (level_closed l r)
unfolding stepped
left_on e x = record { is = (letter_on e x).is }

pub no_level_on : {s : List ℕ} {i l r : ℕ} → i < length s → Stands s i (between l r) → get_or s i 0 ≡ 123 → l ≡ 0 → Stuck s i
unfolding stepped
no_level_on {s} {i} {l} {r} w e x z = letter_bad w e (is_opening x) (ap (λ (k : ℕ). opened k r) z ∙ no_level r)

pub too_few_on : {s : List ℕ} {i l r : ℕ} → i < length s → Stands s i (between l r) → get_or s i 0 ≡ 123 → r < 2 → Stuck s i
unfolding stepped
too_few_on {s} {i} {l} {r} w e x z = letter_bad w e (is_opening x) (too_few l r z)

pub inner_left : (s : List ℕ) (at l : ℕ) (f : Result Cursor BadByte) → 0 < l → l < 16 → Reads s at (level_closed (l - 1)) f → Reads s at (between l) f
inner_left s at l (Ok c) p q h = record { further = h.further; within = h.within; stands = record { is = h.stands.is ∙ level_up l c.room p q } }
inner_left s at l (Err x) p q h = h

-- the beginning of a text
pub opened_text : {s : List ℕ} → get_or s 0 0 ≡ 123 → Stands s 1 (between 15 4094)
unfolding open_scan
opened_text {s} e = record { is = ap (λ (x : Letter). scan_opened x) (is_opening e) }

pub unopened_text : {s : List ℕ} → get_or s 0 0 ≢ 123 → Stuck s 0
unfolding open_scan
unopened_text {s} n = record {
  within = omega arith;
  alive = refl;
  stops = λ _. begun-not (letter_of (get_or s 0 0)) (λ e. n (opening_is (get_or s 0 0) e));
  short = λ _. refl;
}

pub empty_text : {s : List ℕ} → length s ≡ 0 → Stuck s 0
unfolding open_scan
empty_text {s} z = record { within = omega arith; alive = refl; stops = λ l. absurd (omega arith); short = λ _. refl }

-- a byte after the end
pub trailing : {s : List ℕ} {i r : ℕ} → i < length s → Stands s i (ended r) → Stuck s i
unfolding open_scan
trailing {s} {i} {r} l e = record {
  within = omega arith;
  alive = ap is_dead e.is;
  stops = λ _. ap (λ (q : Scan). scan_next q (get_or s i 0)) e.is;
  short = λ z. absurd (omega arith);
}

pub top_left : {s : List ℕ} {i r : ℕ} → Stands s i (level_closed 15 r) → Stands s i (ended r)
unfolding open_scan open_tests
top_left e = record { is = e.is }
