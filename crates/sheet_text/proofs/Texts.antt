-- The text of a taken sheet is read to its end.
use mathlib.Core.Path.{◌≡◌, refl, ◌∙◌, ap, subst}
use mathlib.Core.Bool.{Bool, true, false, cond, or-true}
use mathlib.Core.List.{List, [], ◌∷◌, ◌++◌}
use Prim.Native.Nat.{ℕ, suc, ◌+◌, ◌-◌, ◌/◌, ◌%◌, ◌≤◌, ◌<◌}
use native.Mathlib.Omega.{arith}
use lib.ListN.{length, length-append}
use Rattle.laws.specs.Tests.{same, under, open_tests}
use Rattle.laws.proofs.Tests.{under-lt, lt-under, not-under, Is, yes', no', is_cases}
use Rattle.laws.proofs.Booleans.{and_left, and_right}
use Rattle.sheet_text.specs.Sheet.{Steps, none, locking, writing, reading, inner, Sheet, digit, digits, closing, steps_text, text, proper, greater, steps_depth, end_event, step_events, events, Good, open_sheet}
use Rattle.sheet_text.specs.Scan.{Scan, start, between, within, ended, dead, is_digit, to_come, opened, level_closed, scan_next, open_scan}
use Rattle.sheet_text.proofs.Count.{count_of, run, open_count}
use Rattle.sheet_text.proofs.Letters.{has_both, level_up}

-- reading goes on where it stood
pub run-append : (q : Scan) (a b : List ℕ) → run q (a ++ b) ≡ run (run q a) b
unfolding run
run-append q [] b = refl
run-append q (x ∷ a) b = run-append (scan_next q x) a b

-- which digit a number has
below_ten : (n : ℕ) → under n 10 ≡ true → digit n ≡ 48 + n
unfolding digit
below_ten n e = ap (λ (b : Bool). cond b (48 + n) (55 + n)) e

from_ten : (n : ℕ) → under n 10 ≡ false → digit n ≡ 55 + n
unfolding digit
from_ten n e = ap (λ (b : Bool). cond b (48 + n) (55 + n)) e

-- the digit of a number below 16 is one; of a number below 2 it is 0 or 1
pub digit-any : (n : ℕ) → n < 16 → is_digit false (digit n) ≡ true
unfolding is_digit
digit-any n h = go (is_cases (under n 10))
  where
    go : Is (under n 10) → is_digit false (digit n) ≡ true
    go (yes' e) = ap (is_digit false) (below_ten n e) ∙ simp (lt-under 47 (48 + n) (omega arith), lt-under (48 + n) 58 (omega (arith, under-lt n 10 e)))
    go (no' e) = ap (is_digit false) (from_ten n e) ∙ simp (lt-under 64 (55 + n) (omega (arith, not-under n 10 e)), lt-under (55 + n) 71 (omega arith), or-true)

pub digit_low : (n : ℕ) → n < 2 → is_digit true (digit n) ≡ true
unfolding is_digit
digit_low n h = ap (is_digit true) (below_ten n (lt-under n 10 (omega arith))) ∙ simp (lt-under 47 (48 + n) (omega arith), lt-under (48 + n) 50 (omega arith))

-- one digit
digit_next : (k low l r b : ℕ) (t : Bool) → same k low ≡ t → is_digit t b ≡ true → scan_next (within k low l r) b ≡ to_come k low l r
unfolding open_scan
digit_next k low l r b t e d = ap (λ (x : Bool). cond (is_digit x b) (to_come k low l r) dead) e ∙ ap (λ (x : Bool). cond x (to_come k low l r) dead) d

-- a whole lock, write, read
lock_read : (l r x : ℕ) → x < 16 → run (between l (suc r)) (76 ∷ digit x ∷ []) ≡ between l r
unfolding open_scan open_count open_tests
lock_read l r x h = digit_next 0 9 l r (digit x) false refl (digit-any x h)

write_read : (l r x o p v w : ℕ) → x < 16 → o < 2 → p < 16 → v < 16 → w < 16 → run (between l (suc r)) (87 ∷ digit x ∷ digit o ∷ digit p ∷ digit v ∷ digit w ∷ []) ≡ between l r
unfolding open_scan open_count open_tests
write_read l r x o p v w hx ho hp hv hw =
    ap (λ (q : Scan). run q (digit o ∷ digit p ∷ digit v ∷ digit w ∷ [])) (digit_next 4 3 l r (digit x) false refl (digit-any x hx))
    ∙ ap (λ (q : Scan). run q (digit p ∷ digit v ∷ digit w ∷ [])) (digit_next 3 3 l r (digit o) true refl (digit_low o ho))
    ∙ ap (λ (q : Scan). run q (digit v ∷ digit w ∷ [])) (digit_next 2 3 l r (digit p) false refl (digit-any p hp))
    ∙ ap (λ (q : Scan). run q (digit w ∷ [])) (digit_next 1 3 l r (digit v) false refl (digit-any v hv))
    ∙ digit_next 0 3 l r (digit w) false refl (digit-any w hw)

read_read : (l r x o p : ℕ) → x < 16 → o < 2 → p < 16 → run (between l (suc r)) (82 ∷ digit x ∷ digit o ∷ digit p ∷ []) ≡ between l r
unfolding open_scan open_count open_tests
read_read l r x o p hx ho hp =
    ap (λ (q : Scan). run q (digit o ∷ digit p ∷ [])) (digit_next 2 1 l r (digit x) false refl (digit-any x hx))
    ∙ ap (λ (q : Scan). run q (digit p ∷ [])) (digit_next 1 1 l r (digit o) true refl (digit_low o ho))
    ∙ digit_next 0 1 l r (digit p) false refl (digit-any p hp)

-- the end of a transaction
closing_next : (l r : ℕ) (c : Bool) → scan_next (between l r) (closing c) ≡ level_closed l r
unfolding open_scan open_tests closing
closing_next l r true = refl
closing_next l r false = refl

opening_next : (l r : ℕ) → scan_next (between l r) 123 ≡ opened l r
unfolding open_scan open_tests
opening_next l r = refl

pub greater_left : (a b n : ℕ) → greater a b ≤ n → a ≤ n
unfolding greater
greater_left a b n h = go (is_cases (under a b))
  where
    go : Is (under a b) → a ≤ n
    go (yes' e) = let k : b ≤ n = subst (λ (x : Bool). cond x b a ≤ n) e h in omega (arith, under-lt a b e)
    go (no' e) = subst (λ (x : Bool). cond x b a ≤ n) e h

pub greater_right : (a b n : ℕ) → greater a b ≤ n → b ≤ n
unfolding greater
greater_right a b n h = go (is_cases (under a b))
  where
    go : Is (under a b) → b ≤ n
    go (yes' e) = subst (λ (x : Bool). cond x b a ≤ n) e h
    go (no' e) = let k : a ≤ n = subst (λ (x : Bool). cond x b a ≤ n) e h in omega (arith, not-under a b e)

-- after a part of a text comes a piece
piece : (l r r' m : ℕ) (a b : List ℕ) → run (between l r) a ≡ between l r' → run (between l r') b ≡ between l m → run (between l r) (a ++ b) ≡ between l m
piece l r r' m a b e f = run-append (between l r) a b ∙ ap (λ (q : Scan). run q b) e ∙ f

-- steps are read; r events are free after them
pub steps_read : (t : Steps) (l r : ℕ) → proper t ≡ true → steps_depth t ≤ l → l < 16 → run (between l (count_of t + r)) (steps_text t) ≡ between l r
unfolding open_sheet open_count
steps_read none l r p d h = ap (between l) (omega arith)
steps_read (locking t x) l r p d h =
    let e : (count_of t + 1) + r ≡ count_of t + suc r = omega arith in
    ap (λ (n : ℕ). run (between l n) (steps_text t ++ (76 ∷ digit x ∷ []))) e
    ∙ piece l _ (suc r) r (steps_text t) _ (steps_read t l (suc r) (and_left (proper t) _ p) d h) (lock_read l r x (under-lt x 16 (and_right (proper t) _ p)))
steps_read (writing t x o v) l r p d h =
    let e : (count_of t + 1) + r ≡ count_of t + suc r = omega arith in
    let g = and_right (proper t) _ p in
    let hx = under-lt x 16 (and_left (under x 16) _ g) in
    let ho = under-lt o 32 (and_left (under o 32) _ (and_right (under x 16) _ g)) in
    let hv = under-lt v 256 (and_right (under o 32) _ (and_right (under x 16) _ g)) in
    ap (λ (n : ℕ). run (between l n) (steps_text t ++ (87 ∷ digit x ∷ (digits o ++ digits v)))) e
    ∙ piece l _ (suc r) r (steps_text t) _ (steps_read t l (suc r) (and_left (proper t) _ p) d h) (write_read l r x (o / 16) (o % 16) (v / 16) (v % 16) hx (omega arith) (omega arith) (omega arith) (omega arith))
steps_read (reading t x o) l r p d h =
    let e : (count_of t + 1) + r ≡ count_of t + suc r = omega arith in
    let g = and_right (proper t) _ p in
    let hx = under-lt x 16 (and_left (under x 16) _ g) in
    let ho = under-lt o 32 (and_right (under x 16) _ g) in
    ap (λ (n : ℕ). run (between l n) (steps_text t ++ (82 ∷ digit x ∷ digits o))) e
    ∙ piece l _ (suc r) r (steps_text t) _ (steps_read t l (suc r) (and_left (proper t) _ p) d h) (read_read l r x (o / 16) (o % 16) hx (omega arith) (omega arith))
steps_read (inner t i c) l r p d h =
    let e : (count_of t + (count_of i + 2)) + r ≡ count_of t + ((count_of i + r) + 2) = omega arith in
    let deep : suc (steps_depth i) ≤ l = greater_right (steps_depth t) (suc (steps_depth i)) l d in
    ap (λ (n : ℕ). run (between l n) (steps_text t ++ (123 ∷ (steps_text i ++ (closing c ∷ []))))) e
    ∙ piece l _ ((count_of i + r) + 2) r (steps_text t) _ (steps_read t l ((count_of i + r) + 2) (and_left (proper t) _ p) (greater_left (steps_depth t) (suc (steps_depth i)) l d) h)
    (inner_read l r i c deep h (steps_read i (l - 1) r (and_right (proper t) _ p) (omega arith) (omega arith)))
  where
    inner_read : (l r : ℕ) (i : Steps) (c : Bool) → suc (steps_depth i) ≤ l → l < 16 → run (between (l - 1) (count_of i + r)) (steps_text i) ≡ between (l - 1) r
        → run (between l ((count_of i + r) + 2)) (123 ∷ (steps_text i ++ (closing c ∷ []))) ≡ between l r
    inner_read l r i c deep h e =
        let back : ((count_of i + r) + 2) - 2 ≡ count_of i + r = omega arith in
        ap (λ (q : Scan). run q (steps_text i ++ (closing c ∷ []))) (opening_next l ((count_of i + r) + 2) ∙ has_both l ((count_of i + r) + 2) (omega arith) (omega arith) ∙ ap (between (l - 1)) back)
        ∙ run-append (between (l - 1) (count_of i + r)) (steps_text i) (closing c ∷ [])
        ∙ ap (λ (q : Scan). run q (closing c ∷ [])) e ∙ closing_next (l - 1) r c ∙ level_up l r (omega arith) h

-- steps have as many events as they are counted
pub events-count : (t : Steps) (k : ℕ) → length (step_events k t) ≡ count_of t
unfolding open_sheet open_count
events-count none k = refl
events-count (locking t x) k = length-append (step_events k t) _ ∙ ap (λ (n : ℕ). n + 1) (events-count t k)
events-count (writing t x o v) k = length-append (step_events k t) _ ∙ ap (λ (n : ℕ). n + 1) (events-count t k)
events-count (reading t x o) k = length-append (step_events k t) _ ∙ ap (λ (n : ℕ). n + 1) (events-count t k)
events-count (inner t i c) k =
    let a : length (step_events k t) ≡ count_of t = events-count t k in
    let b : length (step_events (suc k) i) ≡ count_of i = events-count i (suc k) in
    let d : length (step_events (suc k) i ++ (end_event (suc k) c ∷ [])) ≡ length (step_events (suc k) i) + 1 = length-append (step_events (suc k) i) _ in
    length-append (step_events k t) _ ∙ omega arith

pub sheet_count : (h : Sheet) → length (events h) ≡ count_of h.steps + 2
unfolding events
sheet_count h =
    let b : length (step_events 0 h.steps) ≡ count_of h.steps = events-count h.steps 0 in
    let d : length (step_events 0 h.steps ++ (end_event 0 h.commits ∷ [])) ≡ length (step_events 0 h.steps) + 1 = length-append (step_events 0 h.steps) _ in
    omega arith

begins : scan_next start 123 ≡ between 15 4094
unfolding open_scan open_tests
begins = refl

left_top : (r : ℕ) → level_closed 15 r ≡ ended r
unfolding open_scan open_tests
left_top r = refl

-- a taken sheet is read to its end
pub sheet_read : (h : Sheet) → Good h → run start (text h) ≡ ended (4094 - count_of h.steps)
unfolding text run
sheet_read h g =
    let n : count_of h.steps + 2 ≤ 4096 = subst (λ (x : ℕ). x ≤ 4096) (sheet_count h) g.short in
    let e : 4094 ≡ count_of h.steps + (4094 - count_of h.steps) = omega arith in
    ap (λ (q : Scan). run q (steps_text h.steps ++ (closing h.commits ∷ []))) (begins ∙ ap (between 15) e)
    ∙ run-append (between 15 (count_of h.steps + (4094 - count_of h.steps))) (steps_text h.steps) (closing h.commits ∷ [])
    ∙ ap (λ (q : Scan). run q (closing h.commits ∷ [])) (steps_read h.steps 15 (4094 - count_of h.steps) g.fits (omega (arith, g.shallow)) (omega arith))
    ∙ closing_next 15 (4094 - count_of h.steps) h.commits ∙ left_top (4094 - count_of h.steps)
