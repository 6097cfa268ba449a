-- A taken sheet's text gives its events: so the text alone says which list it becomes.
use mathlib.Core.Path.{◌≡◌, refl, sym, ◌∙◌, ap, ap₂, subst}
use mathlib.Core.Bool.{Bool, true, false, cond}
use mathlib.Core.List.{List, [], ◌∷◌, ◌++◌, append_assoc, append-nil}
use Prim.Native.Nat.{ℕ, suc, ◌+◌, ◌*◌, ◌-◌, ◌/◌, ◌%◌, ◌≤◌, ◌<◌}
use native.Mathlib.Omega.{arith}
use Rattle.laws.specs.Tests.{same, under, open_tests}
use Rattle.laws.proofs.Tests.{under-lt, lt-under, not-under, Is, yes', no', is_cases}
use Rattle.laws.proofs.Booleans.{and_left, and_right}
use Rattle.rules.specs.Geometry.{nobody}
use Rattle.rules.specs.Event.{Event, begin, lock, write, read, to_write}
use Rattle.sheet_text.specs.Sheet as sheet
use Rattle.sheet_text.specs.Sheet.{Steps, none, locking, writing, reading, inner, Sheet, digit, digits, steps_text, text, proper, steps_depth, end_event, step_events, events, sheet_list, Good, Taken, open_sheet}
use Rattle.sheet_text.specs.Scan.{between, within, dead, is_digit, level_closed, open_scan}
use Rattle.sheet_text.proofs.Count.{count_of, open_count}
use Rattle.sheet_text.specs.Emit.{value, pair_of, offset_of, token_of, Reading, given, emit, emit_all, unread, open_emit}
use Rattle.sheet_text.proofs.Letters.{has_both, level_up}
use Rattle.sheet_text.proofs.Texts.{digit-any, digit_low, greater_left, greater_right, sheet_count}

pub emit-append : (q : Reading) (a b : List ℕ) → emit_all q (a ++ b) ≡ emit_all (emit_all q a) b
unfolding emit_all
emit-append q [] b = refl
emit-append q (x ∷ a) b = emit-append (emit q x) a b

value_digit : (n : ℕ) → n < 16 → value (digit n) ≡ n
unfolding value digit
value_digit n h = go (is_cases (under n 10))
  where
    low : (a b : ℕ) → b ≤ a → under a b ≡ false
    low a b h = go' (is_cases (under a b))
      where
        go' : Is (under a b) → under a b ≡ false
        go' (yes' e) = let z = under-lt a b e in absurd (omega arith)
        go' (no' e) = e

    go : Is (under n 10) → cond (under (cond (under n 10) (48 + n) (55 + n)) 58) (cond (under n 10) (48 + n) (55 + n) % 16) ((cond (under n 10) (48 + n) (55 + n) - 55) % 16) ≡ n
    go (yes' e) = let k = under-lt n 10 e in simp (e, lt-under (48 + n) 58 (omega arith)) (omega arith)
    go (no' e) = let k = not-under n 10 e in simp (e, low (55 + n) 58 (omega arith)) (omega arith)

pair_digits : (n : ℕ) → n < 256 → pair_of (digit (n / 16)) (digit (n % 16)) ≡ n
unfolding pair_of
pair_digits n h = ap₂ (λ (a b : ℕ). 16 * a + b) (value_digit (n / 16) (omega arith)) (value_digit (n % 16) (omega arith)) ∙ omega arith

offset_digits : (n : ℕ) → n < 32 → offset_of (digit (n / 16)) (digit (n % 16)) ≡ n
unfolding offset_of
offset_digits n h = ap (λ (k : ℕ). k % 32) (pair_digits n (omega arith)) ∙ omega arith

abbrev pub at : ℕ → ℕ → List Event → Reading
at l r es = record { scan = between l r; part = []; events = es }

abbrev pub inside : ℕ → ℕ → ℕ → ℕ → List ℕ → List Event → Reading
inside k low l r part es = record { scan = within k low l r; part = part; events = es }

pub digit_emit : (k low l r b : ℕ) (part : List ℕ) (es : List Event) (t : Bool) → same (suc k) low ≡ t → is_digit t b ≡ true → emit (inside (suc k) low l r part es) b ≡ inside k low l r (part ++ (b ∷ [])) es
unfolding open_emit open_scan
digit_emit k low l r b part es t e d =
    let s : cond (is_digit (same (suc k) low) b) (within k low l r) dead ≡ within k low l r = ap (λ (x : Bool). cond (is_digit x b) (within k low l r) dead) e ∙ ap (λ (x : Bool). cond x (within k low l r) dead) d in
    λ i. record { scan = s i; part = part ++ (b ∷ []); events = append-nil es i }

pub last_emit : (low l r b : ℕ) (part : List ℕ) (es : List Event) (t : Bool) → same 0 low ≡ t → is_digit t b ≡ true → emit (inside 0 low l r part es) b ≡ at l r (es ++ (token_of (15 - l) (part ++ (b ∷ [])) ∷ []))
unfolding emit given open_scan open_emit
last_emit low l r b part es t e d =
    let s : cond (is_digit (same 0 low) b) (between l r) dead ≡ between l r = ap (λ (x : Bool). cond (is_digit x b) (between l r) dead) e ∙ ap (λ (x : Bool). cond x (between l r) dead) d in
    λ i. record { scan = s i; part = []; events = es ++ (token_of (15 - l) (part ++ (b ∷ [])) ∷ []) }

pub lock_begin : (l r : ℕ) (es : List Event) → emit (at l (suc r) es) 76 ≡ inside 0 9 l r (76 ∷ []) es
unfolding open_emit open_scan open_tests
lock_begin l r es = λ i. record { scan = within 0 9 l r; part = 76 ∷ []; events = append-nil es i }

pub write_begin : (l r : ℕ) (es : List Event) → emit (at l (suc r) es) 87 ≡ inside 4 3 l r (87 ∷ []) es
unfolding open_emit open_scan open_tests
write_begin l r es = λ i. record { scan = within 4 3 l r; part = 87 ∷ []; events = append-nil es i }

pub read_begin : (l r : ℕ) (es : List Event) → emit (at l (suc r) es) 82 ≡ inside 2 1 l r (82 ∷ []) es
unfolding open_emit open_scan open_tests
read_begin l r es = λ i. record { scan = within 2 1 l r; part = 82 ∷ []; events = append-nil es i }

lock_emit : (l r x : ℕ) (es : List Event) → x < 16 → emit_all (at l (suc r) es) (76 ∷ digit x ∷ []) ≡ at l r (es ++ (lock (15 - l) x to_write ∷ []))
unfolding emit_all token_of open_tests
lock_emit l r x es h =
    ap (λ (q : Reading). emit q (digit x)) (lock_begin l r es) ∙ last_emit 9 l r (digit x) (76 ∷ []) es false refl (digit-any x h)
    ∙ ap (λ (v : ℕ). at l r (es ++ (lock (15 - l) v to_write ∷ []))) (value_digit x h)

write_emit : (l r x o v : ℕ) (es : List Event) → x < 16 → o < 32 → v < 256 → emit_all (at l (suc r) es) (87 ∷ digit x ∷ (digits o ++ digits v)) ≡ at l r (es ++ (write (15 - l) x o v ∷ []))
unfolding emit_all token_of digits open_tests
write_emit l r x o v es hx ho hv =
    ap (λ (q : Reading). emit_all q (digit x ∷ digit (o / 16) ∷ digit (o % 16) ∷ digit (v / 16) ∷ digit (v % 16) ∷ [])) (write_begin l r es)
    ∙ ap (λ (q : Reading). emit_all q (digit (o / 16) ∷ digit (o % 16) ∷ digit (v / 16) ∷ digit (v % 16) ∷ [])) (digit_emit 3 3 l r (digit x) (87 ∷ []) es false refl (digit-any x hx))
    ∙ ap (λ (q : Reading). emit_all q (digit (o % 16) ∷ digit (v / 16) ∷ digit (v % 16) ∷ [])) (digit_emit 2 3 l r (digit (o / 16)) _ es true refl (digit_low (o / 16) (omega arith)))
    ∙ ap (λ (q : Reading). emit_all q (digit (v / 16) ∷ digit (v % 16) ∷ [])) (digit_emit 1 3 l r (digit (o % 16)) _ es false refl (digit-any (o % 16) (omega arith)))
    ∙ ap (λ (q : Reading). emit_all q (digit (v % 16) ∷ [])) (digit_emit 0 3 l r (digit (v / 16)) _ es false refl (digit-any (v / 16) (omega arith)))
    ∙ last_emit 3 l r (digit (v % 16)) _ es false refl (digit-any (v % 16) (omega arith))
    ∙ ap (λ (e : Event). at l r (es ++ (e ∷ []))) (λ i. write (15 - l) (value_digit x hx i) (offset_digits o ho i) (pair_digits v hv i))

read_emit : (l r x o : ℕ) (es : List Event) → x < 16 → o < 32 → emit_all (at l (suc r) es) (82 ∷ digit x ∷ digits o) ≡ at l r (es ++ (read (15 - l) x o ∷ []))
unfolding emit_all token_of digits open_tests
read_emit l r x o es hx ho =
    ap (λ (q : Reading). emit_all q (digit x ∷ digit (o / 16) ∷ digit (o % 16) ∷ [])) (read_begin l r es)
    ∙ ap (λ (q : Reading). emit_all q (digit (o / 16) ∷ digit (o % 16) ∷ [])) (digit_emit 1 1 l r (digit x) (82 ∷ []) es false refl (digit-any x hx))
    ∙ ap (λ (q : Reading). emit_all q (digit (o % 16) ∷ [])) (digit_emit 0 1 l r (digit (o / 16)) _ es true refl (digit_low (o / 16) (omega arith)))
    ∙ last_emit 1 l r (digit (o % 16)) _ es false refl (digit-any (o % 16) (omega arith))
    ∙ ap (λ (e : Event). at l r (es ++ (e ∷ []))) (λ i. read (15 - l) (value_digit x hx i) (offset_digits o ho i))

pub open_one : (l r : ℕ) (es : List Event) → 0 < l → 2 ≤ r → emit (at l r es) 123 ≡ at (l - 1) (r - 2) (es ++ (begin (15 - l) ∷ []))
unfolding open_emit open_scan open_tests
open_one l r es p q = λ i. record { scan = has_both l r p q i; part = []; events = es ++ (begin (15 - l) ∷ []) }

pub close_one : (l r : ℕ) (c : Bool) (es : List Event) → emit (at l r es) (sheet.closing c) ≡ record { scan = level_closed l r; part = []; events = es ++ (end_event (15 - l) c ∷ []) }
unfolding open_emit open_scan open_tests sheet.closing
close_one l r true es = refl
close_one l r false es = refl

piece : (l r r' m : ℕ) (es fs gs : List Event) (a b : List ℕ) → emit_all (at l r es) a ≡ at l r' (es ++ fs) → emit_all (at l r' (es ++ fs)) b ≡ at l m ((es ++ fs) ++ gs) → emit_all (at l r es) (a ++ b) ≡ at l m (es ++ (fs ++ gs))
piece l r r' m es fs gs a b e f = emit-append (at l r es) a b ∙ ap (λ (q : Reading). emit_all q b) e ∙ f ∙ ap (at l m) (append_assoc es fs gs)

pub steps_emit : (t : Steps) (l r : ℕ) (es : List Event) → proper t ≡ true → steps_depth t ≤ l → l < 16 → emit_all (at l (count_of t + r) es) (steps_text t) ≡ at l r (es ++ step_events (15 - l) t)
unfolding open_sheet open_count emit_all
steps_emit none l r es p d h = let z : 0 + r ≡ r = omega arith in ap (λ (m : ℕ). at l m es) z ∙ ap (at l r) (sym (append-nil es))
steps_emit (locking t x) l r es p d h =
    let e : (count_of t + 1) + r ≡ count_of t + suc r = omega arith in
    ap (λ (n : ℕ). emit_all (at l n es) (steps_text t ++ (76 ∷ digit x ∷ []))) e
    ∙ piece l _ (suc r) r es (step_events (15 - l) t) (lock (15 - l) x to_write ∷ []) (steps_text t) _ (steps_emit t l (suc r) es (and_left (proper t) _ p) d h) (lock_emit l r x (es ++ step_events (15 - l) t) (under-lt x 16 (and_right (proper t) _ p)))
steps_emit (writing t x o v) l r es p d h =
    let e : (count_of t + 1) + r ≡ count_of t + suc r = omega arith in
    let g = and_right (proper t) _ p in
    let hx = under-lt x 16 (and_left (under x 16) _ g) in
    let ho = under-lt o 32 (and_left (under o 32) _ (and_right (under x 16) _ g)) in
    let hv = under-lt v 256 (and_right (under o 32) _ (and_right (under x 16) _ g)) in
    ap (λ (n : ℕ). emit_all (at l n es) (steps_text t ++ (87 ∷ digit x ∷ (digits o ++ digits v)))) e
    ∙ piece l _ (suc r) r es (step_events (15 - l) t) (write (15 - l) x o v ∷ []) (steps_text t) _ (steps_emit t l (suc r) es (and_left (proper t) _ p) d h) (write_emit l r x o v (es ++ step_events (15 - l) t) hx ho hv)
steps_emit (reading t x o) l r es p d h =
    let e : (count_of t + 1) + r ≡ count_of t + suc r = omega arith in
    let g = and_right (proper t) _ p in
    let hx = under-lt x 16 (and_left (under x 16) _ g) in
    let ho = under-lt o 32 (and_right (under x 16) _ g) in
    ap (λ (n : ℕ). emit_all (at l n es) (steps_text t ++ (82 ∷ digit x ∷ digits o))) e
    ∙ piece l _ (suc r) r es (step_events (15 - l) t) (read (15 - l) x o ∷ []) (steps_text t) _ (steps_emit t l (suc r) es (and_left (proper t) _ p) d h) (read_emit l r x o (es ++ step_events (15 - l) t) hx ho)
steps_emit (inner t i c) l r es p d h =
    let e : (count_of t + (count_of i + 2)) + r ≡ count_of t + ((count_of i + r) + 2) = omega arith in
    let deep : suc (steps_depth i) ≤ l = greater_right (steps_depth t) (suc (steps_depth i)) l d in
    ap (λ (n : ℕ). emit_all (at l n es) (steps_text t ++ (123 ∷ (steps_text i ++ (sheet.closing c ∷ []))))) e
    ∙ piece l _ ((count_of i + r) + 2) r es (step_events (15 - l) t) (begin (15 - l) ∷ (step_events (suc (15 - l)) i ++ (end_event (suc (15 - l)) c ∷ []))) (steps_text t) _
    (steps_emit t l ((count_of i + r) + 2) es (and_left (proper t) _ p) (greater_left (steps_depth t) (suc (steps_depth i)) l d) h)
    (inner_emit l r i c (es ++ step_events (15 - l) t) deep h (steps_emit i (l - 1) r ((es ++ step_events (15 - l) t) ++ (begin (15 - l) ∷ [])) (and_right (proper t) _ p) (omega arith) (omega arith)))
  where
    inner_emit : (l r : ℕ) (i : Steps) (c : Bool) (es : List Event) → suc (steps_depth i) ≤ l → l < 16
        → emit_all (at (l - 1) (count_of i + r) (es ++ (begin (15 - l) ∷ []))) (steps_text i) ≡ at (l - 1) r ((es ++ (begin (15 - l) ∷ [])) ++ step_events (15 - (l - 1)) i)
        → emit_all (at l ((count_of i + r) + 2) es) (123 ∷ (steps_text i ++ (sheet.closing c ∷ []))) ≡ at l r (es ++ (begin (15 - l) ∷ (step_events (suc (15 - l)) i ++ (end_event (suc (15 - l)) c ∷ []))))
    inner_emit l r i c es deep h e =
        let back : ((count_of i + r) + 2) - 2 ≡ count_of i + r = omega arith in
        let n : 15 - (l - 1) ≡ suc (15 - l) = omega arith in
        ap (λ (q : Reading). emit_all q (steps_text i ++ (sheet.closing c ∷ []))) (open_one l ((count_of i + r) + 2) es (omega arith) (omega arith) ∙ ap (λ (m : ℕ). at (l - 1) m (es ++ (begin (15 - l) ∷ []))) back)
        ∙ emit-append (at (l - 1) (count_of i + r) (es ++ (begin (15 - l) ∷ []))) (steps_text i) (sheet.closing c ∷ [])
        ∙ ap (λ (q : Reading). emit_all q (sheet.closing c ∷ [])) e
        ∙ close_one (l - 1) r c ((es ++ (begin (15 - l) ∷ [])) ++ step_events (15 - (l - 1)) i)
        ∙ (λ k. record { scan = level_up l r (omega arith) h k; part = []; events = ((es ++ (begin (15 - l) ∷ [])) ++ step_events (n k) i) ++ (end_event (n k) c ∷ []) })
        ∙ ap (at l r) (append_assoc (es ++ (begin (15 - l) ∷ [])) (step_events (suc (15 - l)) i) (end_event (suc (15 - l)) c ∷ []) ∙ append_assoc es (begin (15 - l) ∷ []) (step_events (suc (15 - l)) i ++ (end_event (suc (15 - l)) c ∷ [])))

pub first_emit : emit unread 123 ≡ at 15 4094 (begin nobody ∷ [])
unfolding open_emit open_scan open_tests
first_emit = refl

pub sheet_emits : (h : Sheet) → Good h → (emit_all unread (text h)).events ≡ events h
unfolding text emit_all events
sheet_emits h g =
    let n : count_of h.steps + 2 ≤ 4096 = subst (λ (x : ℕ). x ≤ 4096) (sheet_count h) g.short in
    let e : 4094 ≡ count_of h.steps + (4094 - count_of h.steps) = omega arith in
    ap (λ (q : Reading). q.events)
    (ap (λ (q : Reading). emit_all q (steps_text h.steps ++ (sheet.closing h.commits ∷ []))) (first_emit ∙ ap (λ (m : ℕ). at 15 m (begin nobody ∷ [])) e)
    ∙ emit-append (at 15 (count_of h.steps + (4094 - count_of h.steps)) (begin nobody ∷ [])) (steps_text h.steps) (sheet.closing h.commits ∷ [])
    ∙ ap (λ (q : Reading). emit_all q (sheet.closing h.commits ∷ [])) (steps_emit h.steps 15 (4094 - count_of h.steps) (begin nobody ∷ []) g.fits (omega (arith, g.shallow)) (omega arith))
    ∙ close_one 15 (4094 - count_of h.steps) h.commits ((begin nobody ∷ []) ++ step_events (15 - 15) h.steps))

-- the text alone says which events, so which list
pub one_list : (s : List ℕ) (h k : Sheet) → Taken s h → Taken s k → sheet_list h ≡ sheet_list k
unfolding sheet_list
one_list s h k a b = ap sheet.event_bytes (sym (sheet_emits h a.good) ∙ ap (λ (l : List ℕ). (emit_all unread l).events) (a.reads ∙ sym b.reads) ∙ sheet_emits k b.good)
