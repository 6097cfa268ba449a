-- The reading of a good text, step by step: it never dies, so each step is whole.
use mathlib.Core.Path.{◌≡◌, refl, sym, ◌∙◌, ap}
use mathlib.Core.Bool.{Bool, true, false, cond, true≢false, false≢true}
use mathlib.Core.List.{List, [], ◌∷◌, ◌++◌}
use mathlib.Core.Logic.{dite}
use Prim.Native.Nat.{ℕ, zero, suc, ◌+◌, ◌-◌, ◌≤◌, ◌<◌}
use native.Mathlib.Decide.{dec_lt}
use native.Mathlib.Omega.{arith}
use native.Mathlib.Nat.{add-suc, add-zero}
use lib.ListN.{length, take, get_or}
use lib.Seq.{take-suc, take-length}
use Rattle.laws.specs.Tests.{same}
use Rattle.laws.proofs.Tests.{Is, is_cases, yes', no'}
use Rattle.rules.specs.Event.{Event, begin}
use Rattle.sheet_text.specs.Scan.{Scan, start, between, within, ended, dead, Letter, plain, letter_of, is_digit, to_come, opened, stepped, scan_next, scan_after, is_dead, is_ended}
use Rattle.sheet_text.specs.Emit.{token_of, Reading, emit, emit_all, emits, unread}
use Rattle.sheet_text.specs.Places.{Ends}
use Rattle.sheet_text.proofs.Letters.{is_opening, too_few, no_level, no_room}
use Rattle.sheet_text.proofs.Emitting.{at, inside, digit_emit, last_emit, lock_begin, write_begin, read_begin, open_one, emit-append}

pub scan_is : (s : List ℕ) (i : ℕ) → (emits s i).scan ≡ scan_after s i
unfolding emits emit scan_after
scan_is s zero = refl
scan_is s (suc i) = ap (λ (q : Scan). scan_next q (get_or s i 0)) (scan_is s i)

emits-take : (s : List ℕ) (i : ℕ) → i ≤ length s → emits s i ≡ emit_all unread (take i s)
unfolding emits emit_all
emits-take s zero h = refl
emits-take s (suc i) h = ap (λ (q : Reading). emit q (get_or s i 0)) (emits-take s i (omega arith)) ∙ sym (emit-append unread (take i s) (get_or s i 0 ∷ [])) ∙ ap (emit_all unread) (sym (take-suc s i 0 (omega arith)))

-- the whole text
pub emits-all : (s : List ℕ) → emits s (length s) ≡ emit_all unread s
emits-all s = emits-take s (length s) (omega arith) ∙ ap (emit_all unread) (take-length s)

-- what is dead stays so
dead_stays : (s : List ℕ) (i k : ℕ) → scan_after s i ≡ dead → scan_after s (i + k) ≡ dead
unfolding scan_after scan_next
dead_stays s i zero e = ap (scan_after s) (add-zero i) ∙ e
dead_stays s i (suc k) e = ap (scan_after s) (add-suc i k) ∙ ap (λ (q : Scan). scan_next q (get_or s (i + k) 0)) (dead_stays s i k e)

pub is_dead_lem : (q : Scan) → is_dead q ≡ true → q ≡ dead
unfolding is_dead
is_dead_lem start e = absurd (false≢true e)
is_dead_lem (between l r) e = absurd (false≢true e)
is_dead_lem (within k low l r) e = absurd (false≢true e)
is_dead_lem (ended r) e = absurd (false≢true e)
is_dead_lem dead e = refl

dead_digit : (s : List ℕ) (j k low l r : ℕ) → scan_after s j ≡ within k low l r → is_digit (same k low) (get_or s j 0) ≡ false → scan_after s (suc j) ≡ dead
unfolding scan_after scan_next
dead_digit s j k low l r e d = ap (λ (q : Scan). scan_next q (get_or s j 0)) e ∙ ap (λ (x : Bool). cond x (to_come k low l r) dead) d

pub dead_letter : (s : List ℕ) (j l r : ℕ) → scan_after s j ≡ between l r → stepped (letter_of (get_or s j 0)) l r ≡ dead → scan_after s (suc j) ≡ dead
unfolding scan_after scan_next
dead_letter s j l r e d = ap (λ (q : Scan). scan_next q (get_or s j 0)) e ∙ d

module _ (s : List ℕ) (E : Ends s) where
  pub alive : (i : ℕ) → i ≤ length s → scan_after s i ≡ dead → ⊥
  unfolding is_dead
  alive i h e =
      let n : i + (length s - i) ≡ length s = omega arith in
      true≢false (ap is_dead (sym (dead_stays s i (length s - i) e) ∙ ap (scan_after s) n ∙ E.is_so))

  -- what has not ended goes on
  pub on : (i : ℕ) (q : Scan) → i ≤ length s → scan_after s i ≡ q → is_ended q ≡ false → i < length s
  unfolding is_ended
  on i q h e n = dite (dec_lt i (length s)) (λ l. l) (λ x. absurd (let z : i ≡ length s = omega arith in true≢false (ap is_ended (sym E.is_so ∙ ap (scan_after s) (sym z) ∙ e) ∙ n)))

  scan_of : (i : ℕ) (q : Reading) → emits s i ≡ q → scan_after s i ≡ q.scan
  scan_of i q e = sym (scan_is s i) ∙ ap (λ (p : Reading). p.scan) e

  -- a digit, and the last one
  pub record Digit (j k low : ℕ) (q : Reading) : Type 0 where
    pub more : j < length s
    pub valid : is_digit (same k low) (get_or s j 0) ≡ true
    pub then : emits s (suc j) ≡ q

  pub go_digit : (j k low l r : ℕ) (part : List ℕ) (es : List Event) → j ≤ length s → emits s j ≡ inside (suc k) low l r part es → Digit j (suc k) low (inside k low l r (part ++ (get_or s j 0 ∷ [])) es)
  unfolding emits is_ended
  go_digit j k low l r part es h e =
      let m = on j (within (suc k) low l r) h (scan_of j _ e) refl in
      go m (is_cases (is_digit (same (suc k) low) (get_or s j 0)))
    where
      dies : is_digit (same (suc k) low) (get_or s j 0) ≡ false → j < length s → ⊥
      dies d m = alive (suc j) m (dead_digit s j (suc k) low l r (scan_of j _ e) d)

      go : j < length s → Is (is_digit (same (suc k) low) (get_or s j 0)) → Digit j (suc k) low (inside k low l r (part ++ (get_or s j 0 ∷ [])) es)
      go m (yes' d) = record { more = m; valid = d; then = ap (λ (q : Reading). emit q (get_or s j 0)) e ∙ digit_emit k low l r (get_or s j 0) part es (same (suc k) low) refl d }
      go m (no' d) = absurd (dies d m)

  pub go_last : (j low l r : ℕ) (part : List ℕ) (es : List Event) → j ≤ length s → emits s j ≡ inside 0 low l r part es → Digit j 0 low (at l r (es ++ (token_of (15 - l) (part ++ (get_or s j 0 ∷ [])) ∷ [])))
  unfolding emits is_ended
  go_last j low l r part es h e =
      let m = on j (within 0 low l r) h (scan_of j _ e) refl in
      go m (is_cases (is_digit (same 0 low) (get_or s j 0)))
    where
      go : j < length s → Is (is_digit (same 0 low) (get_or s j 0)) → Digit j 0 low (at l r (es ++ (token_of (15 - l) (part ++ (get_or s j 0 ∷ [])) ∷ [])))
      go m (yes' d) = record { more = m; valid = d; then = ap (λ (q : Reading). emit q (get_or s j 0)) e ∙ last_emit low l r (get_or s j 0) part es (same 0 low) refl d }
      go m (no' d) = absurd (alive (suc j) m (dead_digit s j 0 low l r (scan_of j _ e) d))

  -- a whole step of n bytes
  pub record Token (j n : ℕ) (q : Reading) : Type 0 where
    pub more : j + n ≤ length s
    pub then : emits s (j + n) ≡ q

  -- a lock, write or read has a free event
  pub some_room : (j l r n low : ℕ) (es : List Event) → j < length s → emits s j ≡ at l r es → letter_of (get_or s j 0) ≡ plain n low → 0 < r
  some_room j l zero n low es h e x = absurd (alive (suc j) h (dead_letter s j l 0 (scan_of j _ e) (no_room (letter_of (get_or s j 0)) l x)))
  some_room j l (suc r) n low es h e x = omega arith

  pub go_lock : (j l r : ℕ) (es : List Event) → j < length s → emits s j ≡ at l (suc r) es → get_or s j 0 ≡ 76 → Token j 2 (at l r (es ++ (token_of (15 - l) (76 ∷ get_or s (j + 1) 0 ∷ []) ∷ [])))
  unfolding emits
  go_lock j l r es h e x =
      let a : emits s (suc j) ≡ inside 0 9 l r (76 ∷ []) es = ap (λ (q : Reading). emit q (get_or s j 0)) e ∙ ap (emit (at l (suc r) es)) x ∙ lock_begin l r es in
      let d = go_last (suc j) 9 l r (76 ∷ []) es h a in
      let n : suc j ≡ j + 1 = omega arith in
      let m : suc (suc j) ≡ j + 2 = omega arith in
      record { more = omega (arith, d.more); then = ap (emits s) (sym m) ∙ d.then ∙ ap (λ (k : ℕ). at l r (es ++ (token_of (15 - l) (76 ∷ get_or s k 0 ∷ []) ∷ []))) n }

  pub go_read : (j l r : ℕ) (es : List Event) → j < length s → emits s j ≡ at l (suc r) es → get_or s j 0 ≡ 82
      → Token j 4 (at l r (es ++ (token_of (15 - l) (82 ∷ get_or s (suc j) 0 ∷ get_or s (suc (suc j)) 0 ∷ get_or s (suc (suc (suc j))) 0 ∷ []) ∷ [])))
  unfolding emits
  go_read j l r es h e x =
      let a : emits s (suc j) ≡ inside 2 1 l r (82 ∷ []) es = ap (λ (q : Reading). emit q (get_or s j 0)) e ∙ ap (emit (at l (suc r) es)) x ∙ read_begin l r es in
      let d₁ = go_digit (suc j) 1 1 l r (82 ∷ []) es h a in
      let d₂ = go_digit (suc (suc j)) 0 1 l r _ es d₁.more d₁.then in
      let d₃ = go_last (suc (suc (suc j))) 1 l r _ es d₂.more d₂.then in
      let m : suc (suc (suc (suc j))) ≡ j + 4 = omega arith in
      record { more = omega (arith, d₃.more); then = ap (emits s) (sym m) ∙ d₃.then }

  pub go_write : (j l r : ℕ) (es : List Event) → j < length s → emits s j ≡ at l (suc r) es → get_or s j 0 ≡ 87
      → Token j 6 (at l r (es ++ (token_of (15 - l) (87 ∷ get_or s (suc j) 0 ∷ get_or s (suc (suc j)) 0 ∷ get_or s (suc (suc (suc j))) 0 ∷ get_or s (suc (suc (suc (suc j)))) 0 ∷ get_or s (suc (suc (suc (suc (suc j))))) 0 ∷ []) ∷ [])))
  unfolding emits
  go_write j l r es h e x =
      let a : emits s (suc j) ≡ inside 4 3 l r (87 ∷ []) es = ap (λ (q : Reading). emit q (get_or s j 0)) e ∙ ap (emit (at l (suc r) es)) x ∙ write_begin l r es in
      let d₁ = go_digit (suc j) 3 3 l r (87 ∷ []) es h a in
      let d₂ = go_digit (suc (suc j)) 2 3 l r _ es d₁.more d₁.then in
      let d₃ = go_digit (suc (suc (suc j))) 1 3 l r _ es d₂.more d₂.then in
      let d₄ = go_digit (suc (suc (suc (suc j)))) 0 3 l r _ es d₃.more d₃.then in
      let d₅ = go_last (suc (suc (suc (suc (suc j))))) 3 l r _ es d₄.more d₄.then in
      let m : suc (suc (suc (suc (suc (suc j))))) ≡ j + 6 = omega arith in
      record { more = omega (arith, d₅.more); then = ap (emits s) (sym m) ∙ d₅.then }

  -- a transaction begins, and one ends
  pub go_open : (j l r : ℕ) (es : List Event) → j < length s → emits s j ≡ at l r es → get_or s j 0 ≡ 123 → 0 < l → 2 ≤ r → Token j 1 (at (l - 1) (r - 2) (es ++ (begin (15 - l) ∷ [])))
  unfolding emits
  go_open j l r es h e x p q =
      let m : suc j ≡ j + 1 = omega arith in
      record { more = omega arith; then = ap (emits s) (sym m) ∙ ap (λ (k : Reading). emit k (get_or s j 0)) e ∙ ap (emit (at l r es)) x ∙ open_one l r es p q }

  pub open_levels : (j l r : ℕ) (es : List Event) → j < length s → emits s j ≡ at l r es → get_or s j 0 ≡ 123 → (0 < l) × (2 ≤ r)
  unfolding stepped
  open_levels j l r es h e x = (
    dite (dec_lt 0 l) (λ k. k) (λ k. absurd (alive (suc j) h (dead_letter s j l r (scan_of j _ e) (ap (λ (y : Letter). stepped y l r) (is_opening x) ∙ (let z : l ≡ 0 = omega arith in ap (λ (n : ℕ). opened n r) z ∙ no_level r))))),
    dite (dec_lt r 2) (λ k. absurd (alive (suc j) h (dead_letter s j l r (scan_of j _ e) (ap (λ (y : Letter). stepped y l r) (is_opening x) ∙ too_few l r k)))) (λ k. omega arith),
  )
