-- Each step of a text that is read to its end gives one event, and the list grows by its word.
use mathlib.Core.Path.{◌≡◌, refl, sym, ◌∙◌, ap, ap₂, subst}
use mathlib.Core.Bool.{Bool, true, false, cond}
use mathlib.Core.List.{List, [], ◌∷◌, ◌++◌, append_assoc, append-nil}
use mathlib.Core.Logic.{dite}
use Prim.Native.Nat.{ℕ, zero, suc, ◌+◌, ◌*◌, ◌-◌, ◌%◌, ◌≤◌, ◌<◌}
use native.Mathlib.Decide.{dec_lt, ℕ_discrete}
use native.Mathlib.Omega.{arith}
use native.Mathlib.Nat.{add-suc, add-zero}
use lib.ListN.{length, length-append, length-drop, drop, get_or}
use lib.Seq.{take-length, sets, sets-eq, take-append_seam, drop-append-add, drop-drop}
use Rattle.laws.specs.Tests.{same, under, open_tests}
use Rattle.laws.specs.Bytes.{bytes}
use Rattle.laws.proofs.Tests.{Is, is_cases, yes', no', ne_false, lt-under, under-lt}
use Rattle.laws.proofs.Bytes.{bytes-length}
use Rattle.rules.specs.Geometry.{nobody}
use Rattle.rules.specs.Event.{Event, begin, lock, write, read, to_write, word, encode, open_event}
use Rattle.rules.specs.Editions.{geometry1}
use Rattle.sheet_text.specs.Sheet as sheet
use Rattle.sheet_text.specs.Sheet.{Sheet, events, end_event, event_bytes, Taken}
use Rattle.sheet_text.specs.Scan.{Scan, start, between, ended, dead, Letter, plain, letter_of, level_closed, scan_next, scan_after, stepped, is_ended}
use Rattle.sheet_text.proofs.Count.{run}
use Rattle.sheet_text.specs.Emit.{value, pair_of, offset_of, token_of, Reading, given, emit, emit_all, emits, unread}
use Rattle.sheet_text.specs.Made.{over}
use Rattle.sheet_text.specs.Places.{Ends, level_reached, Place, Turns}
use Rattle.sheet_text.proofs.Letters.{is_lock_lem, is_write, is_read, is_unknown, no_letter, begun-not, opening_is}
use Rattle.sheet_text.proofs.Following.{whole_taken, taken_ended, after_run}
use Rattle.sheet_text.proofs.Emitting.{at, sheet_emits, close_one, first_emit}
use Rattle.sheet_text.proofs.Given as given-of
use Rattle.sheet_text.proofs.Given.{scan_is, emits-all, dead_letter, Token}

-- Digits as the code counts them.
pub value_low : (b : ℕ) → b < 58 → b % 16 ≡ value b
unfolding value
value_low b h = let e = lt-under b 58 h in simp e refl

pub value_high : (b : ℕ) → (b < 58 → ⊥) → (b - 55) % 16 ≡ value b
unfolding value
value_high b h = go (is_cases (under b 58))
  where
    go : Is (under b 58) → (b - 55) % 16 ≡ cond (under b 58) (b % 16) ((b - 55) % 16)
    go (yes' e) = absurd (h (under-lt b 58 e))
    go (no' e) = simp e refl

length_over : (a l : List ℕ) → length a ≤ length l → length (over a l) ≡ length l
unfolding over
length_over a l h = length-append a (drop (length a) l) ∙ ap (λ (k : ℕ). length a + k) (length-drop (length a) l) ∙ omega arith

-- a list grows over another
pub over_more : (a b l : List ℕ) → length a + length b ≤ length l → sets (over a l) (length a) b ≡ over (a ++ b) l
unfolding over
over_more a b l h =
    let n : length a + length b ≤ length (a ++ drop (length a) l) = subst (λ (k : ℕ). length a + length b ≤ k) (sym (length_over a l (omega arith))) h in
    sets-eq b (a ++ drop (length a) l) (length a) n
    ∙ ap₂ (λ (x y : List ℕ). x ++ b ++ y) (take-append_seam a (drop (length a) l)) (drop-append-add a (drop (length a) l) (length b) ∙ drop-drop (length b) (length a) l ∙ ap (λ (k : ℕ). drop k l) (sym (length-append a b)))

pub words-length : (es : List Event) → length (event_bytes es) ≡ 4 * length es
unfolding event_bytes
words-length [] = refl
words-length (e ∷ es) = length-append (bytes 4 (encode geometry1 e)) (event_bytes es) ∙ ap₂ (λ (x y : ℕ). x + y) (bytes-length 4 (encode geometry1 e)) (words-length es) ∙ omega arith

pub words_append : (es fs : List Event) → event_bytes (es ++ fs) ≡ event_bytes es ++ event_bytes fs
unfolding event_bytes
words_append [] fs = refl
words_append (e ∷ es) fs = ap (λ (x : List ℕ). bytes 4 (encode geometry1 e) ++ x) (words_append es fs) ∙ sym (append_assoc (bytes 4 (encode geometry1 e)) (event_bytes es) (event_bytes fs))

pub words_one : (e : Event) → event_bytes (e ∷ []) ≡ bytes 4 (encode geometry1 e)
unfolding event_bytes
words_one e = append-nil (bytes 4 (encode geometry1 e))

-- what stands lower is covered
over_over : (a b l : List ℕ) → length b ≤ length a → over a (over b l) ≡ over a l
unfolding over
over_over a b l h =
    let n : length a ≡ length b + (length a - length b) = omega arith in
    ap (λ (x : List ℕ). a ++ x) (ap (λ (k : ℕ). drop k (b ++ drop (length b) l)) n ∙ drop-append-add b (drop (length b) l) (length a - length b) ∙ drop-drop (length a - length b) (length b) l ∙ ap (λ (k : ℕ). drop k l) (sym n))

over_none : (l : List ℕ) → l ≡ over [] l
unfolding over
over_none l = refl

-- events become more
grows : (s : List ℕ) (i k : ℕ) → length (emits s i).events ≤ length (emits s (i + k)).events
unfolding emits emit
grows s i zero = subst (λ (n : ℕ). length (emits s i).events ≤ length (emits s n).events) (sym (add-zero i)) (omega arith)
grows s i (suc k) =
    let a = grows s i k in
    let b = length-append (emits s (i + k)).events (given (emits s (i + k)).scan (emits s (i + k)).part (get_or s (i + k) 0)) in
    subst (λ (n : ℕ). length (emits s i).events ≤ length (emits s n).events) (sym (add-suc i k)) (omega (arith, a, b))

-- a taken sheet's reading ends, and gives its events
pub taken_ends : (s : List ℕ) (h : Sheet) → Taken s h → Ends s
taken_ends s h t = record { room = _; is_so = after_run s (length s) (omega arith) ∙ ap (run start) (take-length s) ∙ taken_ended s h t }

pub taken_events : (s : List ℕ) (h : Sheet) → Taken s h → (emits s (length s)).events ≡ events h
taken_events s h t = ap (λ (q : Reading). q.events) (emits-all s) ∙ ap (λ (l : List ℕ). (emit_all unread l).events) (sym t.reads) ∙ sheet_emits h t.good

-- a level up, or the end
left_reached : (l r : ℕ) → l < 16 → level_closed l r ≡ level_reached (l + 1) r
unfolding level_closed level_reached open_tests
left_reached l r h = dite (ℕ_discrete l 15)
    (λ z. ap (λ (n : ℕ). cond (same n 15) (ended r) (between (suc n) r)) z ∙ sym (ap (λ (n : ℕ). cond (same (n + 1) 16) (ended r) (between (n + 1) r)) z))
    (λ z. let m : suc l ≡ l + 1 = omega arith in
    ap (λ (b : Bool). cond b (ended r) (between (suc l) r)) (ne_false l 15 z) ∙ ap (λ (n : ℕ). between n r) m ∙ sym (ap (λ (b : Bool). cond b (ended r) (between (l + 1) r)) (ne_false (l + 1) 16 (λ q. z (omega arith)))))

module _ (s : List ℕ) (E : Ends s) where
  pub few : (i : ℕ) → i ≤ length s → length (emits s i).events ≤ 4096
  few i h =
      let w = whole_taken s E.room E.is_so in
      let n : i + (length s - i) ≡ length s = omega arith in
      let g = subst (λ (k : ℕ). length (emits s i).events ≤ length (emits s k).events) n (grows s i (length s - i)) in
      let e = ap length (taken_events s w.sheet w.taken) in
      omega (arith, g, e, w.taken.good.short)

  unfold_start : (s : List ℕ) → scan_after s 0 ≡ start
  unfolding scan_after
  unfold_start s = refl

  unfold_ended : Unit {0} → is_ended start ≡ false
  unfolding is_ended
  unfold_ended u = refl

  unfold_dead : (s : List ℕ) → (get_or s 0 0 ≡ 123 → ⊥) → scan_after s 1 ≡ dead
  unfolding scan_after scan_next
  unfold_dead s n = begun-not (letter_of (get_or s 0 0)) (λ e. n (opening_is (get_or s 0 0) e))

  pub first_byte : (0 < length s) × (get_or s 0 0 ≡ 123)
  first_byte = (
    given-of.on s E 0 start (omega arith) (unfold_start s) (unfold_ended tt),
    dite (ℕ_discrete (get_or s 0 0) 123) (λ e. e) (λ n. absurd (given-of.alive s E 1 (given-of.on s E 0 start (omega arith) (unfold_start s) (unfold_ended tt)) (unfold_dead s n))),
  )

  pub inside_low : (i l : ℕ) → i < length s → Place s i l → l < 16
  unfolding level_reached scan_next scan_after same
  inside_low i l h p = dite (dec_lt l 16) (λ k. k) (λ k. absurd (
      let z : l ≡ 16 = omega (arith, p.low) in
      let e : scan_after s i ≡ ended p.room = sym (scan_is s i) ∙ p.scan ∙ ap (λ (n : ℕ). level_reached n p.room) z in
      given-of.alive s E (suc i) h (ap (λ (q : Scan). scan_next q (get_or s i 0)) e)))

  pub stands_at : (i l : ℕ) → l < 16 → (p : Place s i l) → emits s i ≡ at l p.room (emits s i).events
  unfolding level_reached
  stands_at i l h p =
      let e : (emits s i).scan ≡ between l p.room = p.scan ∙ ap (λ (b : Bool). cond b (ended p.room) (between l p.room)) (ne_false l 16 (λ q. omega arith)) in
      λ k. record { scan = e k; part = p.part k; events = (emits s i).events }

  is_place : (i l r : ℕ) (es : List Event) → l < 16 → emits s i ≡ at l r es → Place s i l
  unfolding level_reached
  is_place i l r es h e = record {
    room = r;
    low = omega arith;
    scan = ap (λ (q : Reading). q.scan) e ∙ sym (ap (λ (b : Bool). cond b (ended r) (between l r)) (ne_false l 16 (λ q. omega arith)));
    part = ap (λ (q : Reading). q.part) e;
  }

  token_turns : (i n l r w : ℕ) (v : Event) → 0 < n → l < 16 → Token s E i n (at l r ((emits s i).events ++ (v ∷ []))) → w ≡ encode geometry1 v → Turns s i w (i + n) l
  token_turns i n l r w v p h t e = record {
    further = omega arith;
    within = t.more;
    place = is_place (i + n) l r _ h t.then;
    event = v;
    coded = e;
    gives = ap (λ (q : Reading). q.events) t.then;
  }

  closed_turns : (i l r w : ℕ) (c : Bool) → i < length s → l < 16 → emits s i ≡ at l r (emits s i).events → get_or s i 0 ≡ sheet.closing c → w ≡ encode geometry1 (end_event (15 - l) c) → Turns s i w (i + 1) (l + 1)
  unfolding emits level_reached level_closed
  closed_turns i l r w c h k e x v =
      let m : suc i ≡ i + 1 = omega arith in
      let a : emits s (i + 1) ≡ record { scan = level_closed l r; part = []; events = (emits s i).events ++ (end_event (15 - l) c ∷ []) } = ap (emits s) (sym m) ∙ ap (λ (q : Reading). emit q (get_or s i 0)) e ∙ ap (emit (at l r (emits s i).events)) x ∙ close_one l r c (emits s i).events in
      record {
        further = omega arith;
        within = omega arith;
        place = record { room = r; low = omega arith; scan = ap (λ (q : Reading). q.scan) a ∙ left_reached l r k; part = ap (λ (q : Reading). q.part) a };
        event = end_event (15 - l) c;
        coded = v;
        gives = ap (λ (q : Reading). q.events) a;
      }

  -- each kind of step
  pub open_turns : (i l w : ℕ) → i < length s → Place s i l → get_or s i 0 ≡ 123 → w ≡ word geometry1 1 (15 - l) 0 0 0 0 → (0 < l) × Turns s i w (i + 1) (l - 1)
  unfolding encode
  open_turns i l w h p x v =
      let k = inside_low i l h p in
      let e = stands_at i l k p in
      let g = given-of.open_levels s E i l p.room _ h e x in
      (g.0, token_turns i 1 (l - 1) (p.room - 2) w (begin (15 - l)) (omega arith) (omega arith) (given-of.go_open s E i l p.room _ h e x g.0 g.1) v)

  pub commit_turns : (i l w : ℕ) → i < length s → Place s i l → get_or s i 0 ≡ 125 → w ≡ word geometry1 5 (15 - l) 0 0 63 0 → Turns s i w (i + 1) (l + 1)
  unfolding encode end_event sheet.closing
  commit_turns i l w h p x v = let k = inside_low i l h p in closed_turns i l p.room w true h k (stands_at i l k p) x v

  pub abort_turns : (i l w : ℕ) → i < length s → Place s i l → get_or s i 0 ≡ 33 → w ≡ word geometry1 6 (15 - l) 0 0 0 0 → Turns s i w (i + 1) (l + 1)
  unfolding encode end_event sheet.closing open_event
  abort_turns i l w h p x v = let k = inside_low i l h p in closed_turns i l p.room w false h k (stands_at i l k p) x v

  roomy : (i l n low : ℕ) → i < length s → (p : Place s i l) → letter_of (get_or s i 0) ≡ plain n low → emits s i ≡ at l (suc (p.room - 1)) (emits s i).events
  roomy i l n low h p x =
      let k = inside_low i l h p in
      let e = stands_at i l k p in
      let r = given-of.some_room s E i l p.room n low _ h e x in
      let z : p.room ≡ suc (p.room - 1) = omega (arith, r) in
      e ∙ ap (λ (m : ℕ). at l m (emits s i).events) z

  lock_token : (i l : ℕ) → i < length s → (p : Place s i l) → get_or s i 0 ≡ 76 → Token s E i 2 (at l (p.room - 1) ((emits s i).events ++ (token_of (15 - l) (76 ∷ get_or s (i + 1) 0 ∷ []) ∷ [])))
  lock_token i l h p x = given-of.go_lock s E i l (p.room - 1) _ h (roomy i l 0 9 h p (is_lock_lem x)) x

  pub lock_long : (i l : ℕ) → i < length s → Place s i l → get_or s i 0 ≡ 76 → i + 2 ≤ length s
  lock_long i l h p x = (lock_token i l h p x).more

  pub lock_turns : (i l w a : ℕ) → i < length s → Place s i l → get_or s i 0 ≡ 76 → a ≡ value (get_or s (i + 1) 0) → w ≡ word geometry1 2 (15 - l) a 0 0 0 → Turns s i w (i + 2) l
  unfolding open_event open_tests token_of
  lock_turns i l w a h p x e v = token_turns i 2 l (p.room - 1) w (lock (15 - l) (value (get_or s (i + 1) 0)) to_write) (omega arith) (inside_low i l h p) (lock_token i l h p x) (v ∙ ap (λ (n : ℕ). word geometry1 2 (15 - l) n 0 0 0) e)

  read_token : (i l : ℕ) → i < length s → (p : Place s i l) → get_or s i 0 ≡ 82 → Token s E i 4 (at l (p.room - 1) ((emits s i).events ++ (read (15 - l) (value (get_or s (i + 1) 0)) (offset_of (get_or s (i + 2) 0) (get_or s (i + 2 + 1) 0)) ∷ [])))
  unfolding open_tests token_of
  read_token i l h p x =
      let t = given-of.go_read s E i l (p.room - 1) _ h (roomy i l 2 1 h p (is_read x)) x in
      let e₁ : suc i ≡ i + 1 = omega arith in
      let e₂ : suc (suc i) ≡ i + 2 = omega arith in
      let e₃ : suc (suc (suc i)) ≡ i + 2 + 1 = omega arith in
      record { more = t.more; then = t.then ∙ (λ k. at l (p.room - 1) ((emits s i).events ++ (read (15 - l) (value (get_or s (e₁ k) 0)) (offset_of (get_or s (e₂ k) 0) (get_or s (e₃ k) 0)) ∷ []))) }

  pub read_long : (i l : ℕ) → i < length s → Place s i l → get_or s i 0 ≡ 82 → i + 4 ≤ length s
  read_long i l h p x = (read_token i l h p x).more

  pub read_turns : (i l w a o : ℕ) → i < length s → Place s i l → get_or s i 0 ≡ 82 → a ≡ value (get_or s (i + 1) 0) → o ≡ offset_of (get_or s (i + 2) 0) (get_or s (i + 2 + 1) 0)
      → w ≡ word geometry1 4 (15 - l) a o 0 0 → Turns s i w (i + 4) l
  unfolding encode
  read_turns i l w a o h p x e f v = token_turns i 4 l (p.room - 1) w _ (omega arith) (inside_low i l h p) (read_token i l h p x) (v ∙ ap₂ (λ (n m : ℕ). word geometry1 4 (15 - l) n m 0 0) e f)

  write_token : (i l : ℕ) → i < length s → (p : Place s i l) → get_or s i 0 ≡ 87
      → Token s E i 6 (at l (p.room - 1) ((emits s i).events ++ (write (15 - l) (value (get_or s (i + 1) 0)) (offset_of (get_or s (i + 2) 0) (get_or s (i + 2 + 1) 0)) (pair_of (get_or s (i + 4) 0) (get_or s (i + 4 + 1) 0)) ∷ [])))
  unfolding open_tests token_of
  write_token i l h p x =
      let t = given-of.go_write s E i l (p.room - 1) _ h (roomy i l 4 3 h p (is_write x)) x in
      let e₁ : suc i ≡ i + 1 = omega arith in
      let e₂ : suc (suc i) ≡ i + 2 = omega arith in
      let e₃ : suc (suc (suc i)) ≡ i + 2 + 1 = omega arith in
      let e₄ : suc (suc (suc (suc i))) ≡ i + 4 = omega arith in
      let e₅ : suc (suc (suc (suc (suc i)))) ≡ i + 4 + 1 = omega arith in
      record { more = t.more; then = t.then ∙ (λ k. at l (p.room - 1) ((emits s i).events ++ (write (15 - l) (value (get_or s (e₁ k) 0)) (offset_of (get_or s (e₂ k) 0) (get_or s (e₃ k) 0)) (pair_of (get_or s (e₄ k) 0) (get_or s (e₅ k) 0)) ∷ []))) }

  pub write_long : (i l : ℕ) → i < length s → Place s i l → get_or s i 0 ≡ 87 → i + 6 ≤ length s
  write_long i l h p x = (write_token i l h p x).more

  pub write_turns : (i l w a o b : ℕ) → i < length s → Place s i l → get_or s i 0 ≡ 87 → a ≡ value (get_or s (i + 1) 0) → o ≡ offset_of (get_or s (i + 2) 0) (get_or s (i + 2 + 1) 0) → b ≡ pair_of (get_or s (i + 4) 0) (get_or s (i + 4 + 1) 0)
      → w ≡ word geometry1 3 (15 - l) a o 0 b → Turns s i w (i + 6) l
  unfolding encode
  write_turns i l w a o b h p x e f g v = token_turns i 6 l (p.room - 1) w _ (omega arith) (inside_low i l h p) (write_token i l h p x) (v ∙ (λ k. word geometry1 3 (15 - l) (e k) (f k) 0 (g k)))

  -- what is none of the others is a write
  pub must_write : (i l : ℕ) → i < length s → Place s i l → (get_or s i 0 ≡ 123 → ⊥) → (get_or s i 0 ≡ 125 → ⊥) → (get_or s i 0 ≡ 33 → ⊥) → (get_or s i 0 ≡ 76 → ⊥) → (get_or s i 0 ≡ 82 → ⊥) → get_or s i 0 ≡ 87
  must_write i l h p a b c d f = dite (ℕ_discrete (get_or s i 0) 87) (λ e. e) (λ n. absurd (given-of.alive s E (suc i) h
      (dead_letter s i l p.room (sym (scan_is s i) ∙ ap (λ (q : Reading). q.scan) (stands_at i l (inside_low i l h p) p)) (ap (λ (y : Letter). stepped y l p.room) (is_unknown (get_or s i 0) a b c d n f) ∙ no_letter l p.room))))

-- A list that is filled as far as the text is read, over l₀.
pub record Filling (s l₀ l : List ℕ) (i levels k : ℕ) : Type 0 where
  pub within : i ≤ length s
  pub place : Place s i levels
  pub count : length (emits s i).events ≡ k
  pub filled : l ≡ over (event_bytes (emits s i).events) l₀
  pub long : 16384 ≤ length l₀

module _ (s : List ℕ) (E : Ends s) where
  begun_reading : emits s 1 ≡ at 15 4094 (begin nobody ∷ [])
  unfolding emits
  begun_reading = ap (emit unread) (first_byte s E).1 ∙ first_emit

  begun_words : (w : ℕ) → w ≡ word geometry1 1 31 0 0 0 0 → event_bytes (emits s 1).events ≡ bytes 4 w
  unfolding encode
  begun_words w v = ap (λ (q : Reading). event_bytes q.events) begun_reading ∙ words_one (begin nobody) ∙ ap (bytes 4) (sym v)

  begun_over : (l l₀ : List ℕ) (w : ℕ) → 16384 ≤ length l → l₀ ≡ sets l 0 (bytes 4 w) → l₀ ≡ over (bytes 4 w) l
  begun_over l l₀ w h e = let n = bytes-length 4 w in e ∙ ap (λ (x : List ℕ). sets x 0 (bytes 4 w)) (over_none l) ∙ over_more [] (bytes 4 w) l (omega (arith, n))

  pub filling_length : {l₀ l : List ℕ} {i v k : ℕ} → Filling s l₀ l i v k → length l ≡ length l₀
  filling_length {l₀} {l} {i} {v} {k} f =
      let n = few s E i f.within in
      let m = words-length (emits s i).events in
      ap length f.filled ∙ length_over (event_bytes (emits s i).events) l₀ (omega (arith, n, m, f.long))

  pub filling_start : (l l₀ : List ℕ) (w : ℕ) → 16384 ≤ length l → l₀ ≡ sets l 0 (bytes 4 w) → w ≡ word geometry1 1 31 0 0 0 0 → Filling s l₀ l₀ 1 15 1
  filling_start l l₀ w h e v =
      let o = begun_over l l₀ w h e in
      let n = bytes-length 4 w in
      let m = ap length o ∙ length_over (bytes 4 w) l (omega (arith, n)) in
      record {
        within = (first_byte s E).0;
        place = is_place s E 1 15 4094 (begin nobody ∷ []) (omega arith) begun_reading;
        count = ap (λ (q : Reading). length q.events) begun_reading;
        filled = o ∙ sym (over_over (bytes 4 w) (bytes 4 w) l (omega arith)) ∙ ap (over (bytes 4 w)) (sym o) ∙ ap (λ (x : List ℕ). over x l₀) (sym (begun_words w v));
        long = omega (arith, m);
      }

  pub filling_room : {l₀ l : List ℕ} {i v k w i' v' : ℕ} → Filling s l₀ l i v k → Turns s i w i' v' → (k < 4096) × (4 * k + 4 ≤ length l)
  filling_room {l₀} {l} {i} {v} {k} {w} {i'} {v'} f t =
      let n = few s E i' t.within in
      let m = ap length t.gives ∙ length-append (emits s i).events (t.event ∷ []) in
      let q = filling_length f in
      let o : length (t.event ∷ []) ≡ 1 = refl in
      (omega (arith, n, m, o, f.count), omega (arith, n, m, o, f.count, q, f.long))

  pub filling_more : {l₀ l l' : List ℕ} {i v k w i' v' : ℕ} → Filling s l₀ l i v k → Turns s i w i' v' → l' ≡ sets l (4 * k) (bytes 4 w) → Filling s l₀ l' i' v' (k + 1)
  filling_more {l₀} {l} {l'} {i} {v} {k} {w} {i'} {v'} f t e =
      let es = (emits s i).events in
      let r = filling_room f t in
      let m = words-length es in
      let b = bytes-length 4 w in
      let q = filling_length f in
      let a : 4 * k ≡ length (event_bytes es) = omega (arith, m, f.count) in
      let o : length (t.event ∷ []) ≡ 1 = refl in
      record {
        within = t.within;
        place = t.place;
        count = ap length t.gives ∙ length-append es (t.event ∷ []) ∙ omega (arith, f.count, o);
        filled = e ∙ ap₂ (λ (x : List ℕ) (n : ℕ). sets x n (bytes 4 w)) f.filled a ∙ over_more (event_bytes es) (bytes 4 w) l₀ (omega (arith, a, b, q, r.1))
            ∙ ap (λ (x : List ℕ). over (event_bytes es ++ x) l₀) (ap (bytes 4) t.coded ∙ sym (words_one t.event)) ∙ ap (λ (x : List ℕ). over x l₀) (sym (words_append es (t.event ∷ [])) ∙ ap event_bytes (sym t.gives));
        long = f.long;
      }

  pub filling_all : (l l₀ l' : List ℕ) (w : ℕ) {i v k : ℕ} → 16384 ≤ length l → l₀ ≡ sets l 0 (bytes 4 w) → w ≡ word geometry1 1 31 0 0 0 0 → 1 ≤ k → Filling s l₀ l' i v k → length s ≤ i → l' ≡ over (event_bytes (emits s (length s)).events) l
  filling_all l l₀ l' w {i} {v} {k} h e z p f q =
      let es = (emits s i).events in
      let m = words-length es in
      let b = bytes-length 4 w in
      let n : i ≡ length s = omega (arith, f.within) in
      f.filled ∙ ap (over (event_bytes es)) (begun_over l l₀ w h e) ∙ over_over (event_bytes es) (bytes 4 w) l (omega (arith, m, b, f.count)) ∙ ap (λ (j : ℕ). over (event_bytes (emits s j).events) l) n
