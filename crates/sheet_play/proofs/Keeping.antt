-- The list of a taken sheet, played on a state of edition 1 that is up with no live transaction: each begin is answered with its depth minus 1.
use mathlib.Core.Path.{◌≡◌, refl, sym, ◌∙◌, ap, ap₂, subst, fun_ext}
use mathlib.Core.Bool.{Bool, true, false, cond, ◌&&◌, true≢false}
use mathlib.Core.List.{List, [], ◌∷◌, ◌++◌}
use mathlib.Core.Option.{Option, some}
use mathlib.Core.Logic.{dite}
use Prim.Native.Nat.{ℕ, suc, ◌+◌, ◌*◌, ◌/◌, ◌-◌, ◌≤◌, ◌<◌}
use native.Mathlib.Decide.{dec_lt}
use native.Mathlib.Omega.{arith}
use lib.ListN.{length, drop}
use lib.Seq.{take_at, drop_at}
use Rattle.laws.specs.Tests.{same, under}
use Rattle.laws.specs.Counting.{count}
use Rattle.laws.specs.Bytes.{bytes, number}
use Rattle.laws.proofs.Tests.{lt-under, under-lt}
use Rattle.laws.proofs.Booleans.{and_left, and_right, refute}
use Rattle.laws.proofs.Bytes.{bytes-length, number_bytes}
use Rattle.laws.proofs.Those.{count-le}
use Rattle.rules.specs.Geometry.{nobody, word_size, work_size, open_geometry}
use Rattle.rules.specs.Store.{Page, Pages}
use Rattle.rules.specs.Versions.{is_some}
use Rattle.rules.specs.Commit.{commit_at}
use Rattle.rules.specs.Event.{Event, begin, lock, write, read, to_write, encode, fits, open_event}
use Rattle.rules.specs.State.{Bearer, free, active, is_active, live}
use Rattle.rules.specs.Sound.{Sound}
use Rattle.rules.specs.Step.{StateOf, step, is_busy, busy}
use Rattle.rules.specs.Run.{words, answer_bytes, play, events_in}
use Rattle.rules.specs.Portion.{Fits, words_in, Portion, portion_all}
use Rattle.rules.specs.Editions.{geometry1, edition1}
use Rattle.rules.proofs.Event.{decode_encode}
use Rattle.rules.proofs.Medium.{changed_in}
use Rattle.rules.proofs.Cuts.{commit_due}
use Rattle.rules.proofs.AtomicCommits.{commit_crashed}
use Rattle.rules.proofs.Portions.{sound_played}
use Rattle.rules.proofs.CutLists.{fits_passes}
use Rattle.sheet_text.specs.Sheet as sheet
use Rattle.sheet_text.specs.Sheet.{Steps, locking, writing, reading, inner, Sheet, proper, steps_depth, end_event, step_events, events, event_bytes, sheet_list, Good}
use Rattle.sheet_play.specs.Plays.{InStep, AllInStep, InStepThroughout}
use Rattle.sheet_text.proofs.Texts.{greater_left, greater_right}
use Rattle.sheet_text.proofs.Turning.{words-length}
use Rattle.sheet_play.proofs.Playing.{nest_out, Nested, AllKeep, keep_sheet}

-- an event that is read back from its word, and its word has four bytes
record Coded (e : Event) : Type 0 where
  fit : fits geometry1 e ≡ true
  low : encode geometry1 e < 4294967296

begin_coded : (t : ℕ) → t < 32 → Coded (begin t)
unfolding open_event
begin_coded t h = record { fit = lt-under t 32 h; low = omega arith }

lock_coded : (t r : ℕ) → t < 32 → r < 16 → Coded (lock t r to_write)
unfolding open_event open_geometry
lock_coded t r h k = let a = lt-under t 32 h in let b = lt-under r 16 k in record { fit = λ i. a i && b i; low = omega arith }

write_coded : (t r o v : ℕ) → t < 32 → r < 16 → o < 32 → v < 256 → Coded (write t r o v)
unfolding open_event open_geometry
write_coded t r o v h k l m = let a = lt-under t 32 h in let b = lt-under r 16 k in let c = lt-under o 32 l in let d = lt-under v 256 m in record { fit = λ i. a i && b i && c i && d i; low = omega arith }

read_coded : (t r o : ℕ) → t < 32 → r < 16 → o < 32 → Coded (read t r o)
unfolding open_event open_geometry
read_coded t r o h k l = let a = lt-under t 32 h in let b = lt-under r 16 k in let c = lt-under o 32 l in record { fit = λ i. a i && b i && c i; low = omega arith }

end_coded : (t : ℕ) (c : Bool) → t < 32 → Coded (end_event t c)
unfolding open_event end_event
end_coded t true h = let a = lt-under t 32 h in let b = lt-under 63 64 (omega arith) in record { fit = λ i. a i && b i; low = omega arith }
end_coded t false h = record { fit = lt-under t 32 h; low = omega arith }

unfoldable AllCoded : List Event → Type 0
AllCoded [] = Unit {0}
AllCoded (e ∷ es) = Coded e × AllCoded es

coded-append : (es fs : List Event) → AllCoded es → AllCoded fs → AllCoded (es ++ fs)
unfolding AllCoded
coded-append [] fs a b = b
coded-append (e ∷ es) fs a b = (a.0, coded-append es fs a.1 b)

coded_cons : (e : Event) (es : List Event) → Coded e → AllCoded es → AllCoded (e ∷ es)
unfolding AllCoded
coded_cons e es a b = (a, b)

none-coded : AllCoded []
unfolding AllCoded
none-coded = tt

coded_one : (e : Event) → Coded e → AllCoded (e ∷ [])
unfolding AllCoded
coded_one e a = (a, tt)

steps_coded : (t : Steps) (d : ℕ) → proper t ≡ true → d + steps_depth t ≤ 15 → AllCoded (step_events d t)
unfolding step_events steps_depth proper
steps_coded sheet.none d p h = none-coded
steps_coded (locking t r) d p h = coded-append (step_events d t) _ (steps_coded t d (and_left (proper t) _ p) h) (coded_one _ (lock_coded d r (omega arith) (under-lt r 16 (and_right (proper t) _ p))))
steps_coded (writing t r o v) d p h =
    let g = and_right (proper t) _ p in
    coded-append (step_events d t) _ (steps_coded t d (and_left (proper t) _ p) h)
    (coded_one _ (write_coded d r o v (omega arith) (under-lt r 16 (and_left (under r 16) _ g)) (under-lt o 32 (and_left (under o 32) _ (and_right (under r 16) _ g))) (under-lt v 256 (and_right (under o 32) _ (and_right (under r 16) _ g)))))
steps_coded (reading t r o) d p h =
    let g = and_right (proper t) _ p in
    coded-append (step_events d t) _ (steps_coded t d (and_left (proper t) _ p) h) (coded_one _ (read_coded d r o (omega arith) (under-lt r 16 (and_left (under r 16) _ g)) (under-lt o 32 (and_right (under r 16) _ g))))
steps_coded (inner t i c) d p h =
    let a = greater_left (steps_depth t) (suc (steps_depth i)) (15 - d) (omega arith) in
    let b = greater_right (steps_depth t) (suc (steps_depth i)) (15 - d) (omega arith) in
    let k : d ≤ 15 = omega (arith, h) in
    coded-append (step_events d t) _ (steps_coded t d (and_left (proper t) _ p) (omega (arith, a, k)))
    (coded_cons (begin d) _ (begin_coded d (omega (arith, k))) (coded-append (step_events (suc d) i) _ (steps_coded i (suc d) (and_right (proper t) _ p) (omega (arith, b, k))) (coded_one _ (end_coded (suc d) c (omega (arith, k))))))

sheet_coded : (h : Sheet) → Good h → AllCoded (events h)
unfolding events
sheet_coded h g = coded_cons (begin nobody) _ (begin_coded nobody (omega arith)) (coded-append (step_events 0 h.steps) _ (steps_coded h.steps 0 g.fits (omega (arith, g.shallow))) (coded_one _ (end_coded 0 h.commits (omega arith))))

-- the words of a list of events
unfoldable codes : List Event → List ℕ
codes [] = []
codes (e ∷ es) = encode geometry1 e ∷ codes es

words_codes : (es : List Event) → AllCoded es → words geometry1 (length es) (event_bytes es) ≡ codes es
unfolding AllCoded codes event_bytes words word_size
words_codes [] a = refl
words_codes (e ∷ es) a =
    let n = bytes-length 4 (encode geometry1 e) in
    ap₂ (λ (x y : List ℕ). number x ∷ words geometry1 (length es) y) (take_at (bytes 4 (encode geometry1 e)) (event_bytes es) 4 n) (drop_at (bytes 4 (encode geometry1 e)) (event_bytes es) 4 n)
    ∙ ap₂ (λ (x : ℕ) (y : List ℕ). x ∷ y) (number_bytes 4 (encode geometry1 e) a.0.low) (words_codes es a.1)

list_words : (h : Sheet) → Good h → words_in edition1 (sheet_list h) ≡ codes (events h)
unfolding words_in events_in sheet_list word_size
list_words h g =
    let n : length (event_bytes (events h)) / 4 ≡ length (events h) = ap (λ (k : ℕ). k / 4) (words-length (events h)) ∙ omega arith in
    ap (λ (k : ℕ). words geometry1 k (event_bytes (events h))) n ∙ words_codes (events h) (sheet_coded h g)

due_most : (n : ℕ) → commit_due n ≤ 2 * n + 2
unfolding commit_due
due_most n = go (same n 0)
  where
    go : (b : Bool) → cond b 0 (2 * n + 2) ≤ 2 * n + 2
    go true = omega arith
    go false = omega arith

-- a commit makes at most 34 page writes
enough : (o : Pages) (v : ℕ → Option Page) → (commit_at geometry1 o v 63).crashed ≡ false
unfolding changed_in open_geometry
enough o v = commit_crashed geometry1 o v 63 ∙ few (count 16 (λ r. is_some (v r))) (count-le 16 (λ r. is_some (v r)))
  where
    few : (n : ℕ) → n ≤ 16 → under 63 (commit_due n) ≡ false
    few n h = refute (under 63 (commit_due n)) (λ e. let z = under-lt 63 (commit_due n) e in omega (arith, z, due_most n, h))

keep_play : (base : Pages) (es : List Event) (s : StateOf edition1) → AllCoded es → AllKeep edition1 refl enough base s es → AllInStep (is_busy (edition1.medium.prepared base)) es (play edition1 s (codes es)).answers
unfolding AllCoded codes AllKeep AllInStep play
keep_play base [] s a k = tt
keep_play base (e ∷ es) s a k =
    subst (λ (o : Option Event). InStep (is_busy (edition1.medium.prepared base)) e (step edition1 s o).answer × AllInStep (is_busy (edition1.medium.prepared base)) es (play edition1 (step edition1 s o).state (codes es)).answers)
    (sym (decode_encode geometry1 e a.0.fit))
    (k.0, keep_play base es (step edition1 s (some e)).state a.1 k.1)

is_free : (b : Bearer) → is_active b ≡ false → b ≡ free
unfolding is_active
is_free free e = refl
is_free (active p d) e = absurd (true≢false e)

none-live : (s : StateOf edition1) → s.up ≡ true → ((t : ℕ) → live s t ≡ false) → Nested edition1 refl enough s.store 0 s
unfolding live
none-live s u n = record { up = u; bearer = fun_ext (λ j. is_free (s.bearer j) (n j) ∙ sym (nest_out 0 j (omega arith))); store = refl }

-- The list of a taken sheet, its bytes read as a portion reads them.
pub sheet_in_step : (h : Sheet) → Good h → (s : StateOf edition1) → s.up ≡ true → ((t : ℕ) → live s t ≡ false) → AllInStep (busy edition1 s) (events h) (play edition1 s (words_in edition1 (sheet_list h))).answers
unfolding busy
sheet_in_step h g s u n =
    subst (λ (ws : List ℕ). AllInStep (busy edition1 s) (events h) (play edition1 s ws).answers) (sym (list_words h g))
    (keep_play s.store (events h) s (sheet_coded h g) (keep_sheet edition1 refl enough s.store h s (none-live s u n) (omega (arith, g.shallow))))

list_events : (h : Sheet) → events_in edition1 (sheet_list h) ≡ length (events h)
unfolding events_in sheet_list word_size
list_events h = ap (λ (k : ℕ). k / 4) (words-length (events h)) ∙ omega arith

list_fits : (h : Sheet) (work answers : List ℕ) → Good h → length work ≡ work_size geometry1 → 2 * length (events h) ≤ length answers → Fits edition1 (record { events = sheet_list h; work = work; answers = answers })
unfolding sheet_list word_size
list_fits h work answers g w a =
    let n = words-length (events h) in
    record {
      slots = w;
      whole = omega (arith, n);
      short = omega (arith, n, g.short);
      room = subst (λ (k : ℕ). 2 * k ≤ length answers) (sym (list_events h)) a;
    }

-- THE LIST OF A TAKEN SHEET KEEPS IN STEP, as a portion on a sound state that is up, where none of the 24 numbers is live.
pub sheet_portion :
    (h : Sheet) → Good h → (s : StateOf edition1) → Sound edition1 s → s.up ≡ true → ((t : ℕ) → t < 24 → live s t ≡ false) →
    (store work answers : List ℕ) → length store ≡ edition1.medium.size → length work ≡ work_size geometry1 → 2 * length (events h) ≤ length answers →
    InStepThroughout h s store work answers
unfolding portion_all
sheet_portion h g s z u n store work answers sized slots room =
    let e = sound_played edition1 s store (sheet_list h) work answers (fits_passes edition1 store (record { events = sheet_list h; work = work; answers = answers }) sized (list_fits h work answers g slots room)) in
    record {
      played = ap (λ (p : Portion edition1). p.answer) e;
      given = (play edition1 s (words_in edition1 (sheet_list h))).answers;
      told = ap (λ (p : Portion edition1). p.answers) e ∙ ap (λ (k : ℕ). answer_bytes (play edition1 s (words_in edition1 (sheet_list h))).answers ++ drop (2 * k) answers) (list_events h);
      in_step = sheet_in_step h g s u (λ t. dite (dec_lt t 24) (λ l. n t l) (λ l. refute (live s t) (λ e. l (z.numbered t e))));
    }
