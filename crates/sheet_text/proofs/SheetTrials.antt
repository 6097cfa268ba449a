-- Every row of the table of sheets holds: the reading of its text is computed, and what a reading means is known.
use mathlib.Core.Path.{◌≡◌, refl, sym, ◌∙◌, ap}
use mathlib.Core.Bool.{Bool, true, not, ◌&&◌, ◌||◌, false≢true}
use mathlib.Core.List.{List, [], ◌∷◌}
use Prim.Native.Nat.{ℕ, suc, ◌+◌}
use native.Mathlib.Omega.{arith}
use lib.ListN.{length, take}
use lib.Seq.{take-length}
use Rattle.laws.specs.Tests.{same, under, open_tests}
use Rattle.laws.specs.Bytes.{same_list, open_bytes}
use Rattle.laws.proofs.Tests.{same-eq, under-lt}
use Rattle.laws.proofs.Booleans.{not-true, and_left, and_right, or_cases}
use Rattle.laws.proofs.Bytes.{same_list_eq}
use Rattle.rules.specs.Event.{open_event}
use Rattle.sheet_text.specs.Sheet.{event_bytes, sheet_list, Fault, open_sheet}
use Rattle.sheet_text.specs.Scan.{Scan, start, between, within, ended, dead, scan_after, Stuck, is_dead, is_ended, open_scan}
use Rattle.sheet_text.proofs.Count.{run, open_count}
use Rattle.sheet_text.specs.Emit.{unread, emit_all, open_emit}
use Rattle.sheet_text.specs.SheetTrials.{becomes, lasts, fails, SheetRow, reads, spelled_words, Becomes, Lasts, AllSay, sheet_rows}
use Rattle.sheet_text.proofs.Following.{Reached, ended_taken, after_run, stuck_fault}
use Rattle.sheet_text.proofs.Emitting.{sheet_emits}
use Rattle.sheet_text.proofs.Given.{is_dead_lem}

-- how many events are free where a reading has ended
abbrev room_in : Scan → ℕ
room_in start = 0
room_in (between l r) = 0
room_in (within k low l r) = 0
room_in (ended r) = r
room_in dead = 0

-- the reading of s stops at p: byte p kills it; or the text ends there too soon
abbrev kills_at : List ℕ → ℕ → Bool
kills_at s p = under p (length s) && (not (is_dead (run start (take p s))) && is_dead (run start (take (suc p) s)))

abbrev ends_short : List ℕ → ℕ → Bool
ends_short s p = same p (length s) && (not (is_dead (run start s)) && not (is_ended (run start s)))

-- what is computed of a row
abbrev passes : SheetRow → Bool
passes (reads s (becomes ws)) = is_ended (run start s) && same_list (event_bytes (emit_all unread s).events) (spelled_words ws)
passes (reads s (lasts n)) = is_ended (run start s) && same (n + room_in (run start s)) 4096
passes (reads s (fails p)) = kills_at s p || ends_short s p

abbrev all_pass : List SheetRow → Bool
all_pass [] = true
all_pass (r ∷ rs) = passes r && all_pass rs

ended_room : (q : Scan) → is_ended q ≡ true → q ≡ ended (room_in q)
unfolding is_ended
ended_room start e = absurd (false≢true e)
ended_room (between l r) e = absurd (false≢true e)
ended_room (within k low l r) e = absurd (false≢true e)
ended_room (ended r) e = refl
ended_room dead e = absurd (false≢true e)

reached : (s : List ℕ) → is_ended (run start s) ≡ true → Reached s (room_in (run start s))
reached s e = ended_taken s (room_in (run start s)) (ended_room (run start s) e)

kills_stuck : (s : List ℕ) (p : ℕ) → kills_at s p ≡ true → Stuck s p
kills_stuck s p e =
    let l = under-lt p (length s) (and_left (under p (length s)) _ e) in
    let a = and_right (under p (length s)) _ e in
    record {
      within = omega (arith, l);
      alive = ap is_dead (after_run s p (omega (arith, l))) ∙ not-true (is_dead (run start (take p s))) (and_left (not (is_dead (run start (take p s)))) _ a);
      stops = λ _. after_run s (suc p) (omega (arith, l)) ∙ is_dead_lem (run start (take (suc p) s)) (and_right (not (is_dead (run start (take p s)))) _ a);
      short = λ z. absurd (omega (arith, l, z));
    }

whole_run : (s : List ℕ) → scan_after s (length s) ≡ run start s
whole_run s = after_run s (length s) (omega arith) ∙ ap (run start) (take-length s)

ends_stuck : (s : List ℕ) (p : ℕ) → ends_short s p ≡ true → Stuck s p
ends_stuck s p e =
    let z : p ≡ length s = same-eq p (length s) (and_left (same p (length s)) _ e) in
    let a = and_right (same p (length s)) _ e in
    let w : scan_after s p ≡ run start s = ap (scan_after s) z ∙ whole_run s in
    record {
      within = omega (arith, z);
      alive = ap is_dead w ∙ not-true (is_dead (run start s)) (and_left (not (is_dead (run start s))) _ a);
      stops = λ l. absurd (omega (arith, l, z));
      short = λ _. ap is_ended w ∙ not-true (is_ended (run start s)) (and_right (not (is_dead (run start s))) _ a);
    }

fails_says : (s : List ℕ) (p : ℕ) → (kills_at s p || ends_short s p) ≡ true → Fault s p
fails_says s p e = or_cases (kills_at s p) (ends_short s p) e (λ k. stuck_fault s p (kills_stuck s p k)) (λ k. stuck_fault s p (ends_stuck s p k))

becomes_says : (s ws : List ℕ) → (is_ended (run start s) && same_list (event_bytes (emit_all unread s).events) (spelled_words ws)) ≡ true → Becomes s ws
unfolding sheet_list
becomes_says s ws e =
    let r = reached s (and_left (is_ended (run start s)) _ e) in
    record {
      sheet = r.sheet;
      taken = r.taken;
      list = ap event_bytes (sym (sheet_emits r.sheet r.taken.good) ∙ ap (λ (l : List ℕ). (emit_all unread l).events) r.taken.reads)
          ∙ same_list_eq (event_bytes (emit_all unread s).events) (spelled_words ws) (and_right (is_ended (run start s)) _ e);
    }

lasts_says : (s : List ℕ) (n : ℕ) → (is_ended (run start s) && same (n + room_in (run start s)) 4096) ≡ true → Lasts s n
lasts_says s n e =
    let r = reached s (and_left (is_ended (run start s)) _ e) in
    let m = same-eq (n + room_in (run start s)) 4096 (and_right (is_ended (run start s)) _ e) in
    record { sheet = r.sheet; taken = r.taken; long = omega (arith, m, r.counts) }

all_say : (rs : List SheetRow) → all_pass rs ≡ true → AllSay rs
all_say [] e = tt
all_say (reads s (becomes ws) ∷ rs) e = (becomes_says s ws (and_left (passes (reads s (becomes ws))) (all_pass rs) e), all_say rs (and_right (passes (reads s (becomes ws))) (all_pass rs) e))
all_say (reads s (lasts n) ∷ rs) e = (lasts_says s n (and_left (passes (reads s (lasts n))) (all_pass rs) e), all_say rs (and_right (passes (reads s (lasts n))) (all_pass rs) e))
all_say (reads s (fails p) ∷ rs) e = (fails_says s p (and_left (passes (reads s (fails p))) (all_pass rs) e), all_say rs (and_right (passes (reads s (fails p))) (all_pass rs) e))

rows_pass : all_pass sheet_rows ≡ true
unfolding open_tests open_bytes open_event open_sheet open_scan open_count open_emit
rows_pass = refl

-- EVERY ROW HOLDS of the definitions.
pub sheet_trials_hold : AllSay sheet_rows
sheet_trials_hold = all_say sheet_rows rows_pass
