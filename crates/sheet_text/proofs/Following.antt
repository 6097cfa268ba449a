-- Where the reading comes to an end it has read a taken sheet; where it is not dead some taken sheet follows; where it is dead none does.
use mathlib.Core.Path.{◌≡◌, refl, sym, ◌∙◌, ap, subst}
use mathlib.Core.Bool.{Bool, true, false, cond, true≢false}
use mathlib.Core.List.{List, [], ◌∷◌, ◌++◌}
use mathlib.Core.Logic.{dite}
use Prim.Native.Nat.{ℕ, zero, suc, ◌+◌, ◌-◌, ◌≤◌}
use native.Mathlib.Decide.{dec_lt}
use native.Mathlib.Omega.{arith}
use lib.ListN.{length, take, get_or, replicate, take-append-drop, drop}
use lib.Seq.{take-suc, take-length}
use Rattle.laws.specs.Tests.{same, open_tests}
use Rattle.laws.proofs.Tests.{ne_false}
use Rattle.sheet_text.specs.Sheet.{Sheet, events, Taken, Follows, Fault}
use Rattle.sheet_text.specs.Scan.{Scan, start, between, within, ended, dead, is_digit, level_closed, scan_next, scan_after, Stuck, is_dead, is_ended, open_scan}
use Rattle.sheet_text.proofs.Count.{count_of, run}
use Rattle.sheet_text.proofs.Texts.{run-append, sheet_read, sheet_count}
use Rattle.sheet_text.proofs.Parsing.{AtEnd, Means, means_all, between_low, within_low}

-- nothing follows what is dead
dead_run : (l : List ℕ) → run dead l ≡ dead
unfolding run scan_next
dead_run [] = refl
dead_run (b ∷ l) = dead_run l

-- open transactions are closed one by one
close_all : (n l r : ℕ) → l + n ≡ 15 → run (between l r) (replicate (suc n) 125) ≡ ended r
unfolding run open_scan open_tests
close_all zero l r e = let q : l ≡ 15 = omega arith in ap (λ (k : ℕ). level_closed k r) q
close_all (suc n) l r e = ap (λ (x : Bool). run (cond x (ended r) (between (suc l) r)) (replicate (suc n) 125)) (ne_false l 15 (λ q. omega arith)) ∙ close_all n (suc l) r (omega arith)

zero-digit : (t : Bool) → is_digit t 48 ≡ true
unfolding open_scan open_tests
zero-digit true = refl
zero-digit false = refl

fill_digits : (k low l r : ℕ) → run (within k low l r) (replicate (suc k) 48) ≡ between l r
unfolding run open_scan
fill_digits zero low l r = ap (λ (x : Bool). cond x (between l r) dead) (zero-digit (same 0 low))
fill_digits (suc k) low l r = ap (λ (x : Bool). run (cond x (within k low l r) dead) (replicate (suc k) 48)) (zero-digit (same (suc k) low)) ∙ fill_digits k low l r

-- some end is reached from what is not dead
record Ends (q : Scan) : Type 0 where
  rest : List ℕ
  room : ℕ
  is : run q rest ≡ ended room

ends : (q : Scan) (p : List ℕ) → Means q p → is_dead q ≡ false → Ends q
unfolding Means is_dead run open_scan open_tests
ends start p m a = record { rest = 123 ∷ 125 ∷ []; room = 4094; is = refl }
ends (between l r) p m a = record { rest = replicate (suc (15 - l)) 125; room = r; is = close_all (15 - l) l r (omega (arith, between_low m)) }
ends (within k low l r) p m a = record {
  rest = replicate (suc k) 48 ++ replicate (suc (15 - l)) 125;
  room = r;
  is = run-append (within k low l r) (replicate (suc k) 48) (replicate (suc (15 - l)) 125) ∙ ap (λ (q : Scan). run q (replicate (suc (15 - l)) 125)) (fill_digits k low l r) ∙ close_all (15 - l) l r (omega (arith, within_low m));
}
ends (ended r) p m a = record { rest = []; room = r; is = refl }
ends dead p m a = absurd (true≢false a)

-- a reading that ends has read a taken sheet
pub record Reached (s : List ℕ) (r : ℕ) : Type 0 where
  pub sheet : Sheet
  pub taken : Taken s sheet
  pub counts : length (events sheet) + r ≡ 4096

at_end : (s : List ℕ) (r : ℕ) → AtEnd s r → Reached s r
at_end s r m =
    let n : length (events m.sheet) ≡ count_of m.sheet.steps + 2 = sheet_count m.sheet in
    record {
      sheet = m.sheet;
      taken = record { good = record { fits = m.propers; shallow = omega (arith, m.shallow); short = omega (arith, m.counts) }; reads = m.texts };
      counts = omega (arith, m.counts);
    }

pub ended_taken : (s : List ℕ) (r : ℕ) → run start s ≡ ended r → Reached s r
unfolding Means
ended_taken s r e = at_end s r (subst (λ (q : Scan). Means q s) e (means_all s))

pub alive_follows : (s : List ℕ) → is_dead (run start s) ≡ false → Follows s
alive_follows s a =
    let e = ends (run start s) s (means_all s) a in
    let t = ended_taken (s ++ e.rest) e.room (run-append start s e.rest ∙ e.is) in
    record { rest = e.rest; sheet = t.sheet; taken = t.taken }

-- a taken sheet's text is read to its end
pub taken_ended : (s : List ℕ) (h : Sheet) → Taken s h → run start s ≡ ended (4094 - count_of h.steps)
taken_ended s h t = subst (λ (z : List ℕ). run start z ≡ ended (4094 - count_of h.steps)) t.reads (sheet_read h t.good)

not-ended : {r : ℕ} → dead ≡ ended r → ⊥
unfolding is_dead
not-ended e = true≢false (ap is_dead e)

pub dead_follows : (s : List ℕ) → run start s ≡ dead → Follows s → ⊥
dead_follows s e f = not-ended (sym (dead_run f.rest) ∙ ap (λ (q : Scan). run q f.rest) (sym e) ∙ sym (run-append start s f.rest) ∙ taken_ended (s ++ f.rest) f.sheet f.taken)

-- the reading after i bytes is that of the first i bytes
pub after_run : (s : List ℕ) (i : ℕ) → i ≤ length s → scan_after s i ≡ run start (take i s)
unfolding scan_after run
after_run s zero h = refl
after_run s (suc i) h =
    ap (λ (q : Scan). scan_next q (get_or s i 0)) (after_run s i (omega arith)) ∙ sym (run-append start (take i s) (get_or s i 0 ∷ [])) ∙ ap (run start) (sym (take-suc s i 0 (omega arith)))

ended_is : (r : ℕ) → is_ended (ended r) ≡ true
unfolding is_ended
ended_is r = refl

-- where the reading stops is the fault
pub stuck_fault : (s : List ℕ) (p : ℕ) → Stuck s p → Fault s p
stuck_fault s p k = record {
  within = k.within;
  before = alive_follows (take p s) (ap is_dead (sym (after_run s p k.within)) ∙ k.alive);
  after = λ l f. dead_follows (take (suc p) s) (sym (after_run s (suc p) (omega arith)) ∙ k.stops l) f;
  untaken = λ h t. dite (dec_lt p (length s))
      (λ l. dead_follows (take (suc p) s) (sym (after_run s (suc p) (omega arith)) ∙ k.stops l) (record { rest = drop (suc p) s; sheet = h; taken = subst (λ (z : List ℕ). Taken z h) (sym (take-append-drop (suc p) s)) t }))
      (λ n. whole_clash h t (omega (arith, k.within)));
}
  where
    whole_clash : (h : Sheet) → Taken s h → p ≡ length s → ⊥
    whole_clash h t e =
        let a : scan_after s (length s) ≡ ended (4094 - count_of h.steps) = after_run s (length s) (omega arith) ∙ ap (run start) (take-length s) ∙ taken_ended s h t in
        let b : is_ended (scan_after s (length s)) ≡ false = subst (λ (n : ℕ). is_ended (scan_after s n) ≡ false) e (k.short e) in
        true≢false (sym (ended_is (4094 - count_of h.steps)) ∙ ap is_ended (sym a) ∙ b)

pub whole_taken : (s : List ℕ) (r : ℕ) → scan_after s (length s) ≡ ended r → Reached s r
whole_taken s r e = ended_taken s r (sym (ap (run start) (take-length s)) ∙ sym (after_run s (length s) (omega arith)) ∙ e)

-- a reading has at most 4,094 events to spare
pub room_most : (s : List ℕ) (i r : ℕ) → i ≤ length s → scan_after s i ≡ ended r → r ≤ 4094
unfolding Means
room_most s i r h e = let m = subst (λ (q : Scan). Means q (take i s)) (sym (after_run s i h) ∙ e) (means_all (take i s)) in omega (arith, m.counts)
