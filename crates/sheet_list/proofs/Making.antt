-- What is made of a text, from what the check says and what is filled.
use mathlib.Core.Path.{◌≡◌, refl, sym, ◌∙◌, ap, subst}
use mathlib.Core.List.{List, [], ◌∷◌, ◌++◌, append_assoc}
use mathlib.Core.Logic.{dite}
use Prim.Native.Nat.{ℕ, suc, ◌+◌, ◌-◌, ◌*◌, ◌/◌, ◌%◌, ◌≤◌}
use native.Mathlib.Decide.{dec_lt}
use native.Mathlib.Omega.{arith}
use lib.ListN.{length, take, drop, take-append-drop}
use lib.Seq.{take-take, drop-drop}
use borrow.Rule.Slice.PartMut.{put_mid}
use Rattle.std.proofs.lemmas.List.Edits.{sets, sets-eq}
use mir.Syntax.{w32}
use Rattle.std.specs.Int.{to_be_bytes}
use Rattle.laws.specs.Bytes.{bytes}
use Rattle.rules.specs.Event.{Event}
use Rattle.sheet_text.specs.Sheet.{Sheet, events, event_bytes, sheet_list, Taken, Follows, Fault}
use Rattle.sheet_text.specs.Emit.{emits}
use Rattle.sheet_reader.specs.Reads.{Whole}
use Rattle.sheet_text.specs.Made.{over, Made, listed}
use Rattle.sheet_text.specs.Places.{Ends}
use Rattle.sheet_text.proofs.Emitting.{one_list}
use Rattle.sheet_text.proofs.Turning.{words-length, taken_ends, taken_events}

-- four bytes that are written over a part of a list
pub four_over : (at : ℕ) (xs p : List ℕ) → length p ≡ 4 → at + 4 ≤ length xs → put_mid at (at + 4 - at) xs p ≡ sets xs at p
four_over at xs p long room =
    let e : at + (at + 4 - at) ≡ at + length p = omega arith in
    ap (λ (l : List ℕ). take at xs ++ (p ++ l)) (drop-drop (at + 4 - at) at xs ∙ ap (λ (m : ℕ). drop m xs) e)
    ∙ sym (append_assoc (take at xs) p (drop (at + length p) xs)) ∙ sym (sets-eq p xs at (omega arith))

-- the bytes of a word are those of the rules
pub word_bytes : (w : ℕ) → to_be_bytes w32 w ≡ bytes 4 w
unfolding bytes
word_bytes w =
    let e : w % 256 ≡ w / 1 % 256 = omega arith in
    ap (λ (b : ℕ). w / 16777216 % 256 ∷ w / 65536 % 256 ∷ w / 256 % 256 ∷ b ∷ []) e

pub whole_ends : (s : List ℕ) (n : ℕ) → Whole s n → Ends s
whole_ends s n w = taken_ends s w.sheet w.taken

list_filled : (s l l' : List ℕ) (k : Sheet) → l' ≡ over (event_bytes (emits s (length s)).events) l → Taken s k → l' ≡ over (sheet_list k) l
unfolding sheet_list
list_filled s l l' k e t = e ∙ ap (λ (x : List Event). over (event_bytes x) l) (taken_events s k t)

list_length : (h : Sheet) → length (sheet_list h) ≡ 4 * length (events h)
unfolding sheet_list
list_length h = words-length (events h)

pub made_list : (s l l' : List ℕ) (t n : ℕ) → 16384 ≤ length l → Whole s n → l' ≡ over (event_bytes (emits s (length s)).events) l → Made s l t 0 l' (4 * n)
made_list s l l' t n h w e = listed h w.sheet w.taken refl (λ k g. (list_filled s l l' k e g, ap (λ (x : ℕ). 4 * x) (sym w.long) ∙ sym (list_length w.sheet) ∙ ap length (one_list s w.sheet k w.taken g)))

-- What follows a text follows its beginnings.
follows_less : (s : List ℕ) (p q : ℕ) → p ≤ q → Follows (take q s) → Follows (take p s)
follows_less s p q h f =
    let e : (take p (take q s) ++ drop p (take q s)) ++ f.rest ≡ take p s ++ (drop p (take q s) ++ f.rest) = append_assoc (take p (take q s)) (drop p (take q s)) f.rest ∙ ap (λ (x : List ℕ). x ++ (drop p (take q s) ++ f.rest)) (take-take p q s h) in
    record {
      rest = drop p (take q s) ++ f.rest;
      sheet = f.sheet;
      taken = subst (λ (x : List ℕ). Taken x f.sheet) (ap (λ (x : List ℕ). x ++ f.rest) (sym (take-append-drop p (take q s))) ∙ e) f.taken;
    }

-- There is one fault at most.
pub one_fault : (s : List ℕ) (p q : ℕ) → Fault s p → Fault s q → p ≡ q
one_fault s p q a b =
    dite (dec_lt p q) (λ l. absurd (a.after (omega (arith, b.within)) (follows_less s (suc p) q l b.before)))
    (λ n. dite (dec_lt q p) (λ l. absurd (b.after (omega (arith, a.within)) (follows_less s (suc q) p l a.before))) (λ m. omega arith))
