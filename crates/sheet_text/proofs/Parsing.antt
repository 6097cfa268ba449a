-- What was read so far, as the steps of the transactions that are open: where the reading comes to an end, it has read a sheet's text.
use mathlib.Core.Path.{◌≡◌, refl, sym, ◌∙◌, ap, subst}
use mathlib.Core.Bool.{Bool, true, false, cond, ◌&&◌}
use mathlib.Core.List.{List, [], ◌∷◌, ◌++◌, append_assoc, append-nil}
use Prim.Native.Nat.{ℕ, zero, suc, ◌+◌, ◌*◌, ◌-◌, ◌/◌, ◌%◌, ◌≤◌, ◌<◌}
use native.Mathlib.Omega.{arith}
use Rattle.laws.specs.Tests.{same, under, open_tests}
use Rattle.laws.proofs.Tests.{under-lt, lt-under, ne_false, Same, is, isnt, same_cases, Is, yes', no', is_cases}
use Rattle.laws.proofs.Booleans.{and_left, and_right, or_cases}
use Rattle.sheet_text.specs.Sheet as sheet
use Rattle.sheet_text.specs.Sheet.{Steps, none, locking, writing, reading, inner, Sheet, digit, digits, steps_text, text, proper, greater, steps_depth, open_sheet}
use Rattle.sheet_text.specs.Scan.{Scan, start, between, within, ended, dead, Letter, opening, closing, unknown, plain, letter_of, is_digit, to_come, opened, level_closed, stepped, scan_opened, scan_next, open_scan}
use Rattle.sheet_text.proofs.Count.{count_of, run, open_count}
use Rattle.sheet_text.proofs.Letters.{is_opening, is_closing, is_closing_too, is_lock_lem, is_write, is_read, is_unknown}

-- which byte a letter is
data View (b : ℕ) : Letter → Type 0 where
  v_open : b ≡ 123 → View b opening
  v_close : (c : Bool) → b ≡ sheet.closing c → View b closing
  v_lock : b ≡ 76 → View b (plain 0 9)
  v_write : b ≡ 87 → View b (plain 4 3)
  v_read : b ≡ 82 → View b (plain 2 1)
  v_unknown : View b unknown

view : (b : ℕ) → View b (letter_of b)
unfolding sheet.closing
view b = go (same_cases b 123) (same_cases b 125) (same_cases b 33) (same_cases b 76) (same_cases b 87) (same_cases b 82)
  where
    go : Same b 123 → Same b 125 → Same b 33 → Same b 76 → Same b 87 → Same b 82 → View b (letter_of b)
    go (is e p p') y z u v w = subst (View b) (sym (is_opening e)) (v_open e)
    go (isnt n p p') (is e q q') z u v w = subst (View b) (sym (is_closing e)) (v_close true e)
    go (isnt n p p') (isnt m q q') (is e o o') u v w = subst (View b) (sym (is_closing_too e)) (v_close false e)
    go (isnt n p p') (isnt m q q') (isnt k o o') (is e t t') v w = subst (View b) (sym (is_lock_lem e)) (v_lock e)
    go (isnt n p p') (isnt m q q') (isnt k o o') (isnt j t t') (is e s s') w = subst (View b) (sym (is_write e)) (v_write e)
    go (isnt n p p') (isnt m q q') (isnt k o o') (isnt j t t') (isnt h s s') (is e r r') = subst (View b) (sym (is_read e)) (v_read e)
    go (isnt n p p') (isnt m q q') (isnt k o o') (isnt j t t') (isnt h s s') (isnt g r r') = subst (View b) (sym (is_unknown b n m k j h g)) v_unknown

-- which number a digit is
record Digit (m b : ℕ) : Type 0 where
  n : ℕ
  small : n < m
  IsOf : b ≡ digit n

low_digit : (b : ℕ) → is_digit true b ≡ true → Digit 2 b
unfolding is_digit digit
low_digit b e =
    let h = under-lt 47 b (and_left (under 47 b) _ e) in
    let k = under-lt b 50 (and_right (under 47 b) _ e) in
    let t : under (b - 48) 10 ≡ true = lt-under (b - 48) 10 (omega arith) in
    let q : b ≡ 48 + (b - 48) = omega arith in
    record { n = b - 48; small = omega arith; IsOf = q ∙ ap (λ (x : Bool). cond x (48 + (b - 48)) (55 + (b - 48))) (sym t) }

any-digit : (b : ℕ) → is_digit false b ≡ true → Digit 16 b
unfolding is_digit digit
any-digit b e = or_cases (under 47 b && under b 58) _ e
    (λ d.
    let h = under-lt 47 b (and_left (under 47 b) _ d) in
    let k = under-lt b 58 (and_right (under 47 b) _ d) in
    let t : under (b - 48) 10 ≡ true = lt-under (b - 48) 10 (omega arith) in
    let q : b ≡ 48 + (b - 48) = omega arith in
    record { n = b - 48; small = omega arith; IsOf = q ∙ ap (λ (x : Bool). cond x (48 + (b - 48)) (55 + (b - 48))) (sym t) })
    (λ d.
    let h = under-lt 64 b (and_left (under 64 b) _ d) in
    let k = under-lt b 71 (and_right (under 64 b) _ d) in
    let t : under (b - 55) 10 ≡ false = refuted (b - 55) 10 (omega arith) in
    let q : b ≡ 55 + (b - 55) = omega arith in
    record { n = b - 55; small = omega arith; IsOf = q ∙ ap (λ (x : Bool). cond x (48 + (b - 55)) (55 + (b - 55))) (sym t) })
  where
    refuted : (a c : ℕ) → c ≤ a → under a c ≡ false
    refuted a c h = go (is_cases (under a c))
      where
        go : Is (under a c) → under a c ≡ false
        go (yes' e) = let z = under-lt a c e in absurd (omega arith)
        go (no' e) = e

-- the open transactions, with the steps of each so far
data Frames : Type 0 where
  top : Steps → Frames
  below : Frames → Steps → Frames

unfoldable frame_text : Frames → List ℕ
frame_text (top t) = 123 ∷ steps_text t
frame_text (below f t) = frame_text f ++ (123 ∷ steps_text t)

-- they fit, with l levels and r events to spare
data Fits : Frames → ℕ → ℕ → Type 0 where
  fits_top : {t : Steps} {r : ℕ} → proper t ≡ true → steps_depth t ≤ 15 → count_of t + r ≡ 4094 → Fits (top t) 15 r
  fits_below : {f : Frames} {t : Steps} {l r n : ℕ} → Fits f (suc l) n → proper t ≡ true → steps_depth t ≤ l → (count_of t + r) + 2 ≡ n → Fits (below f t) l r

fits_low : {f : Frames} {l r : ℕ} → Fits f l r → l ≤ 15
fits_low (fits_top p d e) = omega arith
fits_low (fits_below h p d e) = omega (arith, fits_low h)

-- one step more of the innermost, with its text and its events
unfoldable extended : (Steps → Steps) → Frames → Frames
extended g (top t) = top (g t)
extended g (below f t) = below f (g t)

record Adds (g : Steps → Steps) (w : List ℕ) (k l : ℕ) : Type 0 where
  texts : (t : Steps) → steps_text (g t) ≡ steps_text t ++ w
  propers : (t : Steps) → proper t ≡ true → proper (g t) ≡ true
  depths : (t : Steps) → steps_depth t ≤ l → steps_depth (g t) ≤ l
  counts : (t : Steps) → count_of (g t) ≡ count_of t + k

extended_text : {g : Steps → Steps} {w : List ℕ} {k l : ℕ} → Adds g w k l → (f : Frames) → frame_text (extended g f) ≡ frame_text f ++ w
unfolding frame_text extended
extended_text a (top t) = ap (λ (x : List ℕ). 123 ∷ x) (a.texts t)
extended_text {w = w} a (below f t) = ap (λ (x : List ℕ). frame_text f ++ (123 ∷ x)) (a.texts t) ∙ sym (append_assoc (frame_text f) (123 ∷ steps_text t) w)

extended_fits : {g : Steps → Steps} {w : List ℕ} {k l n : ℕ} {f : Frames} (r : ℕ) → Adds g w k l → Fits f l n → k + r ≡ n → Fits (extended g f) l r
unfolding extended
extended_fits {k = k} r a (fits_top {t = t} p d e) q = let c = a.counts t in let z : count_of t + (k + r) ≡ 4094 = ap (λ (m : ℕ). count_of t + m) q ∙ e in fits_top {r = r} (a.propers t p) (a.depths t d) (omega arith)
extended_fits {k = k} r a (fits_below {t = t} {n = n} h p d e) q = let c = a.counts t in let z : (count_of t + (k + r)) + 2 ≡ n = ap (λ (m : ℕ). (count_of t + m) + 2) q ∙ e in fits_below {r = r} h (a.propers t p) (a.depths t d) (omega arith)

-- a part of a lock, write or read
data Partial : ℕ → ℕ → List ℕ → Type 0 where
  l0 : Partial 0 9 (76 ∷ [])
  w4 : Partial 4 3 (87 ∷ [])
  w3 : {x : ℕ} → x < 16 → Partial 3 3 (87 ∷ digit x ∷ [])
  w2 : {x o : ℕ} → x < 16 → o < 2 → Partial 2 3 (87 ∷ digit x ∷ digit o ∷ [])
  w1 : {x o p : ℕ} → x < 16 → o < 2 → p < 16 → Partial 1 3 (87 ∷ digit x ∷ digit o ∷ digit p ∷ [])
  w0 : {x o p v : ℕ} → x < 16 → o < 2 → p < 16 → v < 16 → Partial 0 3 (87 ∷ digit x ∷ digit o ∷ digit p ∷ digit v ∷ [])
  r2 : Partial 2 1 (82 ∷ [])
  r1 : {x : ℕ} → x < 16 → Partial 1 1 (82 ∷ digit x ∷ [])
  r0 : {x o : ℕ} → x < 16 → o < 2 → Partial 0 1 (82 ∷ digit x ∷ digit o ∷ [])

pub record AtBetween (p : List ℕ) (l r : ℕ) : Type 0 where
  frames : Frames
  texts : frame_text frames ≡ p
  fits : Fits frames l r

pub record AtWithin (p : List ℕ) (k low l r : ℕ) : Type 0 where
  frames : Frames
  part : List ℕ
  partial : Partial k low part
  texts : frame_text frames ++ part ≡ p
  fits : Fits frames l (suc r)

pub record AtEnd (p : List ℕ) (r : ℕ) : Type 0 where
  pub sheet : Sheet
  pub texts : text sheet ≡ p
  pub propers : proper (sheet).steps ≡ true
  pub shallow : steps_depth (sheet).steps ≤ 15
  pub counts : count_of (sheet).steps + r ≡ 4094

-- what it means that a reading stands so
unfoldable pub Means : Scan → List ℕ → Type 0
Means start p = p ≡ []
Means (between l r) p = AtBetween p l r
Means (within k low l r) p = AtWithin p k low l r
Means (ended r) p = AtEnd p r
Means dead p = Unit {0}

-- the steps that are added
adds_lock : (x l : ℕ) → x < 16 → Adds (λ t. locking t x) (76 ∷ digit x ∷ []) 1 l
unfolding open_sheet open_count
adds_lock x l h = record { texts = λ t. refl; propers = λ t p. simp (p, lt-under x 16 h); depths = λ t d. d; counts = λ t. refl }

split_digits : (a b : ℕ) → b < 16 → digit a ∷ digit b ∷ [] ≡ digits (16 * a + b)
unfolding digits
split_digits a b h =
    let q : a ≡ (16 * a + b) / 16 = omega arith in
    let m : b ≡ (16 * a + b) % 16 = omega arith in
    λ i. digit (q i) ∷ digit (m i) ∷ []

adds_write : (x o p v w l : ℕ) → x < 16 → o < 2 → p < 16 → v < 16 → w < 16
    → Adds (λ t. writing t x (16 * o + p) (16 * v + w)) (87 ∷ digit x ∷ digit o ∷ digit p ∷ digit v ∷ digit w ∷ []) 1 l
unfolding open_sheet open_count
adds_write x o p v w l hx ho hp hv hw = record {
  texts = λ t. ap (λ (z : List ℕ). steps_text t ++ (87 ∷ digit x ∷ z)) (λ i. sym (split_digits o p hp) i ++ sym (split_digits v w hw) i);
  propers = λ t e. simp (e, lt-under x 16 hx, lt-under (16 * o + p) 32 (omega arith), lt-under (16 * v + w) 256 (omega arith));
  depths = λ t d. d;
  counts = λ t. refl;
}

adds_read : (x o p l : ℕ) → x < 16 → o < 2 → p < 16 → Adds (λ t. reading t x (16 * o + p)) (82 ∷ digit x ∷ digit o ∷ digit p ∷ []) 1 l
unfolding open_sheet open_count
adds_read x o p l hx ho hp = record {
  texts = λ t. ap (λ (z : List ℕ). steps_text t ++ (82 ∷ digit x ∷ z)) (sym (split_digits o p hp));
  propers = λ t e. simp (e, lt-under x 16 hx, lt-under (16 * o + p) 32 (omega arith));
  depths = λ t d. d;
  counts = λ t. refl;
}

greater_within : (a b n : ℕ) → a ≤ n → b ≤ n → greater a b ≤ n
unfolding greater
greater_within a b n h k = go (is_cases (under a b))
  where
    go : Is (under a b) → cond (under a b) b a ≤ n
    go (yes' e) = subst (λ (x : Bool). cond x b a ≤ n) (sym e) k
    go (no' e) = subst (λ (x : Bool). cond x b a ≤ n) (sym e) h

adds_inner : (i : Steps) (c : Bool) (l : ℕ) → proper i ≡ true → steps_depth i ≤ l → Adds (λ t. inner t i c) (123 ∷ (steps_text i ++ (sheet.closing c ∷ []))) (count_of i + 2) (suc l)
unfolding open_sheet open_count
adds_inner i c l h d = record {
  texts = λ t. refl;
  propers = λ t e. simp (e, h);
  depths = λ t e. greater_within (steps_depth t) (suc (steps_depth i)) (suc l) e (omega arith);
  counts = λ t. refl;
}

-- a step is complete
complete : {g : Steps → Steps} {w : List ℕ} {l : ℕ} (p : List ℕ) (b r : ℕ) (f : Frames) (part : List ℕ) → Adds g w 1 l → Fits f l (suc r) → frame_text f ++ part ≡ p → part ++ (b ∷ []) ≡ w → AtBetween (p ++ (b ∷ [])) l r
complete {g} {w} p b r f part a h e q = record {
  frames = extended g f;
  texts = extended_text a f ∙ ap (λ (z : List ℕ). frame_text f ++ z) (sym q) ∙ sym (append_assoc (frame_text f) part (b ∷ [])) ∙ ap (λ (z : List ℕ). z ++ (b ∷ [])) e;
  fits = extended_fits r a h (omega arith);
}

-- a digit more of a step
further : {k low k' l r : ℕ} (p : List ℕ) (b : ℕ) (m : AtWithin p k low l r) → Partial k' low (m.part ++ (b ∷ [])) → AtWithin (p ++ (b ∷ [])) k' low l r
further p b m q = record {
  frames = m.frames;
  part = m.part ++ (b ∷ []);
  partial = q;
  texts = sym (append_assoc (frame_text m.frames) m.part (b ∷ [])) ∙ ap (λ (z : List ℕ). z ++ (b ∷ [])) m.texts;
  fits = m.fits;
}

-- by the part that was read
partial_next : (k low l r b : ℕ) (p : List ℕ) (f : Frames) (part : List ℕ) → Partial k low part → is_digit (same k low) b ≡ true → frame_text f ++ part ≡ p → Fits f l (suc r) → Means (to_come k low l r) (p ++ (b ∷ []))
unfolding open_scan open_tests Means
partial_next k low l r b p f part l0 d e h = let x = any-digit b d in complete p b r f part (adds_lock x.n l x.small) h e (ap (λ (y : ℕ). 76 ∷ y ∷ []) x.IsOf)
partial_next k low l r b p f part w4 d e h = let x = any-digit b d in further p b (record { frames = f; part = part; partial = w4; texts = e; fits = h }) (subst (λ (y : ℕ). Partial 3 3 (87 ∷ y ∷ [])) (sym x.IsOf) (w3 x.small))
partial_next k low l r b p f part (w3 {x = x} hx) d e h = let o = low_digit b d in further p b (record { frames = f; part = part; partial = w3 hx; texts = e; fits = h }) (subst (λ (y : ℕ). Partial 2 3 (87 ∷ digit x ∷ y ∷ [])) (sym o.IsOf) (w2 hx o.small))
partial_next k low l r b p f part (w2 {x = x} {o = o} hx ho) d e h = let q = any-digit b d in further p b (record { frames = f; part = part; partial = w2 hx ho; texts = e; fits = h }) (subst (λ (y : ℕ). Partial 1 3 (87 ∷ digit x ∷ digit o ∷ y ∷ [])) (sym q.IsOf) (w1 hx ho q.small))
partial_next k low l r b p f part (w1 {x = x} {o = o} {p = q} hx ho hq) d e h = let v = any-digit b d in further p b (record { frames = f; part = part; partial = w1 hx ho hq; texts = e; fits = h }) (subst (λ (y : ℕ). Partial 0 3 (87 ∷ digit x ∷ digit o ∷ digit q ∷ y ∷ [])) (sym v.IsOf) (w0 hx ho hq v.small))
partial_next k low l r b p f part (w0 {x = x} {o = o} {p = q} {v = v} hx ho hq hv) d e h = let w = any-digit b d in complete p b r f part (adds_write x o q v w.n l hx ho hq hv w.small) h e (ap (λ (y : ℕ). 87 ∷ digit x ∷ digit o ∷ digit q ∷ digit v ∷ y ∷ []) w.IsOf)
partial_next k low l r b p f part r2 d e h = let x = any-digit b d in further p b (record { frames = f; part = part; partial = r2; texts = e; fits = h }) (subst (λ (y : ℕ). Partial 1 1 (82 ∷ y ∷ [])) (sym x.IsOf) (r1 x.small))
partial_next k low l r b p f part (r1 {x = x} hx) d e h = let o = low_digit b d in further p b (record { frames = f; part = part; partial = r1 hx; texts = e; fits = h }) (subst (λ (y : ℕ). Partial 0 1 (82 ∷ digit x ∷ y ∷ [])) (sym o.IsOf) (r0 hx o.small))
partial_next k low l r b p f part (r0 {x = x} {o = o} hx ho) d e h = let q = any-digit b d in complete p b r f part (adds_read x o q.n l hx ho q.small) h e (ap (λ (y : ℕ). 82 ∷ digit x ∷ digit o ∷ y ∷ []) q.IsOf)

dead_means : (p : List ℕ) → Means dead p
unfolding Means
dead_means p = tt

-- a letter more
means_begun : (b : ℕ) (x : Letter) → View b x → Means (scan_opened x) (b ∷ [])
unfolding open_scan Means frame_text open_sheet open_count
means_begun b opening (v_open e) = record { frames = top none; texts = ap (λ (y : ℕ). y ∷ []) (sym e); fits = fits_top {t = none} {r = 4094} refl (omega arith) refl }
means_begun b closing (v_close c e) = tt
means_begun b x (v_lock e) = tt
means_begun b x (v_write e) = tt
means_begun b x (v_read e) = tt
means_begun b unknown v_unknown = tt

ends_as : (b l r : ℕ) (c : Bool) (p : List ℕ) (f : Frames) → b ≡ sheet.closing c → frame_text f ≡ p → Fits f l r → Means (level_closed l r) (p ++ (b ∷ []))
unfolding level_closed Means frame_text text open_tests
ends_as b l r c p (top t) e q (fits_top h d n) = record {
  sheet = record { steps = t; commits = c };
  texts = ap (λ (y : ℕ). 123 ∷ (steps_text t ++ (y ∷ []))) (sym e) ∙ ap (λ (z : List ℕ). z ++ (b ∷ [])) q;
  propers = h;
  shallow = d;
  counts = n;
}
ends_as b l r c p (below f t) e q (fits_below {n = n} h i d m) =
    subst (λ (x : Scan). Means x (p ++ (b ∷ []))) (sym (goes_up l r (fits_low h)))
    (record {
      frames = extended (λ s. inner s t c) f;
      texts = extended_text (adds_inner t c l i d) f ∙ sym (append_assoc (frame_text f) (123 ∷ steps_text t) (sheet.closing c ∷ [])) ∙ ap (λ (y : ℕ). (frame_text f ++ (123 ∷ steps_text t)) ++ (y ∷ [])) (sym e) ∙ ap (λ (z : List ℕ). z ++ (b ∷ [])) q;
      fits = extended_fits r (adds_inner t c l i d) h (omega arith);
    })
  where
    goes_up : (l r : ℕ) → suc l ≤ 15 → cond (same l 15) (ended r) (between (suc l) r) ≡ between (suc l) r
    goes_up l r h = ap (λ (x : Bool). cond x (ended r) (between (suc l) r)) (ne_false l 15 (λ e. omega arith))

begins_as : (b l r : ℕ) (p : List ℕ) (f : Frames) → b ≡ 123 → frame_text f ≡ p → Fits f l r → Means (opened l r) (p ++ (b ∷ []))
unfolding opened Means frame_text open_sheet open_count
begins_as b zero r p f e q h = tt
begins_as b (suc l) zero p f e q h = tt
begins_as b (suc l) (suc zero) p f e q h = tt
begins_as b (suc l) (suc (suc r)) p f e q h = record {
  frames = below f none;
  texts = ap (λ (y : ℕ). frame_text f ++ (y ∷ [])) (sym e) ∙ ap (λ (z : List ℕ). z ++ (b ∷ [])) q;
  fits = fits_below {f = f} {t = none} {l = l} {r = r} h refl (omega arith) (omega arith);
}

starts_as : (b l r n low : ℕ) (p : List ℕ) (f : Frames) → Partial n low (b ∷ []) → frame_text f ≡ p → Fits f l r → Means (stepped (plain n low) l r) (p ++ (b ∷ []))
unfolding stepped Means
starts_as b l zero n low p f q e h = tt
starts_as b l (suc r) n low p f q e h = record { frames = f; part = b ∷ []; partial = q; texts = ap (λ (z : List ℕ). z ++ (b ∷ [])) e; fits = h }

means_stepped : (b : ℕ) (x : Letter) → View b x → (l r : ℕ) (p : List ℕ) → AtBetween p l r → Means (stepped x l r) (p ++ (b ∷ []))
unfolding stepped
means_stepped b x (v_open e) l r p m = begins_as b l r p m.frames e m.texts m.fits
means_stepped b x (v_close c e) l r p m = ends_as b l r c p m.frames e m.texts m.fits
means_stepped b x (v_lock e) l r p m = starts_as b l r 0 9 p m.frames (subst (λ (y : ℕ). Partial 0 9 (y ∷ [])) (sym e) l0) m.texts m.fits
means_stepped b x (v_write e) l r p m = starts_as b l r 4 3 p m.frames (subst (λ (y : ℕ). Partial 4 3 (y ∷ [])) (sym e) w4) m.texts m.fits
means_stepped b x (v_read e) l r p m = starts_as b l r 2 1 p m.frames (subst (λ (y : ℕ). Partial 2 1 (y ∷ [])) (sym e) r2) m.texts m.fits
means_stepped b x v_unknown l r p m = dead_means (p ++ (b ∷ []))

within_next : (k low l r b : ℕ) (p : List ℕ) → AtWithin p k low l r → Means (cond (is_digit (same k low) b) (to_come k low l r) dead) (p ++ (b ∷ []))
within_next k low l r b p m = go (is_cases (is_digit (same k low) b))
  where
    go : Is (is_digit (same k low) b) → Means (cond (is_digit (same k low) b) (to_come k low l r) dead) (p ++ (b ∷ []))
    go (yes' d) = subst (λ (x : Bool). Means (cond x (to_come k low l r) dead) (p ++ (b ∷ []))) (sym d) (partial_next k low l r b p m.frames m.part m.partial d m.texts m.fits)
    go (no' d) = subst (λ (x : Bool). Means (cond x (to_come k low l r) dead) (p ++ (b ∷ []))) (sym d) (dead_means (p ++ (b ∷ [])))

-- one byte more
pub means_next : (q : Scan) (p : List ℕ) (b : ℕ) → Means q p → Means (scan_next q b) (p ++ (b ∷ []))
unfolding scan_next Means
means_next start p b m = subst (λ (z : List ℕ). Means (scan_opened (letter_of b)) (z ++ (b ∷ []))) (sym m) (means_begun b (letter_of b) (view b))
means_next (between l r) p b m = means_stepped b (letter_of b) (view b) l r p m
means_next (within k low l r) p b m = within_next k low l r b p m
means_next (ended r) p b m = tt
means_next dead p b m = tt

-- what was read is what it means
pub means_run : (q : Scan) (p l : List ℕ) → Means q p → Means (run q l) (p ++ l)
unfolding run
means_run q p [] m = subst (Means q) (sym (append-nil p)) m
means_run q p (b ∷ l) m = subst (Means (run (scan_next q b) l)) (append_assoc p (b ∷ []) l) (means_run (scan_next q b) (p ++ (b ∷ [])) l (means_next q p b m))

pub means_all : (l : List ℕ) → Means (run start l) l
unfolding Means
means_all l = means_run start [] l refl

pub between_low : {p : List ℕ} {l r : ℕ} → AtBetween p l r → l ≤ 15
between_low m = fits_low m.fits

pub within_low : {p : List ℕ} {k low l r : ℕ} → AtWithin p k low l r → l ≤ 15
within_low m = fits_low m.fits
