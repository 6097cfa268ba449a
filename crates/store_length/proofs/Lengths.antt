-- The refusals by the lengths of the buffers; where none is refused, the lengths are right.
use mathlib.Core.Path.{◌≡◌, refl, sym, ap, ◌∙◌}
use mathlib.Core.Bool.{Bool, true, false, not, cond, ◌||◌}
use mathlib.Core.List.{List, [], ◌∷◌}
use mathlib.Core.Logic.{◌≢◌}
use mathlib.Core.Option.{Option, none, some}
use Prim.Native.Nat.{ℕ, ◌*◌, ◌/◌, ◌%◌, ◌<◌, ◌≤◌}
use native.Mathlib.Omega.{arith}
use lib.ListN.{length}
use Rattle.std.specs.Prelude.{Ok, Err}
use Rattle.std.specs.declared.result.Result.{Result}
use Rattle.std.proofs.Math.Option.{none-ne-some}
use Rattle.laws.specs.Tests.{same, under}
use Rattle.laws.proofs.Tests.{same_cases, Same, is, isnt, same_refl, same-eq, ne_false, lt-under, not-under, or_false_left, or_false_right}
use Rattle.laws.proofs.Booleans.{not-false}
use Rattle.rules.specs.Geometry.{Geometry, records, work_size, word_size, longest}
use Rattle.rules.specs.Step.{first_of}
use Rattle.rules.specs.Run.{run_refusals, events_in}
use Rattle.rules.specs.Editions.{depths, form_in}
use Rattle.rules.proofs.Cuts.{not_lt_under}
use Rattle.store_length.specs.Lengths.{store_bytes, work_bytes_for, write_bytes, buffers_refused, lengths_refused, question_refused, length_number, length_told, refusal_number}
use Rattle.store_length.specs.declared.WrongLength.{WrongLength}
use Rattle.store_length.specs.declared.WrongLength.TheVariants.{Events, Answers, Store, Work}
use Rattle.store_length.proofs.Sizes.{store_size, work_size_lem}

-- atomic pages or pages that tear, n records
module _ (tears : Bool) (n : ℕ) where
  -- the lengths of store and working buffer
  pub buffers_store : (b w : ℕ) → b ≢ store_bytes tears n → some 22 ≡ buffers_refused tears n b w
  unfolding buffers_refused first_of
  buffers_store b w h = rw (ne_false b (store_bytes tears n) h)

  pub buffers_work : (b w : ℕ) → b ≡ store_bytes tears n → w ≢ work_bytes_for n → some 24 ≡ buffers_refused tears n b w
  unfolding buffers_refused first_of
  buffers_work b w p h = rw (p, same_refl (store_bytes tears n), ne_false w (work_bytes_for n) h)

  pub buffers_well : (b w : ℕ) → b ≡ store_bytes tears n → w ≡ work_bytes_for n → none ≡ buffers_refused tears n b w
  unfolding buffers_refused first_of
  buffers_well b w p q = rw (p, q, same_refl (store_bytes tears n), same_refl (work_bytes_for n))

  pub buffers_of : (b w : ℕ) → none ≡ buffers_refused tears n b w → (b ≡ store_bytes tears n) × (w ≡ work_bytes_for n)
  unfolding buffers_refused first_of
  buffers_of b w e = go (same_cases b (store_bytes tears n)) (same_cases w (work_bytes_for n))
    where
      go : Same b (store_bytes tears n) → Same w (work_bytes_for n) → (b ≡ store_bytes tears n) × (w ≡ work_bytes_for n)
      go (is p _ _) (is q _ _) = (p, q)
      go (isnt _ s _) q = absurd (none-ne-some 22 (rw s at e))
      go (is _ s _) (isnt _ t _) = absurd (none-ne-some 24 (rw (s, t) at e))

-- where they are refused all is
two_of : (x y : Bool) (rest : Option ℕ) {k : ℕ} → cond x (some 22) (cond y (some 24) none) ≡ some k → some k ≡ cond x (some 22) (cond y (some 24) rest)
two_of true y rest e = sym e
two_of false true rest e = sym e
two_of false false rest e = absurd (none-ne-some _ e)

-- atomic pages or pages that tear, n records, words of s bytes
module _ (tears : Bool) (n s : ℕ) where
  pub run_by : (b e w a : ℕ) {k : ℕ} → buffers_refused tears n b w ≡ some k → some k ≡ lengths_refused tears n s b e w a
  unfolding buffers_refused lengths_refused first_of
  run_by b e w a h = two_of (not (same b (store_bytes tears n))) (not (same w (work_bytes_for n))) _ h

  pub question_by : (b e w p : ℕ) {k : ℕ} → buffers_refused tears n b w ≡ some k → some k ≡ question_refused tears n s b e w p
  unfolding buffers_refused question_refused first_of
  question_by b e w p h = two_of (not (same b (store_bytes tears n))) (not (same w (work_bytes_for n))) _ h

  pub refused_part : (b e w a : ℕ) → b ≡ store_bytes tears n → w ≡ work_bytes_for n → e % s ≢ 0 → some 20 ≡ lengths_refused tears n s b e w a
  unfolding lengths_refused first_of
  refused_part b e w a p q h = rw (p, q, same_refl (store_bytes tears n), same_refl (work_bytes_for n), ne_false (e % s) 0 h)

  pub refused_long : (b e w a : ℕ) → b ≡ store_bytes tears n → w ≡ work_bytes_for n → e % s ≡ 0 → longest * s < e → some 20 ≡ lengths_refused tears n s b e w a
  unfolding lengths_refused first_of
  refused_long b e w a p q h k = rw (p, q, same_refl (store_bytes tears n), same_refl (work_bytes_for n), h, same_refl 0, lt-under (longest * s) e k)

  pub refused_answers : (b e w a : ℕ) → b ≡ store_bytes tears n → w ≡ work_bytes_for n → e % s ≡ 0 → e ≤ longest * s → a < e / s * 2 → some 21 ≡ lengths_refused tears n s b e w a
  unfolding lengths_refused first_of
  refused_answers b e w a p q h k m =
      rw (p, q, same_refl (store_bytes tears n), same_refl (work_bytes_for n), h, same_refl 0, not_lt_under (longest * s) e k, lt-under a (2 * (e / s)) (omega (arith, m)))

  pub refused_not : (b e w a : ℕ) → b ≡ store_bytes tears n → w ≡ work_bytes_for n → e % s ≡ 0 → e ≤ longest * s → e / s * 2 ≤ a → none ≡ lengths_refused tears n s b e w a
  unfolding lengths_refused first_of
  refused_not b e w a p q h k m =
      rw (p, q, same_refl (store_bytes tears n), same_refl (work_bytes_for n), h, same_refl 0, not_lt_under (longest * s) e k, not_lt_under a (2 * (e / s)) (omega (arith, m)))

  -- the lengths decide the run's refusal, in any geometry of these numbers
  module _ (g : Geometry) (many : records g ≡ n) (wide : word_size g ≡ s) (deep : g.depth_limit ≡ depths) where
    pub by_lengths : (store events work answers : List ℕ)
        → first_of (run_refusals (form_in tears g) store events work answers) ≡ lengths_refused tears n s (length store) (length events) (length work) (length answers)
    unfolding run_refusals lengths_refused events_in
    by_lengths store events work answers =
        ap (refusals_by (word_size g) (work_size g)) (store_size n g many tears) ∙ ap (λ (w : ℕ). refusals_by (word_size g) w (store_bytes tears n)) (work_size_lem n g many deep) ∙ ap (λ (x : ℕ). refusals_by x (work_bytes_for n) (store_bytes tears n)) wide
      where
        refusals_by : ℕ → ℕ → ℕ → Option ℕ
        refusals_by x w b =
            first_of (
            (22, not (same (length store) b)) ∷
            (24, not (same (length work) w)) ∷
            (20, not (same (length events % x) 0) || under (longest * x) (length events)) ∷
            (21, under (length answers) (2 * (length events / x))) ∷
            [])

-- what the code answers: where it is no error the number is 0, else the error's
pub told_ok : {o : Option ℕ} (r : Result (Unit {0}) WrongLength) (u : Unit {0}) → r ≡ Ok u → length_told r ≡ o → refusal_number o ≡ 0
unfolding length_told refusal_number
told_ok r u e h = sym (ap refusal_number (ap length_told (sym e) ∙ h))

pub told_err : {o : Option ℕ} (r : Result (Unit {0}) WrongLength) (k : WrongLength) {n : ℕ} → r ≡ Err k → length_told r ≡ o → n ≡ length_number k → (n ≡ refusal_number o) × (n ≢ 0)
unfolding length_told refusal_number
told_err r k e h q = (q ∙ ap refusal_number (ap length_told (sym e) ∙ h), λ z. some_number k (sym q ∙ z))
  where
    some_number : (k : WrongLength) → length_number k ≢ 0
    some_number Events z = absurd (omega (arith, z))
    some_number Answers z = absurd (omega (arith, z))
    some_number Store z = absurd (omega (arith, z))
    some_number Work z = absurd (omega (arith, z))

-- nothing is refused exactly where the number is 0: then the buffers have their lengths
pub record Lengths (tears : Bool) (n s b e w a : ℕ) : Type 0 where
  pub none_is : lengths_refused tears n s b e w a ≡ none
  pub store : b ≡ store_bytes tears n
  pub work : w ≡ work_bytes_for n
  pub whole : e % s ≡ 0
  pub short : e ≤ longest * s
  pub room : 2 * (e / s) ≤ a

tests : Bool → Bool → Bool → Bool → Option ℕ
tests b c d f = cond b (some 22) (cond c (some 24) (cond d (some 20) (cond f (some 21) none)))

data Passed (b c d f : Bool) : Type 0 where
  passed : b ≡ false → c ≡ false → d ≡ false → f ≡ false → Passed b c d f

pass_all : (b c d f : Bool) → refusal_number (tests b c d f) ≡ 0 → Passed b c d f
unfolding tests refusal_number
pass_all true c d f e = absurd (omega (arith, e))
pass_all false true d f e = absurd (omega (arith, e))
pass_all false false true f e = absurd (omega (arith, e))
pass_all false false false true e = absurd (omega (arith, e))
pass_all false false false false e = passed refl refl refl refl

pub lengths_of : (tears : Bool) (n s b e w a : ℕ) → refusal_number (lengths_refused tears n s b e w a) ≡ 0 → Lengths tears n s b e w a
unfolding lengths_refused first_of tests
lengths_of tears n s b e w a z = go (pass_all (not (same b (store_bytes tears n))) (not (same w (work_bytes_for n))) (not (same (e % s) 0) || under (longest * s) e) (under a (2 * (e / s))) z)
  where
    go : Passed (not (same b (store_bytes tears n))) (not (same w (work_bytes_for n))) (not (same (e % s) 0) || under (longest * s) e) (under a (2 * (e / s))) → Lengths tears n s b e w a
    go (passed p q r t) = record {
      none_is = rw (p, q, r, t);
      store = same-eq b (store_bytes tears n) (not-false _ p);
      work = same-eq w (work_bytes_for n) (not-false _ q);
      whole = same-eq (e % s) 0 (not-false _ (or_false_left _ _ r));
      short = not-under (longest * s) e (or_false_right (not (same (e % s) 0)) _ r);
      room = not-under a (2 * (e / s)) t;
    }

-- of a question for a write
module _ (tears : Bool) (n s : ℕ) where
  pub asks_event : (b e w p : ℕ) → b ≡ store_bytes tears n → w ≡ work_bytes_for n → e ≢ s → some 20 ≡ question_refused tears n s b e w p
  unfolding question_refused first_of
  asks_event b e w p h k m = rw (h, k, same_refl (store_bytes tears n), same_refl (work_bytes_for n), ne_false e s m)

  pub asks_write : (b e w p : ℕ) → b ≡ store_bytes tears n → w ≡ work_bytes_for n → e ≡ s → p ≢ write_bytes tears → some 21 ≡ question_refused tears n s b e w p
  unfolding question_refused first_of
  asks_write b e w p h k m q = rw (h, k, m, same_refl (store_bytes tears n), same_refl (work_bytes_for n), same_refl s, ne_false p (write_bytes tears) q)

  pub asks_well : (b e w p : ℕ) → b ≡ store_bytes tears n → w ≡ work_bytes_for n → e ≡ s → p ≡ write_bytes tears → none ≡ question_refused tears n s b e w p
  unfolding question_refused first_of
  asks_well b e w p h k m q = rw (h, k, m, q, same_refl (store_bytes tears n), same_refl (work_bytes_for n), same_refl s, same_refl (write_bytes tears))

pub record Question (tears : Bool) (n s b e w p : ℕ) : Type 0 where
  pub none_is : question_refused tears n s b e w p ≡ none
  pub store : b ≡ store_bytes tears n
  pub work : w ≡ work_bytes_for n
  pub event : e ≡ s
  pub write : p ≡ write_bytes tears

pub question_of : (tears : Bool) (n s b e w p : ℕ) → refusal_number (question_refused tears n s b e w p) ≡ 0 → Question tears n s b e w p
unfolding question_refused first_of tests
question_of tears n s b e w p z = go (pass_all (not (same b (store_bytes tears n))) (not (same w (work_bytes_for n))) (not (same e s)) (not (same p (write_bytes tears))) z)
  where
    go : Passed (not (same b (store_bytes tears n))) (not (same w (work_bytes_for n))) (not (same e s)) (not (same p (write_bytes tears))) → Question tears n s b e w p
    go (passed h q r t) = record {
      none_is = rw (h, q, r, t);
      store = same-eq b (store_bytes tears n) (not-false _ h);
      work = same-eq w (work_bytes_for n) (not-false _ q);
      event = same-eq e s (not-false _ r);
      write = same-eq p (write_bytes tears) (not-false _ t);
    }
