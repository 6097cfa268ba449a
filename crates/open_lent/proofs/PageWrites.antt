-- A question for a page write that is refused leaves the buffer as it was; one that is answered tells what the rules plan.
use mathlib.Core.Path.{◌≡◌, refl, sym, ap, subst⁻¹, ◌∙◌}
use mathlib.Core.Bool.{Bool, true, false, not, cond, true≢false}
use mathlib.Core.List.{List, [], ◌∷◌, ◌++◌}
use mathlib.Core.Logic.{◌≢◌}
use mathlib.Core.Option.{Option, none, some}
use Prim.Native.Nat.{ℕ}
use lib.ListN.{length, replicate}
use Rattle.laws.specs.Bytes.{number}
use Rattle.laws.specs.Tests.{same}
use Rattle.rules.specs.Geometry.{Geometry, records}
use Rattle.rules.specs.Form.{Form}
use Rattle.rules.specs.Event.{Event, decode}
use Rattle.rules.specs.Step.{first_of}
use Rattle.rules.specs.Portion.{VerdictRight}
use Rattle.rules.specs.Sound.{Sound}
use Rattle.rules.specs.Editions.{Edition, geometry_of, form_in}
use Rattle.rules.proofs.Portions.{finds_one}
use Rattle.claim_device.specs.Asked.{Asked, write_size, said_of, ask_lengths, ask_refusals, asked_by, asked}
use Rattle.event_crash.proofs.Editions.{served_of}
use Rattle.state_whole.specs.Whole as state
use Rattle.state_whole.specs.Whole.{Arrays, Intact}
use Rattle.engine_portion.specs.Portion.{arrays_of}
use Rattle.sound_clause.specs.Decides.{Decides}
use Rattle.engine_list.proofs.Words.{four_of}
use Rattle.store_length.specs.Lengths.{write_bytes, question_refused, refusal_number}
use Rattle.store_length.proofs.Lengths.{question_of}
use Rattle.store_length.proofs.Sizes.{store_size, work_size_lem}
use Rattle.open_lent.specs.Portions.{LentState, state_in, Encoded}
use Rattle.open_lent.specs.PageWrites.{ToldAs, ToldOne}

-- refusals, then one more
first_more : (xs : List (ℕ × Bool)) (n : ℕ) (b : Bool) (m : ℕ) → first_of xs ≡ some m → first_of (xs ++ ((n, b) ∷ [])) ≡ some m
unfolding first_of
first_more [] n b m e = let z : true ≡ false = cc in absurd (true≢false z)
first_more ((k, true) ∷ xs) n b m e = e
first_more ((k, false) ∷ xs) n b m e = first_more xs n b m e

first_last : (xs : List (ℕ × Bool)) (n : ℕ) (b : Bool) → first_of xs ≡ none → first_of (xs ++ ((n, b) ∷ [])) ≡ cond b (some n) none
unfolding first_of
first_last [] n b e = refl
first_last ((k, true) ∷ xs) n b e = let z : true ≡ false = cc in absurd (true≢false z)
first_last ((k, false) ∷ xs) n b e = first_last xs n b e

-- the bytes of a write
pub write_size_lem : (tears : Bool) → write_size tears ≡ write_bytes tears
write_size_lem false = refl
write_size_lem true = refl

module _ (tears : Bool) (g : Geometry) (x : LentState) (event write : List ℕ) (index : ℕ) where
  abbrev f : Form
  f = form_in tears g

  abbrev Found : Bool → Type 0
  Found sound = VerdictRight f (λ s. (state_in f x ≡ s) × Encoded f x) sound

  abbrev lengths : List (ℕ × Bool)
  lengths = ask_lengths tears g x.store event x.work write

  -- what is asked depends on what is found of the state only where the lengths pass
  same_said : (s t : Bool) → (first_of lengths ≡ none → Found s) → (first_of lengths ≡ none → Found t)
      → asked tears g s (state_in f x) x.store event x.work index write ≡ asked tears g t (state_in f x) x.store event x.work index write
  unfolding asked ask_refusals
  same_said s t F G = go (first_of lengths) refl
    where
      go : (o : Option ℕ) → first_of lengths ≡ o
          → asked_by tears g (state_in f x) event index write (first_of (lengths ++ ((25, not s) ∷ []))) ≡ asked_by tears g (state_in f x) event index write (first_of (lengths ++ ((25, not t) ∷ [])))
      go (some n) q = ap (asked_by tears g (state_in f x) event index write) (first_more lengths 25 (not s) n q ∙ sym (first_more lengths 25 (not t) n q))
      go none q = ap (λ (b : Bool). asked_by tears g (state_in f x) event index write (first_of (lengths ++ ((25, not b) ∷ [])))) (finds_one f (λ s. (state_in f x ≡ s) × Encoded f x) s t (F q) (G q))

  refused_with : (n : ℕ) (sound : Bool) → (first_of lengths ≡ none → Found sound) → first_of (ask_refusals tears g sound x.store event x.work write) ≡ some n → ToldAs tears g x event write index n write
  unfolding asked asked_by
  refused_with n sound F q = (
    sound,
    record {
      found = F;
      answered = sym (ap (λ (o : Option ℕ). (asked_by tears g (state_in f x) event index write o).answer) q);
      written = sym (ap (λ (o : Option ℕ). (asked_by tears g (state_in f x) event index write o).write) q);
    },
  )

-- of an edition with sixteen records
module _ (tears : Bool) (edition : Edition) (many : records (geometry_of edition) ≡ 16) (x : LentState) (event write : List ℕ) (index : ℕ) where
  abbrev form : Form
  form = form_in tears (geometry_of edition)

  abbrev asks : List (ℕ × Bool)
  asks = ask_lengths tears (geometry_of edition) x.store event x.work write

  abbrev refusal : Option ℕ
  refusal = question_refused tears 16 4 (length x.store) (length event) (length x.work) (length write)

  by_lengths : first_of asks ≡ refusal
  unfolding ask_lengths question_refused
  by_lengths = λ i. by (store_size 16 (geometry_of edition) many tears i) (work_size_lem 16 (geometry_of edition) many (served_of edition).deep i) (four_of edition many i) (write_size_lem tears i)
    where
      by : ℕ → ℕ → ℕ → ℕ → Option ℕ
      by b w s p =
          first_of ((22, not (same (length x.store) b)) ∷ (24, not (same (length x.work) w)) ∷ (20, not (same (length event) s)) ∷ (21, not (same (length write) p)) ∷ [])

  -- by the lengths
  pub question_refused_lem : (n : ℕ) → n ≡ refusal_number refusal → n ≢ 0 → ToldAs tears (geometry_of edition) x event write index n write
  unfolding refusal_number ask_refusals
  question_refused_lem n e h = go refusal by_lengths e
    where
      go : (o : Option ℕ) → first_of asks ≡ o → n ≡ refusal_number o → ToldAs tears (geometry_of edition) x event write index n write
      go none q z = absurd (h z)
      go (some m) q z = refused_with tears (geometry_of edition) x event write index n false (λ p. let k : some m ≡ none = sym q ∙ p in let c : true ≡ false = cc in absurd (true≢false c))
          (first_more asks 25 true m q ∙ ap some (sym z))

  module _ (fits : refusal_number refusal ≡ 0) (b : Bool) (D : Decides b (Intact form (arrays_of x.engine x.work x.store) × (x.engine.spare ≡ replicate 3 0))) where
    passes : first_of asks ≡ none
    passes = by_lengths ∙ (question_of tears 16 4 _ _ _ _ fits).none_is

    -- as no sound state
    pub state_refused : b ≡ false → ToldAs tears (geometry_of edition) x event write index 25 write
    unfolding state_in ask_refusals
    state_refused e = refused_with tears (geometry_of edition) x event write index 25 false
        (λ p. record {
          only_sound = λ t. absurd (true≢false (sym t));
          every_sound = λ s c S. absurd (D.no e (record { sound = subst⁻¹ (Sound form) c.0 S; served = record { few = (served_of edition).few; deep = (served_of edition).deep }; form = c.1.form }, c.1.bare));
        })
        (first_last asks 25 true passes)

    -- answered
    pub question_answered : b ≡ true → (o : Option Event) → decode (geometry_of edition) (number event) ≡ o → (answer : ℕ) (write' : List ℕ)
        → (let said = said_of tears (geometry_of edition) (state.view form (arrays_of x.engine x.work x.store)) o index write in (answer ≡ said.answer) × (write' ≡ said.write))
        → ToldAs tears (geometry_of edition) x event write index answer write'
    unfolding state_in asked asked_by ask_refusals
    question_answered e o means answer write' W =
        let I = D.yes e in
        let taken : first_of (ask_refusals tears (geometry_of edition) true x.store event x.work write) ≡ none = first_last asks 25 false passes in
        let say : said_of tears (geometry_of edition) (state.view form (arrays_of x.engine x.work x.store)) o index write ≡ asked tears (geometry_of edition) true (state_in form x) x.store event x.work index write =
        ap (λ (o : Option Event). said_of tears (geometry_of edition) (state.view form (arrays_of x.engine x.work x.store)) o index write) (sym means)
        ∙ sym (ap (asked_by tears (geometry_of edition) (state_in form x) event index write) taken) in (
          true,
          record {
            found = λ q. record { only_sound = λ t. (state_in form x, (refl, record { form = I.0.form; bare = I.1 }), I.0.sound); every_sound = λ s c S. refl };
            answered = W.0 ∙ ap (λ (a : Asked). a.answer) say;
            written = W.1 ∙ ap (λ (a : Asked). a.write) say;
          },
        )

pub told_one : (tears : Bool) (g : Geometry) → ToldOne tears g
unfolding ToldOne
told_one tears g x event write index a b v w P Q =
    let same = same_said tears g x event write index P.0 Q.0 P.1.found Q.1.found in (
      P.1.answered ∙ ap (λ (z : Asked). z.answer) same ∙ sym Q.1.answered,
      P.1.written ∙ ap (λ (z : Asked). z.write) same ∙ sym Q.1.written,
    )

-- the sets of writers have as many records
pub writers_long : (tears : Bool) (edition : Edition) → records (geometry_of edition) ≡ 16 → (x : Arrays) → Intact (form_in tears (geometry_of edition)) x → length x.writers ≡ 16
writers_long tears edition many x I = I.form.writerss ∙ many
