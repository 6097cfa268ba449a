-- A portion that is refused leaves all as it was; one that is played leaves what the rules say. What is lent is a state exactly if the gate finds so.
use mathlib.Core.Path.{◌≡◌, refl, sym, ap, subst, subst⁻¹, ◌∙◌}
use mathlib.Core.Bool.{Bool, true, false, ◌&&◌, true≢false}
use mathlib.Core.List.{List}
use mathlib.Core.Logic.{◌≢◌}
use mathlib.Core.Option.{Option, none, some}
use Prim.Native.Nat.{ℕ, zero, suc, ◌<◌}
use native.Mathlib.Omega.{arith}
use lib.ListN.{length, get_or, replicate}
use lib.Seq.{ext_get_or}
use Rattle.laws.specs.Tests.{same}
use Rattle.rules.specs.Step.{first_of}
use Rattle.rules.specs.Run.{run_refusals}
use Rattle.rules.specs.Sound.{Sound}
use Rattle.rules.specs.Portion.{VerdictRight, Portion, portion_all, portion, words_in}
use Rattle.rules.specs.Geometry.{records}
use Rattle.rules.specs.Form.{Form}
use Rattle.rules.specs.Editions.{Edition, first, paired, geometry_of, form_in, InNumbers}
use Rattle.rules.proofs.Portions.{Case, plays, refuses, which_case, lengths_first, unsound_refused, sound_played}
use Rattle.event_crash.proofs.Editions.{served_of}
use Rattle.state_whole.specs.Whole.{Intact}
use Rattle.state_whole.specs.Portion as portions
use Rattle.state_whole.specs.Portion.{played}
use Rattle.state_whole.specs.declared.State.{State}
use Rattle.state_whole.specs.Lain.{arrays_in}
use Rattle.engine_portion.specs.declared.Engine.{Engine}
use Rattle.engine_portion.specs.Portion.{arrays_of, state_lent}
use Rattle.engine_list.proofs.Words.{four_of}
use Rattle.sound_clause.specs.Decides.{Decides}
use Rattle.sound_clause.proofs.Decides.{decides_as, decides_and, decides_same}
use Rattle.store_length.specs.Lengths.{lengths_refused, refusal_number}
use Rattle.open_lent.specs.Portions.{LentState, state_in, Encoded, PortionedAs}
use Rattle.store_length.proofs.Lengths.{by_lengths, lengths_of}

-- three bytes are zeros
pub bare_decided : (l : List ℕ) → length l ≡ 3 → Decides ((same (get_or l 0 0) 0 && same (get_or l 1 0) 0) && same (get_or l 2 0) 0) (l ≡ replicate 3 0)
bare_decided l long = decides_as
    (λ z. ext_get_or 0 l (replicate 3 0) long (each z))
    (λ e. ((ap (λ (m : List ℕ). get_or m 0 0) e, ap (λ (m : List ℕ). get_or m 1 0) e), ap (λ (m : List ℕ). get_or m 2 0) e))
    (decides_and (decides_and (decides_same (get_or l 0 0) 0) (decides_same (get_or l 1 0) 0)) (decides_same (get_or l 2 0) 0))
  where
    each : ((get_or l 0 0 ≡ 0) × (get_or l 1 0 ≡ 0)) × (get_or l 2 0 ≡ 0) → (i : ℕ) → i < length l → get_or l i 0 ≡ get_or (replicate 3 0) i 0
    each z zero h = z.0.0
    each z (suc zero) h = z.0.1
    each z (suc (suc zero)) h = z.1
    each z (suc (suc (suc i))) h = absurd (omega arith)

-- the state that is taken out of what is lent stands for the same arrays
pub taken : (tears : Bool) (edition : Edition) (e : Engine) (s : State 16 32) (work store : List ℕ) (b : Bool) → s ≡ state_lent e
    → Decides b (Intact (form_in tears (geometry_of edition)) (arrays_in s work store) × (e.spare ≡ replicate 3 0))
    → Decides b (Intact (form_in tears (geometry_of edition)) (arrays_of e work store) × (e.spare ≡ replicate 3 0))
taken tears edition e s work store b q D = subst (λ (z : State 16 32). Decides b (Intact (form_in tears (geometry_of edition)) (arrays_in z work store) × (e.spare ≡ replicate 3 0))) q D

-- edition 1, and the form whose pages can tear, in the numbers that the code gets
pub first_in : InNumbers first 16 true false
unfolding records
first_in = record { many = refl; two_phase = refl; torn = refl }

pub paired_in : InNumbers paired 16 false true
unfolding records
paired_in = record { many = refl; two_phase = refl; torn = refl }

-- of an edition with sixteen records
module _ (tears : Bool) (edition : Edition) (many : records (geometry_of edition) ≡ 16) (x : LentState) (events answers : List ℕ) where
  abbrev f : Form
  f = form_in tears (geometry_of edition)

  abbrev by : Bool → Portion f
  by sound = portion f sound (state_in f x) x.store events x.work answers

  abbrev Passes : Type 0
  Passes = first_of (run_refusals f x.store events x.work answers) ≡ none

  abbrev Found : Bool → Type 0
  Found sound = VerdictRight f (λ s. (state_in f x ≡ s) × Encoded f x) sound

  -- refused: all is as it was
  as_it_was : (n : ℕ) (sound : Bool) → (Passes → Found sound) → n ≡ (by sound).answer → n ≢ 0 → PortionedAs f x events answers n x answers
  unfolding portion_all
  as_it_was n sound F e h = go (which_case f sound (state_in f x) x.store events x.work answers)
    where
      go : Case f sound (state_in f x) x.store events x.work answers → PortionedAs f x events answers n x answers
      go (plays q p) = absurd (h (e ∙ ap (λ (y : Portion f). y.answer) p))
      go (refuses m q z p) = (
        sound,
        record {
          found = F;
          answered = e;
          state = sym (ap (λ (y : Portion f). y.state) p);
          stored = sym (ap (λ (y : Portion f). y.store) p);
          told = sym (ap (λ (y : Portion f). y.answers) p);
          written = λ w. w;
          untouched = λ k. refl;
        },
      )

  -- by the lengths
  pub length_refused : (n : ℕ) → n ≡ refusal_number (lengths_refused tears 16 4 (length x.store) (length events) (length x.work) (length answers)) → n ≢ 0
      → PortionedAs f x events answers n x answers
  unfolding refusal_number
  length_refused n e h = go (lengths_refused tears 16 4 (length x.store) (length events) (length x.work) (length answers)) (by_lengths tears 16 4 (geometry_of edition) many (four_of edition many) (served_of edition).deep x.store events x.work answers) e
    where
      go : (o : Option ℕ) → first_of (run_refusals f x.store events x.work answers) ≡ o → n ≡ refusal_number o → PortionedAs f x events answers n x answers
      go none q z = absurd (h z)
      go (some m) q z = as_it_was n false (λ p. let k : some m ≡ none = sym q ∙ p in let c : true ≡ false = cc in absurd (true≢false c))
          (z ∙ sym (lengths_first f false (state_in f x) x.store events x.work answers m q)) h

  module _ (fits : refusal_number (lengths_refused tears 16 4 (length x.store) (length events) (length x.work) (length answers)) ≡ 0) where
    passes : Passes
    passes = by_lengths tears 16 4 (geometry_of edition) many (four_of edition many) (served_of edition).deep x.store events x.work answers ∙ (lengths_of tears 16 4 _ _ _ _ fits).none_is

    -- as no sound state
    pub state_refused : (b : Bool) → Decides b (Intact f (arrays_of x.engine x.work x.store) × (x.engine.spare ≡ replicate 3 0)) → b ≡ false
        → PortionedAs f x events answers 25 x answers
    unfolding state_in
    state_refused b D e = as_it_was 25 false
        (λ p. record {
          only_sound = λ t. absurd (true≢false (sym t));
          every_sound = λ s c S. absurd (D.no e (record { sound = subst⁻¹ (Sound f) c.0 S; served = record { few = (served_of edition).few; deep = (served_of edition).deep }; form = c.1.form }, c.1.bare));
        })
        (sym (unsound_refused f (state_in f x) x.store events x.work answers passes)) (λ z. omega arith)

    -- played
    pub state_played : (b : Bool) → Decides b (Intact f (arrays_of x.engine x.work x.store) × (x.engine.spare ≡ replicate 3 0)) → b ≡ true
        → (y : LentState) (answers' : List ℕ) → portions.PortionPlayed f (arrays_of x.engine x.work x.store) events answers (arrays_of y.engine y.work y.store) answers'
        → y.engine.spare ≡ x.engine.spare → PortionedAs f x events answers 0 y answers'
    unfolding state_in portion_all words_in played
    state_played b D e y answers' P s =
        let I = D.yes e in
        let p = sound_played f (state_in f x) x.store events x.work answers passes in
        let proper : Encoded f x = record { form = I.0.form; bare = I.1 } in (
          true,
          record {
            found = λ q. record { only_sound = λ t. (state_in f x, (refl, proper), I.0.sound); every_sound = λ s c S. refl };
            answered = sym (ap (λ (y : Portion f). y.answer) p);
            state = P.state ∙ sym (ap (λ (y : Portion f). y.state) p);
            stored = P.store ∙ sym (ap (λ (y : Portion f). y.store) p);
            told = P.answered ∙ sym (ap (λ (y : Portion f). y.answers) p);
            written = λ w. record { form = P.intact.form; bare = s ∙ I.1 };
            untouched = λ k. absurd (k refl);
          },
        )
