-- Calls that keep their promise, each on what the last one left, are a chain of portions: from a sound state every one of them is found sound.
use mathlib.Core.Path.{◌≡◌, refl, ap, ap₂, subst⁻¹, ◌∙◌}
use mathlib.Core.Bool.{Bool, true, cond}
use mathlib.Core.List.{List, [], ◌∷◌, ◌++◌}
use mathlib.Core.Option.{Option, none, some}
use Prim.Native.Nat.{ℕ, ◌*◌}
use lib.ListN.{take}
use Rattle.laws.specs.Tests.{same}
use Rattle.rules.specs.Form.{Form}
use Rattle.rules.specs.Step.{StateOf, first_of}
use Rattle.rules.specs.Run.{events_in, run_refusals}
use Rattle.rules.specs.Portion.{Lent, words_in, Portion, portion, Chain, added, added_answers, next, chain}
use Rattle.rules.specs.Calls.{Call, lents, results, left, joined_of, answers_of, AllPromised}
use Rattle.rules.proofs.Medium.{MediumLaws}
use Rattle.rules.proofs.Portions.{lengths_only, Carried, sound_portion}

module _ (f : Form) (M : MediumLaws f.geometry f.medium) {X : Type 0} (view : X → StateOf f) (bytes : X → List ℕ) (proper : X → Type 0) where
  abbrev found : StateOf f → Bool
  found s = true

  -- the calls and the chain
  pub record AsChain (x : X) (cs : List (Call X)) (k : Chain f) : Type 0 where
    pub same_results : results cs ≡ k.results
    pub same_joined : joined_of f cs ≡ k.joined
    pub same_answers : answers_of f cs ≡ k.answers
    pub same_state : view (left x cs) ≡ k.state
    pub same_store : bytes (left x cs) ≡ k.store

  joined_one : (c : Call X) (p : Portion f) → c.answer ≡ p.answer → cond (same c.answer 0) (words_in f c.lent.events) [] ≡ added f p c.lent
  unfolding added
  joined_one c p e = ap (λ (n : ℕ). cond (same n 0) (words_in f c.lent.events) []) e

  answers_one : (c : Call X) (p : Portion f) → c.answer ≡ p.answer → c.answers ≡ p.answers
      → cond (same c.answer 0) (take (2 * events_in f c.lent.events) c.answers) [] ≡ added_answers f p c.lent
  unfolding added_answers
  answers_one c p e h = ap₂ (λ (n : ℕ) (bs : List ℕ). cond (same n 0) (take (2 * events_in f c.lent.events) bs) []) e h

  -- found sound where that counts
  as_sound : (x : X) (l : Lent) (sound : Bool) → (first_of (run_refusals f (bytes x) l.events l.work l.answers) ≡ none → sound ≡ true)
      → portion f sound (view x) (bytes x) l.events l.work l.answers ≡ portion f true (view x) (bytes x) l.events l.work l.answers
  as_sound x l sound h = go (first_of (run_refusals f (bytes x) l.events l.work l.answers)) refl
    where
      go : (o : Option ℕ) → first_of (run_refusals f (bytes x) l.events l.work l.answers) ≡ o
          → portion f sound (view x) (bytes x) l.events l.work l.answers ≡ portion f true (view x) (bytes x) l.events l.work l.answers
      go none q = ap (λ (b : Bool). portion f b (view x) (bytes x) l.events l.work l.answers) (h q)
      go (some n) q = lengths_only f sound true (view x) (bytes x) l.events l.work l.answers n q

  pub calls_chain : (x : X) (cs : List (Call X)) → AllPromised f view bytes proper x cs → proper x → Carried f M (view x) (bytes x)
      → AsChain x cs (chain f found (view x) (bytes x) (lents cs))
  unfolding lents results left joined_of answers_of chain next
  calls_chain x [] P W C = record { same_results = refl; same_joined = refl; same_answers = refl; same_state = refl; same_store = refl }
  calls_chain x (c ∷ cs) P W C =
      let l = c.lent in
      let sound = P.0.0 in
      let K = P.0.1 in
      let p = portion f true (view x) (bytes x) l.events l.work l.answers in
      let q = portion f sound (view x) (bytes x) l.events l.work l.answers in
      let e : q ≡ p = as_sound x l sound (λ h. (K.found h).every_sound (view x) (refl, W) C.reached.sound) in
      let state : view c.after ≡ p.state = K.state ∙ ap (λ (y : Portion f). y.state) e in
      let store : bytes c.after ≡ p.store = K.stored ∙ ap (λ (y : Portion f). y.store) e in
      let answer : c.answer ≡ p.answer = K.answered ∙ ap (λ (y : Portion f). y.answer) e in
      let told : c.answers ≡ p.answers = K.told ∙ ap (λ (y : Portion f). y.answers) e in
      let kept : Carried f M p.state p.store = sound_portion f M true (view x) (bytes x) l.events l.work l.answers C in
      let kept' : Carried f M (view c.after) (bytes c.after)
      = subst⁻¹ (λ (s : StateOf f). Carried f M s (bytes c.after)) state (subst⁻¹ (λ (bs : List ℕ). Carried f M p.state bs) store kept) in
      let rest = calls_chain c.after cs P.1 (K.written W) kept' in
      let on : chain f found (view c.after) (bytes c.after) (lents cs) ≡ chain f found p.state p.store (lents cs)
      = ap₂ (λ (s : StateOf f) (bs : List ℕ). chain f found s bs (lents cs)) state store in
      record {
        same_results = ap₂ (λ (n : ℕ) (ns : List ℕ). n ∷ ns) answer (rest.same_results ∙ ap (λ (k : Chain f). k.results) on);
        same_joined = ap₂ (λ (a b : List ℕ). a ++ b) (joined_one c p answer) (rest.same_joined ∙ ap (λ (k : Chain f). k.joined) on);
        same_answers = ap₂ (λ (a b : List ℕ). a ++ b) (answers_one c p answer told) (rest.same_answers ∙ ap (λ (k : Chain f). k.answers) on);
        same_state = rest.same_state ∙ ap (λ (k : Chain f). k.state) on;
        same_store = rest.same_store ∙ ap (λ (k : Chain f). k.store) on;
      }
