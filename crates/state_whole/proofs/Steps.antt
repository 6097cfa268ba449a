-- One event over the arrays, from what the rules do with the state that they stand for; and what the arrays tell of that state.
use mathlib.Core.Path.{◌≡◌, refl, sym, ap, subst, subst⁻¹, ◌∙◌}
use mathlib.Core.Bool.{true, false}
use mathlib.Core.Logic.{◌≢◌}
use mathlib.Core.Option.{Option, some}
use Prim.Native.Nat.{ℕ, ◌≤◌, ◌<◌}
use native.Mathlib.Omega.{arith}
use lib.ListN.{get_or, get_or-eq_default}
use Rattle.laws.proofs.Tests.{same_cases, Same, is, isnt, same_refl, ne_false}
use Rattle.laws.proofs.Booleans.{or_cases}
use Rattle.rules.specs.Event.{Event}
use Rattle.rules.specs.State.{depth_in, line_of, mem, live, holds, holds_writing, retains_writing}
use Rattle.rules.specs.Versions.{is_some}
use Rattle.rules.specs.Form.{Form}
use Rattle.rules.specs.Step as rules
use Rattle.rules.specs.Step.{done, refused, StateOf, OutcomeOf, number_of, value_of, finished, step}
use Rattle.rules.specs.Editions.{depths}
use Rattle.rules.proofs.Locks.{rooted_of, version_live, line_apart}
use Rattle.leaf_set.specs.Sets.{sets}
use Rattle.state_array.specs.View.{any_mode, write_mode}
use Rattle.state_array.proofs.View.{depth_is, active_is, idle_is, deep_is, some_is}
use Rattle.state_array.proofs.Modes.{writing_is, lock_is}
use Rattle.state_version.specs.Parts.{Sources}
use Rattle.leaf_event.specs.declared.Answer.{Answer}
use Rattle.state_whole.specs.Whole.{Arrays, view, Formed, Intact, engine_answer, Stepped}

abbrev pub answer : ℕ → ℕ → Answer
answer n v = record { number = n; value = v }

module _ (f : Form) where
  pub stepped : (x y : Arrays) (e : Option Event) (s : StateOf f) (b : rules.Answer) (a : Answer) → step f (view f x) e ≡ record { state = s; answer = b }
      → view f y ≡ s → a ≡ engine_answer b → Formed f y → Stepped f x e a y
  stepped x y e s b a q v w F = record {
    is = v ∙ sym (ap (λ (o : OutcomeOf f). o.state) q);
    says = w ∙ sym (ap (λ (o : OutcomeOf f). engine_answer o.answer) q);
    form = F;
  }

  -- done, with a value; refused, with a number
  pub finishes : (x y : Arrays) (e : Option Event) (s : StateOf f) (v : ℕ) → step f (view f x) e ≡ finished s v → view f y ≡ s → Formed f y → Stepped f x e (answer 0 v) y
  unfolding finished engine_answer number_of value_of
  finishes x y e s v q w F = stepped x y e s (done v) (answer 0 v) q w refl F

  pub unmoved : (x : Arrays) (e : Option Event) (n : ℕ) → Formed f x → step f (view f x) e ≡ record { state = view f x; answer = refused n } → Stepped f x e (answer n 0) x
  unfolding engine_answer number_of value_of
  unmoved x e n F q = stepped x x e (view f x) (refused n) (answer n 0) q refl refl F

  pub retold : (x y : Arrays) (e e' : Option Event) (a : Answer) → e' ≡ e → Stepped f x e a y → Stepped f x e' a y
  retold x y e e' a q T = subst⁻¹ (λ (e : Option Event). Stepped f x e a y) q T

  -- the numbers are given by checked ones
  pub numbered : (x y : Arrays) (a : Answer) (e : ℕ → ℕ → Event) (Able : Arrays → ℕ → Type 0) (n t m r : ℕ) → n ≡ t → m ≡ r → (Able x n → Stepped f x (some (e n m)) a y) → Able x t → Stepped f x (some (e t r)) a y
  numbered x y a e Able n t m r p q go R =
      subst (λ (r : ℕ). Stepped f x (some (e t r)) a y) q (subst (λ (t : ℕ). Stepped f x (some (e t m)) a y) p (go (subst⁻¹ (Able x) p R)))

  pub state_eq : {s t : StateOf f} → s.up ≡ t.up → s.bearer ≡ t.bearer → s.held ≡ t.held → s.retained ≡ t.retained → s.version ≡ t.version → s.store ≡ t.store → s ≡ t
  state_eq a b c d e f = λ i. record { up = a i; bearer = b i; held = c i; retained = d i; version = e i; store = f i }

  module _ (x : Arrays) where
    pub up_is : x.up ≡ 1 → (view f x).up ≡ true
    unfolding view
    up_is e = rw e (same_refl 1)

    pub down_is : x.up ≢ 1 → (view f x).up ≡ false
    unfolding view
    down_is n = ne_false x.up 1 n

    pub live_is : (t : ℕ) → 0 < get_or x.depth t 0 → live (view f x) t ≡ true
    unfolding view live
    live_is t h = active_is x.parent x.depth t h

    pub not_live : (t : ℕ) → get_or x.depth t 0 ≡ 0 → live (view f x) t ≡ false
    unfolding view live
    not_live t e = idle_is x.parent x.depth t e

    pub not_live_past : (t : ℕ) → Formed f x → 24 ≤ t → live (view f x) t ≡ false
    not_live_past t F h = not_live t (get_or-eq_default x.depth 0 (let k = F.depths in omega arith))

    pub holds_is : Formed f x → (r t : ℕ) → holds (view f x) r t ≡ any_mode (sets x.held) r t
    unfolding view holds
    holds_is F r t = lock_is (sets x.held) F.held_nested r t

    pub holds_writing_is : (r t : ℕ) → holds_writing (view f x) r t ≡ write_mode (sets x.held) r t
    unfolding view holds_writing
    holds_writing_is r t = writing_is (sets x.held) r t

    pub wrote_is : (j r : ℕ) → is_some ((view f x).version j r) ≡ sets x.writers r j
    unfolding view
    wrote_is j r = some_is x.depth x.writers x.work j r

    pub depth_of : (t : ℕ) → depth_in ((view f x).bearer t) ≡ get_or x.depth t 0
    unfolding view
    depth_of t = depth_is x.parent x.depth t

  module _ (x : Arrays) (I : Intact f x) where
    pub shallow : (u : ℕ) → get_or x.depth u 0 ≤ depths
    shallow u = let k = I.sound.shallow u in let e = depth_of x u in let d = I.served.deep in omega arith

    pub sources : Sources x.parent x.depth
    unfolding view
    sources = record { tree = rooted_of I.sound; long = I.form.depths; shallow = shallow }

    -- a writer is live
    pub writer_deep : (r u : ℕ) → sets x.writers r u ≡ true → 0 < get_or x.depth u 0
    unfolding view live
    writer_deep r u e = deep_is x.parent x.depth u (version_live I.sound u r (wrote_is x u r ∙ e))

    -- a writer of what t holds, at t's depth, is t
    pub writer_alone : (r t u : ℕ) → any_mode (sets x.held) r t ≡ true → sets x.writers r u ≡ true → get_or x.depth u 0 ≡ get_or x.depth t 0 → u ≡ t
    writer_alone r t u h e d =
        let S = I.sound in
        let k = holds_is x I.form r t ∙ h in
        or_cases (holds_writing (view f x) r u) (retains_writing (view f x) r u) (S.by_lock u r (wrote_is x u r ∙ e))
        (λ w. S.one_holder r u t w k) (λ w. go (S.beneath r t u k w) (same_cases u t))
      where
        go : mem u (line_of (view f x).bearer t) ≡ true → Same u t → u ≡ t
        go m (is q _ _) = q
        go m (isnt q _ _) = let k = line_apart I.sound u t m q in let a = depth_of x u in let b = depth_of x t in absurd (omega arith)
