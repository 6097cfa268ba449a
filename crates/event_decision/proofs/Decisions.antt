-- A decision and a query, in the rules: for another identity, over the page writes of the decision, and what is answered.
use mathlib.Core.Path.{◌≡◌, refl, sym, ap, ap₂, subst⁻¹, ◌∙◌}
use mathlib.Core.Bool.{Bool, true, false, not, cond, ◌&&◌, true≢false}
use mathlib.Core.List.{List}
use mathlib.Core.Option.{some}
use Prim.Native.Nat.{ℕ, ◌^◌, ◌<◌}
use lib.ListN.{length}
use lib.Pow.{pow_pos}
use Rattle.laws.specs.Tests.{same}
use Rattle.laws.proofs.Tests.{same_cases, Same, is, isnt}
use Rattle.rules.specs.Store.{Page, read_prepared}
use Rattle.rules.specs.Event.{decide, query}
use Rattle.rules.specs.State.{down}
use Rattle.rules.specs.Commit.{Cut}
use Rattle.rules.specs.Step.{done, cut, is_for, number_of, value_of, raised, concluded, finished, recovers, decides, step}
use Rattle.rules.specs.Geometry.{Geometry, records}
use Rattle.rules.specs.Form.{Form}
use Rattle.rules.specs.Editions.{form_in}
use Rattle.rules.proofs.PreparedPage.{prepared_is}
use Rattle.leaf_commit_page.specs.Heard.{prepared}
use Rattle.store_write.specs.Phase.{PageWritesDone, store_of, shown_in}
use Rattle.state_whole.specs.Whole.{Arrays, arrays, view, Intact, engine_answer, Stepped, Reserves}
use Rattle.state_whole.proofs.Rules.{decide_done, query_done}
use Rattle.state_whole.proofs.Steps.{answer, stepped, finishes, state_eq, up_is}
use Rattle.state_whole.proofs.Reserves.{prepared_in, is_for_is, one_prepared}
use Rattle.event_crash.proofs.Falls.{zeros, zeros_down, zeros_formed, Fallen, fallen}

module _ (tears : Bool) (g : Geometry) where
  abbrev f : Form
  f = form_in tears g

  abbrev shown_first : List ℕ → Page
  shown_first store = shown_in tears (store_of tears store) 0

  -- the same decision
  pub by_decision : (s t : f.medium.Store) (k m : ℕ) (c d e : Bool) → e ≡ d → PageWritesDone (f.medium.decide s d k) t m c → PageWritesDone (f.medium.decide s e k) t m c
  by_decision s t k m c d e q L = subst⁻¹ (λ (b : Bool). PageWritesDone (f.medium.decide s b k) t m c) q L

  -- what is prepared, where the test holds
  pub for_prepared : (store : List ℕ) (m n i : ℕ) (b : Bool) → Reserves tears g store m n → b ≡ (not (same m 0) && same n i) → b ≡ true → read_prepared g (shown_first store) ≡ some (prepared m n)
  for_prepared store m n i b H e q = one_prepared tears g store m n H (λ z. go (same_cases m 0) (sym e ∙ q) z)
    where
      go : Same m 0 → (not (same m 0) && same n i) ≡ true → m ≡ 0 → ⊥
      go (is z k _) h y = true≢false (sym h ∙ rw k)
      go (isnt z k _) h y = z y

  -- a map of the records that there are
  pub map_small : (store : List ℕ) (m i : ℕ) → Reserves tears g store m i → m < 2 ^ records g
  map_small store m i H = go (same_cases m 0)
    where
      go : Same m 0 → m < 2 ^ records g
      go (is z _ _) = rw z (pow_pos (records g))
      go (isnt z _ _) = (prepared_is g (shown_first store) (prepared m i) (one_prepared tears g store m i H z)).1.map-fits

  module _ (x : Arrays) (I : Intact f x) (up : x.up ≡ 1) (m n i : ℕ) (H : Reserves tears g x.store m n) (b : Bool) (test : b ≡ (not (same m 0) && same n i)) where
    pub for_is : is_for i (f.medium.prepared (view f x).store) ≡ b
    unfolding view
    for_is = ap (is_for i) (prepared_in tears g x.store) ∙ is_for_is tears g x.store m n H i ∙ sym test

    pub query_steps : (v : ℕ) → cond b 1 0 ≡ v → Stepped f x (some (query i)) (answer 0 v) x
    query_steps v e = finishes f x x (some (query i)) (view f x) v (query_done f (view f x) i (up_is f x up) ∙ ap (finished (view f x)) (ap (λ (b : Bool). cond b 1 0) for_is ∙ e)) refl I.form

    module _ (d : Bool) (k : ℕ) where
      decides_is : step f (view f x) (some (decide d k i)) ≡ decides f (view f x) d k b
      decides_is = decide_done f (view f x) d k i (up_is f x up) ∙ ap (decides f (view f x) d k) for_is

      -- for another: nothing
      pub decide_other : b ≡ false → Stepped f x (some (decide d k i)) (answer 0 0) x
      unfolding decides
      decide_other e = finishes f x x (some (decide d k i)) (view f x) 0 (decides_is ∙ ap (decides f (view f x) d k) e) refl I.form

      -- for the prepared one, over what its page writes left
      module _ (ours : b ≡ true) (store : List ℕ) (made : ℕ) (crashed : Bool) (L : PageWritesDone (f.medium.decide (f.medium.from_bytes x.store) d k) (f.medium.from_bytes store) made crashed) (size : length store ≡ length x.store) where
        abbrev C : Cut f.medium.Store
        C = f.medium.decide (f.medium.from_bytes x.store) d k

        outcome : (c : Bool) → crashed ≡ c → step f (view f x) (some (decide d k i)) ≡ concluded (raised (view f x) (f.medium.from_bytes store)) C c
        unfolding decides recovers view
        outcome c e =
            decides_is ∙ ap (decides f (view f x) d k) ours
            ∙ ap₂ (λ (p : f.medium.Store) (c : Bool). concluded (raised (view f x) p) C c) (sym L.store) (sym L.crashed ∙ e)

        pub decide_steps : crashed ≡ false → Stepped f x (some (decide d k i)) (answer 0 made) (arrays x.up x.parent x.depth x.line x.held x.retained x.writers x.work store)
        unfolding concluded engine_answer number_of value_of view raised
        decide_steps e =
            stepped f x _ (some (decide d k i)) (raised (view f x) (f.medium.from_bytes store)) (done C.made) (answer 0 made) (outcome false e)
            (state_eq f (up_is f x up) refl refl refl refl refl) (ap (answer 0) L.made)
            (let F = I.form in record { lines = F.lines; flag = F.flag; tidy = F.tidy; held_nested = F.held_nested; retained_nested = F.retained_nested; parents = F.parents; depths = F.depths; long = F.long; helds = F.helds; retaineds = F.retaineds; writerss = F.writerss; works = F.works; stores = size ∙ F.stores })

        pub decide_cut : crashed ≡ true → (n' : ℕ) → length x.writers ≡ n' → (up' : ℕ) (parent depth line held retained writers : List ℕ) → Fallen n' up' parent depth line held retained writers
            → Stepped f x (some (decide d k i)) (answer 11 made) (arrays up' parent depth line held retained writers x.work store)
        unfolding concluded engine_answer number_of value_of
        decide_cut e n' many up' parent depth line held retained writers Z =
            subst⁻¹ (Stepped f x (some (decide d k i)) (answer 11 made)) (fallen n' up' parent depth line held retained writers x.work store Z)
            (stepped f x (zeros n' x.work store) (some (decide d k i)) (down C.store) (cut C.made) (answer 11 made) (outcome true e)
            (zeros_down f n' x.work store ∙ ap down L.store) (ap (answer 11) L.made) (zeros_formed f n' x.work store (sym I.form.writerss ∙ many) I.form.works (size ∙ I.form.stores)))
