-- All go, and the engine is down: arrays of zeros. A crash, and a recovery.
use mathlib.Core.Path.{◌≡◌, refl, sym, ap, ap₂, subst⁻¹, ◌∙◌, fun_ext}
use mathlib.Core.Bool.{Bool, true, false, not, cond, true≢false}
use mathlib.Core.List.{List}
use mathlib.Core.Logic.{◌≢◌}
use mathlib.Core.Option.{Option, none, some}
use Prim.Native.Nat.{ℕ, zero, suc, ◌*◌, ◌≤◌}
use native.Mathlib.Omega.{arith}
use lib.ListN.{length, get_or, replicate, length-replicate}
use Rattle.laws.specs.Bits.{bits}
use Rattle.laws.proofs.Tests.{same_refl, ne_false}
use Rattle.laws.proofs.Bits.{bits-zero}
use Rattle.laws.proofs.Booleans.{not-false, not-true, refute, clash}
use Rattle.rules.specs.Store.{Page, pages_of, read_commit, map_in, damaged}
use Rattle.rules.specs.Event.{crash, recover}
use Rattle.rules.specs.State.{Bearer, free, active, is_active, depth_in, line_from, line_of, mem, Mode, nothing, reading, writing, is_lock, live, holds, retains, down}
use Rattle.rules.specs.Versions.{is_some}
use Rattle.rules.specs.Commit.{Cut}
use Rattle.rules.specs.Geometry.{Geometry, records}
use Rattle.rules.specs.Form.{Form}
use Rattle.rules.specs.Editions.{medium_of}
use Rattle.rules.specs.Step.{done, cut, StateOf, number_of, value_of, raised, concluded, recovers, step}
use Rattle.rules.specs.Sound.{Sound}
use Rattle.rules.proofs.Parts.{sound_down}
use Rattle.rules.proofs.Locks.{no_version}
use Rattle.leaf_set.specs.Sets.{sets}
use Rattle.state_array.specs.View.{Owners, bearer_at, bearers_of, any_mode, write_mode, mode_of, modes_of, Nested, slot, versions_of}
use Rattle.leaf_commit_page.specs.Heard.{understood}
use Rattle.leaf_commit_page.specs.declared.CommitMap.{CommitMap}
use Rattle.store_write.specs.Phase.{PageWritesDone, store_of, shown_in}
use Rattle.store_commit.specs.Phase.{understood_in}
use Rattle.state_whole.specs.Whole.{Arrays, arrays, view, line_in, Served, Formed, Intact, engine_answer, Stepped}
use Rattle.state_whole.proofs.Rules.{crash_done, recover_up, recover_damaged, recover_done}
use Rattle.state_whole.proofs.Steps.{answer, stepped, finishes, unmoved, state_eq, up_is, down_is}

abbrev z : ℕ → List ℕ
z n = replicate n 0

at : (n k : ℕ) → get_or (z n) k 0 ≡ 0
at zero k = refl
at (suc n) zero = refl
at (suc n) (suc k) = at n k

none_in : (n : ℕ) → sets (z n) ≡ (λ r j. false)
unfolding sets
none_in n = fun_ext (λ r. fun_ext (λ j. ap (λ (v : ℕ). bits v j) (at n r) ∙ bits-zero j))

bearers_free : bearers_of (z 24) (z 24) ≡ (λ t. free)
unfolding bearers_of bearer_at
bearers_free = fun_ext (λ t. ap (λ (d : ℕ). bearer_at (get_or (z 24) t 0) d) (at 24 t))

zeros_nested : (n : ℕ) → Nested (sets (z n))
unfolding any_mode write_mode
zeros_nested n = subst⁻¹ (λ (o : Owners). Nested o) (none_in n) (λ r t e. e)

-- nothing is live, held, retained or written, and it is down
abbrev pub zeros : ℕ → List ℕ → List ℕ → Arrays
zeros n work store = arrays 0 (z 24) (z 24) (z 24) (z (2 * n)) (z (2 * n)) (z n) work store

module _ (f : Form) (n : ℕ) (work store : List ℕ) where
  pub zeros_down : view f (zeros n work store) ≡ down (f.medium.from_bytes store)
  unfolding view down versions_of modes_of mode_of any_mode write_mode
  zeros_down = state_eq f (ne_false 0 1 (λ e. omega arith)) bearers_free (ap modes_of (none_in (2 * n))) (ap modes_of (none_in (2 * n)))
      (fun_ext (λ j. fun_ext (λ r. ap (λ (o : Owners). cond (o r j) (some (pages_of work (slot r (get_or (z 24) j 0)))) none) (none_in n)))) refl

  module _ (many : records f.geometry ≡ n) (w : length work ≡ 512 * records f.geometry) (s : length store ≡ f.medium.size) where
    pub zeros_formed : Formed f (zeros n work store)
    unfolding line_in line_of depth_in line_from mem
    zeros_formed = record {
      lines = none_in 24 ∙ sym (ap line_in bearers_free);
      flag = omega arith;
      tidy = λ t e. at 24 t;
      held_nested = zeros_nested (2 * n);
      retained_nested = zeros_nested (2 * n);
      parents = length-replicate {A = ℕ} 24 0;
      depths = length-replicate {A = ℕ} 24 0;
      long = length-replicate {A = ℕ} 24 0;
      helds = length-replicate {A = ℕ} (2 * n) 0 ∙ ap (λ (m : ℕ). 2 * m) (sym many);
      retaineds = length-replicate {A = ℕ} (2 * n) 0 ∙ ap (λ (m : ℕ). 2 * m) (sym many);
      writerss = length-replicate {A = ℕ} n 0 ∙ sym many;
      works = w;
      stores = s;
    }

    pub zeros_intact : Served f → Intact f (zeros n work store)
    zeros_intact S = record { sound = subst⁻¹ (Sound f) zeros_down (sound_down f (f.medium.from_bytes store)); served = S; form = zeros_formed }

-- arrays that are all zeros, for n records
abbrev pub Fallen : ℕ → ℕ → List ℕ → List ℕ → List ℕ → List ℕ → List ℕ → List ℕ → Type 0
Fallen n up parent depth line held retained writers =
    (up ≡ 0) × (parent ≡ replicate 24 0) × (depth ≡ replicate 24 0) × (line ≡ replicate 24 0)
    × (held ≡ replicate (2 * n) 0) × (retained ≡ replicate (2 * n) 0) × (writers ≡ replicate n 0)

pub fallen : (n up : ℕ) (parent depth line held retained writers work store : List ℕ) → Fallen n up parent depth line held retained writers
    → arrays up parent depth line held retained writers work store ≡ zeros n work store
fallen n up parent depth line held retained writers work store F =
    λ i. arrays (F.0 i) (F.1 i) (F.2 i) (F.3 i) (F.4 i) (F.5 i) (F.6 i) work store

-- a crash
pub crash_steps : (f : Form) (x : Arrays) → Formed f x → (n : ℕ) → length x.writers ≡ n
    → (up : ℕ) (parent depth line held retained writers : List ℕ) → Fallen n up parent depth line held retained writers
    → Stepped f x (some crash) (answer 0 0) (arrays up parent depth line held retained writers x.work x.store)
unfolding view
crash_steps f x F n e up parent depth line held retained writers Z =
    subst⁻¹ (Stepped f x (some crash) (answer 0 0)) (fallen n up parent depth line held retained writers x.work x.store Z)
    (finishes f x _ (some crash) (down (f.medium.from_bytes x.store)) 0 (crash_done f (view f x)) (zeros_down f n x.work x.store)
    (zeros_formed f n x.work x.store (sym F.writerss ∙ e) F.works F.stores))

-- a sound state that is down has nothing
module _ {f : Form} {s : StateOf f} (S : Sound f s) (d : s.up ≡ false) where
  free_of : (b : Bearer) → is_active b ≡ false → b ≡ free
  unfolding is_active
  free_of free e = refl
  free_of (active p n) e = absurd (true≢false e)

  nothing_of : (m : Mode) → is_lock m ≡ false → m ≡ nothing
  unfolding is_lock
  nothing_of nothing e = refl
  nothing_of reading e = absurd (true≢false e)
  nothing_of writing e = absurd (true≢false e)

  none_of : (o : Option Page) → is_some o ≡ false → o ≡ none
  unfolding is_some
  none_of none e = refl
  none_of (some p) e = absurd (true≢false e)

  pub idle_down : s ≡ down s.store
  unfolding down live holds retains
  idle_down = λ i. record {
    up = d i;
    bearer = fun_ext (λ t. free_of (s.bearer t) (S.idle t d)) i;
    held = fun_ext (λ r. fun_ext (λ t. nothing_of (s.held r t) (refute (is_lock (s.held r t)) (λ e. clash (S.holder_live r t e) (S.idle t d))))) i;
    retained = fun_ext (λ r. fun_ext (λ t. nothing_of (s.retained r t) (refute (is_lock (s.retained r t)) (λ e. clash (S.retainer_live r t e) (S.idle t d))))) i;
    version = fun_ext (λ t. fun_ext (λ r. none_of (s.version t r) (no_version S t r (S.idle t d)))) i;
    store = s.store;
  }

-- what a store says before a recovery
good_is : (tears : Bool) (g : Geometry) (store : List ℕ) → (understood_in tears g (store_of tears store)).good ≡ not ((medium_of tears g).damaged ((medium_of tears g).from_bytes store))
unfolding damaged understood
good_is false g store = refl
good_is true g store = refl

read_is : (tears : Bool) (g : Geometry) (store : List ℕ) → map_in (read_commit g (shown_in tears (store_of tears store) 0)) ≡ (understood_in tears g (store_of tears store)).map
unfolding understood
read_is false g store = refl
read_is true g store = refl

module _ (tears : Bool) (g : Geometry) (store : List ℕ) (c : CommitMap) (h : c ≡ understood_in tears g (store_of tears store)) where
  says : c.good ≡ not ((medium_of tears g).damaged ((medium_of tears g).from_bytes store))
  says = ap (λ (c : CommitMap). c.good) h ∙ good_is tears g store

  pub damaged_is : c.good ≡ false → (medium_of tears g).damaged ((medium_of tears g).from_bytes store) ≡ true
  damaged_is e = not-false _ (sym says ∙ e)

  pub whole_is : c.good ≡ true → (medium_of tears g).damaged ((medium_of tears g).from_bytes store) ≡ false
  whole_is e = not-true _ (sym says ∙ e)

  pub map_is : map_in (read_commit g (shown_in tears (store_of tears store) 0)) ≡ c.map
  map_is = read_is tears g store ∙ sym (ap (λ (c : CommitMap). c.map) h)

module _ (f : Form) (x : Arrays) (I : Intact f x) (k : ℕ) where
  abbrev start : f.medium.Store
  start = f.medium.from_bytes x.store

  pub recover_refuses_3 : x.up ≡ 1 → Stepped f x (some (recover k)) (answer 3 0) x
  recover_refuses_3 e = unmoved f x (some (recover k)) 3 I.form (recover_up f (view f x) k (up_is f x e))

  module _ (n : x.up ≢ 1) where
    pub recover_refuses_4 : f.medium.damaged start ≡ true → Stepped f x (some (recover k)) (answer 4 0) x
    unfolding view
    recover_refuses_4 e = unmoved f x (some (recover k)) 4 I.form (recover_damaged f (view f x) k (down_is f x n) e)

    module _ (good : f.medium.damaged start ≡ false) (store : List ℕ) (made : ℕ) (crashed : Bool) (size : length store ≡ length x.store)
        (L : PageWritesDone (f.medium.recover start k) (f.medium.from_bytes store) made crashed) where
      abbrev C : Cut f.medium.Store
      C = f.medium.recover start k

      abbrev left : f.medium.Store
      left = f.medium.from_bytes store

      outcome : (b : Bool) → crashed ≡ b → step f (view f x) (some (recover k)) ≡ concluded (raised (view f x) left) C b
      unfolding recovers view
      outcome b e =
          recover_done f (view f x) k (down_is f x n) good
          ∙ ap₂ (λ (p : f.medium.Store) (b : Bool). concluded (raised (view f x) p) C b) (sym L.store) (sym L.crashed ∙ e)

      formed : (up : ℕ) → up ≤ 1 → Formed f (arrays up x.parent x.depth x.line x.held x.retained x.writers x.work store)
      formed up h = let F = I.form in record { lines = F.lines; flag = h; tidy = F.tidy; held_nested = F.held_nested; retained_nested = F.retained_nested; parents = F.parents; depths = F.depths; long = F.long; helds = F.helds; retaineds = F.retaineds; writerss = F.writerss; works = F.works; stores = size ∙ F.stores }

      over : StateOf f → StateOf f
      over s = record { up = s.up; bearer = s.bearer; held = s.held; retained = s.retained; version = s.version; store = left }

      -- cut: still down, and nothing was live
      pub recover_cut : crashed ≡ true
          → Stepped f x (some (recover k)) (answer 11 made) (arrays x.up x.parent x.depth x.line x.held x.retained x.writers x.work store)
      unfolding concluded engine_answer number_of value_of view down over
      recover_cut e =
          stepped f x _ (some (recover k)) (down C.store) (cut C.made) (answer 11 made) (outcome true e)
          (ap over (idle_down I.sound (down_is f x n)) ∙ ap down L.store) (ap (answer 11) L.made) (formed x.up I.form.flag)

      pub recover_steps : crashed ≡ false
          → Stepped f x (some (recover k)) (answer 0 made) (arrays 1 x.parent x.depth x.line x.held x.retained x.writers x.work store)
      unfolding concluded engine_answer number_of value_of view raised
      recover_steps e =
          stepped f x _ (some (recover k)) (raised (view f x) left) (done C.made) (answer 0 made) (outcome false e)
          (state_eq f (same_refl 1) refl refl refl refl refl) (ap (answer 0) L.made) (formed 1 (omega arith))
