-- A state in which the surviving transactions of one tree are alone, under other numbers, beside the state of the whole run.
use mathlib.Core.Path.{◌≡◌, refl, sym, ap, ap₂, subst⁻¹, ◌∙◌, fun_ext}
use mathlib.Core.Bool.{Bool, true, or-true}
use mathlib.Core.List.{List, [], ◌∷◌, map}
use mathlib.Core.Option.{none, some}
use Prim.Native.Nat.{ℕ, suc}
use lib.ListN.{length}
use Rattle.laws.specs.Tests.{same}
use Rattle.laws.specs.Counting.{count}
use Rattle.laws.proofs.Tests.{same-eq, same_refl}
use Rattle.laws.proofs.Booleans.{or_cases}
use Rattle.rules.specs.Geometry.{transactions, uncut}
use Rattle.rules.specs.Store.{Page}
use Rattle.rules.specs.Event.{Event, Access, fits}
use Rattle.rules.specs.State.{line_of, mem, live}
use Rattle.rules.specs.Locks.{bars}
use Rattle.rules.specs.Form.{Form}
use Rattle.rules.specs.Step.{Answer, number_of, value_of, StateOf, OutcomeOf, refusal, act, outcome_by, step}
use Rattle.rules.proofs.Medium.{MediumLaws}
use Rattle.rules.proofs.Shaped.{shaped_step}
use Rattle.rules.proofs.Soundness.{Reached, sound_step}
use Rattle.history.specs.Entries.{Entry}
use Rattle.history.proofs.Invariant.{now}
use Rattle.claim_serial.specs.OneAtATime.{renamed, naming, is_read}

-- lines under other names
pub map-mem : (k : ℕ → ℕ) (a : ℕ) (l : List ℕ) → mem a l ≡ true → mem (k a) (map k l) ≡ true
unfolding mem
map-mem k a [] e = e
map-mem k a (x ∷ l) e =
    or_cases (same a x) (mem a l) e
    (λ s. rw (same-eq a x s, same_refl (k x)))
    (λ s. rw (map-mem k a l s) (or-true (same (k a) (k x))))

pub map_same : (k m : ℕ → ℕ) (l : List ℕ) → ((a : ℕ) → mem a l ≡ true → m a ≡ k a) → map m l ≡ map k l
unfolding mem
map_same k m [] h = refl
map_same k m (x ∷ l) h = ap₂ ◌∷◌ (h x (rw (same_refl x))) (map_same k m l (λ a e. h a (rw e (or-true (same a x)))))

pub map-length : (k : ℕ → ℕ) (l : List ℕ) → length (map k l) ≡ length l
map-length k [] = refl
map-length k (x ∷ l) = ap suc (map-length k l)

module _ (f : Form) where
  -- an answer of the replay is as asked: done, and a read gives the same byte
  abbrev pub RightTo : Event → Answer → Answer → Type 0
  RightTo e a b = (number_of b ≡ 0) × (is_read e ≡ true → value_of b ≡ value_of a)

  -- an event of the replay
  abbrev pub again : (ℕ → ℕ) → Event → Event
  again name e = renamed (uncut f.geometry) name e

  -- the entries are played from u, each answered as asked, and leave these records
  abbrev pub Replayed : (ℕ → Page) → StateOf f → (ℕ → ℕ) → List Entry → Type 0
  Replayed target u name [] = (r : ℕ) → now f u r ≡ target r
  Replayed target u name (x ∷ xs) =
      (fits f.geometry (again name x.event) ≡ true)
      × RightTo x.event x.answer (step f u (some (again name x.event))).answer
      × Replayed target (step f u (some (again name x.event))).state (naming name x.event (value_of x.answer) (value_of (step f u (some (again name x.event))).answer)) xs

  -- in u just the transactions of s that sv picks live, under the numbers that `name` gives them, over the store d
  pub record Mirror (d : f.medium.Store) (sv : ℕ → Bool) (s u : StateOf f) (name : ℕ → ℕ) : Type 0 where
    pub back : ℕ → ℕ
    pub there : (j : ℕ) → sv j ≡ true → (live u (name j) ≡ true) × (back (name j) ≡ j)
    pub here : (a : ℕ) → live u a ≡ true → (sv (back a) ≡ true) × (name (back a) ≡ a)
    pub lines : (a : ℕ) → live u a ≡ true → map back (line_of u.bearer a) ≡ line_of s.bearer (back a)
    pub held : (r a : ℕ) → live u a ≡ true → u.held r a ≡ s.held r (back a)
    -- what is retained may be less: with a report of a lost child a parent retains more in s
    pub retained : (c : Access) (r a : ℕ) → live u a ≡ true → bars c (u.retained r a) ≡ true → bars c (s.retained r (back a)) ≡ true
    pub versions : (a r : ℕ) → live u a ≡ true → u.version a r ≡ s.version (back a) r
    pub room : count transactions (live u) ≡ count transactions sv
    pub store_is : u.store ≡ d

  -- the state of the whole run changes, but not at these transactions
  pub record Untouched (sv : ℕ → Bool) (s s' : StateOf f) : Type 0 where
    pub line : (j : ℕ) → sv j ≡ true → line_of s'.bearer j ≡ line_of s.bearer j
    pub held : (r j : ℕ) → sv j ≡ true → s'.held r j ≡ s.held r j
    pub retained : (c : Access) (r j : ℕ) → sv j ≡ true → bars c (s.retained r j) ≡ true → bars c (s'.retained r j) ≡ true
    pub version : (r j : ℕ) → sv j ≡ true → s'.version j r ≡ s.version j r

  pub reframe : {d : f.medium.Store} {sv sv' : ℕ → Bool} {s s' u : StateOf f} {name : ℕ → ℕ} → Mirror d sv s u name → ((j : ℕ) → sv' j ≡ sv j) → Untouched sv s s' → Mirror d sv' s' u name
  reframe M k U = record {
    back = M.back;
    there = λ j e. M.there j (sym (k j) ∙ e);
    here = λ a e. (k (M.back a) ∙ (M.here a e).0, (M.here a e).1);
    lines = λ a e. M.lines a e ∙ sym (U.line (M.back a) (M.here a e).0);
    held = λ r a e. M.held r a e ∙ sym (U.held r (M.back a) (M.here a e).0);
    retained = λ c r a e q. U.retained c r (M.back a) (M.here a e).0 (M.retained c r a e q);
    versions = λ a r e. M.versions a r e ∙ sym (U.version r (M.back a) (M.here a e).0);
    room = M.room ∙ sym (ap (count transactions) (fun_ext k));
    store_is = M.store_is;
  }

  -- an event in the replay, answered as asked, and the mirror after it
  pub record Fits (d : f.medium.Store) (sv' : ℕ → Bool) (s' : StateOf f) (e : Event) (a : Answer) (name : ℕ → ℕ) (o : OutcomeOf f) : Type 0 where
    pub fit : fits f.geometry (again name e) ≡ true
    pub right : RightTo e a o.answer
    pub still_up : o.state.up ≡ true
    pub mirror : Mirror d sv' s' o.state (naming name e (value_of a) (value_of o.answer))

  -- an event that is not refused acts
  pub acting : (u : StateOf f) (e : Event) → refusal f u e ≡ none → step f u (some e) ≡ act f u e
  unfolding step outcome_by
  acting u e q = ap (outcome_by f u e) q

  pub fits_step : {d : f.medium.Store} {sv' : ℕ → Bool} {s' : StateOf f} {a : Answer} {name : ℕ → ℕ} (u : StateOf f) (e e' : Event) → refusal f u e' ≡ none
      → Fits d sv' s' e a name (act f u e') → Fits d sv' s' e a name (step f u (some e'))
  fits_step {d} {sv'} {s'} {a} {name} u e e' q F = subst⁻¹ (λ (o : OutcomeOf f). Fits d sv' s' e a name o) (acting u e' q) F

module _ (f : Form) (M : MediumLaws f.geometry f.medium) where
  -- a state that is up and can be reached
  pub record Open (u : StateOf f) : Type 0 where
    pub reached : Reached f M u
    pub ready : u.up ≡ true

  pub reached_event : {u : StateOf f} → Reached f M u → (e : Event) → fits f.geometry e ≡ true → Reached f M (step f u (some e)).state
  reached_event R e h = record { sound = sound_step f M R.sound R.shaped e h; shaped = shaped_step f M R.sound R.shaped e }
