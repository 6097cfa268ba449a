-- What is kept of a prepared transaction, in the rules: which records are reserved, whether one is prepared, and for which identity. On atomic pages and on
-- pages that can tear, where none is ever prepared.
use mathlib.Core.Path.{◌≡◌, refl, sym, ap, ap₂, subst⁻¹, ◌∙◌}
use mathlib.Core.Bool.{Bool, true, false, not, cond, ◌&&◌}
use mathlib.Core.List.{List}
use mathlib.Core.Logic.{◌≢◌}
use mathlib.Core.Option.{Option, none, some}
use Prim.Native.Nat.{ℕ, zero, suc, ◌<◌}
use native.Mathlib.Omega.{arith}
use lib.ListN.{get_or}
use Rattle.laws.specs.Tests.{same}
use Rattle.laws.specs.Counting.{any}
use Rattle.laws.proofs.Tests.{same_cases, Same, is, isnt, same_refl, ne_false, lt-under, Is, is_cases, yes', no'}
use Rattle.laws.proofs.Counting.{any_false, any_of}
use Rattle.rules.specs.Geometry.{Geometry, Proper, records}
use Rattle.rules.specs.Store.{Page, Pages, Prepared, named, map_of, read_prepared, prepared_map, identity_in, is_reserved, pending}
use Rattle.rules.specs.Event.{Event, Access, lock}
use Rattle.rules.specs.State.{line_from, line_of}
use Rattle.rules.specs.Versions.{is_some}
use Rattle.rules.specs.Step.{StateOf, is_busy, is_for, is_top, changes, busy, reserved, step}
use Rattle.rules.specs.Form.{Form, atomic}
use Rattle.rules.specs.Editions.{medium_of, form_in}
use Rattle.rules.proofs.Map.{map_of-none, map_of-zero}
use Rattle.rules.proofs.PreparedPage.{prepared_is}
use Rattle.rules.proofs.Held.{is_plain, step_held, bad_held}
use Rattle.rules.proofs.Plain.{none-prepared}
use Rattle.leaf_set.specs.Sets.{sets}
use Rattle.state_array.specs.View.{bearers_of}
use Rattle.state_array.proofs.View.{depth_is}
use Rattle.leaf_commit_page.specs.Heard.{overheard, prepared}
use Rattle.leaf_commit_page.specs.declared.PreparedMap.{PreparedMap}
use Rattle.store_write.specs.Phase.{store_of, shown_in}
use Rattle.state_whole.specs.Whole.{Arrays, view, Intact, Stepped, ReadyLeaf, Reserves}
use Rattle.leaf_event.specs.declared.Answer.{Answer}
use Rattle.state_whole.proofs.Rules.{lock_reserved}
use Rattle.state_whole.proofs.Steps.{answer, unmoved, up_is, live_is, wrote_is}

some-when : (b : Bool) (p : Page) → is_some (cond b (some p) none) ≡ b
unfolding is_some
some-when true p = refl
some-when false p = refl

-- what a medium says of a prepared transaction is read from the pages that are shown
pub prepared_in : (tears : Bool) (g : Geometry) (store : List ℕ) → (medium_of tears g).prepared ((medium_of tears g).from_bytes store) ≡ identity_in (read_prepared g (shown_in tears (store_of tears store) 0))
prepared_in false g store = refl
prepared_in true g store = refl

pub pending_in : (tears : Bool) (g : Geometry) (store : List ℕ) (r : ℕ) → (medium_of tears g).pending ((medium_of tears g).from_bytes store) r ≡ pending g (shown_in tears (store_of tears store)) r
pending_in false g store r = refl
pending_in true g store r = refl

-- what is prepared is told by the same numbers
pub reserves_same : (tears : Bool) (g : Geometry) (store : List ℕ) (m m' i i' : ℕ) → Reserves tears g store m i → m' ≡ m → i' ≡ i → Reserves tears g store m' i'
reserves_same tears g store m m' i i' H p q = subst⁻¹ (λ (a : ℕ). Reserves tears g store a i') p (subst⁻¹ (λ (b : ℕ). Reserves tears g store m b) q H)

module _ (tears : Bool) (g : Geometry) where
  abbrev f : Form
  f = form_in tears g

  module _ (store : List ℕ) (m i : ℕ) (H : Reserves tears g store m i) where
    abbrev page : Page
    page = shown_in tears (store_of tears store) 0

    abbrev read : Option Prepared
    read = read_prepared g page

    map_is : prepared_map read ≡ m
    unfolding overheard prepared_map
    map_is = go read ∙ ap (λ (p : PreparedMap). p.map) H
      where
        go : (o : Option Prepared) → prepared_map o ≡ (overheard o).map
        go none = refl
        go (some p) = refl

    -- none is prepared, or the one with this map and identity
    data Told : Type 0 where
      nobody_is : read ≡ none → m ≡ 0 → Told
      one_is : read ≡ some (prepared m i) → m ≢ 0 → Told

    told : Told
    unfolding overheard
    told = go read refl
      where
        go : (o : Option Prepared) → read ≡ o → Told
        go none e = nobody_is e (sym (ap (λ (p : PreparedMap). p.map) H) ∙ ap (λ (o : Option Prepared). (overheard o).map) e)
        go (some p) e =
            let a : p.map ≡ m = sym (ap (λ (o : Option Prepared). (overheard o).map) e) ∙ ap (λ (p : PreparedMap). p.map) H in
            let b : p.identity ≡ i = sym (ap (λ (o : Option Prepared). (overheard o).identity) e) ∙ ap (λ (p : PreparedMap). p.identity) H in
            one_is (e ∙ (λ j. some (record { map = a j; identity = b j }))) (λ z. (prepared_is g page p e).1.some_record (a ∙ z))

    -- where the map isn't 0, one is prepared
    pub one_prepared : m ≢ 0 → read ≡ some (prepared m i)
    one_prepared n = go told
      where
        go : Told → read ≡ some (prepared m i)
        go (nobody_is e z) = absurd (n z)
        go (one_is e z) = e

    pub is_busy_is : is_busy (identity_in read) ≡ not (same m 0)
    unfolding is_busy identity_in
    is_busy_is = go told
      where
        go : Told → is_busy (identity_in read) ≡ not (same m 0)
        go (nobody_is e z) = rw (e, z, same_refl 0)
        go (one_is e z) = rw (e, ne_false m 0 z)

    pub is_for_is : (j : ℕ) → is_for j (identity_in read) ≡ (not (same m 0) && same i j)
    unfolding is_for identity_in
    is_for_is j = go told
      where
        go : Told → is_for j (identity_in read) ≡ (not (same m 0) && same i j)
        go (nobody_is e z) = rw (e, z, same_refl 0)
        go (one_is e z) = rw (e, ne_false m 0 z)

  module _ (x : Arrays) (m i : ℕ) (H : Reserves tears g x.store m i) where
    abbrev pages : Pages
    pages = shown_in tears (store_of tears x.store)

    pub reserved_is : (r : ℕ) → r < records g → reserved f (view f x) r ≡ named g m r
    unfolding reserved view pending is_reserved is_some
    reserved_is r h =
        ap is_some (pending_in tears g x.store r) ∙ some-when (is_reserved g pages r) _
        ∙ ap₂ (λ (b : Bool) (n : ℕ). b && named g n r) (lt-under r (records g) h) (map_is x.store m i H)

    -- by the code's test
    pub reserved_test : (q n r : ℕ) (b : Bool) → (q ≡ r) × (q < records g) → (n ≡ r) × (n < records g) → b ≡ named g m n → reserved f (view f x) q ≡ b
    reserved_test q n r b a c e = reserved_is q a.1 ∙ ap (named g m) (a.0 ∙ sym c.0) ∙ sym e

    pub busy_is : busy f (view f x) ≡ not (same m 0)
    unfolding busy view
    busy_is = ap is_busy (prepared_in tears g x.store) ∙ is_busy_is x.store m i H

  -- t has a version of some record: its map isn't 0
  module _ (x : Arrays) (t m : ℕ) (e : m ≡ map_of g (λ r. sets x.writers r t)) where
    abbrev has : ℕ → Bool
    has r = is_some ((view f x).version t r)

    pub changes_are : changes f (view f x) t ≡ not (same m 0)
    unfolding changes
    changes_are = go (same_cases m 0) (is_cases (any (records g) has))
      where
        go : Same m 0 → Is (any (records g) has) → any (records g) has ≡ not (same m 0)
        go (is z q _) a = rw q (any_of (records g) has (λ r h. wrote_is f x t r ∙ map_of-zero g (λ r. sets x.writers r t) (sym e ∙ z) r h))
        go (isnt z q _) (yes' a) = rw q a
        go (isnt z q _) (no' a) = absurd (z (e ∙ map_of-none g (λ r. sets x.writers r t) (λ r h. sym (wrote_is f x t r) ∙ any_false (records g) has r a h)))

  -- a live transaction is a top one exactly if it is at depth 1
  pub top_is : (x : Arrays) (t : ℕ) → 0 < get_or x.depth t 0 → is_top (line_of (view f x).bearer t) ≡ same (get_or x.depth t 0) 1
  unfolding view line_of line_from is_top
  top_is x t h = ap (λ (n : ℕ). is_top (line_from (bearers_of x.parent x.depth) n t)) (depth_is x.parent x.depth t) ∙ go (get_or x.depth t 0) h
    where
      go : (d : ℕ) → 0 < d → is_top (line_from (bearers_of x.parent x.depth) d t) ≡ same d 1
      go zero k = absurd (omega arith)
      go (suc zero) k = sym (same_refl 1)
      go (suc (suc d)) k = sym (ne_false (suc (suc d)) 1 (λ q. omega arith))

  -- the lock of a reserved record: 8, whoever asks
  pub reserved_refuses : (x : Arrays) → Intact f x → (t r : ℕ) (q : Access) → ReadyLeaf f x t → reserved f (view f x) r ≡ true → Stepped f x (some (lock t r q)) (answer 8 0) x
  reserved_refuses x I t r q R e =
      unmoved f x (some (lock t r q)) 8 I.form (lock_reserved f (view f x) t (up_is f x R.ready.up) (live_is f x t R.ready.live) R.childless r q e)

-- a plain event leaves what is prepared: over atomic pages, and where pages tear, since nothing is
kept_still : (g : Geometry) → Proper g → (x y : Arrays) (e : Option Event) (a : Answer) (m i : ℕ) → Intact (atomic g) x → Stepped (atomic g) x e a y → Reserves false g x.store m i
    → ((f : Event) → e ≡ some f → is_plain f ≡ true) → Reserves false g y.store m i
unfolding view
kept_still g P x y e a m i I T H plain = ap overheard (ap (λ (s : StateOf (atomic g)). read_prepared g (s.store 0)) T.is ∙ go e refl) ∙ H
  where
    go : (o : Option Event) → e ≡ o → read_prepared g ((step (atomic g) (view (atomic g) x) e).state.store 0) ≡ read_prepared g ((view (atomic g) x).store 0)
    go none q = rw q (bad_held g P I.sound)
    go (some f) q = rw q (step_held g P I.sound f (plain f q))

kept_torn : (g : Geometry) → Proper g → g.tears ≡ true → (before after : List ℕ) (m i : ℕ) → Reserves true g before m i → Reserves true g after m i
kept_torn g P torn before after m i H =
    let plain = P.torn_plain torn in
    ap overheard (none-prepared g plain (shown_in true (store_of true after) 0) ∙ sym (none-prepared g plain (shown_in true (store_of true before) 0))) ∙ H

pub reserves_kept : (tears : Bool) (g : Geometry) → Proper g → g.tears ≡ tears → (x y : Arrays) (e : Option Event) (a : Answer) (m i : ℕ)
    → Intact (form_in tears g) x → Stepped (form_in tears g) x e a y → Reserves tears g x.store m i → ((f : Event) → e ≡ some f → is_plain f ≡ true)
    → Reserves tears g y.store m i
reserves_kept false g P q x y e a m i I T H plain = kept_still g P x y e a m i I T H plain
reserves_kept true g P q x y e a m i I T H plain = kept_torn g P q x.store y.store m i H
