-- The clauses together say that the arrays are intact.
use mathlib.Core.Path.{◌≡◌, refl, sym, ap, ap₂, ◌∙◌}
use mathlib.Core.Bool.{Bool, true, false, cond, ◌&&◌, ◌||◌, true≢false}
use mathlib.Core.List.{List}
use mathlib.Core.Logic.{dite}
use mathlib.Core.Option.{none, some}
use native.Mathlib.Decide.{dec_lt}
use native.Mathlib.Omega.{arith}
use Prim.Native.Nat.{ℕ, ◌*◌, ◌+◌, ◌<◌, ◌≤◌}
use lib.ListN.{length, get_or, length-take, length-drop}
use Rattle.laws.specs.Tests.{same, under}
use Rattle.laws.proofs.Tests.{under-lt, lt-under}
use Rattle.laws.proofs.Booleans.{or_cases, both, refute}
use Rattle.rules.specs.Geometry.{Geometry, records}
use Rattle.rules.specs.Store.{Page, Pages, pages_of, intention, named, read_prepared, prepared_map, is_reserved, pending}
use Rattle.rules.specs.State.{is_active, live, holds, retains, holds_writing, retains_writing}
use Rattle.rules.specs.Versions.{is_some}
use Rattle.rules.specs.Sound.{Sound}
use Rattle.rules.specs.Form.{Form}
use Rattle.rules.specs.Editions.{form_in, depths, work_bytes}
use Rattle.leaf_set.specs.Sets.{sets}
use Rattle.state_array.specs.View.{bearers_of, write_mode, Nested, slot, versions_of}
use Rattle.state_array.proofs.View.{depth_is, deep_is, active_is, idle_is, some_is}
use Rattle.state_array.proofs.Modes.{lock_is, writing_is}
use Rattle.sound_clause.specs.Decides.{Decides}
use Rattle.sound_clause.specs.Clauses.{TableEntry, Entries, Locks, Shares, Lined, Unlocked, StatusSound}
use Rattle.store_write.specs.Phase.{store_of, shown_in}
use Rattle.state_whole.specs.Whole.{Arrays, arrays, view, line_in, Served, Intact}
use Rattle.state_whole.proofs.Reserves.{pending_in}
use Rattle.event_crash.proofs.Editions.{size_is}
use Rattle.sound_state.specs.Sizes.{Sized}
use Rattle.sound_clause.proofs.Decides.{decides_as, decides_and, decides_given}
use Rattle.sound_state.proofs.Tree.{below, everywhere, tree_rooted, tree_lines, tree_parented, tree_shallow, entry_of}
use Rattle.sound_state.proofs.Locks.{living, Locked, in_range, locked_by, sharers_lined, shares_of, locks_of, locked_of}

-- the clauses, in the order of the code's tests
abbrev Clauses : Bool → Geometry → ℕ → List ℕ → List ℕ → List ℕ → List ℕ → List ℕ → List ℕ → List ℕ → Type 0
Clauses tears g up parent depth line held retained writers store =
    ((Entries parent depth line × Locks (living depth) held retained writers) × Shares line held retained) × StatusSound tears g up depth held retained store

page_long : (work : List ℕ) (n : ℕ) → 32 * n + 32 ≤ length work → length (pages_of work n) ≡ 32
unfolding pages_of
page_long work n h = simp (length-take, length-drop) (omega arith)

slot_low : (r d : ℕ) → r < 16 → 0 < d → d ≤ depths → 32 * slot r d + 32 ≤ work_bytes
unfolding slot
slot_low r d h k l = omega arith

-- what a version is
version_is : (b : Bool) (q p : Page) → cond b (some q) none ≡ some p → (b ≡ true) × (q ≡ p)
version_is true q p e = (refl, cc)
version_is false q p e = let z : ◌≡◌ {A = ℕ} 0 1 = cc in absurd (omega arith)

-- the records that the prepared transaction changed are those that its map names
changed_is : (g : Geometry) (s : Pages) (r : ℕ) → is_some (pending g s r) ≡ (under r (records g) && named g (prepared_map (read_prepared g (s 0))) r)
unfolding pending is_reserved is_some
changed_is g s r = go (under r (records g) && named g (prepared_map (read_prepared g (s 0))) r)
  where
    go : (b : Bool) → is_some (cond b (some (s (intention r))) none) ≡ b
    go true = refl
    go false = refl

-- of an edition with sixteen records
module _ (tears : Bool) (g : Geometry) (many : records g ≡ 16) (S₀ : Served (form_in tears g))
    (up : ℕ) (parent depth line held retained writers work store : List ℕ) (Z : Sized tears parent depth line held retained writers store) (long : length work ≡ work_bytes) where
  abbrev f : Form
  f = form_in tears g

  abbrev x : Arrays
  x = arrays up parent depth line held retained writers work store

  pending_is : (r : ℕ) → is_some (f.medium.pending (f.medium.from_bytes store) r) ≡ (under r 16 && named g (prepared_map (read_prepared g (shown_in tears (store_of tears store) 0))) r)
  pending_is r =
      ap is_some (pending_in tears g store r) ∙ changed_is g (shown_in tears (store_of tears store)) r
      ∙ ap (λ (n : ℕ). under r n && named g (prepared_map (read_prepared g (shown_in tears (store_of tears store) 0))) r) many

  -- a version is a record's, by a live transaction
  writer_low : (r t : ℕ) → sets writers r t ≡ true → r < 16
  writer_low r t e = let l = in_range writers r t e in let z = Z.writerss in omega arith

  writer_live : Locked parent depth held retained writers → (r t : ℕ) → sets writers r t ≡ true → 0 < get_or depth t 0
  writer_live L r t e =
      deep_is parent depth t
      (or_cases (write_mode (sets held) r t) (write_mode (sets retained) r t) (L.by_lock t r e)
      (λ f. L.holder_live r t (L.held_nested r t f)) (λ f. L.retainer_live r t (L.retained_nested r t f)))

  state_sound : ((t : ℕ) → TableEntry parent depth line t) → Locked parent depth held retained writers → StatusSound tears g up depth held retained store
      → Sound f (view f x)
  unfolding live holds retains holds_writing retains_writing versions_of view
  state_sound E L P =
      let h = lock_is (sets held) L.held_nested in
      let m = lock_is (sets retained) L.retained_nested in
      let v = writing_is (sets held) in
      let w = writing_is (sets retained) in
      record {
        numbered = λ t e. below depth t Z.depths (deep_is parent depth t e);
        parented = tree_parented parent depth line Z.depths E;
        level = (tree_rooted parent depth line Z.depths E).level;
        shallow = λ t. let k = tree_shallow parent depth line Z.depths E t in let l = depth_is parent depth t in let d : g.depth_limit ≡ depths = S₀.deep in omega arith;
        holder_live = λ r t e. L.holder_live r t (sym (h r t) ∙ e);
        retainer_live = λ r t e. L.retainer_live r t (sym (m r t) ∙ e);
        on_one_line = λ r t u e f. L.on_one_line r t u (sym (w r t) ∙ e) (sym (m r u) ∙ f);
        beneath = λ r t u e f. L.beneath r t u (sym (h r t) ∙ e) (sym (w r u) ∙ f);
        one_holder = λ r t u e f. L.one_holder r t u (sym (v r t) ∙ e) (sym (h r u) ∙ f);
        beneath_writing = λ r t u e f. L.beneath_writing r t u (sym (v r t) ∙ e) (sym (m r u) ∙ f);
        by_lock = λ t r e. ap₂ ◌||◌ (v r t) (w r t) ∙ L.by_lock t r (sym (some_is depth writers work t r) ∙ e);
        ranged = λ t r e. let l = writer_low r t (sym (some_is depth writers work t r) ∙ e) in omega (arith, many);
        paged = λ t r p e. let v = version_is (sets writers r t) (pages_of work (slot r (get_or depth t 0))) p e in
            sym (ap length v.1) ∙ page_long work (slot r (get_or depth t 0))
            (let s = slot_low r (get_or depth t 0) (writer_low r t v.0) (writer_live L r t v.0) (tree_shallow parent depth line Z.depths E t) in omega arith);
        idle = λ t e. dite (dec_lt t 24)
            (λ lt. idle_is parent depth t (P.idle e t lt))
            (λ ge. refute (is_active (bearers_of parent depth t)) (λ a. let k : t < 24 = below depth t Z.depths (deep_is parent depth t a) in omega arith));
        calm = P.calm;
        reserved = λ r t e. let n = both (under r 16) _ (sym (pending_is r) ∙ e) in
            ap₂ ◌||◌ (h r t) (m r t) ∙ P.reserved r (under-lt r 16 n.0) n.1 t;
      }

  intact_by : Clauses tears g up parent depth line held retained writers store → Intact f x
  unfolding line_in
  intact_by h =
      let E = everywhere parent depth line Z.parents Z.depths Z.lines h.0.0.0 in
      let T = tree_lines parent depth line Z.depths E in
      let L = locked_by parent depth line held retained writers T Z.helds Z.retaineds Z.writerss h.0.0.1 h.0.1 in
      record {
        sound = state_sound E L h.1;
        served = S₀;
        form = record {
          lines = T;
          flag = h.1.flag;
          tidy = λ t e. ((E t).vacant e).parentless;
          held_nested = L.held_nested;
          retained_nested = L.retained_nested;
          parents = Z.parents;
          depths = Z.depths;
          long = Z.lines;
          helds = let l = Z.helds in omega (arith, many);
          retaineds = let l = Z.retaineds in omega (arith, many);
          writerss = Z.writerss ∙ sym many;
          works = omega (arith, many, long);
          stores = Z.stores ∙ sym (size_is tears g 16 many);
        };
      }

  down_free : Sound f (view f x) → same up 1 ≡ false → (t : ℕ) → get_or depth t 0 ≡ 0
  unfolding live view
  down_free S e t = dite (dec_lt 0 (get_or depth t 0)) (λ lt. absurd (true≢false (sym (active_is parent depth t lt) ∙ S.idle t e))) (λ ge. omega arith)

  unlocked_of : Nested (sets held) → Nested (sets retained) → Sound f (view f x)
      → Unlocked g (prepared_map (read_prepared g (shown_in tears (store_of tears store) 0))) held retained
  unfolding holds retains view
  unlocked_of H M S r h n u =
      sym (ap₂ ◌||◌ (lock_is (sets held) H r u) (lock_is (sets retained) M r u)) ∙ S.reserved r u (pending_is r ∙ ap₂ ◌&&◌ (lt-under r 16 h) n)

  clauses_of : Intact f x → Clauses tears g up parent depth line held retained writers store
  unfolding live line_in view
  clauses_of N =
      let S = N.sound in
      let F = N.form in
      let E = entry_of f S₀.deep up parent depth line held retained writers work store S F.lines F.tidy in
      let L = locked_of f up parent depth line held retained writers work store F.held_nested F.retained_nested S in (
        (((λ t h. E t), locks_of parent depth held retained writers S.numbered L), shares_of parent depth line held retained writers F.lines L),
        record { flag = F.flag; idle = λ e t h. down_free S e t; calm = S.calm; reserved = unlocked_of F.held_nested F.retained_nested S },
      )

  lined_by : Entries parent depth line × Locks (living depth) held retained writers → Lined line held retained
  lined_by h =
      let E = everywhere parent depth line Z.parents Z.depths Z.lines h.0 in
      sharers_lined parent depth line held retained writers (tree_lines parent depth line Z.depths E) Z.helds Z.retaineds Z.writerss h.1 E

  pub whole_decided : {a b c d : Bool} → Decides a (Entries parent depth line) → Decides b (Locks (living depth) held retained writers)
      → (Lined line held retained → Decides c (Shares line held retained)) → Decides d (StatusSound tears g up depth held retained store)
      → Decides (((a && b) && c) && d) (Intact f x)
  whole_decided a b c d = decides_as intact_by clauses_of (decides_and (decides_given (decides_and a b) (λ h. c (lined_by h))) d)
