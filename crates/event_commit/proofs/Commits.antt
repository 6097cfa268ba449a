-- Commits and prepares, in the rules: refused with a live child or beside what is prepared, of a top transaction over its page writes, a commit of a
-- child into its parent.
use mathlib.Core.Path.{◌≡◌, refl, sym, ap, ap₂, subst, subst⁻¹, ◌∙◌, fun_ext}
use mathlib.Core.Bool.{Bool, true, false, not, cond, ◌&&◌, and-false, or-false, or-true}
use mathlib.Core.List.{List}
use mathlib.Core.Logic.{◌≢◌}
use mathlib.Core.Option.{Option, none, some}
use Prim.Native.Nat.{ℕ, suc, ◌+◌, ◌-◌, ◌*◌, ◌≤◌}
use native.Mathlib.Omega.{arith}
use lib.ListN.{length, get_or}
use Rattle.laws.specs.Tests.{same}
use Rattle.laws.specs.Bits.{bits}
use Rattle.laws.proofs.Tests.{same_cases, Same, is, isnt, same_refl, same-eq, ne_false, Is, is_cases, yes', no'}
use Rattle.laws.proofs.Booleans.{clash, or_cases, both, not-true, not-false}
use Rattle.rules.specs.Store.{Page, pages_of, map_of}
use Rattle.rules.specs.Event.{Event, commit, prepare}
use Rattle.rules.specs.State.{Bearers, line_from, line_of, mem, down}
use Rattle.rules.specs.Versions.{also, handed_up, dropped}
use Rattle.rules.specs.Commit.{Cut, prepare_at}
use Rattle.rules.specs.Step.{done, cut, has_child, ended, passed, retaining, concluded, number_of, value_of, changes, busy, commits_top, commits_child, commits, step}
use Rattle.rules.specs.Sound.{in_line}
use Rattle.rules.specs.Geometry.{Geometry, Proper, records}
use Rattle.rules.specs.Form.{Form, Medium}
use Rattle.rules.specs.Editions.{depths, medium_of, form_in}
use Rattle.rules.proofs.Locks.{rooted_of, no_child, versions_in_line, line_apart}
use Rattle.rules.proofs.Soundness.{alone_closed}
use Rattle.leaf_set.specs.Sets.{sets}
use Rattle.state_array.specs.View.{Owners, bearers_of, modes_of, Nested, slot, versions_of}
use Rattle.state_array.specs.Changes.{leaving, replacing, inheriting, handed, Rows, places, cleared, Cleared}
use Rattle.state_array.proofs.View.{depth_is}
use Rattle.state_array.proofs.Nested.{inheriting_nested}
use Rattle.state_array.proofs.Modes.{leaving_discarded, inheriting_inherited}
use Rattle.state_version.specs.Parts.{lifted}
use Rattle.state_version.proofs.Lifting.{hit, miss_depth, miss_row}
use Rattle.store_write.specs.Phase.{PageWritesDone, stride_of}
use Rattle.store_commit.specs.Phase.{versions_in}
use Rattle.state_whole.specs.Whole.{Arrays, arrays, view, line_in, Intact, engine_answer, Stepped, Ready, Reserves}
use Rattle.state_whole.proofs.Rules.{commit_done, commit_busy, commit_refused, prepare_children, prepare_busy, prepare_beneath, prepare_done}
use Rattle.state_whole.proofs.Steps.{answer, stepped, finishes, unmoved, state_eq, up_is, live_is, wrote_is, depth_of, shallow, writer_deep}
use Rattle.state_whole.proofs.Ends.{bearers_cleared, lines_cleared, tidy_cleared, nested_cleared, rest_is, rest_form}
use Rattle.rules.proofs.Held.{is_plain}
use Rattle.leaf_event.specs.declared.Answer.{Answer}
use Rattle.state_whole.proofs.Reserves.{busy_is, changes_are, top_is, reserves_kept}
use Rattle.event_commit.specs.Settling.{settling, settling_at}
use Rattle.event_commit.proofs.Tops.{top_versions}
use Rattle.state_whole.proofs.Parents.{parent_there, parent_deep, parent_other, line_up}
use Rattle.event_crash.proofs.Falls.{zeros, zeros_down, zeros_formed, Fallen, fallen}

commit_plain : (t k : ℕ) (f : Event) → some (commit t k) ≡ some f → is_plain f ≡ true
unfolding is_plain
commit_plain t k f q = let z : commit t k ≡ f = cc in rw (← z)

pub commits_only : (b : Bool) (d : ℕ) → (not b && not (same d 1)) ≡ true → (b ≡ false) × (d ≢ 1)
commits_only b d e = let h = both (not b) (not (same d 1)) e in (not-true b h.0, λ q. clash h.1 (rw (q, same_refl 1)))

pub else_top : (b : Bool) (d : ℕ) → (not b && not (same d 1)) ≡ false → b ≡ false → d ≡ 1
else_top b d e q = same-eq d 1 (not-false (same d 1) (rw q at e))

-- rows of as many places, without those that are picked alike
turned : (l l' : List ℕ) {m n : ℕ} {p q : ℕ → Bool} → m ≡ n → p ≡ q → Rows m (leaving p (sets l)) l' → Rows n (leaving q (sets l)) l'
turned l l' e o r = record { are = r.are ∙ ap (λ (d : ℕ → Bool). leaving d (sets l)) o; long = r.long ∙ e }

-- the same page writes
pub settled_pages : (m : Medium) (b c : Bool) (s t : m.Store) (v : ℕ → Option Page) (i k n : ℕ) (d : Bool) → c ≡ b → PageWritesDone (settling_at m b s v i k) t n d → PageWritesDone (settling_at m c s v i k) t n d
settled_pages m b c s t v i k n d e L = subst⁻¹ (λ (b : Bool). PageWritesDone (settling_at m b s v i k) t n d) e L

-- where no page tears the medium is that of atomic pages
pub whole_length : (tears : Bool) (l m : ℕ) → tears ≡ false → l ≡ stride_of tears * m → l ≡ 32 * m
whole_length tears l m e h = subst (λ (b : Bool). l ≡ stride_of b * m) e h

pub prepared_whole : (tears : Bool) (g : Geometry) (s t : List ℕ) (v : ℕ → Option Page) (i k n : ℕ) (d : Bool) → tears ≡ false → PageWritesDone (prepare_at g (pages_of s) v i k) (pages_of t) n d
    → PageWritesDone ((medium_of tears g).prepare ((medium_of tears g).from_bytes s) v i k) ((medium_of tears g).from_bytes t) n d
prepared_whole tears g s t v i k n d e L = subst⁻¹ (λ (b : Bool). PageWritesDone ((medium_of b g).prepare ((medium_of b g).from_bytes s) v i k) ((medium_of b g).from_bytes t) n d) e L

module _ (tears : Bool) (g : Geometry) where
  abbrev form : Form
  form = form_in tears g

  prepare_refuses : (x : Arrays) → Intact form x → (t k i : ℕ) → Ready form x t → has_child (view form x) t ≡ true → Stepped form x (some (prepare t k i)) (answer 10 0) x
  prepare_refuses x I t k i R h = unmoved form x (some (prepare t k i)) 10 I.form (prepare_children form (view form x) t (up_is form x R.up) (live_is form x t R.live) k i h)

  commit_refuses : (x : Arrays) → Intact form x → (t k : ℕ) → Ready form x t → has_child (view form x) t ≡ true → Stepped form x (some (commit t k)) (answer 10 0) x
  commit_refuses x I t k R h = unmoved form x (some (commit t k)) 10 I.form (commit_refused form (view form x) t (up_is form x R.up) (live_is form x t R.live) k h)

  pub settling_refuses : (x : Arrays) → Intact form x → (b : Bool) (t k i : ℕ) → Ready form x t → has_child (view form x) t ≡ true → Stepped form x (some (settling b t k i)) (answer 10 0) x
  unfolding settling
  settling_refuses x I false t k i R h = commit_refuses x I t k R h
  settling_refuses x I true t k i R h = prepare_refuses x I t k i R h

  -- a child's commit, by the code's test
  pub child_settling : (x y : Arrays) (a : Answer) (b : Bool) (t k i : ℕ) → b ≡ false → Stepped form x (some (commit t k)) a y → Stepped form x (some (settling b t k i)) a y
  unfolding settling
  child_settling x y a b t k i e T = subst⁻¹ (λ (b : Bool). Stepped form x (some (settling b t k i)) a y) e T

  module _ (x : Arrays) (I : Intact form x) (t : ℕ) (R : Ready form x t) (childless : has_child (view form x) t ≡ false) where
    abbrev b : Bearers
    b = bearers_of x.parent x.depth

    abbrev d : ℕ → ℕ
    d j = get_or x.depth j 0

    abbrev alone : ℕ → Bool
    alone j = same j t

    closed : (z a : ℕ) → same z t ≡ false → same a t ≡ true → mem a (line_of b z) ≡ false
    unfolding view
    closed = alone_closed I.sound t (record { up = up_is form x R.up; alive = live_is form x t R.live; childless = childless })

    -- the end of a top transaction, over what its page writes left
    module _ (e : Event) (C : Cut form.medium.Store) (ends : step form (view form x) (some e) ≡ commits_top form (view form x) t C) (store : List ℕ) (made : ℕ) (crashed : Bool)
        (L : PageWritesDone C (form.medium.from_bytes store) made crashed) (size : length store ≡ length x.store) where
      outcome : (c : Bool) → crashed ≡ c → step form (view form x) (some e) ≡ concluded (ended (view form x) alone (form.medium.from_bytes store)) C c
      unfolding commits_top
      outcome c q = ends ∙ ap₂ (λ (p : form.medium.Store) (c : Bool). concluded (ended (view form x) alone p) C c) (sym L.store) (sym L.crashed ∙ q)

      -- all page writes were made
      pub top_steps : crashed ≡ false → (n : ℕ) → length x.writers ≡ n → (parent depth line held retained writers : List ℕ) (one : ℕ) → bits one ≡ (λ k. same k t)
          → Cleared (λ k. same k t) x.parent parent → Cleared (λ k. same k t) x.depth depth → Cleared (λ k. same k t) x.line line
          → Rows (2 * n) (leaving (bits one) (sets x.held)) held → Rows (2 * n) (leaving (bits one) (sets x.retained)) retained → Rows n (leaving (bits one) (sets x.writers)) writers
          → Stepped form x (some e) (answer 0 made) (arrays x.up parent depth line held retained writers x.work store)
      unfolding concluded engine_answer number_of value_of view ended retaining
      top_steps q n many parent depth line held retained writers one o P D N H M W =
          let same_count : n ≡ records g = sym many ∙ I.form.writerss in
          let twice : 2 * n ≡ 2 * records g = ap (λ (m : ℕ). 2 * m) same_count in
          let H' = turned x.held held twice o H in
          let M' = turned x.retained retained twice o M in
          let W' = turned x.writers writers same_count o W in
          stepped form x _ (some e) (ended (view form x) alone (form.medium.from_bytes store)) (done C.made) (answer 0 made) (outcome false q)
          (rest_is form x I alone closed x.retained (modes_of (sets x.retained)) refl parent depth line held retained writers store P D N H' M' W') (ap (answer 0) L.made)
          (rest_form form x I alone closed x.retained (modes_of (sets x.retained)) refl parent depth line held retained writers store P D N H' M' W' I.form.retained_nested (size ∙ I.form.stores))

      -- a crash came among them
      pub top_cut : crashed ≡ true → (n : ℕ) → length x.writers ≡ n → (up : ℕ) (parent depth line held retained writers : List ℕ) → Fallen n up parent depth line held retained writers
          → Stepped form x (some e) (answer 11 made) (arrays up parent depth line held retained writers x.work store)
      unfolding concluded engine_answer number_of value_of
      top_cut q n many up parent depth line held retained writers Z =
          subst⁻¹ (Stepped form x (some e) (answer 11 made)) (fallen n up parent depth line held retained writers x.work store Z)
          (stepped form x (zeros n x.work store) (some e) (down C.store) (cut C.made) (answer 11 made) (outcome true q)
          (zeros_down form n x.work store ∙ ap down L.store) (ap (answer 11) L.made) (zeros_formed form n x.work store (sym I.form.writerss ∙ many) I.form.works (size ∙ I.form.stores)))

    -- beside what is prepared, by the map of the records that t changed
    module _ (m n i : ℕ) (mapped : m ≡ map_of g (λ r. sets x.writers r t)) (H : Reserves tears g x.store n i) where
      both_are : (changes form (view form x) t && busy form (view form x)) ≡ (not (same m 0) && not (same n 0))
      both_are = ap₂ ◌&&◌ (changes_are tears g x t m mapped) (busy_is tears g x n i H)

      commit_13 : (k : ℕ) → d t ≡ 1 → (not (same m 0) && not (same n 0)) ≡ true → Stepped form x (some (commit t k)) (answer 13 0) x
      commit_13 k top q =
          unmoved form x (some (commit t k)) 13 I.form (commit_busy form (view form x) t (up_is form x R.up) (live_is form x t R.live) k childless
          (rw (top_is tears g x t R.live, top, same_refl 1) (both_are ∙ q)))

      prepare_13 : (k j : ℕ) → (not (same m 0) && not (same n 0)) ≡ true → Stepped form x (some (prepare t k j)) (answer 13 0) x
      prepare_13 k j q = unmoved form x (some (prepare t k j)) 13 I.form (prepare_busy form (view form x) t (up_is form x R.up) (live_is form x t R.live) k j childless (both_are ∙ q))

      module _ (q : (not (same m 0) && not (same n 0)) ≡ false) where
        prepare_27 : (k j : ℕ) → d t ≢ 1 → Stepped form x (some (prepare t k j)) (answer 27 0) x
        prepare_27 k j h =
            unmoved form x (some (prepare t k j)) 27 I.form (prepare_beneath form (view form x) t (up_is form x R.up) (live_is form x t R.live) k j childless (both_are ∙ q)
            (top_is tears g x t R.live ∙ ne_false (d t) 1 h))

        module _ (top : d t ≡ 1) where
          -- a commit, and a prepare, of a top transaction
          commit_ends : (k : ℕ) → step form (view form x) (some (commit t k)) ≡ commits_top form (view form x) t (form.medium.commit (form.medium.from_bytes x.store) (versions_in g m x.work) k)
          unfolding view line_of line_from commits
          commit_ends k =
              commit_done form (view form x) t (up_is form x R.up) (live_is form x t R.live) k childless (rw (both_are ∙ q, and-false))
              ∙ ap (λ (n : ℕ). commits form (view form x) t k (line_from b n t)) (depth_is x.parent x.depth t ∙ top)
              ∙ ap (λ (v : ℕ → Option Page). commits_top form (view form x) t (form.medium.commit (form.medium.from_bytes x.store) v k)) (top_versions tears g x I.form t m mapped top)

          prepare_ends : (k j : ℕ) → step form (view form x) (some (prepare t k j)) ≡ commits_top form (view form x) t (form.medium.prepare (form.medium.from_bytes x.store) (versions_in g m x.work) j k)
          unfolding view
          prepare_ends k j =
              prepare_done form (view form x) t (up_is form x R.up) (live_is form x t R.live) k j childless (both_are ∙ q) (top_is tears g x t R.live ∙ rw top (same_refl 1))
              ∙ ap (λ (v : ℕ → Option Page). commits_top form (view form x) t (form.medium.prepare (form.medium.from_bytes x.store) v j k)) (top_versions tears g x I.form t m mapped top)

      -- either of them, by the code's tests
      pub settling_13 : (b : Bool) (k j : ℕ) → (b ≡ false → d t ≡ 1) → (not (same m 0) && not (same n 0)) ≡ true → Stepped form x (some (settling b t k j)) (answer 13 0) x
      unfolding settling
      settling_13 false k j top q = commit_13 k (top refl) q
      settling_13 true k j top q = prepare_13 k j q

      pub settling_27 : (b : Bool) (k j : ℕ) → (b ≡ false → d t ≡ 1) → (not (same m 0) && not (same n 0)) ≡ false → d t ≢ 1 → Stepped form x (some (settling b t k j)) (answer 27 0) x
      unfolding settling
      settling_27 false k j top q h = absurd (h (top refl))
      settling_27 true k j top q h = prepare_27 q k j h

      pub settling_ends : (b : Bool) (k j : ℕ) → (not (same m 0) && not (same n 0)) ≡ false → d t ≡ 1
          → step form (view form x) (some (settling b t k j)) ≡ commits_top form (view form x) t (settling_at form.medium b (form.medium.from_bytes x.store) (versions_in g m x.work) j k)
      unfolding settling settling_at
      settling_ends false k j q top = commit_ends q top k
      settling_ends true k j q top = prepare_ends q top k j

      -- what is prepared after it: read again, or as it was
      pub settling_reserves : Proper g → g.tears ≡ tears → (y : Arrays) (a : Answer) (b : Bool) (k j n' i' : ℕ) → Stepped form x (some (settling b t k j)) a y → (b ≡ true → Reserves tears g y.store n' i') → (b ≡ false → (n' ≡ n) × (i' ≡ i)) → Reserves tears g y.store n' i'
      unfolding settling
      settling_reserves proper torn y a true k j n' i' T again kept = again refl
      settling_reserves proper torn y a false k j n' i' T again kept =
          let e = kept refl in
          reserves_kept tears g proper torn x y (some (commit t k)) a n i I T H (commit_plain t k) ∙ sym (λ j. record { map = e.0 j; identity = e.1 j })

    -- a child
    module _ (k n : ℕ) (deep : d t ≡ suc (suc n)) where
      abbrev p : ℕ
      p = get_or x.parent t 0

      abbrev w : Owners
      w = sets x.writers

      -- another writer of a record that t has written isn't at the parent's depth
      alone_up : (r j : ℕ) → w r t ≡ true → w r j ≡ true → j ≢ t → j ≢ p → d j ≢ suc n
      unfolding view in_line mem
      alone_up r j a c n₁ n₂ e =
          or_cases (mem t (line_of b j)) (mem j (line_of b t)) (versions_in_line I.sound t j r (wrote_is form x t r ∙ a) (wrote_is form x j r ∙ c))
          (λ m. clash m (no_child I.sound t childless j n₁))
          (λ m.
          let h = line_apart I.sound j p (rw (line_up form x I t n deep, ne_false j t n₁) at m) n₂ in
          let e₁ = depth_of form x j in let e₂ = depth_of form x p in let q = parent_deep form x I t n deep in omega arith)

      abbrev up : ℕ → Page
      up = lifted w t (suc (suc n)) (pages_of x.work)

      small : suc (suc n) ≤ depths
      small = let k = shallow form x I t in omega arith

      hit_up : (r j : ℕ) → d j ≡ suc n → w r t ≡ true → up (slot r (d j)) ≡ pages_of x.work (slot r (suc (suc n)))
      unfolding slot
      hit_up r j e a = let k = small in hit w t (suc (suc n)) (pages_of x.work) (omega arith) small (r * depths + (d j - 1)) r (omega arith) (omega arith) a

      not_up : (r j : ℕ) → w r t ≡ false → up (slot r (d j)) ≡ pages_of x.work (slot r (d j))
      unfolding slot
      not_up r j a = let k = shallow form x I j in let m = small in miss_row w t (suc (suc n)) (pages_of x.work) (omega arith) small (r * depths + (d j - 1)) r (omega arith) a

      not_here : (r j : ℕ) → w r j ≡ true → d j ≢ suc n → up (slot r (d j)) ≡ pages_of x.work (slot r (d j))
      unfolding slot
      not_here r j c e =
          let k = shallow form x I j in let h = writer_deep form x I r j c in let m = small in
          miss_depth w t (suc (suc n)) (pages_of x.work) (omega arith) small (r * depths + (d j - 1)) (λ q. e (omega arith))

      abbrev v : ℕ → ℕ → Option Page
      v = versions_of x.depth x.writers x.work

      version_up : (j r : ℕ) → Same j t → Same j p → Is (w r t) → Is (w r j)
          → cond (replacing (w r t) (w r) t p j) (some (up (slot r (cond (same j t) 0 (d j))))) none ≡ dropped alone (handed_up t p v) j r
      unfolding replacing versions_of dropped handed_up also
      version_up j r (is e s _) k a c = rw (s, e, ne_false t p (λ q. parent_other form x I t n deep (sym q)))
      version_up j r (isnt e s _) (is f u _) (yes' a) c =
          rw (s, u, a, or-true) (ap some (hit_up r j (ap d f ∙ parent_deep form x I t n deep) a ∙ ap (λ (m : ℕ). pages_of x.work (slot r m)) (sym deep)))
      version_up j r (isnt e s _) (is f u _) (no' a) c =
          rw (s, u, a, or-false)
          (ap (λ (pg : Page). cond (w r j) (some pg) none) (not_up r j a) ∙ ap (λ (j : ℕ). cond (w r j) (some (pages_of x.work (slot r (d j)))) none) f)
      version_up j r (isnt e s _) (isnt f u _) a (no' c) = rw (s, u, c)
      version_up j r (isnt e s _) (isnt f u _) (no' a) (yes' c) = rw (s, u, c) (ap some (not_up r j a))
      version_up j r (isnt e s _) (isnt f u _) (yes' a) (yes' c) = rw (s, u, c) (ap some (not_here r j c (alone_up r j a c e f)))

      module _ (count : ℕ) (many : length x.writers ≡ count) (parent depth line held retained writers work : List ℕ)
          (P : Cleared (λ k. same k t) x.parent parent) (D : Cleared (λ k. same k t) x.depth depth) (N : Cleared (λ k. same k t) x.line line)
          (H : Rows (2 * count) (leaving (λ j. same j t) (sets x.held)) held)
          (M : Rows (2 * count) (inheriting t p (sets x.held) (sets x.retained)) retained)
          (W : Rows count (handed t p w) writers) (K : pages_of work ≡ up) (size : length work ≡ length x.work) where
        versions_up : versions_of depth writers work ≡ dropped alone (handed_up t p v)
        unfolding versions_of places cleared handed
        versions_up = fun_ext (λ j. fun_ext (λ r.
            ap₂ (λ (f : Owners) (g : ℕ → ℕ). cond (f r j) (some (pages_of work (slot r (g j)))) none) W.are D.are
            ∙ ap (λ (g : ℕ → Page). cond (replacing (w r t) (w r) t p j) (some (g (slot r (cond (same j t) 0 (d j))))) none) K
            ∙ version_up j r (same_cases j t) (same_cases j p) (is_cases (w r t)) (is_cases (w r j))))

        abbrev y : Arrays
        y = arrays x.up parent depth line held retained writers work x.store

        y_is : view form y ≡ ended (passed (view form x) t p) alone (view form x).store
        unfolding view ended passed
        y_is = state_eq form refl (bearers_cleared form alone x.parent x.depth parent depth P D)
            (ap modes_of H.are ∙ leaving_discarded alone (sets x.held))
            (ap modes_of M.are ∙ inheriting_inherited (sets x.held) (sets x.retained) t p (parent_other form x I t n deep)) versions_up refl

        commit_is : step form (view form x) (some (commit t k)) ≡ commits_child form (view form x) t p
        unfolding view line_of line_from commits
        commit_is =
            commit_done form (view form x) t (up_is form x R.up) (live_is form x t R.live) k childless
            (ap (λ (c : Bool). c && (changes form (view form x) t && busy form (view form x))) (top_is tears g x t R.live ∙ ne_false (d t) 1 (λ e. omega arith)))
            ∙ ap (λ (m : ℕ). commits form (view form x) t k (line_from b m t)) (depth_is x.parent x.depth t ∙ deep)
            ∙ ap (commits_child form (view form x) t) (parent_there form x I t n deep)

        same_count : count ≡ records g
        same_count = sym many ∙ I.form.writerss

        twice : 2 * count ≡ 2 * records g
        twice = ap (λ (m : ℕ). 2 * m) same_count

        pub child_steps : Stepped form x (some (commit t k)) (answer 0 0) y
        unfolding commits_child view
        child_steps =
            finishes form x y (some (commit t k)) (ended (passed (view form x) t p) alone (view form x).store) 0 commit_is y_is
            (let F = I.form in record {
              lines = lines_cleared form (rooted_of I.sound) alone closed x.line line F.lines N ∙ ap line_in (sym (bearers_cleared form alone x.parent x.depth parent depth P D));
              flag = F.flag;
              tidy = tidy_cleared form alone x.parent x.depth parent depth P D F.tidy;
              held_nested = nested_cleared form alone x.held held F.held_nested (record { are = H.are; long = H.long ∙ twice });
              retained_nested = subst⁻¹ (λ (o : Owners). Nested o) M.are (inheriting_nested t p (sets x.held) (sets x.retained) F.held_nested F.retained_nested);
              parents = P.long;
              depths = D.long;
              long = N.long;
              helds = H.long ∙ twice;
              retaineds = M.long ∙ twice;
              writerss = W.long ∙ same_count;
              works = size ∙ F.works;
              stores = F.stores;
            })
