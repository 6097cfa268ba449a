-- The replay follows a commit of a surviving transaction: a child's into its parent, a top one's whole.
use mathlib.Core.Path.{◌≡◌, refl, sym, ap, ap₂, subst⁻¹, ◌∙◌, fun_ext}
use mathlib.Core.Bool.{Bool, true, false, cond, ◌&&◌, ◌||◌, false≢true, or-true}
use mathlib.Core.List.{List, [], ◌∷◌, map}
use mathlib.Core.Logic.{◌≢◌}
use mathlib.Core.Option.{Option, none, some}
use Prim.Native.Nat.{ℕ, ◌<◌}
use native.Mathlib.Omega.{arith}
use lib.ListN.{length}
use Rattle.laws.specs.Tests.{same}
use Rattle.laws.specs.Counting.{count}
use Rattle.laws.proofs.Tests.{same_cases, Same, is, isnt, same_refl, ne_false, Is, is_cases, yes', no', lt-under}
use Rattle.laws.proofs.All.{and-false}
use Rattle.laws.proofs.Those.{count-zero}
use Rattle.laws.proofs.Booleans.{or_cases, or_left, or_right, refute, clash}
use Rattle.laws.proofs.Counts.{count_add}
use Rattle.rules.specs.Geometry.{records, transactions, uncut}
use Rattle.rules.specs.Store.{Page}
use Rattle.rules.specs.Event.{Access, commit, prepare, fits}
use Rattle.rules.specs.State.{is_active, line_of, mem, live}
use Rattle.rules.specs.Locks.{bars, discarded}
use Rattle.rules.specs.Versions.{is_some, else, handed_up, dropped}
use Rattle.rules.specs.Commit.{Cut}
use Rattle.rules.specs.Form.{Form}
use Rattle.rules.specs.Step.{is_top, changes, busy, done, number_of, value_of, first_of, StateOf, OutcomeOf, ended, passed, concluded, finished, refusals, refusal, commits_top, commits_child, commits, act, step}
use Rattle.rules.specs.Sound.{Sound}
use Rattle.rules.proofs.Tree.{is_cons}
use Rattle.rules.proofs.Bearers.{ended_line}
use Rattle.rules.proofs.Grades.{barring}
use Rattle.rules.proofs.Uncut.{uncut_fits, uncut_alone}
use Rattle.rules.proofs.Medium.{MediumLaws, Unmoved, changed_in, is_clear}
use Rattle.rules.proofs.Acceptance.{CommitOk}
use Rattle.rules.proofs.Locks.{rooted_of, member_live, no_child}
use Rattle.rules.proofs.Reserved.{clear_of, prepare_fits}
use Rattle.rules.proofs.Soundness.{alone_closed}
use Rattle.rules.proofs.Modes.{inherited_keeps, inherited_heir, inherited_from}
use Rattle.history.proofs.Invariant.{now}
use Rattle.claim_serial.specs.OneAtATime.{renamed, naming, is_read}
use Rattle.claim_serial.proofs.Mirror.{again, Mirror, Fits, acting, fits_step, Open}
use Rattle.claim_serial.proofs.Follow.{on, small, same_back, line_back, childless}

module _ (f : Form) (L : MediumLaws f.geometry f.medium) {s : StateOf f} (S : Sound f s) {d : f.medium.Store} {sv : ℕ → Bool} {u : StateOf f} {name : ℕ → ℕ}
    (alive : (j : ℕ) → sv j ≡ true → live s j ≡ true) (O : Open f L u) (M : Mirror f d sv s u name) (x : ℕ) (sx : sv x ≡ true) (ok : CommitOk s x) where
  leaf : (z : ℕ) → z ≢ x → mem x (line_of s.bearer z) ≡ false
  leaf = no_child S x ok.childless

  -- what is accepted in the run is accepted in the replay
  ok_u : CommitOk u (name x)
  ok_u = record { up = O.ready; alive = on f L S alive O M x sx; childless = childless f L S alive O M x sx leaf }

  -- a child, or a top transaction that may write
  open_u : (is_top (line_of u.bearer (name x)) && (changes f u (name x) && busy f u)) ≡ false → refusal f u (commit (name x) (uncut f.geometry)) ≡ none
  unfolding refusal refusals first_of
  open_u e = rw (ok_u.alive, ok_u.childless, e, O.ready)

  -- a word can hold it
  pub fit_u : (k : ℕ) → fits f.geometry (again f name (commit x k)) ≡ true
  unfolding renamed fits
  fit_u k = rw (small f L S alive O M x sx, uncut_fits f.geometry)

  -- x, beneath y, commits
  module _ (y : ℕ) (m : List ℕ) (sy : sv y ≡ true) (two : y ≢ x) (line : line_of s.bearer x ≡ x ∷ y ∷ m)
      (sv' : ℕ → Bool) (gone : sv' x ≡ false) (old : (j : ℕ) → j ≢ x → sv' j ≡ sv j) where
    -- the states after
    abbrev s₁ : StateOf f
    s₁ = ended (passed s x y) (λ j. same j x) s.store

    abbrev u₁ : StateOf f
    u₁ = ended (passed u (name x) (name y)) (λ j. same j (name x)) u.store

    as_child : act f u (commit (name x) (uncut f.geometry)) ≡ commits_child f u (name x) (name y)
    unfolding act commits mem
    as_child = go (line_of u.bearer (name x)) refl (line_back f L S alive O M x sx ∙ line)
      where
        go : (l : List ℕ) → line_of u.bearer (name x) ≡ l → map M.back l ≡ x ∷ y ∷ m → commits f u (name x) (uncut f.geometry) l ≡ commits_child f u (name x) (name y)
        go [] q e = absurd (false≢true (ap is_cons e))
        go (c ∷ []) q e = absurd (omega (arith, ap length e))
        go (c ∷ b ∷ l) q e =
            let k : M.back b ≡ y = cc in
            let v = member_live O.reached.sound (name x) b (rw (q, same_refl b) (or-true (same b c))) in
            ap (commits_child f u (name x)) (sym (M.here b v).1 ∙ ap name k)

    not_top : (is_top (line_of u.bearer (name x)) && (changes f u (name x) && busy f u)) ≡ false
    unfolding is_top
    not_top = go (line_of u.bearer (name x)) (line_back f L S alive O M x sx ∙ line)
      where
        go : (l : List ℕ) → map M.back l ≡ x ∷ y ∷ m → (is_top l && (changes f u (name x) && busy f u)) ≡ false
        go [] e = absurd (false≢true (ap is_cons e))
        go (c ∷ []) e = absurd (omega (arith, ap length e))
        go (c ∷ b ∷ l) e = refl

    -- who lives after
    live_left : (c : ℕ) → live u₁ c ≡ cond (same c (name x)) false (live u c)
    unfolding live ended passed is_active
    live_left c = go (is_cases (same c (name x)))
      where
        go : Is (same c (name x)) → live u₁ c ≡ cond (same c (name x)) false (live u c)
        go (yes' k) = rw k
        go (no' k) = rw k

    left_on : (c : ℕ) → live u₁ c ≡ true → (same c (name x) ≡ false) × (live u c ≡ true)
    left_on c e = go (is_cases (same c (name x)))
      where
        go : Is (same c (name x)) → (same c (name x) ≡ false) × (live u c ≡ true)
        go (yes' k) = absurd (false≢true (rw (live_left c, k) at e))
        go (no' k) = (k, rw (live_left c, k) at e)

    back_x : (c : ℕ) → live u₁ c ≡ true → same (M.back c) x ≡ false
    back_x c e = let k = left_on c e in sym (same_back f L S alive O M c x k.1 sx) ∙ k.0

    ≢-of : (a b : ℕ) → same a b ≡ false → a ≢ b
    ≢-of a b e q = clash (same_refl b) (rw q at e)

    child_there : (j : ℕ) → sv' j ≡ true → (live u₁ (name j) ≡ true) × (M.back (name j) ≡ j)
    child_there j e =
        let n : j ≢ x = λ q. clash e (ap sv' q ∙ gone) in
        let e' : sv j ≡ true = sym (old j n) ∙ e in
        let l = on f L S alive O M j e' in
        (live_left (name j) ∙ rw (same_back f L S alive O M (name j) x l sx, (M.there j e').1, ne_false j x n) l, (M.there j e').1)

    child_here : (c : ℕ) → live u₁ c ≡ true → (sv' (M.back c) ≡ true) × (name (M.back c) ≡ c)
    child_here c e = let k = M.here c (left_on c e).1 in (old (M.back c) (≢-of (M.back c) x (back_x c e)) ∙ k.0, k.1)

    child_lines : (c : ℕ) → live u₁ c ≡ true → map M.back (line_of u₁.bearer c) ≡ line_of s₁.bearer (M.back c)
    unfolding ended passed
    child_lines c e = rw (
      ended_line (rooted_of O.reached.sound) (λ j. same j (name x)) (alone_closed O.reached.sound (name x) ok_u) c,
      (left_on c e).0,
      ended_line (rooted_of S) (λ j. same j x) (alone_closed S x ok) (M.back c),
      back_x c e,
    ) (M.lines c (left_on c e).1)

    -- what x has there, its counterpart has here
    handed : (c : Access) (r : ℕ) → (bars c (u.held r (name x)) || bars c (u.retained r (name x))) ≡ true → (bars c (s.held r x) || bars c (s.retained r x)) ≡ true
    handed c r e = or_cases (bars c (u.held r (name x))) (bars c (u.retained r (name x))) e
        (λ w. or_left (bars c (s.held r x)) (bars c (s.retained r x)) (rw (M.there x sx).1 at (ap (bars c) (sym (M.held r (name x) (on f L S alive O M x sx))) ∙ w)))
        (λ w. or_right (bars c (s.held r x)) (bars c (s.retained r x)) (rw (M.there x sx).1 at (M.retained c r (name x) (on f L S alive O M x sx) w)))

    child_retained : (c : Access) (r a : ℕ) → live u₁ a ≡ true → bars c (u₁.retained r a) ≡ true → bars c (s₁.retained r (M.back a)) ≡ true
    unfolding ended passed discarded
    child_retained c r a l e = rw (back_x a l) (
        inherited_from (barring c) (name x) (name y) u.held u.retained r a (rw (left_on a l).0 at e)
        (λ w. inherited_keeps (barring c) x y s.held s.retained r (M.back a) (M.retained c r a (left_on a l).1 w))
        (λ q w. rw (ap M.back q ∙ (M.there y sy).1) (inherited_heir (barring c) x y s.held s.retained r (handed c r w))))

    child_versions : (a r : ℕ) → live u₁ a ≡ true → u₁.version a r ≡ s₁.version (M.back a) r
    unfolding ended passed dropped handed_up
    child_versions a r l =
        let v = (left_on a l).1 in
        rw (
          same_back f L S alive O M a x v sx,
          same_back f L S alive O M a y v sy,
          M.versions a r v,
          M.versions (name x) r (on f L S alive O M x sx),
          M.versions (name y) r (on f L S alive O M y sy),
          (M.there x sx).1,
          (M.there y sy).1,
        )

    child_room : count transactions (live u₁) ≡ count transactions sv'
    child_room =
        let low : name x < transactions = O.reached.sound.numbered (name x) (on f L S alive O M x sx) in
        let low_s : x < transactions = S.numbered x (alive x sx) in
        let a = count_add transactions (live u₁) (live u) (name x) low (live_left (name x) ∙ rw (same_refl (name x))) (on f L S alive O M x sx) (λ j n. sym (live_left j ∙ rw (ne_false j (name x) n))) in
        let b = count_add transactions sv' sv x low_s gone sx (λ j n. sym (old j n)) in
        let c = M.room in
        omega (arith, a, b, c)

    child_mirror : Mirror f d sv' s₁ u₁ name
    child_mirror = record {
      back = M.back;
      there = child_there;
      here = child_here;
      lines = child_lines;
      held = λ r a l. unfold ended passed discarded in rw (same_back f L S alive O M a x (left_on a l).1 sx, M.held r a (left_on a l).1);
      retained = child_retained;
      versions = child_versions;
      room = child_room;
      store_is = unfold ended in M.store_is;
    }

    child_fits : (k : ℕ) → Fits f d sv' s₁ (commit x k) (done 0) name (commits_child f u (name x) (name y))
    child_fits k = unfold commits_child finished ended passed naming is_read number_of value_of in record {
      fit = fit_u k;
      right = (refl, λ e. absurd (false≢true e));
      still_up = O.ready;
      mirror = child_mirror;
    }

    pub follow_child : (k : ℕ) → Fits f d sv' s₁ (commit x k) (done 0) name (step f u (some (again f name (commit x k))))
    unfolding renamed
    follow_child k = fits_step f u (commit x k) (commit (name x) (uncut f.geometry)) (open_u not_top)
        (subst⁻¹ (λ (o : OutcomeOf f). Fits f d sv' s₁ (commit x k) (done 0) name o) as_child (child_fits k))

  -- the versions of x
  same_versions : u.version (name x) ≡ s.version x
  same_versions = fun_ext (λ r. M.versions (name x) r (on f L S alive O M x sx) ∙ ap (λ (j : ℕ). s.version j r) (M.there x sx).1)

  -- x is the top transaction, and alone
  module _ (line : line_of s.bearer x ≡ x ∷ []) (beneath : (j : ℕ) → sv j ≡ true → mem x (line_of s.bearer j) ≡ true) (clear_u : (changes f u (name x) && busy f u) ≡ false) where
    -- its end, whole: nothing is live then, over the same prepared transaction
    pub record Closes (o : OutcomeOf f) : Type 0 where
      pub right : number_of o.answer ≡ 0
      pub still_up : o.state.up ≡ true
      pub idle : (c : ℕ) → live o.state c ≡ false
      pub now_is : (r : ℕ) → now f o.state r ≡ else (s.version x r) (f.medium.settled d r)
      pub same_identity : f.medium.prepared o.state.store ≡ f.medium.prepared d
      pub same_pending : (r : ℕ) → f.medium.pending o.state.store r ≡ f.medium.pending d r

    -- it is prepared: nothing is live then, and it waits
    pub record Waits (i : ℕ) (o : OutcomeOf f) : Type 0 where
      pub right : number_of o.answer ≡ 0
      pub still_up : o.state.up ≡ true
      pub idle : (c : ℕ) → live o.state c ≡ false
      pub now_is : (r : ℕ) → now f o.state r ≡ f.medium.settled d r
      pub identity : f.medium.prepared o.state.store ≡ some i
      pub pending : (r : ℕ) → f.medium.pending o.state.store r ≡ s.version x r

    abbrev c : Cut f.medium.Store
    c = f.medium.commit u.store (u.version (name x)) (uncut f.geometry)

    -- over what its page writes left
    abbrev over : f.medium.Store → StateOf f
    over store = ended u (λ j. same j (name x)) store

    clear : is_clear f.geometry f.medium u.store (u.version (name x)) ≡ true
    clear = clear_of f u (name x) (O.reached.sound.calm O.ready) clear_u

    top_u : is_top (line_of u.bearer (name x)) ≡ true
    unfolding is_top
    top_u = go (line_of u.bearer (name x)) (line_back f L S alive O M x sx ∙ line)
      where
        go : (l : List ℕ) → map M.back l ≡ x ∷ [] → is_top l ≡ true
        go [] e = refl
        go (a ∷ []) e = refl
        go (a ∷ b ∷ l) e = absurd (omega (arith, ap length e))

    as_top : act f u (commit (name x) (uncut f.geometry)) ≡ concluded (over c.store) c false
    unfolding act commits commits_top
    as_top = go (line_of u.bearer (name x)) (line_back f L S alive O M x sx ∙ line)
      where
        go : (l : List ℕ) → map M.back l ≡ x ∷ [] → commits f u (name x) (uncut f.geometry) l ≡ concluded (over c.store) c false
        go [] e = absurd (false≢true (ap is_cons e))
        go (a ∷ []) e = ap (concluded (over c.store) c) (L.commit_uncut u.store (u.version (name x)))
        go (a ∷ b ∷ l) e = absurd (omega (arith, ap length e))

    alone : (store : f.medium.Store) (a : ℕ) → Same a (name x) → live (over store) a ≡ false
    unfolding live ended is_active
    alone store a (is q k _) = rw k
    alone store a (isnt q k _) = rw k (refute (live u a) (λ l. clash (beneath (M.back a) (M.here a l).0) (leaf (M.back a) (λ z. q (sym (M.here a l).1 ∙ ap name z)))))

    closes : Closes (concluded (over c.store) c false)
    unfolding concluded number_of
    closes = record {
      right = refl;
      still_up = unfold ended in O.ready;
      idle = λ a. alone c.store a (same_cases a (name x));
      now_is = λ r. unfold ended in
          L.commit_kept u.store (u.version (name x)) (uncut f.geometry) r clear (O.reached.sound.ranged (name x))
          (L.commit_whole u.store (u.version (name x)) (uncut f.geometry) (O.reached.sound.calm O.ready) clear (L.commit_uncut u.store (u.version (name x)))).1
          ∙ ap₂ else (ap (λ (v : ℕ → Option Page). v r) same_versions) (ap (λ (e : f.medium.Store). f.medium.settled e r) M.store_is);
      same_identity = unfold ended in unmoved.same_identity ∙ ap f.medium.prepared M.store_is;
      same_pending = λ r. unfold ended in unmoved.same_pending r ∙ ap (λ (e : f.medium.Store). f.medium.pending e r) M.store_is;
    }
      where
        unmoved : Unmoved f.medium c.store u.store
        unmoved = L.commit_unmoved u.store (u.version (name x)) (uncut f.geometry) clear

    pub follow_top : Closes (step f u (some (commit (name x) (uncut f.geometry))))
    follow_top = subst⁻¹ (λ (o : OutcomeOf f). Closes o) (acting f u (commit (name x) (uncut f.geometry)) (open_u (rw clear_u (and-false (is_top (line_of u.bearer (name x)))))) ∙ as_top) closes

    -- a prepare
    module _ (k i : ℕ) (fit : fits f.geometry (prepare x k i) ≡ true) where
      abbrev e : Cut f.medium.Store
      e = f.medium.prepare u.store (u.version (name x)) i (uncut f.geometry)

      holds_it : (f.geometry.joint ≡ true) × (i < 256)
      holds_it = prepare_fits f.geometry x k i fit

      open_prepare : refusal f u (prepare (name x) (uncut f.geometry) i) ≡ none
      unfolding refusal refusals first_of
      open_prepare = rw (ok_u.alive, ok_u.childless, clear_u, top_u, O.ready)

      pub fit_prepare : fits f.geometry (again f name (prepare x k i)) ≡ true
      unfolding renamed fits
      fit_prepare = rw (small f L S alive O M x sx, uncut_alone f.geometry (L.joint_untorn holds_it.0), lt-under i 256 holds_it.1, holds_it.0)

      as_prepared : act f u (prepare (name x) (uncut f.geometry) i) ≡ concluded (over e.store) e false
      unfolding act commits_top
      as_prepared = ap (concluded (over e.store) e) (L.prepare_uncut u.store (u.version (name x)) i)

      prepared_step : step f u (some (prepare (name x) (uncut f.geometry) i)) ≡ concluded (over e.store) e false
      prepared_step = acting f u (prepare (name x) (uncut f.geometry) i) open_prepare ∙ as_prepared

      kept : (r : ℕ) → f.medium.settled e.store r ≡ f.medium.settled d r
      kept r =
          L.prepare_settled u.store (u.version (name x)) i (uncut f.geometry) r clear holds_it.0 holds_it.1
          ∙ ap (λ (v : f.medium.Store). f.medium.settled v r) M.store_is

      waits : 0 < changed_in f.geometry (s.version x) → Waits i (concluded (over e.store) e false)
      unfolding concluded number_of
      waits some_one = record {
        right = refl;
        still_up = unfold ended in O.ready;
        idle = λ a. alone e.store a (same_cases a (name x));
        now_is = λ r. unfold ended in kept r;
        identity = unfold ended in W.0;
        pending = λ r. unfold ended in W.1 r ∙ ap (λ (v : ℕ → Option Page). v r) same_versions;
      }
        where
          W : (f.medium.prepared e.store ≡ some i) × ((r : ℕ) → f.medium.pending e.store r ≡ u.version (name x) r) × (0 < e.made)
          W = L.prepare_taken u.store (u.version (name x)) i (uncut f.geometry) (O.reached.sound.ranged (name x)) holds_it.0 holds_it.1 (rw same_versions some_one) (L.prepare_uncut u.store (u.version (name x)) i)

      pub follow_waits : 0 < changed_in f.geometry (s.version x) → Waits i (step f u (some (prepare (name x) (uncut f.geometry) i)))
      follow_waits some_one = subst⁻¹ (λ (o : OutcomeOf f). Waits i o) prepared_step (waits some_one)

      -- one that changed nothing just commits
      commits_by : changed_in f.geometry (s.version x) ≡ 0 → Closes (concluded (over e.store) e false)
      unfolding concluded number_of
      commits_by none_changed = record {
        right = refl;
        still_up = unfold ended in O.ready;
        idle = λ a. alone e.store a (same_cases a (name x));
        now_is = λ r. unfold ended in kept r ∙ bare r (s.version x r) refl;
        same_identity = unfold ended in ap f.medium.prepared stays;
        same_pending = λ r. unfold ended in ap (λ (v : f.medium.Store). f.medium.pending v r) stays;
      }
        where
          stays : e.store ≡ d
          stays = (L.prepare_none u.store (u.version (name x)) i (uncut f.geometry) (rw same_versions none_changed)).0 ∙ M.store_is

          bare : (r : ℕ) (o : Option Page) → s.version x r ≡ o → f.medium.settled d r ≡ else o (f.medium.settled d r)
          bare r none q = unfold else in refl
          bare r (some p) q = unfold is_some changed_in in
              let v : is_some (s.version x r) ≡ true = ap is_some q in
              clash v (count-zero (records f.geometry) (λ j. is_some (s.version x j)) none_changed r (S.ranged x r v))

      pub follow_closes : changed_in f.geometry (s.version x) ≡ 0 → Closes (step f u (some (prepare (name x) (uncut f.geometry) i)))
      follow_closes none_changed = subst⁻¹ (λ (o : OutcomeOf f). Closes o) prepared_step (commits_by none_changed)
