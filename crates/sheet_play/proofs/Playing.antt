-- The events of a sheet, played on a state that is up with no live transaction: at each of them the live transactions are 0, 1 and so on, each the
-- child of the one before. So each begin gives the next number, and no end is refused.
use mathlib.Core.Path.{◌≡◌, refl, sym, ◌∙◌, ap, ap₂, subst, fun_ext}
use mathlib.Core.Bool.{Bool, true, false, not, cond, ◌&&◌, ◌||◌, true≢false, false≢true}
use mathlib.Core.List.{List, [], ◌∷◌, ◌++◌}
use mathlib.Core.Logic.{dite}
use mathlib.Core.Option.{Option, none, some}
use Prim.Native.Nat.{ℕ, zero, suc, ◌+◌, ◌-◌, ◌≤◌, ◌<◌}
use native.Mathlib.Decide.{dec_lt, ℕ_discrete}
use native.Mathlib.Omega.{arith}
use Rattle.laws.specs.Tests.{same, under}
use Rattle.laws.specs.Counting.{all, lowest}
use Rattle.laws.specs.Functions.{updated}
use Rattle.laws.proofs.Tests.{same_refl, ne_false, lt-under, under-lt, Is, is_cases, yes', no'}
use Rattle.laws.proofs.Booleans.{refute, or_right, and_right}
use Rattle.laws.proofs.Counting.{all_true_lem, any_of, Lowest, found, missing, lowest_is}
use Rattle.rules.specs.Geometry.{nobody}
use Rattle.rules.specs.Event.{Event, begin, lock, write, read, commit, abort, to_write}
use Rattle.rules.specs.State.{Bearer, Bearers, free, active, is_active, parent_in, depth_in, line_from, line_of, mem, live}
use Rattle.rules.specs.Form.{Form}
use Rattle.rules.specs.Store.{Page}
use Rattle.rules.specs.Step.{done, refused, first_of, is_busy, is_top, has_child, first_free, begun, ended, concluded, StateOf, OutcomeOf, changes, busy, refusals, refusal, act, outcome_by, step, commits, commits_top, open_step}
use Rattle.sheet_text.specs.Sheet.{Steps, locking, writing, reading, inner, Sheet, steps_depth, end_event, step_events, events}
use Rattle.sheet_text.specs.Sheet as sheet
use Rattle.sheet_play.specs.Plays.{TopCommit, whole, meets, Commits, InStep}
use Rattle.sheet_text.proofs.Texts.{greater_left, greater_right}

-- the parent of number j, and the bearers where 0 to d - 1 are live
unfoldable pub parent_no : ℕ → ℕ
parent_no zero = nobody
parent_no (suc j) = j

unfoldable pub nest : ℕ → Bearers
nest d j = cond (under j d) (active (parent_no j) (suc j)) free

not-lt : (a b : ℕ) → b ≤ a → under a b ≡ false
not-lt a b h = refute (under a b) (λ e. let z = under-lt a b e in omega arith)

nest_in : (d j : ℕ) → j < d → nest d j ≡ active (parent_no j) (suc j)
unfolding nest
nest_in d j h = ap (λ (b : Bool). cond b (active (parent_no j) (suc j)) free) (lt-under j d h)

pub nest_out : (d j : ℕ) → d ≤ j → nest d j ≡ free
unfolding nest
nest_out d j h = ap (λ (b : Bool). cond b (active (parent_no j) (suc j)) free) (not-lt j d h)

parent_depth : (d : ℕ) → depth_in (nest d (parent_no d)) ≡ d
unfolding parent_no depth_in
parent_depth zero = ap depth_in (nest_out 0 nobody (omega arith))
parent_depth (suc j) = ap depth_in (nest_in (suc j) j (omega arith))

-- one more, one fewer
nest_more : (d : ℕ) → updated d (active (parent_no d) (suc d)) (nest d) ≡ nest (suc d)
unfolding updated
nest_more d = fun_ext (λ j. dite (ℕ_discrete j d)
    (λ e. ap (λ (b : Bool). cond b (active (parent_no d) (suc d)) (nest d j)) (ap (λ (n : ℕ). same n d) e ∙ same_refl d) ∙ sym (nest_in (suc d) d (omega arith)) ∙ ap (nest (suc d)) (sym e))
    (λ n. ap (λ (b : Bool). cond b (active (parent_no d) (suc d)) (nest d j)) (ne_false j d n) ∙ dite (dec_lt j d)
    (λ l. nest_in d j l ∙ sym (nest_in (suc d) j (omega arith)))
    (λ l. nest_out d j (omega arith) ∙ sym (nest_out (suc d) j (omega arith)))))

nest_fewer : (d : ℕ) (dead : ℕ → Bool) → dead d ≡ true → ((j : ℕ) → j < d → dead j ≡ false) → (λ (j : ℕ). cond (dead j) free (nest (suc d) j)) ≡ nest d
nest_fewer d dead p q = fun_ext (λ j. dite (dec_lt j d)
    (λ l. ap (λ (b : Bool). cond b free (nest (suc d) j)) (q j l) ∙ nest_in (suc d) j (omega arith) ∙ sym (nest_in d j l))
    (λ l. dite (ℕ_discrete j d)
    (λ e. ap (λ (b : Bool). cond b free (nest (suc d) j)) (ap dead e ∙ p) ∙ sym (nest_out d j (omega arith)))
    (λ n. ap (λ (c : Bearer). cond (dead j) free c) (nest_out (suc d) j (omega arith)) ∙ same_both (dead j) ∙ sym (nest_out d j (omega arith)))))
  where
    same_both : (b : Bool) → cond b free free ≡ free
    same_both true = refl
    same_both false = refl

-- a line goes down from its number
chain_below : (d n j x : ℕ) → j < x → j < d → n ≤ suc j → mem x (line_from (nest d) n j) ≡ false
unfolding mem line_from parent_in parent_no
chain_below d zero j x h k l = refl
chain_below d (suc n) zero x h k l =
    let z : n ≡ 0 = omega arith in
    ap₂ ◌||◌ (ne_false x 0 (λ e. omega arith)) (ap (λ (m : ℕ). mem x (line_from (nest d) m (parent_in (nest d 0)))) z)
chain_below d (suc n) (suc j) x h k l =
    ap₂ ◌||◌ (ne_false x (suc j) (λ e. omega arith)) (ap (λ (c : Bearer). mem x (line_from (nest d) n (parent_in c))) (nest_in d (suc j) k) ∙ chain_below d n j x (omega arith) (omega arith) (omega arith))

-- no other's parent is the last
parent_other : (u d : ℕ) → d < 16 → u < suc d → same (parent_in (active (parent_no u) (suc u))) d ≡ false
unfolding parent_in parent_no
parent_other zero d h l = ne_false 31 d (λ e. omega arith)
parent_other (suc j) d h l = ne_false j d (λ e. omega arith)

known_parent : (d : ℕ) (p : ℕ → Bool) → ((j : ℕ) → j < d → p j ≡ true) → (same (parent_no d) nobody || p (parent_no d)) ≡ true
unfolding parent_no same
known_parent zero p h = refl
known_parent (suc j) p h = or_right (same j nobody) (p j) (h j (omega arith))

last_dies : (d : ℕ) → mem d (line_of (nest (suc d)) d) ≡ true
unfolding line_of mem line_from depth_in
last_dies d = ap (λ (c : Bearer). mem d (line_from (nest (suc d)) (depth_in c) d)) (nest_in (suc d) d (omega arith)) ∙ ap (λ (b : Bool). b || mem d (line_from (nest (suc d)) d (parent_in (nest (suc d) d)))) (same_refl d)

others_live : (d j : ℕ) → j < d → mem d (line_of (nest (suc d)) j) ≡ false
unfolding line_of depth_in
others_live d j h = ap (λ (c : Bearer). mem d (line_from (nest (suc d)) (depth_in c) j)) (nest_in (suc d) j (omega arith)) ∙ chain_below (suc d) (suc j) j d h (omega arith) (omega arith)

-- A form in which 16 transactions nest and a commit with count 63 isn't cut, and a store.
module _ (f : Form) (limit : f.geometry.depth_limit ≡ 16) (enough : (o : f.medium.Store) (v : ℕ → Option Page) → (f.medium.commit o v 63).crashed ≡ false) (base : f.medium.Store) where
  -- a transaction is prepared in that store
  abbrev pub beside : Bool
  beside = is_busy (f.medium.prepared base)

  -- up over that store, with 0 to d - 1 live
  pub record Nested (d : ℕ) (s : StateOf f) : Type 0 where
    pub up : s.up ≡ true
    pub bearer : s.bearer ≡ nest d
    pub store : s.store ≡ base

  live_in : (d j : ℕ) (s : StateOf f) → Nested d s → j < d → live s j ≡ true
  unfolding live is_active
  live_in d j s n h = ap (λ (b : Bearers). is_active (b j)) n.bearer ∙ ap is_active (nest_in d j h)

  live_out : (d j : ℕ) (s : StateOf f) → Nested d s → d ≤ j → live s j ≡ false
  unfolding live is_active
  live_out d j s n h = ap (λ (b : Bearers). is_active (b j)) n.bearer ∙ ap is_active (nest_out d j h)

  first_free_lem : (d : ℕ) (s : StateOf f) → Nested d s → d < 24 → first_free s ≡ d
  unfolding first_free
  first_free_lem d s n h = go (lowest_is 24 (λ t. not (live s t)))
    where
      go : Lowest 24 (λ t. not (live s t)) 0 (lowest 24 (λ t. not (live s t))) → lowest 24 (λ t. not (live s t)) ≡ d
      go (found q l k) = dite (dec_lt d (lowest 24 (λ t. not (live s t))))
          (λ a. absurd (true≢false (ap not (sym (live_out d d s n (omega arith))) ∙ k d (omega arith) a)))
          (λ a. dite (dec_lt (lowest 24 (λ t. not (live s t))) d)
          (λ b. absurd (false≢true (ap not (sym (live_in d (lowest 24 (λ t. not (live s t))) s n b)) ∙ q)))
          (λ b. omega arith))
      go (missing q k) = absurd (true≢false (ap not (sym (live_out d d s n (omega arith))) ∙ k d (omega arith) (omega arith)))

  not-all : (d : ℕ) (s : StateOf f) → Nested d s → d < 24 → all 24 (live s) ≡ false
  not-all d s n h = refute (all 24 (live s)) (λ e. true≢false (sym (all_true_lem 24 (live s) d e h) ∙ live_out d d s n (omega arith)))

  no_child : (d : ℕ) (s : StateOf f) → Nested (suc d) s → d < 16 → has_child s d ≡ false
  unfolding has_child
  no_child d s n h = any_of 24 (λ u. live s u && same (parent_in (s.bearer u)) d) (λ u k. dite (dec_lt u (suc d))
      (λ l. ap (λ (b : Bearers). live s u && same (parent_in (b u)) d) n.bearer ∙ ap (λ (c : Bearer). live s u && same (parent_in c) d) (nest_in (suc d) u l) ∙ and_no (live s u) (other u l))
      (λ l. ap (λ (b : Bool). b && same (parent_in (s.bearer u)) d) (live_out (suc d) u s n (omega arith))))
    where
      and_no : (a : Bool) {b : Bool} → b ≡ false → (a && b) ≡ false
      and_no true e = e
      and_no false e = refl

      other : (u : ℕ) → u < suc d → same (parent_in (active (parent_no u) (suc u))) d ≡ false
      other u l = parent_other u d h l

  -- what is not refused is done
  taken_on : (s : StateOf f) (e : Event) → refusal f s e ≡ none → step f s (some e) ≡ act f s e
  unfolding step outcome_by
  taken_on s e r = ap (outcome_by f s e) r

  begin_accepted : (d : ℕ) (s : StateOf f) → Nested d s → d < 16 → refusal f s (begin (parent_no d)) ≡ none
  unfolding refusal refusals first_of
  begin_accepted d s n h =
      let a = n.up in
      let b = known d s n in
      let c : same (depth_in (s.bearer (parent_no d))) f.geometry.depth_limit ≡ false = ap₂ same (ap (λ (x : Bearers). depth_in (x (parent_no d))) n.bearer ∙ parent_depth d) limit ∙ ne_false d 16 (λ e. omega arith) in
      let g = not-all d s n (omega arith) in
      λ i. first_of ((2, not (a i)) ∷ (5, not (b i)) ∷ (6, c i) ∷ (7, g i) ∷ [])
    where
      known : (d : ℕ) (s : StateOf f) → Nested d s → (same (parent_no d) nobody || live s (parent_no d)) ≡ true
      known d s n = known_parent d (live s) (λ j h. live_in d j s n h)

  -- a begin gives the next number
  pub begins : (d : ℕ) (s : StateOf f) → Nested d s → d < 16 → ((step f s (some (begin (parent_no d)))).answer ≡ done d) × Nested (suc d) (step f s (some (begin (parent_no d)))).state
  unfolding act begun open_step
  begins d s n h =
      let e = taken_on s (begin (parent_no d)) (begin_accepted d s n h) in
      let k = first_free_lem d s n (omega arith) in
      let z : depth_in (s.bearer (parent_no d)) ≡ d = ap (λ (x : Bearers). depth_in (x (parent_no d))) n.bearer ∙ parent_depth d in (
        ap (λ (o : OutcomeOf f). o.answer) e ∙ ap done k,
        record {
          up = ap (λ (o : OutcomeOf f). o.state.up) e ∙ n.up;
          bearer = ap (λ (o : OutcomeOf f). o.state.bearer) e ∙ (λ i. updated (k i) (active (parent_no d) (suc (z i))) (n.bearer i)) ∙ nest_more d;
          store = ap (λ (o : OutcomeOf f). o.state.store) e ∙ n.store;
        },
      )

  abort_accepted : (d : ℕ) (w : Bool) (s : StateOf f) → Nested (suc d) s → refusal f s (abort d w) ≡ none
  unfolding refusal refusals first_of
  abort_accepted d w s n =
      let a = n.up in
      let b = live_in (suc d) d s n (omega arith) in
      λ i. first_of ((2, not (a i)) ∷ (5, not (b i)) ∷ [])

  last_line : (d : ℕ) (s : StateOf f) → Nested (suc d) s → line_of s.bearer d ≡ d ∷ line_from (nest (suc d)) d (parent_no d)
  unfolding line_of line_from depth_in parent_in
  last_line d s n =
      let a = nest_in (suc d) d (omega arith) in
      ap (λ (b : Bearers). line_from b (depth_in (b d)) d) n.bearer ∙ ap (λ (c : Bearer). line_from (nest (suc d)) (depth_in c) d) a ∙ ap (λ (c : Bearer). d ∷ line_from (nest (suc d)) d (parent_in c)) a

  -- an abort
  pub aborts : (d : ℕ) (w : Bool) (s : StateOf f) → Nested (suc d) s → ((step f s (some (abort d w))).answer ≡ done 0) × Nested d (step f s (some (abort d w))).state
  unfolding open_step
  aborts d w s n =
      let e = taken_on s (abort d w) (abort_accepted d w s n) in (
        ap (λ (o : OutcomeOf f). o.answer) e,
        record {
          up = ap (λ (o : OutcomeOf f). o.state.up) e ∙ n.up;
          bearer = ap (λ (o : OutcomeOf f). o.state.bearer) e
              ∙ ap (λ (b : Bearers). (λ (j : ℕ). cond (mem d (line_of b j)) free (b j))) n.bearer
              ∙ nest_fewer d (λ j. mem d (line_of (nest (suc d)) j)) (last_dies d) (others_live d);
          store = ap (λ (o : OutcomeOf f). o.state.store) e ∙ n.store;
        },
      )

  -- a commit of an inner transaction
  not_top : (d : ℕ) (s : StateOf f) → Nested (suc (suc d)) s → is_top (line_of s.bearer (suc d)) ≡ false
  unfolding is_top line_from parent_no
  not_top d s n = ap is_top (last_line (suc d) s n)

  inner_accepted : (d k : ℕ) (s : StateOf f) → Nested (suc (suc d)) s → suc d < 16 → refusal f s (commit (suc d) k) ≡ none
  unfolding refusal refusals first_of
  inner_accepted d k s n h =
      let a = n.up in
      let b = live_in (suc (suc d)) (suc d) s n (omega arith) in
      let c = no_child (suc d) s n h in
      let t = not_top d s n in
      λ i. first_of ((2, not (a i)) ∷ (5, not (b i)) ∷ (10, c i) ∷ (13, t i && (changes f s (suc d) && busy f s)) ∷ [])

  pub commits_inner : (d k : ℕ) (s : StateOf f) → Nested (suc (suc d)) s → suc d < 16 → ((step f s (some (commit (suc d) k))).answer ≡ done 0) × Nested (suc d) (step f s (some (commit (suc d) k))).state
  unfolding open_step line_from parent_no
  commits_inner d k s n h =
      let e = taken_on s (commit (suc d) k) (inner_accepted d k s n h) ∙ ap (commits f s (suc d) k) (last_line (suc d) s n) in (
        ap (λ (o : OutcomeOf f). o.answer) e,
        record {
          up = ap (λ (o : OutcomeOf f). o.state.up) e ∙ n.up;
          bearer = ap (λ (o : OutcomeOf f). o.state.bearer) e
              ∙ ap (λ (b : Bearers). (λ (j : ℕ). cond (same j (suc d)) free (b j))) n.bearer
              ∙ nest_fewer (suc d) (λ j. same j (suc d)) (same_refl (suc d)) (λ j l. ne_false j (suc d) (λ q. omega arith));
          store = ap (λ (o : OutcomeOf f). o.state.store) e ∙ n.store;
        },
      )

  -- and of the top one: refused with 13 exactly where it changed a record and another is prepared
  top_refusal : (s : StateOf f) (b : Bool) → Nested 1 s → (changes f s 0 && busy f s) ≡ b → refusal f s (commit 0 63) ≡ cond b (some 13) none
  unfolding refusal refusals first_of is_top line_from
  top_refusal s b n e =
      let a = n.up in
      let l = live_in 1 0 s n (omega arith) in
      let c = no_child 0 s n (omega arith) in
      let t : is_top (line_of s.bearer 0) ≡ true = ap is_top (last_line 0 s n) in
      λ i. first_of ((2, not (a i)) ∷ (5, not (l i)) ∷ (10, c i) ∷ (13, t i && e i) ∷ [])

  top_whole : (s : StateOf f) → Nested 1 s → refusal f s (commit 0 63) ≡ none → (step f s (some (commit 0 63))).answer ≡ done (f.medium.commit s.store (s.version 0) 63).made
  unfolding act commits commits_top concluded line_from
  top_whole s n r =
      let c = f.medium.commit s.store (s.version 0) 63 in
      ap (λ (o : OutcomeOf f). o.answer) (taken_on s (commit 0 63) r ∙ ap (commits f s 0 63) (last_line 0 s n))
      ∙ ap (λ (b : Bool). (concluded (ended s (λ j. same j 0) c.store) c b).answer) (enough s.store (s.version 0))

  top_refused : (s : StateOf f) → refusal f s (commit 0 63) ≡ some 13 → (step f s (some (commit 0 63))).answer ≡ refused 13
  unfolding step outcome_by
  top_refused s r = ap (λ (o : Option ℕ). (outcome_by f s (commit 0 63) o).answer) r

  is_beside : (s : StateOf f) → Nested 1 s → busy f s ≡ true → beside ≡ true
  unfolding busy
  is_beside s n e = ap (λ (o : f.medium.Store). is_busy (f.medium.prepared o)) (sym n.store) ∙ e

  pub commits_top_lem : (s : StateOf f) → Nested 1 s → TopCommit beside (step f s (some (commit 0 63))).answer
  commits_top_lem s n = go (is_cases (changes f s 0 && busy f s))
    where
      go : Is (changes f s 0 && busy f s) → TopCommit beside (step f s (some (commit 0 63))).answer
      go (yes' e) = meets (is_beside s n (and_right (changes f s 0) (busy f s) e)) (top_refused s (top_refusal s true n e))
      go (no' e) = whole _ (top_whole s n (top_refusal s false n e))

  -- an event that leaves the bearers and the store
  keeps : (d : ℕ) (s : StateOf f) (e : Event) → Nested d s → ((act f s e).state.up ≡ s.up) → ((act f s e).state.bearer ≡ s.bearer) → ((act f s e).state.store ≡ s.store) → Nested d (step f s (some e)).state
  unfolding step outcome_by act
  keeps d s e n p q u = go (refusal f s e)
    where
      go : (o : Option ℕ) → Nested d (outcome_by f s e o).state
      go none = record { up = p ∙ n.up; bearer = q ∙ n.bearer; store = u ∙ n.store }
      go (some m) = n

  -- how a list of events leaves a state, and that all keep in step
  unfoldable pub leaves : StateOf f → List Event → StateOf f
  leaves s [] = s
  leaves s (e ∷ es) = leaves (step f s (some e)).state es

  unfoldable pub AllKeep : StateOf f → List Event → Type 0
  AllKeep s [] = Unit {0}
  AllKeep s (e ∷ es) = InStep beside e (step f s (some e)).answer × AllKeep (step f s (some e)).state es

  leaves_append : (es fs : List Event) (s : StateOf f) → leaves s (es ++ fs) ≡ leaves (leaves s es) fs
  unfolding leaves
  leaves_append [] fs s = refl
  leaves_append (e ∷ es) fs s = leaves_append es fs (step f s (some e)).state

  keep_append : (es fs : List Event) (s : StateOf f) → AllKeep s es → AllKeep (leaves s es) fs → AllKeep s (es ++ fs)
  unfolding leaves AllKeep
  keep_append [] fs s a b = b
  keep_append (e ∷ es) fs s a b = (a.0, keep_append es fs (step f s (some e)).state a.1 b)

  -- all keep in step, and leave 0 to d - 1 live
  pub record Went (s : StateOf f) (es : List Event) (d : ℕ) : Type 0 where
    pub keep : AllKeep s es
    pub nested : Nested d (leaves s es)

  went_append : (es fs : List Event) (s : StateOf f) {m n : ℕ} → Went s es m → Went (leaves s es) fs n → Went s (es ++ fs) n
  went_append es fs s {m} {n} a b = record { keep = keep_append es fs s a.keep b.keep; nested = subst (Nested n) (sym (leaves_append es fs s)) b.nested }

  went_none : (s : StateOf f) (d : ℕ) → Nested d s → Went s [] d
  unfolding leaves AllKeep
  went_none s d n = record { keep = tt; nested = n }

  went_cons : (e : Event) (es : List Event) (s : StateOf f) {d : ℕ} → InStep beside e (step f s (some e)).answer → Went (step f s (some e)).state es d → Went s (e ∷ es) d
  unfolding leaves AllKeep
  went_cons e es s a b = record { keep = (a, b.keep); nested = b.nested }

  went_one : (e : Event) (s : StateOf f) {d : ℕ} → InStep beside e (step f s (some e)).answer → Nested d (step f s (some e)).state → Went s (e ∷ []) d
  went_one e s a b = went_cons e [] s a (went_none _ _ b)

  went_lock : (d r : ℕ) (s : StateOf f) → Nested (suc d) s → Went s (lock d r to_write ∷ []) (suc d)
  unfolding InStep open_step
  went_lock d r s n = went_one _ s tt (keeps (suc d) s (lock d r to_write) n refl refl refl)

  went_write : (d r o v : ℕ) (s : StateOf f) → Nested (suc d) s → Went s (write d r o v ∷ []) (suc d)
  unfolding InStep open_step
  went_write d r o v s n = went_one _ s tt (keeps (suc d) s (write d r o v) n refl refl refl)

  went_read : (d r o : ℕ) (s : StateOf f) → Nested (suc d) s → Went s (read d r o ∷ []) (suc d)
  unfolding InStep open_step
  went_read d r o s n = went_one _ s tt (keeps (suc d) s (read d r o) n refl refl refl)

  went_end : (d : ℕ) (c : Bool) (s : StateOf f) → Nested (suc (suc d)) s → suc d < 16 → Went s (end_event (suc d) c ∷ []) (suc d)
  unfolding InStep Commits end_event
  went_end d true s n h = let a = commits_inner d 63 s n h in went_one _ s a.0 a.1
  went_end d false s n h = let a = aborts (suc d) false s n in went_one _ s a.0 a.1

  begin_inner : (d : ℕ) (s : StateOf f) → Nested (suc d) s → suc d < 16 → InStep beside (begin d) (step f s (some (begin d))).answer × Nested (suc (suc d)) (step f s (some (begin d))).state
  unfolding InStep parent_no
  begin_inner d s n h = let a = begins (suc d) s n h in (a.0 ∙ sym (ap (λ (b : Bool). done (cond b 0 (suc d))) (ne_false d nobody (λ e. omega arith))), a.1)

  went_steps : (t : Steps) (d : ℕ) (s : StateOf f) → Nested (suc d) s → d + steps_depth t ≤ 15 → Went s (step_events d t) (suc d)
  unfolding step_events steps_depth
  went_steps sheet.none d s n h = went_none s (suc d) n
  went_steps (locking t r) d s n h = let a = went_steps t d s n h in went_append (step_events d t) _ s a (went_lock d r _ a.nested)
  went_steps (writing t r o v) d s n h = let a = went_steps t d s n h in went_append (step_events d t) _ s a (went_write d r o v _ a.nested)
  went_steps (reading t r o) d s n h = let a = went_steps t d s n h in went_append (step_events d t) _ s a (went_read d r o _ a.nested)
  went_steps (inner t i c) d s n h =
      let p = greater_left (steps_depth t) (suc (steps_depth i)) (15 - d) (omega arith) in
      let q = greater_right (steps_depth t) (suc (steps_depth i)) (15 - d) (omega arith) in
      let k : d ≤ 15 = omega (arith, h) in
      let a = went_steps t d s n (omega (arith, p, k)) in
      let b = begin_inner d (leaves s (step_events d t)) a.nested (omega (arith, q)) in
      let e = went_steps i (suc d) _ b.1 (omega (arith, q, k)) in
      went_append (step_events d t) _ s a (went_cons (begin d) _ _ b.0 (went_append (step_events (suc d) i) _ _ e (went_end d c _ e.nested (omega (arith, q)))))

  keep_top : (c : Bool) (s : StateOf f) → Nested 1 s → AllKeep s (end_event 0 c ∷ [])
  unfolding AllKeep InStep Commits end_event
  keep_top true s n = (commits_top_lem s n, tt)
  keep_top false s n = ((aborts 0 false s n).0, tt)

  begin_top : (s : StateOf f) → Nested 0 s → InStep beside (begin nobody) (step f s (some (begin nobody))).answer × Nested 1 (step f s (some (begin nobody))).state
  unfolding InStep parent_no same
  begin_top s n = begins 0 s n (omega arith)

  pub keep_sheet : (h : Sheet) (s : StateOf f) → Nested 0 s → steps_depth h.steps ≤ 15 → AllKeep s (events h)
  unfolding AllKeep events
  keep_sheet h s n d =
      let b = begin_top s n in
      let a = went_steps h.steps 0 _ b.1 (omega (arith, d)) in
      (b.0, keep_append (step_events 0 h.steps) _ _ a.keep (keep_top h.commits _ a.nested))
