-- The page writes of a commit and of a recovery as phases: a sweep over the records, a commit page, and so on; and the rules' cut of them.
use mathlib.Core.Path.{◌≡◌, refl, sym, ap, ap₂, subst, subst⁻¹, ◌∙◌, fun_ext}
use mathlib.Core.Bool.{Bool, true, false, cond, ◌&&◌, true≢false}
use mathlib.Core.List.{List, [], ◌∷◌, ◌++◌, map, append_assoc}
use mathlib.Core.Logic.{◌≢◌}
use mathlib.Core.Option.{Option, none, some}
use Prim.Native.Nat.{ℕ, ◌+◌, ◌^◌, ◌<◌}
use native.Mathlib.Omega.{arith}
use lib.Pow.{pow_pos}
use Rattle.laws.specs.Tests.{under}
use Rattle.laws.specs.Counting.{those}
use Rattle.laws.proofs.Tests.{lt-under, Is, is_cases, yes', no'}
use Rattle.laws.proofs.Those.{those_same, those-none}
use Rattle.rules.specs.Geometry.{Geometry, records}
use Rattle.rules.specs.Store.{Page, Pages, intention, home, map_of, named, commit_page, read_commit, map_in, is_named}
use Rattle.rules.specs.Versions.{is_some, else}
use Rattle.rules.specs.Commit.{PageWrite, sets, Cut, page_in, intentions, homes, marks, commit_writes, recover_writes, commit_plan, recover_plan, commit_at, recover_at}
use Rattle.rules.proofs.CommitPage.{read_is}
use Rattle.rules.proofs.Map.{map_of-named, map_of-same, named-zero, names-none}
use Rattle.rules.proofs.Members.{those-all}
use Rattle.rules.specs.State.{mem}
use Rattle.rules.specs.Pairs.{shown, mended, commit_pairs, recover_pairs}
use Rattle.rules.specs.Editions.{medium_of}
use Rattle.rules.proofs.Pairs.{shows_mend}
use Rattle.store_write.specs.Phase.{StoreOf, store_of, shown_in, mended_in, cut_on, write_share, WritesPhase, made_of, PageWritesDone}
use Rattle.store_write.proofs.Phases.{phase_then, phase_last, none_left}
use Rattle.store_commit.specs.Phase.{sweep, copies, top_slot, versions_in}
use Rattle.store_commit.proofs.Sweeps.{sweep_same}

-- mending shows what was shown
shown_mended : (b : Bool) (s : StoreOf b) → shown_in b (mended_in b s) ≡ shown_in b s
unfolding shown mended
shown_mended false s = refl
shown_mended true s = fun_ext (λ n. shows_mend (s n))

-- something to write
commit_some : (g : Geometry) (new : ℕ → Page) (m : ℕ) (rs : List ℕ) → rs ≢ []
    → commit_writes g new m rs ≡ (intentions g new rs ++ ((marks g m ∷ []) ++ homes g new rs)) ++ (marks g 0 ∷ [])
unfolding commit_writes
commit_some g new m [] h = absurd (h refl)
commit_some g new m (r ∷ rs) h = sym (append_assoc (intentions g new (r ∷ rs)) (marks g m ∷ homes g new (r ∷ rs)) (marks g 0 ∷ []))

pub recover_some : (g : Geometry) (new : ℕ → Page) (rs : List ℕ) → rs ≢ [] → recover_writes g new rs ≡ homes g new rs ++ (marks g 0 ∷ [])
unfolding recover_writes
recover_some g new [] h = absurd (h refl)
recover_some g new (r ∷ rs) h = refl

-- the map in force has a bit for each record
in_force_lt : (g : Geometry) (page : Page) → map_in (read_commit g page) < 2 ^ records g
unfolding map_in
in_force_lt g page = go (read_commit g page) refl
  where
    go : (o : Option ℕ) → read_commit g page ≡ o → map_in o < 2 ^ records g
    go none e = pow_pos (records g)
    go (some m) e = (read_is g page m e).1

module _ (g : Geometry) (n : ℕ) (many : records g ≡ n) where
  -- a map that isn't 0 names some record
  pub some-named : (map : ℕ) → map < 2 ^ n → map ≢ 0 → those n (named g map) ≢ []
  unfolding mem
  some-named map small h e =
      h (names-none g map (subst (λ (k : ℕ). map < 2 ^ k) (sym many) small) (λ r lt. go r (subst (λ (k : ℕ). r < k) many lt) (is_cases (named g map r))))
    where
      go : (r : ℕ) → r < n → Is (named g map r) → named g map r ≡ false
      go r lt (no' q) = q
      go r lt (yes' q) = absurd (true≢false (sym (those-all n (named g map) r lt q) ∙ ap (mem r) e))

  -- the working buffer's versions of the records that a map names
  pub slots_are : (map : ℕ) (work : List ℕ) (r : ℕ) → r < n → versions_in g map work r ≡ cond (named g map r) (some (top_slot work r)) none
  unfolding versions_in
  slots_are map work r lt =
      ap (λ (x : Bool). cond (x && named g map r) (some (top_slot work r)) none) (lt-under r (records g) (subst (λ (k : ℕ). r < k) (sym many) lt))

  -- versions of the records that a map names, as the sweeps see them
  module _ (map : ℕ) (v : ℕ → Option Page) (new : ℕ → Page) (are : (r : ℕ) → r < n → v r ≡ cond (named g map r) (some (new r)) none) where
    changed_is : (r : ℕ) → r < n → is_some (v r) ≡ named g map r
    unfolding is_some
    changed_is r lt = ap is_some (are r lt) ∙ go (named g map r)
      where
        go : (b : Bool) → is_some (cond b (some (new r)) none) ≡ b
        go true = refl
        go false = refl

    page_is : (r : ℕ) → r < n → named g map r ≡ true → page_in v r ≡ new r
    unfolding page_in else
    page_is r lt e = ap (λ o. else o []) (are r lt ∙ ap (λ (b : Bool). cond b (some (new r)) none) e)

    pub those_is : those (records g) (λ r. is_some (v r)) ≡ those n (named g map)
    those_is = ap (λ (k : ℕ). those k (λ r. is_some (v r))) many ∙ those_same n changed_is

    pub map_is : map < 2 ^ n → map_of g (λ r. is_some (v r)) ≡ map
    map_is small =
        map_of-same g (λ r. is_some (v r)) (named g map) (λ r lt. changed_is r (subst (λ (k : ℕ). r < k) many lt))
        ∙ map_of-named g map (subst (λ (k : ℕ). map < 2 ^ k) (sym many) small)

    pub intentions_are : intentions g (page_in v) (those n (named g map)) ≡ sweep (named g map) (copies 1 new) n
    unfolding intentions sweep intention copies
    intentions_are = sweep_same n (named g map) _ _ (λ r lt e. ap (sets (1 + r)) (page_is r lt e))

    homes_are : homes g (page_in v) (those n (named g map)) ≡ sweep (named g map) (copies (1 + n) new) n
    unfolding homes sweep home copies
    homes_are = sweep_same n (named g map) _ _ (λ r lt e. ap₂ sets (omega (arith, many)) (page_is r lt e))

    pub commit_is : map < 2 ^ n → map ≢ 0
        → commit_plan g v
        ≡ (sweep (named g map) (copies 1 new) n ++ ((marks g map ∷ []) ++ sweep (named g map) (copies (1 + n) new) n)) ++ (marks g 0 ∷ [])
    commit_is small h =
        ap₂ (commit_writes g (page_in v)) (map_is small) those_is
        ∙ commit_some g (page_in v) map (those n (named g map)) (some-named map small h)
        ∙ ap₂ (λ (a b : List PageWrite). (a ++ ((marks g map ∷ []) ++ b)) ++ (marks g 0 ∷ [])) intentions_are homes_are

    -- a commit of no record
    pub commit_nothing : map ≡ 0 → commit_plan g v ≡ []
    unfolding commit_writes
    commit_nothing e =
        ap (commit_writes g (page_in v) (map_of g (λ r. is_some (v r)))) (those_is ∙ ap (λ (m : ℕ). those n (named g m)) e ∙ those-none n (named-zero g))

    pub commit_none : (b : Bool) (s : StoreOf b) (k : ℕ) → map ≡ 0 → PageWritesDone (cut_on b k (commit_plan g v) s) s 0 false
    commit_none b s k e = none_left b k s (commit_nothing e)

    -- the four phases of a commit
    pub commit_leaves : {b : Bool} {s s₁ s₂ s₃ s₄ : StoreOf b} {k a c d e : ℕ} → map < 2 ^ n → map ≢ 0
        → WritesPhase b k (sweep (named g map) (copies 1 new) n) s s₁ a → WritesPhase b a (sets 0 (commit_page g map) ∷ []) s₁ s₂ c
        → WritesPhase b c (sweep (named g map) (copies (1 + n) new) n) s₂ s₃ d → WritesPhase b d (sets 0 (commit_page g 0) ∷ []) s₃ s₄ e
        → PageWritesDone (cut_on b k (commit_plan g v) s) s₄ (made_of b k d e) (under d (write_share b))
    unfolding marks
    commit_leaves {b} {s = s} {s₄ = s₄} {k = k} {d = d} {e = e} small h p q r t =
        subst⁻¹ (λ (ws : List PageWrite). PageWritesDone (cut_on b k ws s) s₄ (made_of b k d e) (under d (write_share b))) (commit_is small h)
        (phase_last (phase_then p (phase_then q r)) t)

  -- a recovery over a commit page whose map in force is this
  module _ (map k : ℕ) (s : Pages) (says : map_in (read_commit g (s 0)) ≡ map) where
    small : map < 2 ^ n
    small = subst (λ (m : ℕ). m < 2 ^ n) says (subst (λ (j : ℕ). map_in (read_commit g (s 0)) < 2 ^ j) many (in_force_lt g (s 0)))

    named_is : (r : ℕ) → r < n → is_named g s r ≡ named g map r
    unfolding is_named
    named_is r lt = ap₂ (λ (b : Bool) (m : ℕ). b && named g m r) (lt-under r (records g) (subst (λ (j : ℕ). r < j) (sym many) lt)) says

    names_are : those (records g) (is_named g s) ≡ those n (named g map)
    names_are = ap (λ (j : ℕ). those j (is_named g s)) many ∙ those_same n named_is

    pub recover_nothing : map ≡ 0 → recover_plan g s ≡ []
    unfolding recover_writes
    recover_nothing e = ap (recover_writes g (λ r. s (intention r))) (names_are ∙ ap (λ (m : ℕ). those n (named g m)) e ∙ those-none n (named-zero g))

    returns_are : homes g (λ r. s (intention r)) (those n (named g map)) ≡ sweep (named g map) (copies (1 + n) (λ r. s (1 + r))) n
    unfolding homes sweep home copies intention
    returns_are = sweep_same n (named g map) _ _ (λ r lt e. ap (λ (j : ℕ). sets j (s (1 + r))) (omega (arith, many)))

    pub recovery_is : map ≢ 0 → recover_plan g s ≡ sweep (named g map) (copies (1 + n) (λ r. s (1 + r))) n ++ (marks g 0 ∷ [])
    recovery_is h =
        ap (recover_writes g (λ r. s (intention r))) names_are
        ∙ recover_some g (λ r. s (intention r)) (those n (named g map)) (some-named map small h)
        ∙ ap (λ (l : List PageWrite). l ++ (marks g 0 ∷ [])) returns_are

  -- a recovery of a store that shows such a commit page: its page writes begin with the store mended
  module _ (b : Bool) (map k : ℕ) (s : StoreOf b) (says : map_in (read_commit g (shown_in b s 0)) ≡ map) {s₀ : StoreOf b} (mends : s₀ ≡ mended_in b s) where
    pub recover_none : map ≡ 0 → PageWritesDone (cut_on b k (recover_plan g (shown_in b s)) (mended_in b s)) s₀ 0 false
    recover_none e =
        subst⁻¹ (λ (t : StoreOf b). PageWritesDone (cut_on b k (recover_plan g (shown_in b s)) (mended_in b s)) t 0 false) mends
        (none_left b k (mended_in b s) (recover_nothing map k (shown_in b s) says e))

    planned : map ≢ 0 → recover_plan g (shown_in b s) ≡ sweep (named g map) (copies (1 + n) (λ r. shown_in b s₀ (1 + r))) n ++ (marks g 0 ∷ [])
    planned h =
        recovery_is map k (shown_in b s) says h
        ∙ ap (λ (t : Pages). sweep (named g map) (copies (1 + n) (λ r. t (1 + r))) n ++ (marks g 0 ∷ [])) (sym (ap (shown_in b) mends ∙ shown_mended b s))

    -- its two phases
    pub recover_leaves : {s₁ s₂ : StoreOf b} {a c : ℕ} → map ≢ 0
        → WritesPhase b k (sweep (named g map) (copies (1 + n) (λ r. shown_in b s₀ (1 + r))) n) s₀ s₁ a → WritesPhase b a (sets 0 (commit_page g 0) ∷ []) s₁ s₂ c
        → PageWritesDone (cut_on b k (recover_plan g (shown_in b s)) (mended_in b s)) s₂ (made_of b k a c) (under a (write_share b))
    unfolding marks
    recover_leaves {s₂ = s₂} {a = a} {c = c} h p q =
        subst (λ (t : StoreOf b). PageWritesDone (cut_on b k (recover_plan g (shown_in b s)) t) s₂ (made_of b k a c) (under a (write_share b))) mends
        (subst⁻¹ (λ (ws : List PageWrite). PageWritesDone (cut_on b k ws s₀) s₂ (made_of b k a c) (under a (write_share b))) (planned h) (phase_last p q))

-- what is told of a cut, in other words
pub told : {S : Type 0} {c : Cut S} {t : S} {m m' : ℕ} {d d' : Bool} → m ≡ m' → d ≡ d' → PageWritesDone c t m' d' → PageWritesDone c t m d
told e f L = record { store = L.store; made = e ∙ L.made; crashed = f ∙ L.crashed }

-- the rules' cut, by the medium
pub by_commit : (b : Bool) (g : Geometry) (bs bs' : List ℕ) (v : ℕ → Option Page) (k m : ℕ) (d : Bool)
    → PageWritesDone (cut_on b k (commit_plan g v) (store_of b bs)) (store_of b bs') m d
    → PageWritesDone ((medium_of b g).commit ((medium_of b g).from_bytes bs) v k) ((medium_of b g).from_bytes bs') m d
unfolding commit_at commit_pairs
by_commit false g bs bs' v k m d L = L
by_commit true g bs bs' v k m d L = L

pub by_recovery : (b : Bool) (g : Geometry) (bs bs' : List ℕ) (k m : ℕ) (d : Bool)
    → PageWritesDone (cut_on b k (recover_plan g (shown_in b (store_of b bs))) (mended_in b (store_of b bs))) (store_of b bs') m d
    → PageWritesDone ((medium_of b g).recover ((medium_of b g).from_bytes bs) k) ((medium_of b g).from_bytes bs') m d
unfolding recover_at recover_pairs
by_recovery false g bs bs' k m d L = L
by_recovery true g bs bs' k m d L = L
