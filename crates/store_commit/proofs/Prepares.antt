-- The page writes of a prepare and of a decision as phases, and the rules' cut of them.
use mathlib.Core.Path.{◌≡◌, refl, sym, ap, ap₂, subst, subst⁻¹, ◌∙◌}
use mathlib.Core.Bool.{Bool, true, false, ◌&&◌}
use mathlib.Core.List.{List, [], ◌∷◌, ◌++◌}
use mathlib.Core.Logic.{◌≢◌}
use mathlib.Core.Option.{Option, some}
use Prim.Native.Nat.{ℕ, ◌+◌, ◌-◌, ◌^◌, ◌<◌}
use native.Mathlib.Omega.{arith}
use Rattle.laws.specs.Tests.{same}
use Rattle.laws.specs.Counting.{those}
use Rattle.laws.proofs.Tests.{lt-under}
use Rattle.laws.proofs.Those.{those_same, those-none}
use Rattle.rules.specs.Geometry.{Geometry, records}
use Rattle.rules.specs.Store.{Page, Pages, intention, home, map_of, named, commit_page, Prepared, prepared_page, read_prepared, prepared_map, is_reserved}
use Rattle.rules.specs.Versions.{is_some}
use Rattle.rules.specs.Commit.{PageWrite, sets, cut_at, page_in, intentions, homes, marks, recover_writes, prepare_writes, decide_writes, prepare_at, decide_at, prepare_plan, decide_plan}
use Rattle.rules.proofs.Map.{named-zero}
use Rattle.rules.proofs.PreparedPage.{prepared_is}
use Rattle.leaf_commit_page.specs.Heard.{prepared}
use Rattle.store_write.specs.Phase.{WritesPhase, PageWritesDone}
use Rattle.store_write.proofs.Phases.{phase_then, phase_last, phase_none, none_left, as_spent}
use Rattle.store_commit.specs.Phase.{sweep, copies, top_slot, versions_in}
use Rattle.store_commit.proofs.Plans.{slots_are, recover_some, some-named, those_is, map_is, intentions_are}
use Rattle.store_commit.proofs.Sweeps.{sweep_same, kept_mark}

prepare_some : (g : Geometry) (new : ℕ → Page) (p : Prepared) (rs : List ℕ) → rs ≢ [] → prepare_writes g new p rs ≡ intentions g new rs ++ (sets 0 (prepared_page g p) ∷ [])
unfolding prepare_writes
prepare_some g new p [] h = absurd (h refl)
prepare_some g new p (r ∷ rs) h = refl

-- the one phase of a decision to abort
pub struck_leaves : (g : Geometry) {s s₁ : Pages} {k a : ℕ} → WritesPhase false k (sets 0 (commit_page g 0) ∷ []) s s₁ a → PageWritesDone (decide_at g s false k) s₁ (k - a) (same k 0)
unfolding decide_at decide_writes marks
struck_leaves g {k = k} p = as_spent k (phase_last phase_none p)

module _ (g : Geometry) (n : ℕ) (many : records g ≡ n) where
  module _ (map : ℕ) (work : List ℕ) (i : ℕ) where
    pub prepare_is : map < 2 ^ n → map ≢ 0
        → prepare_plan g (versions_in g map work) i ≡ sweep (named g map) (copies 1 (top_slot work)) n ++ (sets 0 (prepared_page g (prepared map i)) ∷ [])
    prepare_is small h =
        ap₂ (λ (m : ℕ) (rs : List ℕ). prepare_writes g (page_in (versions_in g map work)) (prepared m i) rs)
        (map_is g n many map (versions_in g map work) (top_slot work) (slots_are g n many map work) small)
        (those_is g n many map (versions_in g map work) (top_slot work) (slots_are g n many map work))
        ∙ prepare_some g (page_in (versions_in g map work)) (prepared map i) (those n (named g map)) (some-named g n many map small h)
        ∙ ap (λ (a : List PageWrite). a ++ (sets 0 (prepared_page g (prepared map i)) ∷ [])) (intentions_are g n many map (versions_in g map work) (top_slot work) (slots_are g n many map work))

    -- a prepare of no record
    pub prepare_nothing : map ≡ 0 → prepare_plan g (versions_in g map work) i ≡ []
    unfolding prepare_writes
    prepare_nothing e =
        ap (prepare_writes g (page_in (versions_in g map work)) (record { map = map_of g (λ r. is_some (versions_in g map work r)); identity = i }))
        (those_is g n many map (versions_in g map work) (top_slot work) (slots_are g n many map work) ∙ ap (λ (m : ℕ). those n (named g m)) e ∙ those-none n (named-zero g))

    pub prepare_none : (s : Pages) (k : ℕ) → map ≡ 0 → PageWritesDone (prepare_at g s (versions_in g map work) i k) s 0 false
    unfolding prepare_at
    prepare_none s k e = none_left false k s (prepare_nothing e)

    -- the two phases of a prepare
    pub prepare_leaves : {s s₁ s₂ : Pages} {k a b : ℕ} → map < 2 ^ n → map ≢ 0
        → WritesPhase false k (sweep (named g map) (copies 1 (top_slot work)) n) s s₁ a → WritesPhase false a (sets 0 (prepared_page g (prepared map i)) ∷ []) s₁ s₂ b
        → PageWritesDone (prepare_at g s (versions_in g map work) i k) s₂ (k - b) (same a 0)
    unfolding prepare_at
    prepare_leaves {s = s} {s₂ = s₂} {k = k} {a = a} {b = b} small h p q =
        subst⁻¹ (λ (ws : List PageWrite). PageWritesDone (cut_at k ws s) s₂ (k - b) (same a 0)) (prepare_is small h) (as_spent a (phase_last p q))

  -- a decision on what is prepared with this map
  module _ (map i k : ℕ) (s : Pages) (says : read_prepared g (s 0) ≡ some (prepared map i)) where
    reserved_is : (r : ℕ) → r < n → is_reserved g s r ≡ named g map r
    unfolding is_reserved prepared_map
    reserved_is r lt =
        ap₂ (λ (b : Bool) (o : Option Prepared). b && named g (prepared_map o) r) (lt-under r (records g) (subst (λ (j : ℕ). r < j) (sym many) lt)) says

    reserves_are : those (records g) (is_reserved g s) ≡ those n (named g map)
    reserves_are = ap (λ (j : ℕ). those j (is_reserved g s)) many ∙ those_same n reserved_is

    small : map < 2 ^ n
    small = subst (λ (j : ℕ). map < 2 ^ j) many (prepared_is g (s 0) (prepared map i) says).1.map-fits

    some-map : map ≢ 0
    some-map = (prepared_is g (s 0) (prepared map i) says).1.some_record

    returns_are : (planned : ℕ → Page) → ((j : ℕ) → planned j ≡ s (1 + j))
        → homes g (λ r. s (intention r)) (those n (named g map)) ≡ sweep (named g map) (copies (1 + n) planned) n
    unfolding homes sweep home copies intention
    returns_are planned e = sweep_same n (named g map) _ _ (λ r lt q. ap₂ sets (omega (arith, many)) (sym (e r)))

    pub decision_is : (planned : ℕ → Page) → ((j : ℕ) → planned j ≡ s (1 + j))
        → decide_plan g s true ≡ ((marks g map ∷ []) ++ sweep (named g map) (copies (1 + n) planned) n) ++ (marks g 0 ∷ [])
    unfolding decide_writes prepared_map
    decision_is planned e =
        ap₂ (λ (o : Option Prepared) (rs : List ℕ). marks g (prepared_map o) ∷ recover_writes g (λ r. s (intention r)) rs) says reserves_are
        ∙ ap (λ (l : List PageWrite). marks g map ∷ l)
        (recover_some g (λ r. s (intention r)) (those n (named g map)) (some-named g n many map small some-map)
        ∙ ap (λ (l : List PageWrite). l ++ (marks g 0 ∷ [])) (returns_are planned e))

    -- the three phases of a decision to commit
    pub decided_leaves : {s₁ s₂ s₃ : Pages} {a b c : ℕ}
        → WritesPhase false k (sets 0 (commit_page g map) ∷ []) s s₁ a → WritesPhase false a (sweep (named g map) (copies (1 + n) (λ r. s₁ (1 + r))) n) s₁ s₂ b
        → WritesPhase false b (sets 0 (commit_page g 0) ∷ []) s₂ s₃ c
        → PageWritesDone (decide_at g s true k) s₃ (k - c) (same b 0)
    unfolding decide_at marks
    decided_leaves {s₁ = s₁} {s₃ = s₃} {b = b} {c = c} p q t =
        subst⁻¹ (λ (ws : List PageWrite). PageWritesDone (cut_at k ws s) s₃ (k - c) (same b 0))
        (decision_is (λ r. s₁ (1 + r)) (λ j. kept_mark k (commit_page g map) p j))
        (as_spent b (phase_last (phase_then p q) t))
