-- Of each kind of event: the plan that the code makes has the page writes that the rules plan, on either medium.
use mathlib.Core.Path.{◌≡◌, refl, sym, ap, subst, subst⁻¹, ◌∙◌, fun_ext}
use mathlib.Core.Bool.{Bool, true, false, not, cond, ◌&&◌, ◌||◌, true≢false}
use mathlib.Core.List.{List, [], ◌∷◌, append_assoc}
use mathlib.Core.Logic.{◌≢◌}
use mathlib.Core.Option.{Option, none, some}
use Prim.Native.Nat.{ℕ, zero, suc, ◌+◌, ◌^◌, ◌<◌, ◌≤◌}
use native.Mathlib.Omega.{arith}
use lib.Dec.{eqb-suc-zero}
use lib.ListN.{get_or}
use lib.Pow.{pow_pos}
use Rattle.laws.specs.Tests.{same}
use Rattle.laws.proofs.Tests.{Same, same_cases, is, isnt, Is, is_cases, yes', no', same_refl, same-eq, ne_false, or_false_left, or_false_right}
use Rattle.laws.specs.Counting.{any}
use Rattle.laws.proofs.Booleans.{clash, or_cases}
use Rattle.rules.specs.Geometry.{Geometry, records}
use Rattle.rules.specs.Editions.{medium_of, form_in}
use Rattle.rules.specs.Store.{Page, Pages, read_commit, map_in, read_prepared, map_of, named}
use Rattle.rules.specs.Event.{Event, begin, lock, write, read, commit, abort, crash, recover, prepare, decide, query, decision_of, event_at}
use Rattle.rules.specs.State.{State, line_of, live}
use Rattle.rules.specs.Commit.{PageWrite, Cut, marks, decide_writes, commit_plan, recover_plan, prepare_plan, decide_plan}
use Rattle.rules.specs.Step as rules
use Rattle.rules.specs.Step.{done, refused, cut, StateOf, number_of, is_top, has_child, concluded, commits_top, recovers, refusal, first_of, refusals, step}
use Rattle.rules.proofs.Map.{map_of-lt}
use Rattle.leaf_set.specs.Sets.{sets as setsIn}
use Rattle.claim_device.specs.Plan.{write_at, line_plan, decision_plan, pages_in, accepted_plan, plan_by, plan_of}
use Rattle.claim_device.specs.Asked.{write_told, spelled_in, plan_for}
use Rattle.claim_device.proofs.Plan.{refused_plan, accepted_plan_lem}
use Rattle.leaf_commit_page.specs.Heard.{prepared}
use Rattle.store_write.specs.Phase.{store_of, shown_in}
use Rattle.leaf_commit_page.specs.declared.CommitMap.{CommitMap}
use Rattle.store_commit.specs.Phase.{sweep, copies, top_slot, versions_in, understood_in}
use Rattle.store_commit.proofs.Plans.{slots_are, commit_is, commit_nothing, recovery_is, recover_nothing}
use Rattle.store_commit.proofs.Prepares.{prepare_is, prepare_nothing, decision_is}
use Rattle.state_array.specs.Kin.{child_in}
use Rattle.state_array.proofs.View.{child_is}
use Rattle.leaf_event.specs.Meaning.{meaning, fields_of}
use Rattle.leaf_event.specs.declared.Event.{Event as Fields}
use Rattle.engine_step.proofs.ByKind.{means_settling}
use Rattle.state_whole.specs.Whole.{Arrays, view, Intact, engine_answer, Stepped, Ready, Reserves}
use Rattle.leaf_event.specs.declared.Answer.{Answer}
use Rattle.state_whole.proofs.Rules.{commit_down, prepare_down, decide_down, commit_unknown, prepare_unknown, recover_done}
use Rattle.state_whole.proofs.Steps.{answer, up_is, down_is, not_live, not_live_past}
use Rattle.state_whole.proofs.Parents.{top_line}
use Rattle.state_whole.proofs.Reserves.{top_is}
use Rattle.event_commit.proofs.Tops.{top_versions}
use Rattle.event_crash.proofs.Falls.{damaged_is, whole_is, map_is, recover_refuses_3, recover_refuses_4}
use Rattle.event_commit.specs.Settling.{settling}
use Rattle.event_commit.proofs.Commits.{settling_refuses, settling_13, settling_27, settling_ends}
use Rattle.event_decision.proofs.Decisions.{for_is, for_prepared}
use Rattle.engine_page_write.specs.declared.Plan.{Plan}
use Rattle.engine_page_write.specs.Phases.{plan, nothing, of_top, of_recovery, of_decision, source_of, when, writes_of, Plans}

-- the plans by the code's test of the map
pub zero_recovery : (m : ℕ) (p : Plan) → p ≡ nothing → m ≡ 0 → p ≡ of_recovery m
unfolding of_recovery
zero_recovery m p q e = q ∙ rw (e, same_refl 0)

pub some_recovery : (m : ℕ) → m ≢ 0 → plan m 0 false false false true true true ≡ of_recovery m
unfolding of_recovery
some_recovery m h = rw (ne_false m 0 h)

pub zero-top : (m : ℕ) (b : Bool) (i : ℕ) (p : Plan) → p ≡ nothing → m ≡ 0 → p ≡ of_top m b i
unfolding of_top
zero-top m b i p q e = q ∙ rw (e, same_refl 0)

pub some-top : (m : ℕ) (b : Bool) (i : ℕ) → m ≢ 0 → plan m i true (not b) b (not b) (not b) false ≡ of_top m b i
unfolding of_top
some-top m b i h = rw (ne_false m 0 h)

-- the map of a plan names n records at most; only a prepare has the phase of the prepared page
pub nothing_small : (n : ℕ) (p : Plan) → p ≡ nothing → (p.map < 2 ^ n) × (p.prepared ≡ true → n ≡ 16)
nothing_small n p q = subst⁻¹ (λ (p : Plan). (p.map < 2 ^ n) × (p.prepared ≡ true → n ≡ 16)) q (pow_pos n, λ e. absurd (true≢false (sym e)))

pub top_small : (n m : ℕ) (b : Bool) (i : ℕ) (p : Plan) → p ≡ of_top m b i → m < 2 ^ n → (b ≡ true → n ≡ 16) → (p.map < 2 ^ n) × (p.prepared ≡ true → n ≡ 16)
unfolding of_top
top_small n m b i p q h j = subst⁻¹ (λ (p : Plan). (p.map < 2 ^ n) × (p.prepared ≡ true → n ≡ 16)) q (go (same m 0))
  where
    go : (z : Bool) → ((cond z nothing (plan m i true (not b) b (not b) (not b) false)).map < 2 ^ n) × ((cond z nothing (plan m i true (not b) b (not b) (not b) false)).prepared ≡ true → n ≡ 16)
    go true = (pow_pos n, λ e. absurd (true≢false (sym e)))
    go false = (h, j)

pub recovery_small : (n m : ℕ) (p : Plan) → p ≡ of_recovery m → m < 2 ^ n → (p.map < 2 ^ n) × (p.prepared ≡ true → n ≡ 16)
unfolding of_recovery
recovery_small n m p q h = subst⁻¹ (λ (p : Plan). (p.map < 2 ^ n) × (p.prepared ≡ true → n ≡ 16)) q (go (same m 0))
  where
    go : (z : Bool) → ((cond z nothing (plan m 0 false false false true true true)).map < 2 ^ n) × ((cond z nothing (plan m 0 false false false true true true)).prepared ≡ true → n ≡ 16)
    go true = (pow_pos n, λ e. absurd (true≢false (sym e)))
    go false = (h, λ e. absurd (true≢false (sym e)))

pub decision_small : (n m : ℕ) (d : Bool) (p : Plan) → p ≡ of_decision m d → m < 2 ^ n → (p.map < 2 ^ n) × (p.prepared ≡ true → n ≡ 16)
decision_small n m d p q h = subst⁻¹ (λ (p : Plan). (p.map < 2 ^ n) × (p.prepared ≡ true → n ≡ 16)) q (h, λ e. absurd (true≢false (sym e)))

-- by the kind of an event
pub above_zero : (n : ℕ) → n ≢ 0 → 0 < n
above_zero n h = omega (arith, h)

pub decision_of_lem : (o : ℕ) → decision_of o ≡ not (same o 0)
unfolding decision_of same
decision_of_lem zero = refl
decision_of_lem (suc o) = ap not (sym (eqb-suc-zero o))

-- a commit or a prepare
pub settles : (e : Fields) → (same e.kind 5 || same e.kind 9) ≡ true → meaning e ≡ some (settling (same e.kind 9) e.transaction e.count e.value)
settles e h = or_cases (same e.kind 5) (same e.kind 9) h (λ q. by 5 (same-eq e.kind 5 q) (omega arith) (omega arith) (λ z. omega arith) (λ z. omega arith) (λ z. omega arith))
    (λ q. by 9 (same-eq e.kind 9 q) (omega arith) (omega arith) (λ z. omega arith) (λ z. omega arith) (λ z. omega arith))
  where
    by : (k : ℕ) → e.kind ≡ k → 4 < k → k < 10 → k ≢ 6 → k ≢ 7 → k ≢ 8 → meaning e ≡ some (settling (same e.kind 9) e.transaction e.count e.value)
    by k q l u six seven eight = means_settling e (λ z. six (sym q ∙ z)) (omega (arith, q)) (omega (arith, q)) (λ z. seven (sym q ∙ z)) (λ z. eight (sym q ∙ z))

-- no commit and no prepare
pub settles_not : (e : Fields) → (same e.kind 5 || same e.kind 9) ≡ false → (e.kind ≢ 5) × (e.kind ≢ 9)
settles_not e h = (
  λ z. clash (rw z (same_refl 5)) (or_false_left (same e.kind 5) (same e.kind 9) h),
  λ z. clash (rw z (same_refl 9)) (or_false_right (same e.kind 5) (same e.kind 9) h),
)

-- the pages that the store's bytes show
pages_in_lem : (tears : Bool) (g : Geometry) (store : List ℕ) → pages_in tears g ((medium_of tears g).from_bytes store) ≡ shown_in tears (store_of tears store)
pages_in_lem false g store = refl
pages_in_lem true g store = refl

-- OVER ANY GEOMETRY with N records
module _ (tears : Bool) (g : Geometry) (N : ℕ) (many : records g ≡ N) where
  pub nothing_writes : (work store : List ℕ) → writes_of tears g N nothing work store ≡ []
  unfolding writes_of when
  nothing_writes work store = refl

  -- no page write
  pub plans_none : (x : Arrays) (e : Option Event) (p : Plan) → p ≡ nothing → plan_for tears g (view (form_in tears g) x) e ≡ [] → Plans tears g N x e p
  plans_none x e p q h = record { writes = ap (λ (p : Plan). writes_of tears g N p x.work x.store) q ∙ nothing_writes x.work x.store ∙ sym h }

  -- THE PLANS OF TOP TRANSACTIONS, RECOVERIES AND DECISIONS, as phases
  module _ (m : ℕ) (work store : List ℕ) where
    abbrev pages : Pages
    pages = shown_in tears (store_of tears store)

    commit_writes : m < 2 ^ N → (i : ℕ) → commit_plan g (versions_in g m work) ≡ writes_of tears g N (of_top m false i) work store
    unfolding of_top writes_of when source_of marks
    commit_writes small i = go (same_cases m 0)
      where
        go : Same m 0 → commit_plan g (versions_in g m work) ≡ writes_of tears g N (of_top m false i) work store
        go (is e q _) = rw q (commit_nothing g N many m (versions_in g m work) (top_slot work) (slots_are g N many m work) e)
        go (isnt e q _) = rw q (
            commit_is g N many m (versions_in g m work) (top_slot work) (slots_are g N many m work) small e
            ∙ append_assoc (sweep (named g m) (copies 1 (top_slot work)) N) (marks g m ∷ sweep (named g m) (copies (1 + N) (top_slot work)) N) (marks g 0 ∷ []))

    prepare_writes : m < 2 ^ N → (i : ℕ) → prepare_plan g (versions_in g m work) i ≡ writes_of tears g N (of_top m true i) work store
    unfolding of_top writes_of when source_of
    prepare_writes small i = go (same_cases m 0)
      where
        go : Same m 0 → prepare_plan g (versions_in g m work) i ≡ writes_of tears g N (of_top m true i) work store
        go (is e q _) = rw q (prepare_nothing g N many m work i e)
        go (isnt e q _) = rw q (prepare_is g N many m work i small e)

    recover_writes : map_in (read_commit g (pages 0)) ≡ m → recover_plan g pages ≡ writes_of tears g N (of_recovery m) work store
    unfolding of_recovery writes_of when source_of marks
    recover_writes says = go (same_cases m 0)
      where
        go : Same m 0 → recover_plan g pages ≡ writes_of tears g N (of_recovery m) work store
        go (is e q _) = rw q (recover_nothing g N many m 0 pages says e)
        go (isnt e q _) = rw q (recovery_is g N many m 0 pages says e)

    decide_writes_lem : (d : Bool) (i : ℕ) → read_prepared g (pages 0) ≡ some (prepared m i) → decide_plan g pages d ≡ writes_of tears g N (of_decision m d) work store
    unfolding writes_of when source_of marks decide_writes
    decide_writes_lem true i says = decision_is g N many m i 0 pages says (λ r. pages (1 + r)) (λ j. refl)
    decide_writes_lem false i says = refl

  -- WHAT IS REFUSED writes nothing
  refused_of : (x : Arrays) (e : Event) (n : ℕ) → n ≢ 0 → n ≢ 11 → Stepped (form_in tears g) x (some e) (answer n 0) x → plan_of tears g (view (form_in tears g) x) e ≡ []
  unfolding engine_answer number_of
  refused_of x e n h k T = go (step (form_in tears g) (view (form_in tears g) x) (some e)).answer refl (ap (λ (a : Answer). a.number) T.says)
    where
      go : (b : rules.Answer) → (step (form_in tears g) (view (form_in tears g) x) (some e)).answer ≡ b → n ≡ number_of b → plan_of tears g (view (form_in tears g) x) e ≡ []
      go (done v) q z = absurd (h z)
      go (refused m) q z = refused_plan tears g (view (form_in tears g) x) e m q
      go (cut v) q z = absurd (k z)

  refused_by : (s : StateOf (form_in tears g)) (e : Event) (n : ℕ) → step (form_in tears g) s (some e) ≡ record { state = s; answer = refused n } → plan_of tears g s e ≡ []
  refused_by s e n q = refused_plan tears g s e n (ap (λ o. o.answer) q)

  -- what is concluded isn't refused
  concludes : {S : Type 0} (whole : State S) (c : Cut S) (b : Bool) (n : ℕ) → (concluded whole c b).answer ≢ refused n
  unfolding concluded
  concludes whole c true n e = let z : true ≡ false = cc in true≢false z
  concludes whole c false n e = let z : true ≡ false = cc in true≢false z

  -- an event that is accepted, or refused, and plans no page write in either case
  idle_plan : (s : StateOf (form_in tears g)) (e : Event) → accepted_plan tears g s e ≡ [] → plan_of tears g s e ≡ []
  unfolding plan_of plan_by
  idle_plan s e h = go (refusal (form_in tears g) s e)
    where
      go : (p : Option ℕ) → plan_by tears g s e p ≡ []
      go none = h
      go (some n) = refl

  -- THE OTHER KINDS of events
  pub still_kinds : (s : StateOf (form_in tears g)) (k t r o c v : ℕ) → k ≢ 5 → k ≢ 8 → k ≢ 9 → k ≢ 10 → plan_for tears g s (event_at (fields_of k t r o c v) c) ≡ []
  unfolding plan_for event_at fields_of accepted_plan
  still_kinds s zero t r o c v h₅ h₈ h₉ h₁₀ = refl
  still_kinds s (suc zero) t r o c v h₅ h₈ h₉ h₁₀ = idle_plan s (begin t) refl
  still_kinds s (suc (suc zero)) t r o c v h₅ h₈ h₉ h₁₀ = idle_plan s (lock t r _) refl
  still_kinds s (suc (suc (suc zero))) t r o c v h₅ h₈ h₉ h₁₀ = idle_plan s (write t r o v) refl
  still_kinds s (suc (suc (suc (suc zero)))) t r o c v h₅ h₈ h₉ h₁₀ = idle_plan s (read t r o) refl
  still_kinds s (suc (suc (suc (suc (suc zero))))) t r o c v h₅ h₈ h₉ h₁₀ = absurd (h₅ refl)
  still_kinds s (suc (suc (suc (suc (suc (suc zero)))))) t r o c v h₅ h₈ h₉ h₁₀ = idle_plan s (abort t _) refl
  still_kinds s (suc (suc (suc (suc (suc (suc (suc zero))))))) t r o c v h₅ h₈ h₉ h₁₀ = idle_plan s crash refl
  still_kinds s (suc (suc (suc (suc (suc (suc (suc (suc zero)))))))) t r o c v h₅ h₈ h₉ h₁₀ = absurd (h₈ refl)
  still_kinds s (suc (suc (suc (suc (suc (suc (suc (suc (suc zero))))))))) t r o c v h₅ h₈ h₉ h₁₀ = absurd (h₉ refl)
  still_kinds s (suc (suc (suc (suc (suc (suc (suc (suc (suc (suc zero)))))))))) t r o c v h₅ h₈ h₉ h₁₀ = absurd (h₁₀ refl)
  still_kinds s (suc (suc (suc (suc (suc (suc (suc (suc (suc (suc (suc zero))))))))))) t r o c v h₅ h₈ h₉ h₁₀ = idle_plan s (query v) refl
  still_kinds s (suc (suc (suc (suc (suc (suc (suc (suc (suc (suc (suc (suc k)))))))))))) t r o c v h₅ h₈ h₉ h₁₀ = refl

  -- A COMMIT OR A PREPARE, by the code's tests
  module _ (x : Arrays) (I : Intact (form_in tears g) x) (b : Bool) (t k i : ℕ) where
    abbrev event : Event
    event = settling b t k i

    down_plans : x.up ≢ 1 → plan_of tears g (view (form_in tears g) x) event ≡ []
    unfolding settling
    down_plans h = go b
      where
        go : (b : Bool) → plan_of tears g (view (form_in tears g) x) (settling b t k i) ≡ []
        go false = refused_by (view (form_in tears g) x) (commit t k) 2 (commit_down (form_in tears g) (view (form_in tears g) x) (down_is (form_in tears g) x h) t k)
        go true = refused_by (view (form_in tears g) x) (prepare t k i) 2 (prepare_down (form_in tears g) (view (form_in tears g) x) (down_is (form_in tears g) x h) t k i)

    unknown_plans : x.up ≡ 1 → live (view (form_in tears g) x) t ≡ false → plan_of tears g (view (form_in tears g) x) event ≡ []
    unfolding settling
    unknown_plans u l = go b
      where
        go : (b : Bool) → plan_of tears g (view (form_in tears g) x) (settling b t k i) ≡ []
        go false = refused_by (view (form_in tears g) x) (commit t k) 5 (commit_unknown (form_in tears g) (view (form_in tears g) x) t (up_is (form_in tears g) x u) l k)
        go true = refused_by (view (form_in tears g) x) (prepare t k i) 5 (prepare_unknown (form_in tears g) (view (form_in tears g) x) t (up_is (form_in tears g) x u) l k i)

    -- 24 and above are no transaction
    pub no_such : 24 ≤ t → plan_of tears g (view (form_in tears g) x) event ≡ []
    no_such h = go (same_cases x.up 1)
      where
        go : Same x.up 1 → plan_of tears g (view (form_in tears g) x) event ≡ []
        go (is u _ _) = unknown_plans u (not_live_past (form_in tears g) x t I.form h)
        go (isnt n _ _) = down_plans n

    pub top_down : (p : Plan) → p ≡ nothing → x.up ≢ 1 → Plans tears g N x (some event) p
    unfolding plan_for
    top_down p q h = plans_none x (some event) p q (down_plans h)

    pub top_unknown : (p : Plan) → p ≡ nothing → x.up ≡ 1 → get_or x.depth t 0 ≡ 0 → Plans tears g N x (some event) p
    unfolding plan_for
    top_unknown p q u l = plans_none x (some event) p q (unknown_plans u (not_live (form_in tears g) x t l))

    module _ (R : Ready (form_in tears g) x t) where
      pub top_parent : (p : Plan) → p ≡ nothing → has_child (view (form_in tears g) x) t ≡ true → Plans tears g N x (some event) p
      unfolding plan_for
      top_parent p q h = plans_none x (some event) p q (refused_of x event 10 (λ z. omega arith) (λ z. omega arith) (settling_refuses tears g x I b t k i R h))

      module _ (childless : has_child (view (form_in tears g) x) t ≡ false) (n j : ℕ) (H : Reserves tears g x.store n j) where
        abbrev m : ℕ
        m = map_of g (λ r. setsIn x.writers r t)

        -- a line of more than one has no page writes
        line_none : (v : ℕ → Option Page) (l : List ℕ) → is_top l ≡ false → line_plan g v l ≡ []
        unfolding line_plan is_top
        line_none v [] e = absurd (true≢false e)
        line_none v (a ∷ []) e = absurd (true≢false e)
        line_none v (a ∷ y ∷ l) e = refl

        beneath_plans : get_or x.depth t 0 ≢ 1 → plan_of tears g (view (form_in tears g) x) event ≡ []
        unfolding settling accepted_plan
        beneath_plans h = go b (is_cases (not (same m 0) && not (same n 0)))
          where
            go : (b : Bool) → Is (not (same m 0) && not (same n 0)) → plan_of tears g (view (form_in tears g) x) (settling b t k i) ≡ []
            go false q = idle_plan (view (form_in tears g) x) (commit t k) (line_none ((view (form_in tears g) x).version t) (line_of (view (form_in tears g) x).bearer t) (top_is tears g x t R.live ∙ ne_false (get_or x.depth t 0) 1 h))
            go true (yes' q) = refused_of x (prepare t k i) 13 (λ z. omega arith) (λ z. omega arith) (settling_13 tears g x I t R childless m n j refl H true k i (λ z. absurd (true≢false z)) q)
            go true (no' q) = refused_of x (prepare t k i) 27 (λ z. omega arith) (λ z. omega arith) (settling_27 tears g x I t R childless m n j refl H true k i (λ z. absurd (true≢false z)) q h)

        pub top_beneath : (p : Plan) → p ≡ nothing → get_or x.depth t 0 ≢ 1 → Plans tears g N x (some event) p
        unfolding plan_for
        top_beneath p q h = plans_none x (some event) p q (beneath_plans h)

        module _ (map : ℕ) (mapped : map ≡ map_of g (λ r. setsIn x.writers r t)) (top : get_or x.depth t 0 ≡ 1) where
          pub top_busy : (p : Plan) → p ≡ nothing → (not (same map 0) && not (same n 0)) ≡ true → Plans tears g N x (some event) p
          unfolding plan_for
          top_busy p q h = plans_none x (some event) p q (refused_of x event 13 (λ z. omega arith) (λ z. omega arith) (settling_13 tears g x I t R childless map n j mapped H b k i (λ z. top) h))

          small : map < 2 ^ N
          small = subst (λ (k : ℕ). map < 2 ^ k) many (rw mapped (map_of-lt g (λ r. setsIn x.writers r t)))

          taken : (not (same map 0) && not (same n 0)) ≡ false → plan_of tears g (view (form_in tears g) x) event ≡ accepted_plan tears g (view (form_in tears g) x) event
          unfolding commits_top
          taken h = accepted_plan_lem tears g (view (form_in tears g) x) event (λ n' e. concludes _ _ _ n' (sym (ap (λ o. o.answer) (settling_ends tears g x I t R childless map n j mapped H b k i h top)) ∙ e))

          accepted_is : accepted_plan tears g (view (form_in tears g) x) event ≡ writes_of tears g N (of_top map b i) x.work x.store
          unfolding settling accepted_plan view line_plan
          accepted_is = go b
            where
              go : (b : Bool) → accepted_plan tears g (view (form_in tears g) x) (settling b t k i) ≡ writes_of tears g N (of_top map b i) x.work x.store
              go false =
                  ap (line_plan g ((view (form_in tears g) x).version t)) (top_line (form_in tears g) x I t top) ∙ ap (commit_plan g) (top_versions tears g x I.form t map mapped top)
                  ∙ commit_writes map x.work x.store small i
              go true = ap (λ (v : ℕ → Option Page). prepare_plan g v i) (top_versions tears g x I.form t map mapped top) ∙ prepare_writes map x.work x.store small i

          pub top_plans : (p : Plan) → p ≡ of_top map b i → (not (same map 0) && not (same n 0)) ≡ false → Plans tears g N x (some event) p
          unfolding plan_for
          top_plans p q h = record { writes = ap (λ (p : Plan). writes_of tears g N p x.work x.store) q ∙ sym (taken h ∙ accepted_is) }

  -- A RECOVERY
  module _ (x : Arrays) (I : Intact (form_in tears g) x) (k : ℕ) where
    pub recovery_up : (p : Plan) → p ≡ nothing → x.up ≡ 1 → Plans tears g N x (some (recover k)) p
    unfolding plan_for
    recovery_up p q h = plans_none x (some (recover k)) p q (refused_of x (recover k) 3 (λ z. omega arith) (λ z. omega arith) (recover_refuses_3 (form_in tears g) x I k h))

    module _ (n : x.up ≢ 1) (c : CommitMap) (h : c ≡ understood_in tears g (store_of tears x.store)) where
      pub recovery_damaged : (p : Plan) → p ≡ nothing → c.good ≡ false → Plans tears g N x (some (recover k)) p
      unfolding plan_for
      recovery_damaged p q e = plans_none x (some (recover k)) p q (refused_of x (recover k) 4 (λ z. omega arith) (λ z. omega arith) (recover_refuses_4 (form_in tears g) x I k n (damaged_is tears g x.store c h e)))

      pub recovery_plans : (p : Plan) → p ≡ of_recovery c.map → c.good ≡ true → Plans tears g N x (some (recover k)) p
      unfolding plan_for accepted_plan view recovers
      recovery_plans p q e = record {
        writes =
            ap (λ (p : Plan). writes_of tears g N p x.work x.store) q
            ∙ sym (accepted_plan_lem tears g (view (form_in tears g) x) (recover k) (λ n' z. concludes _ _ _ n' (sym (ap (λ o. o.answer) (recover_done (form_in tears g) (view (form_in tears g) x) k (down_is (form_in tears g) x n) (whole_is tears g x.store c h e))) ∙ z))
            ∙ ap (recover_plan g) (pages_in_lem tears g x.store) ∙ recover_writes c.map x.work x.store (map_is tears g x.store c h));
      }

  -- A DECISION
  module _ (x : Arrays) (I : Intact (form_in tears g) x) (d : Bool) (k i : ℕ) where
    pub decision_down : (p : Plan) → p ≡ nothing → x.up ≢ 1 → Plans tears g N x (some (decide d k i)) p
    unfolding plan_for
    decision_down p q h = plans_none x (some (decide d k i)) p q (refused_by (view (form_in tears g) x) (decide d k i) 2 (decide_down (form_in tears g) (view (form_in tears g) x) (down_is (form_in tears g) x h) d k i))

    module _ (up : x.up ≡ 1) (m n : ℕ) (H : Reserves tears g x.store m n) (b : Bool) (test : b ≡ (not (same m 0) && same n i)) where
      accepted_as : accepted_plan tears g (view (form_in tears g) x) (decide d k i) ≡ decision_plan g (shown_in tears (store_of tears x.store)) d b
      unfolding accepted_plan view
      accepted_as = λ j. decision_plan g (pages_in_lem tears g x.store j) d (for_is tears g x I up m n i H b test j)

      pub decision_other : (p : Plan) → p ≡ nothing → b ≡ false → Plans tears g N x (some (decide d k i)) p
      unfolding plan_for decision_plan
      decision_other p q e = plans_none x (some (decide d k i)) p q (idle_plan (view (form_in tears g) x) (decide d k i) (accepted_as ∙ ap (decision_plan g (shown_in tears (store_of tears x.store)) d) e))

      pub decision_plans : (p : Plan) → p ≡ of_decision m d → b ≡ true → Plans tears g N x (some (decide d k i)) p
      unfolding plan_for decision_plan plan_of plan_by refusal refusals first_of
      decision_plans p q e = record {
        writes =
            ap (λ (p : Plan). writes_of tears g N p x.work x.store) q
            ∙ sym (ap (λ (u : Bool). plan_by tears g (view (form_in tears g) x) (decide d k i) (cond (not u) (some 2) none)) (up_is (form_in tears g) x up)
            ∙ accepted_as ∙ ap (decision_plan g (shown_in tears (store_of tears x.store)) d) e
            ∙ decide_writes_lem m x.work x.store d n (for_prepared tears g x.store m n i b H test e));
      }

  -- BETWEEN THE CODE AND THE RULES
  pub plans_as : (x : Arrays) (e f : Option Event) (p : Plan) → f ≡ e → Plans tears g N x e p → Plans tears g N x f p
  plans_as x e f p q P = subst⁻¹ (λ (e : Option Event). Plans tears g N x e p) q P

  pub by_number : (x : Arrays) (b : Bool) (k i : ℕ) (p : Plan) (n t : ℕ) → n ≡ t → Plans tears g N x (some (settling b n k i)) p → Plans tears g N x (some (settling b t k i)) p
  by_number x b k i p n t e P = subst⁻¹ (λ (m : ℕ). Plans tears g N x (some (settling b m k i)) p) (sym e) P

  -- the sets of children, by the code's test
  pub child_found : (x : Arrays) (children : List ℕ) (t : ℕ) (b : Bool) → t < 24 → ((p : ℕ) → p < 32 → setsIn children p ≡ child_in x.parent x.depth p) → b ≡ any 24 (setsIn children t) → b ≡ has_child (view (form_in tears g) x) t
  unfolding view has_child live
  child_found x children t b h under e = e ∙ ap (any 24) (under t (omega arith) ∙ fun_ext (λ u. child_is x.parent x.depth t u))

  -- an event of another kind
  pub still_plans : (x : Arrays) (e : Fields) (p : Plan) → p ≡ nothing → e.kind ≢ 8 → e.kind ≢ 10 → (same e.kind 5 || same e.kind 9) ≡ false → Plans tears g N x (meaning e) p
  unfolding meaning
  still_plans x e p q h₈ h₁₀ h = let n = settles_not e h in
      plans_none x (meaning e) p q (still_kinds (view (form_in tears g) x) e.kind e.transaction e.rec e.offset e.count e.value n.0 h₈ n.1 h₁₀)

  -- a number that names no transaction
  pub unnamed_plans : (x : Arrays) → Intact (form_in tears g) x → (e : Fields) (p : Plan) → p ≡ nothing → (same e.kind 5 || same e.kind 9) ≡ true → 24 ≤ e.transaction → Plans tears g N x (meaning e) p
  unfolding plan_for
  unnamed_plans x I e p q h t = plans_as x (some (settling (same e.kind 9) e.transaction e.count e.value)) (meaning e) p (settles e h)
      (plans_none x (some (settling (same e.kind 9) e.transaction e.count e.value)) p q (no_such x I (same e.kind 9) e.transaction e.count e.value t))

-- where there is no plan no write has a number
pub nothing_at : (tears : Bool) (g : Geometry) (N : ℕ) (work store : List ℕ) (i : ℕ) → write_at i (writes_of tears g N nothing work store) ≡ none
unfolding writes_of when write_at
nothing_at tears g N work store i = refl

-- what is told of a plan's page writes is told of the rules' plan
pub told_as : (tears : Bool) (index : ℕ) (before : List ℕ) {answer : ℕ} {after : List ℕ} {ws us : List PageWrite} → ws ≡ us
    → (let said = write_told (write_at index (spelled_in tears ws)) before in (answer ≡ said.answer) × (after ≡ said.write))
    → (let said = write_told (write_at index (spelled_in tears us)) before in (answer ≡ said.answer) × (after ≡ said.write))
told_as tears index before {answer} {after} e q =
    subst⁻¹ (λ (ws : List PageWrite). (answer ≡ (write_told (write_at index (spelled_in tears ws)) before).answer) × (after ≡ (write_told (write_at index (spelled_in tears ws)) before).write)) (sym e) q
