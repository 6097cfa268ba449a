-- The laws of the stable store hold of pages kept as pairs, in every proper geometry whose pages tear: what pairs show is what atomic pages have, with a cut
-- at the count that is reached, and the laws of atomic pages do the rest.
use mathlib.Core.Path.{◌≡◌, refl, sym, ◌∙◌, ap, ap₂, fun_ext, subst⁻¹}
use mathlib.Core.Bool.{Bool, true, false, ◌&&◌, ◌||◌, false≢true}
use mathlib.Core.List.{List, []}
use mathlib.Core.Option.{Option, none, some}
use Prim.Native.Nat.{ℕ, zero, suc, ◌+◌, ◌-◌, ◌/◌, ◌%◌, ◌^◌, ◌<◌}
use native.Mathlib.Omega.{arith}
use lib.ListN.{take, drop}
use Rattle.laws.specs.Tests.{same, under}
use Rattle.laws.specs.Counting.{all, any, those, count}
use Rattle.laws.proofs.Tests.{same-eq, or_false_left, or_false_right}
use Rattle.laws.proofs.Booleans.{both, or_cases, or_left, or_right, clash}
use Rattle.laws.proofs.Counting.{any_false, all_true_lem, all_of}
use Rattle.rules.specs.Geometry.{Geometry, Proper, records, page_count, uncut, cut_count}
use Rattle.rules.specs.Store.{Page, Pages, intention, home, map_of, damaged, emptied, is_named, Prepared, read_prepared, identity_in, prepared_map, is_reserved, settled}
use Rattle.rules.specs.Versions.{is_some}
use Rattle.rules.specs.Commit.{PageWrite, applied, cut_at, page_in, commit_writes, recover_writes, commit_plan, recover_plan, prepare_plan, prepare_writes, commit_at, recover_at}
use Rattle.rules.specs.Form.{atomic_pages}
use Rattle.rules.specs.Pairs.{Pairs, shown, all_bad, is_whole, mended, counted, put_all, tear_first, cut_pairs, damaged_pairs, emptied_pairs, commit_pairs, recover_pairs, prepare_pairs, decide_pairs, paired_pages}
use Rattle.rules.specs.Step.{is_busy}
use Rattle.rules.specs.Sound.{is_calm}
use Rattle.rules.proofs.Medium.{changed_in, stored, Ranged, Paged, is_clear, Unmoved, MediumLaws}
use Rattle.rules.proofs.Members.{those_below}
use Rattle.rules.proofs.Cuts.{not_lt_under, commit_due, recover_due}
use Rattle.rules.proofs.Prepares.{prepare_due, prepare_length}
use Rattle.rules.proofs.Writable.{fit_commit, fit_recover, fit_prepare, fit_decide}
use Rattle.rules.proofs.AtomicCommits.{changed, changes, changes_below, changes-length, no_changes, sound_versions, sound_planned, named_in, in_force, in_force_same, planned, commit_crashed as atomic-crashed, recover_crashed as atomic-recover-crashed}
use Rattle.rules.proofs.AtomicDecides.{reserved_planned}
use Rattle.rules.proofs.AtomicPages.{atomic_laws, agree_first}
use Rattle.rules.proofs.Uncut.{uncut-count, commit_room, recover_room, prepare_room}
use Rattle.rules.proofs.Plain.{none-prepared, none-pending}
use Rattle.rules.proofs.PairBytes.{SizedPairs, shows-length, shown_sized, mended_pairs, put_sized, pairs_sized, from_to, to_from}
use Rattle.rules.proofs.PairCuts.{targets, lost_in, cut_lost, lost_cut, whole_cut, counted-le, made_same, crash_same, Below, steady_all, below_commit, below_recover, targets_commit, targets_recover}
use Rattle.rules.proofs.Pairs.{alike, shows_mend, lost_mend, whole_mend, steady_mend, SteadyAt, reach, shown_cut}

module _ (g : Geometry) where
  commit_below : (v : ℕ → Option Page) → Below (page_count g) (commit_plan g v)
  unfolding changes changed
  commit_below v = below_commit g (page_in v) (map_of g (changed g v)) (changes g v) (changes_below g v)

  recover_below : (s : Pages) → Below (page_count g) (recover_plan g s)
  unfolding in_force planned
  recover_below s = below_recover g (planned g s) (in_force g s) (λ q e. those_below (records g) (is_named g s) q e)

  -- while the commit page is empty every pair is good and alike
  pub all_whole : (s : Pairs) → emptied_pairs g s ≡ true → (q : ℕ) → q < page_count g → is_whole (s q) ≡ true
  unfolding emptied_pairs
  all_whole s e q h = all_true_lem (page_count g) (λ n. is_whole (s n)) q (both _ _ e).0 h

  pub shown_emptied : (s : Pairs) → emptied_pairs g s ≡ true → emptied g (shown s) ≡ true
  unfolding emptied_pairs
  shown_emptied s e = (both (all (page_count g) (λ n. is_whole (s n))) (emptied g (shown s)) e).1

  make_emptied : (s : Pairs) → ((q : ℕ) → q < page_count g → is_whole (s q) ≡ true) → emptied g (shown s) ≡ true → emptied_pairs g s ≡ true
  unfolding emptied_pairs
  make_emptied s h e = ap₂ ◌&&◌ (all_of (page_count g) (λ n. is_whole (s n)) h) e

  -- no page write is due where nothing is changed
  commit_none : (v : ℕ → Option Page) → changed_in g v ≡ 0 → commit_plan g v ≡ []
  unfolding changes changed commit_writes
  commit_none v e = ap (commit_writes g (page_in v) (map_of g (changed g v))) (no_changes g v e)

  prepare_none : (v : ℕ → Option Page) (i : ℕ) → changed_in g v ≡ 0 → prepare_plan g v i ≡ []
  unfolding changes changed prepare_writes
  prepare_none v i e = ap (prepare_writes g (page_in v) (record { map = map_of g (changed g v); identity = i })) (no_changes g v e)

  -- versions that may be written: what they are written to is steady
  module _ (s : Pairs) (v : ℕ → Option Page) (clear : is_clear g (paired_pages g) s v ≡ true) where
    by_clear : {A : Type 0} → (emptied_pairs g s ≡ true → A) → (changed_in g v ≡ 0 → A) → A
    unfolding is_clear
    by_clear a b = or_cases (emptied_pairs g s) (same (changed_in g v) 0) clear a (λ e. b (same-eq (changed_in g v) 0 e))

    commit_steady : SteadyAt (commit_plan g v) s
    unfolding SteadyAt
    commit_steady = by_clear
        (λ e. steady_all (page_count g) (commit_plan g v) s (commit_below v) (λ q h. alike (all_whole s e q h)))
        (λ e. subst⁻¹ (λ (ws : List PageWrite). SteadyAt ws s) (commit_none v e) tt)

    pub clear_shown : is_clear g (atomic_pages g) (shown s) v ≡ true
    unfolding is_clear
    clear_shown = or_cases (emptied_pairs g s) (same (changed_in g v) 0) clear (λ e. or_left (emptied g (shown s)) _ (shown_emptied s e)) (λ e. or_right (emptied g (shown s)) _ e)

    -- what is shown after a commit, and which pairs are all bad then
    pub commit_shown : (c : ℕ) → shown (commit_pairs g s v c).store ≡ (commit_at g (shown s) v (reach c)).store
    unfolding commit_pairs commit_at cut_at
    commit_shown c = shown_cut c (commit_plan g v) s commit_steady

    pub commit_lost : (c : ℕ) → lost_in (commit_pairs g s v c).store ≡ cut_lost (c / 4) (c % 4) (targets (commit_plan g v)) (lost_in s)
    unfolding commit_pairs
    commit_lost c = lost_cut c (commit_plan g v) s commit_steady

  recover_steady : (s : Pairs) → SteadyAt (recover_plan g (shown s)) (mended s)
  unfolding mended
  recover_steady s = steady_all (page_count g) (recover_plan g (shown s)) (mended s) (recover_below (shown s)) (λ q h. steady_mend (s q))

  shown_mended : (s : Pairs) → shown (mended s) ≡ shown s
  unfolding shown mended
  shown_mended s = fun_ext (λ n. shows_mend (s n))

  pub lost_mended : (s : Pairs) → lost_in (mended s) ≡ lost_in s
  unfolding lost_in mended
  lost_mended s = fun_ext (λ n. lost_mend (s n))

  -- what is shown after a recovery
  pub recover_shown : (s : Pairs) (c : ℕ) → shown (recover_pairs g s c).store ≡ (recover_at g (shown s) (reach c)).store
  unfolding recover_pairs recover_at cut_at
  recover_shown s c = shown_cut c (recover_plan g (shown s)) (mended s) (recover_steady s) ∙ ap (applied (take (reach c) (recover_plan g (shown s)))) (shown_mended s)

  -- their counts
  pub commit_made : (s : Pairs) (v : ℕ → Option Page) (c : ℕ) → (commit_pairs g s v c).made ≡ (commit_at g (shown s) v (reach c)).made
  unfolding commit_pairs commit_at cut_pairs cut_at reach
  commit_made s v c = made_same (c / 4) (counted (c % 4)) _ (counted-le (c % 4))

  pub recover_made : (s : Pairs) (c : ℕ) → (recover_pairs g s c).made ≡ (recover_at g (shown s) (reach c)).made
  unfolding recover_pairs recover_at cut_pairs cut_at reach
  recover_made s c = made_same (c / 4) (counted (c % 4)) _ (counted-le (c % 4))

  -- a crash comes as with a cut of atomic pages at the count itself
  commit_crashed : (s : Pairs) (v : ℕ → Option Page) (c : ℕ) → (commit_pairs g s v c).crashed ≡ (commit_at g (shown s) v (c / 4)).crashed
  unfolding commit_pairs commit_at cut_pairs cut_at
  commit_crashed s v c = refl

  recover_crashed : (s : Pairs) (c : ℕ) → (recover_pairs g s c).crashed ≡ (recover_at g (shown s) (c / 4)).crashed
  unfolding recover_pairs recover_at cut_pairs cut_at
  recover_crashed s c = refl

  commit_ended : (s : Pairs) (v : ℕ → Option Page) (c : ℕ) → (commit_pairs g s v c).crashed ≡ false → (commit_at g (shown s) v (reach c)).crashed ≡ false
  unfolding commit_pairs commit_at cut_pairs cut_at reach
  commit_ended s v c e = crash_same (c / 4) (counted (c % 4)) _ e

  recover_ended : (s : Pairs) (c : ℕ) → (recover_pairs g s c).crashed ≡ false → (recover_at g (shown s) (reach c)).crashed ≡ false
  unfolding recover_pairs recover_at cut_pairs cut_at reach
  recover_ended s c e = crash_same (c / 4) (counted (c % 4)) _ e

  -- which pairs are all bad after a recovery
  pub recover_lost : (s : Pairs) (c : ℕ) → lost_in (recover_pairs g s c).store ≡ cut_lost (c / 4) (c % 4) (targets (recover_plan g (shown s))) (lost_in s)
  unfolding recover_pairs
  recover_lost s c = lost_cut c (recover_plan g (shown s)) (mended s) (recover_steady s) ∙ ap (cut_lost (c / 4) (c % 4) (targets (recover_plan g (shown s)))) (lost_mended s)

  commit_sized : (s : Pairs) (v : ℕ → Option Page) (c : ℕ) → SizedPairs (page_count g) s → Paged v → SizedPairs (page_count g) (commit_pairs g s v c).store
  unfolding commit_pairs cut_pairs changes changed
  commit_sized s v c S paged = put_sized (page_count g) (c / 4) (c % 4) _ s (fit_commit g (page_in v) (map_of g (changed g v)) (changes g v) (sound_versions g v paged)) S

  recover_sized : (s : Pairs) (c : ℕ) → SizedPairs (page_count g) s → SizedPairs (page_count g) (recover_pairs g s c).store
  unfolding recover_pairs cut_pairs in_force planned
  recover_sized s c S =
      put_sized (page_count g) (c / 4) (c % 4) _ (mended s) (fit_recover g (planned g (shown s)) (in_force g (shown s)) (sound_planned g (shown s) (shown_sized (page_count g) s S)))
      (mended_pairs (page_count g) s S)

  prepare_sized : (s : Pairs) (v : ℕ → Option Page) (i c : ℕ) → SizedPairs (page_count g) s → Paged v → SizedPairs (page_count g) (prepare_pairs g s v i c).store
  unfolding prepare_pairs cut_pairs changes changed
  prepare_sized s v i c S paged =
      put_sized (page_count g) (c / 4) (c % 4) _ s (fit_prepare g (page_in v) (record { map = map_of g (changed g v); identity = i }) (changes g v) (sound_versions g v paged)) S

  decide_sized : (s : Pairs) (d : Bool) (c : ℕ) → SizedPairs (page_count g) s → SizedPairs (page_count g) (decide_pairs g s d c).store
  unfolding decide_pairs cut_pairs
  decide_sized s d c S =
      put_sized (page_count g) (c / 4) (c % 4) _ s
      (fit_decide g d (λ r. shown s (intention r)) (prepared_map (read_prepared g (shown s 0))) (those (records g) (is_reserved g (shown s))) (reserved_planned g (shown s) (shown_sized (page_count g) s S))) S

  -- where no page write is due nothing is changed, counted or cut
  cut_nothing : (c : ℕ) (s : Pairs) → ((cut_pairs c [] s).store ≡ s) × ((cut_pairs c [] s).made ≡ 0) × ((cut_pairs c [] s).crashed ≡ false)
  unfolding cut_pairs
  cut_nothing c s = (go (c / 4), rw (not_lt_under (c / 4) 0 (omega arith)), not_lt_under (c / 4) 0 (omega arith))
    where
      go : (k : ℕ) → tear_first (c % 4) (drop k []) (put_all (take k []) s) ≡ s
      go zero = unfold tear_first put_all in refl
      go (suc k) = unfold tear_first put_all in refl

  module _ (proper : Proper g) (tears : g.tears ≡ true) where
    abbrev A : MediumLaws g (atomic_pages g)
    A = atomic_laws g proper

    plain : g.joint ≡ false
    plain = proper.torn_plain tears

    -- nothing is ever prepared
    free : (s : Pairs) → identity_in (read_prepared g (shown s 0)) ≡ none
    unfolding identity_in
    free s = rw (none-prepared g plain (shown s 0))

    unprepared : {B : Type 0} (s : Pairs) (i : ℕ) → identity_in (read_prepared g (shown s 0)) ≡ some i → B
    unprepared s i e = absurd (no_identity (sym (free s) ∙ e))
      where
        no_identity : ◌≡◌ {A = Option ℕ} none (some i) → ⊥
        no_identity p = let z : ◌≡◌ {A = ℕ} 0 1 = cc in omega arith

    unjoint : {B : Type 0} → g.joint ≡ true → B
    unjoint on = absurd (clash on plain)

    unmoved : (c s : Pairs) → Unmoved (paired_pages g) c s
    unmoved c s = record { same_identity = free c ∙ sym (free s); same_pending = λ r. none-pending g plain (shown c) r ∙ sym (none-pending g plain (shown s) r) }

    -- calm is: every pair good and alike, and the commit page empty
    pub calm_emptied : (s : Pairs) → is_calm (paired_pages g) s ≡ true → emptied_pairs g s ≡ true
    unfolding is_calm is_busy
    calm_emptied s e = or_cases (emptied_pairs g s) (is_busy (identity_in (read_prepared g (shown s 0)))) e (λ h. h) (λ h. absurd (false≢true (sym (ap is_busy (free s)) ∙ h)))

    make_calm : (s : Pairs) → emptied_pairs g s ≡ true → is_calm (paired_pages g) s ≡ true
    unfolding is_calm
    make_calm s e = or_left (emptied_pairs g s) _ e

    shown_calm : (s : Pairs) → is_calm (paired_pages g) s ≡ true → is_calm (atomic_pages g) (shown s) ≡ true
    unfolding is_calm
    shown_calm s e = or_left (emptied g (shown s)) _ (shown_emptied s (calm_emptied s e))

    atomic_emptied : (s : Pages) → is_calm (atomic_pages g) s ≡ true → emptied g s ≡ true
    unfolding is_calm is_busy identity_in
    atomic_emptied s e =
        or_cases (emptied g s) (is_busy (identity_in (read_prepared g (s 0)))) e (λ h. h) (λ h. absurd (false≢true (sym (ap (λ (o : Option Prepared). is_busy (identity_in o)) (none-prepared g plain (s 0))) ∙ h)))

    -- the same commit page, the same settled records, and the same pairs all bad
    unfoldable pub AgreePairs : Pairs → Pairs → Type 0
    AgreePairs s c = A.Agree (shown s) (shown c) × (lost_in c ≡ lost_in s)

    settled_at : (x y : Pages) (r : ℕ) → x ≡ y → settled g x r ≡ settled g y r
    settled_at x y r e = ap (λ (z : Pages). settled g z r) e

    commit_whole : (s : Pairs) (v : ℕ → Option Page) (c : ℕ) → is_calm (paired_pages g) s ≡ true → is_clear g (paired_pages g) s v ≡ true → (commit_pairs g s v c).crashed ≡ false
        → (is_calm (paired_pages g) (commit_pairs g s v c).store ≡ true) × (stored (changed_in g v) (commit_pairs g s v c).made ≡ true)
    commit_whole s v c calm clear q =
        let W = A.commit_whole (shown s) v (reach c) (shown_calm s calm) (clear_shown s v clear) (commit_ended s v c q) in (
          make_calm (commit_pairs g s v c).store (make_emptied (commit_pairs g s v c).store wholes (ap (emptied g) (commit_shown s v clear c) ∙ atomic_emptied _ W.0)),
          ap (stored (changed_in g v)) (commit_made s v c) ∙ W.1,
        )
      where
        wholes : (n : ℕ) → n < page_count g → is_whole ((commit_pairs g s v c).store n) ≡ true
        wholes = unfold commit_pairs in λ n h. whole_cut c _ s n q (all_whole s (calm_emptied s calm) n h)

    recover_whole : (s : Pairs) (c : ℕ) → damaged_pairs g s ≡ false → (recover_pairs g s c).crashed ≡ false → is_calm (paired_pages g) (recover_pairs g s c).store ≡ true
    unfolding damaged_pairs
    recover_whole s c d q =
        make_calm (recover_pairs g s c).store (make_emptied (recover_pairs g s c).store wholes
        (ap (emptied g) (recover_shown s c) ∙ atomic_emptied _ (A.recover_whole (shown s) (reach c) (or_false_right (any (page_count g) (λ n. all_bad (s n))) (damaged g (shown s)) d) (recover_ended s c q))))
      where
        wholes : (n : ℕ) → n < page_count g → is_whole ((recover_pairs g s c).store n) ≡ true
        wholes = unfold recover_pairs in λ n h. whole_cut c _ (mended s) n q
            (unfold mended in whole_mend (s n) (any_false (page_count g) (λ n. all_bad (s n)) n (or_false_left (any (page_count g) (λ n. all_bad (s n))) (damaged g (shown s)) d) h))

    agree_commit : (s c : Pairs) (v w : ℕ → Option Page) (k : ℕ) → is_clear g (paired_pages g) s v ≡ true → is_clear g (paired_pages g) c w ≡ true → Ranged g v → AgreePairs s c
        → ((r : ℕ) → is_some (w r) ≡ is_some (v r)) → (stored (changed_in g v) (commit_pairs g s v k).made ≡ true → (r : ℕ) → w r ≡ v r)
        → AgreePairs (commit_pairs g s v k).store (commit_pairs g c w k).store × ((commit_pairs g c w k).made ≡ (commit_pairs g s v k).made) × ((commit_pairs g c w k).crashed ≡ (commit_pairs g s v k).crashed)
    unfolding AgreePairs
    agree_commit s c v w k e e' n B h f =
        let C = A.agree_commit (shown s) (shown c) v w (reach k) (clear_shown s v e) (clear_shown c w e') n B.0 h (λ z. f (ap (stored (changed_in g v)) (commit_made s v k) ∙ z)) in (
          (rw (commit_shown s v e k, commit_shown c w e' k) C.0, commit_lost c w e' k ∙ ap₂ (cut_lost (k / 4) (k % 4)) plans B.1 ∙ sym (commit_lost s v e k)),
          commit_made c w k ∙ C.1 ∙ sym (commit_made s v k),
          commit_crashed c w k ∙ atomic-crashed g (shown c) w (k / 4) ∙ ap (λ (n : ℕ). under (k / 4) (commit_due n)) counts ∙ sym (commit_crashed s v k ∙ atomic-crashed g (shown s) v (k / 4)),
        )
      where
        shapes : ◌≡◌ {A = ℕ → Bool} (changed g w) (changed g v)
        shapes = unfold changed in fun_ext h

        counts : changed_in g w ≡ changed_in g v
        counts = unfold changed_in changed in ap (count (records g)) (unfold changed in shapes)

        plans : targets (commit_plan g w) ≡ targets (commit_plan g v)
        plans = unfold changed in targets_commit g (page_in w) (page_in v) (map_of g (changed g w)) (those (records g) (changed g w))
            ∙ ap (λ (p : ℕ → Bool). targets (commit_writes g (page_in v) (map_of g p) (those (records g) p))) shapes

    agree_recover : (s c : Pairs) (k : ℕ) → AgreePairs s c
        → AgreePairs (recover_pairs g s k).store (recover_pairs g c k).store × ((recover_pairs g c k).made ≡ (recover_pairs g s k).made) × ((recover_pairs g c k).crashed ≡ (recover_pairs g s k).crashed)
    unfolding AgreePairs
    agree_recover s c k B =
        let C = A.agree_recover (shown s) (shown c) (reach k) B.0 in
        let D = A.agree_recover (shown s) (shown c) (k / 4) B.0 in (
          (rw (recover_shown s k, recover_shown c k) C.0, recover_lost c k ∙ ap₂ (cut_lost (k / 4) (k % 4)) plans B.1 ∙ sym (recover_lost s k)),
          recover_made c k ∙ C.1 ∙ sym (recover_made s k),
          recover_crashed c k ∙ D.2 ∙ sym (recover_crashed s k),
        )
      where
        first : shown c 0 ≡ shown s 0
        first = agree_first g proper (shown s) (shown c) B.0

        plans : targets (recover_plan g (shown c)) ≡ targets (recover_plan g (shown s))
        plans = unfold in_force planned in targets_recover g (planned g (shown c)) (planned g (shown s)) (in_force g (shown c))
            ∙ ap (λ (rs : List ℕ). targets (recover_writes g (planned g (shown s)) rs)) (in_force_same g (shown s) (shown c) first)

    -- with the greatest count of a word nothing is cut
    widest : uncut g / 4 ≡ 2 ^ g.cut_bits - 1
    widest = go g.tears tears (uncut-count g)
      where
        go : (b : Bool) → b ≡ true → cut_count b (uncut g) ≡ 2 ^ g.cut_bits - 1 → uncut g / 4 ≡ 2 ^ g.cut_bits - 1
        go true e h = h
        go false e h = absurd (false≢true e)

    commit_uncut : (s : Pairs) (v : ℕ → Option Page) → (commit_pairs g s v (uncut g)).crashed ≡ false
    commit_uncut s v = commit_crashed s v (uncut g) ∙ atomic-crashed g (shown s) v (uncut g / 4) ∙ rw widest (not_lt_under (2 ^ g.cut_bits - 1) (commit_due (changed_in g v)) (commit_room g proper v))

    recover_uncut : (s : Pairs) → (recover_pairs g s (uncut g)).crashed ≡ false
    recover_uncut s =
        recover_crashed s (uncut g) ∙ atomic-recover-crashed g (shown s) (uncut g / 4) ∙ rw widest (not_lt_under (2 ^ g.cut_bits - 1) (recover_due (named_in g (shown s))) (recover_room g proper (shown s)))

    prepare_uncut : (s : Pairs) (v : ℕ → Option Page) (i : ℕ) → (prepare_pairs g s v i (uncut g)).crashed ≡ false
    unfolding prepare_pairs cut_pairs changes changed
    prepare_uncut s v i =
        rw widest (ap (under (2 ^ g.cut_bits - 1)) (prepare_length g (page_in v) (record { map = map_of g (changed g v); identity = i }) (changes g v) ∙ ap prepare_due (changes-length g v)))
        ∙ not_lt_under (2 ^ g.cut_bits - 1) (prepare_due (changed_in g v)) (prepare_room g proper v)

    prepare_idle : (s : Pairs) (v : ℕ → Option Page) (i c : ℕ) → changed_in g v ≡ 0 → ((prepare_pairs g s v i c).store ≡ s) × ((prepare_pairs g s v i c).made ≡ 0) × ((prepare_pairs g s v i c).crashed ≡ false)
    unfolding prepare_pairs
    prepare_idle s v i c e = subst⁻¹ (λ (ws : List PageWrite). ((cut_pairs c ws s).store ≡ s) × ((cut_pairs c ws s).made ≡ 0) × ((cut_pairs c ws s).crashed ≡ false)) (prepare_none v i e) (cut_nothing c s)

    pub paired_laws : MediumLaws g (paired_pages g)
    unfolding AgreePairs damaged_pairs lost_in
    paired_laws = record {
      Shaped = SizedPairs (page_count g);
      shaped_from = λ bs h. pairs_sized (page_count g) bs h;
      from_to = λ s S. from_to (page_count g) s S;
      to_from = λ bs h. to_from (page_count g) bs h;
      shaped_home = λ s r S h. unfold shown home page_count in shows-length (s (1 + (records g + r))) (S.full (1 + (records g + r)) (omega arith));
      home_settled = λ s r e. A.home_settled (shown s) r (shown_calm s e);
      emptied_free = λ s e. free s;
      free_pending = λ s r e. none-pending g plain (shown s) r;
      pending_ranged = λ s. A.pending_ranged (shown s);
      commit_kept = λ s v c r e n q. settled_at _ _ r (commit_shown s v e c) ∙ A.commit_kept (shown s) v (reach c) r (clear_shown s v e) n (ap (stored (changed_in g v)) (sym (commit_made s v c)) ∙ q);
      commit_lost = λ s v c r e q. settled_at _ _ r (commit_shown s v e c) ∙ A.commit_lost (shown s) v (reach c) r (clear_shown s v e) (ap (stored (changed_in g v)) (sym (commit_made s v c)) ∙ q);
      commit_whole = commit_whole;
      commit_cut = λ s v c q. A.commit_cut (shown s) v (c / 4) (sym (commit_crashed s v c) ∙ q);
      commit_unmoved = λ s v c e. unmoved _ s;
      commit_shaped = λ s v c S p. commit_sized s v c S p;
      recover_settled = λ s c r. settled_at _ _ r (recover_shown s c) ∙ A.recover_settled (shown s) (reach c) r;
      recover_whole = recover_whole;
      recover_unmoved = λ s c. unmoved _ s;
      recover_shaped = λ s c S. recover_sized s c S;
      prepare_settled = λ s v i k r e on short. unjoint on;
      prepare_calm = λ s v i k c on short q. unjoint on;
      prepare_taken = λ s v i k n on short h q. unjoint on;
      prepare_none = prepare_idle;
      prepare_cut = λ s v i k e q. unmoved _ s;
      prepare_shaped = λ s v i k S p. prepare_sized s v i k S p;
      decide_first = λ s d k i e q. unprepared s i e;
      decide_ended = λ s d k i e q. unprepared s i e;
      decide_settled = λ s d k i r e q. unprepared s i e;
      decide_whole = λ s d k i e q. unprepared s i e;
      decide_shaped = λ s d k S. decide_sized s d k S;
      prepared-some = λ s i e. unprepared s i e;
      joint_untorn = λ on. unjoint on;
      commit_uncut = commit_uncut;
      recover_uncut = recover_uncut;
      prepare_uncut = prepare_uncut;
      decide_uncut = λ s d i e. unprepared s i e;
      Agree = AgreePairs;
      agree_refl = λ s. (A.agree_refl (shown s), refl);
      agree_settled = λ s c B r. A.agree_settled (shown s) (shown c) B.0 r;
      agree_damaged = λ s c B. ap₂ ◌||◌ (ap (any (page_count g)) B.1) (A.agree_damaged (shown s) (shown c) B.0);
      agree_prepared = λ s c B. free c ∙ sym (free s);
      agree_pending = λ s c B r. A.agree_pending (shown s) (shown c) B.0 r;
      agree_commit = agree_commit;
      agree_recover = agree_recover;
      agree_prepare = λ s c v w i k e e' on short B h. unjoint on;
      agree_decide = λ s c d k i e B h. unprepared s i e;
    }

    -- a shaped store, in these laws, has all its pairs and nothing beyond them
    pub shaped_pairs : (s : Pairs) → paired_laws.Shaped s → SizedPairs (page_count g) s
    unfolding paired_laws
    shaped_pairs s S = S
