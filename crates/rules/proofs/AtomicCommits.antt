-- A commit and a recovery over atomic pages: their counts, what is settled, what is prepared, and that two stores which agree do so after.
use mathlib.Core.Path.{◌≡◌, refl, sym, ◌∙◌, ap, ap₂, fun_ext}
use mathlib.Core.Bool.{Bool, true, false, cond, ◌&&◌, ◌||◌, true≢false, false≢true}
use mathlib.Core.List.{List, [], ◌∷◌}
use mathlib.Core.Option.{Option, none, some}
use Prim.Native.Nat.{ℕ, ◌+◌, ◌*◌, ◌≤◌, ◌<◌}
use native.Mathlib.Omega.{arith}
use lib.ListN.{length, take}
use Rattle.laws.specs.Tests.{same, under}
use Rattle.laws.specs.Counting.{count, those}
use Rattle.laws.proofs.Tests.{same_cases, Same, is, isnt, same-eq, same_refl, Is, is_cases, yes', no', under-lt, lt-under, not-under}
use Rattle.laws.proofs.Booleans.{or_cases, or_left, or_right, refute, clash}
use Rattle.laws.proofs.Those.{count_none, those-length}
use Rattle.rules.specs.Geometry.{Geometry, Proper, records, page_count}
use Rattle.rules.specs.Store.{Page, Pages, intention, home, map_of, named, read_commit, map_in, is_damaged, is_emptied, damaged, emptied, is_named, Prepared, read_prepared, is_prepared, identity_in, is_reserved, pending, settled}
use Rattle.rules.specs.State.{mem}
use Rattle.rules.specs.Versions.{is_some, else}
use Rattle.rules.specs.Commit.{applied, cut_at, page_in, commit_writes, recover_writes, commit_at, recover_at}
use Rattle.rules.specs.Form.{atomic_pages}
use Rattle.rules.specs.Step.{is_busy}
use Rattle.rules.specs.Sound.{is_calm}
use Rattle.rules.proofs.Medium.{changed_in, stored, Ranged, Paged, is_clear, Unmoved}
use Rattle.rules.proofs.Map.{names-none, map_of-lt}
use Rattle.rules.proofs.CommitPage.{read_is}
use Rattle.rules.proofs.PreparedPage.{prepared_unread, read_unprepared}
use Rattle.rules.proofs.Members.{those_only, those-all, those_below, those_is}
use Rattle.rules.proofs.Shows.{names, names_unread}
use Rattle.rules.proofs.Cuts.{take_none, commit_unprepared, recover_unprepared, commit_due, recover_due, commit_length, recover_length, committed_mark, recovered_mark, commit_mark, commit_ends, recover_mark, recover_ends, recover_settled, home_settled, commit_settled}
use Rattle.rules.proofs.Prepares.{reserves, pending_free, reserves_below}
use Rattle.rules.proofs.Pages.{Sized}
use Rattle.rules.proofs.Writable.{fit_take, applied_sized, Writable, fit_commit, fit_recover}

-- how many writes are made of n
unfoldable pub made_of : ℕ → ℕ → ℕ
made_of k due = cond (under k due) k due

-- the commit record is written
stored_made : (n k : ℕ) → stored n (made_of k (commit_due n)) ≡ (same n 0 || under n k)
unfolding stored commit_due made_of
stored_made n k = go (same_cases n 0) (is_cases (under k (2 * n + 2)))
  where
    go : Same n 0 → Is (under k (2 * n + 2)) → stored n (made_of k (cond (same n 0) 0 (2 * n + 2))) ≡ (same n 0 || under n k)
    go (is e z _) b = rw z
    go (isnt e z _) (yes' b) = rw (z, b)
    go (isnt e z _) (no' b) = let h : 2 * n + 2 ≤ k = not-under k (2 * n + 2) b in rw (z, b, lt-under n (2 * n + 2) (omega arith), lt-under n k (omega arith))

nil_of : {A : Type 0} (xs : List A) → length xs ≡ 0 → xs ≡ []
nil_of [] e = refl
nil_of (x ∷ xs) e = absurd (omega (arith, e))

else-none : (o : Option Page) (p : Page) → is_some o ≡ false → else o p ≡ p
unfolding is_some else
else-none none p e = refl
else-none (some q) p e = absurd (true≢false e)

pub and-true : (b : Bool) → (b && true) ≡ b
and-true true = refl
and-true false = refl

those-none : (n : ℕ) (t : ℕ → Bool) → ((r : ℕ) → r < n → t r ≡ false) → those n t ≡ []
those-none n t h = nil_of (those n t) (those-length n t ∙ count_none n t h)

module _ (g : Geometry) where
  unfoldable pub changed : (ℕ → Option Page) → ℕ → Bool
  changed v r = is_some (v r)

  -- the records that versions change
  unfoldable pub changes : (ℕ → Option Page) → List ℕ
  changes v = those (records g) (changed v)

  pub changes_below : (v : ℕ → Option Page) (q : ℕ) → mem q (changes v) ≡ true → q < records g
  unfolding changes
  changes_below v q e = those_below (records g) (changed v) q e

  pub changes-length : (v : ℕ → Option Page) → length (changes v) ≡ changed_in g v
  unfolding changes changed changed_in
  changes-length v = those-length (records g) (changed v)

  -- versions that change nothing
  pub no_changes : (v : ℕ → Option Page) → changed_in g v ≡ 0 → changes v ≡ []
  no_changes v e = nil_of (changes v) (changes-length v ∙ e)

  pub sound_versions : (v : ℕ → Option Page) → Paged v → (Writable g) (page_in v) (changes v)
  unfolding Writable changes changed page_in else is_some
  sound_versions v paged q e = (changes_below v q e, go (v q) refl (those_only (records g) (changed v) q e))
    where
      go : (o : Option Page) → v q ≡ o → is_some o ≡ true → length (else o []) ≡ 32
      go none z h = absurd (false≢true h)
      go (some p) z h = paged q p z

  -- a commit's counts
  module _ (s : Pages) (v : ℕ → Option Page) (k : ℕ) where
    pub commit_made : (commit_at g s v k).made ≡ made_of k (commit_due (changed_in g v))
    unfolding commit_at cut_at made_of changes changed
    commit_made = ap (made_of k) (commit_length g (page_in v) (map_of g (changed v)) (changes v) ∙ ap commit_due (changes-length v))

    pub commit_crashed : (commit_at g s v k).crashed ≡ under k (commit_due (changed_in g v))
    unfolding commit_at cut_at changes changed
    commit_crashed = ap (under k) (commit_length g (page_in v) (map_of g (changed v)) (changes v) ∙ ap commit_due (changes-length v))

    pub commit_stored : stored (changed_in g v) (commit_at g s v k).made ≡ (same (changed_in g v) 0 || under (changed_in g v) k)
    commit_stored = ap (stored (changed_in g v)) commit_made ∙ stored_made (changed_in g v) k

    pub commit_page : (commit_at g s v k).store 0 ≡ committed_mark g k (map_of g (changed v)) (changes v) (s 0)
    unfolding commit_at cut_at changes changed
    commit_page = commit_mark g (page_in v) (map_of g (changed v)) (changes v) (changes_below v) k s

    pub commit_sized : Sized (page_count g) s → Paged v → Sized (page_count g) (commit_at g s v k).store
    unfolding commit_at cut_at changes changed
    commit_sized S paged =
        applied_sized (page_count g) (take k (commit_writes g (page_in v) (map_of g (changed v)) (changes v))) s
        (fit_take (page_count g) k (commit_writes g (page_in v) (map_of g (changed v)) (changes v)) (fit_commit g (page_in v) (map_of g (changed v)) (changes v) (sound_versions v paged))) S

    pub commit_crash : (commit_at g s v k).crashed ≡ true → 0 < changed_in g v
    unfolding commit_due
    commit_crash e = go (same_cases (changed_in g v) 0) (under-lt k _ (sym commit_crashed ∙ e))
      where
        go : Same (changed_in g v) 0 → k < cond (same (changed_in g v) 0) 0 (2 * changed_in g v + 2) → 0 < changed_in g v
        go (is a z _) h = let h' : k < 0 = rw z at h in absurd (omega arith)
        go (isnt a z _) h = omega (arith, a)

  else_is : (o : Option Page) (p : Page) → cond (is_some o) (else o []) p ≡ else o p
  unfolding is_some else
  else_is none p = refl
  else_is (some q) p = refl

  -- the records that the commit page names, and a recovery's counts
  unfoldable pub in_force : Pages → List ℕ
  in_force s = those (records g) (is_named g s)

  unfoldable pub named_in : Pages → ℕ
  named_in s = count (records g) (is_named g s)

  in_force_length : (s : Pages) → length (in_force s) ≡ named_in s
  unfolding in_force named_in
  in_force_length s = those-length (records g) (is_named g s)

  unfoldable pub planned : Pages → ℕ → Page
  planned s r = s (intention r)

  -- the names depend on the commit page alone
  pub in_force_same : (s c : Pages) → c 0 ≡ s 0 → in_force c ≡ in_force s
  unfolding in_force is_named names
  in_force_same s c e = ap (λ p. those (records g) (names g p)) e

  pub sound_planned : (s : Pages) → Sized (page_count g) s → (Writable g) (planned s) (in_force s)
  unfolding Writable in_force planned intention page_count
  sound_planned s S q e = let k = those_below (records g) (is_named g s) q e in (k, S.full (1 + q) (omega arith))

  module _ (s : Pages) (k : ℕ) where
    pub recover_made : (recover_at g s k).made ≡ made_of k (recover_due (named_in s))
    unfolding recover_at cut_at made_of in_force planned
    recover_made = ap (made_of k) (recover_length g (planned s) (in_force s) ∙ ap recover_due (in_force_length s))

    pub recover_crashed : (recover_at g s k).crashed ≡ under k (recover_due (named_in s))
    unfolding recover_at cut_at in_force planned
    recover_crashed = ap (under k) (recover_length g (planned s) (in_force s) ∙ ap recover_due (in_force_length s))

    pub recover_page : (recover_at g s k).store 0 ≡ recovered_mark g k (in_force s) (s 0)
    unfolding recover_at cut_at in_force planned
    recover_page = recover_mark g (planned s) (in_force s) k s

    pub recover_sized : Sized (page_count g) s → Sized (page_count g) (recover_at g s k).store
    unfolding recover_at cut_at in_force planned
    recover_sized S =
        applied_sized (page_count g) (take k (recover_writes g (planned s) (in_force s))) s
        (fit_take (page_count g) k (recover_writes g (planned s) (in_force s)) (fit_recover g (planned s) (in_force s) (sound_planned s S))) S

  -- a commit page that has a map and names no record is empty
  names_nothing : (s : Pages) → is_damaged (read_commit g (s 0)) ≡ false → in_force s ≡ [] → emptied g s ≡ true
  unfolding emptied is_damaged is_emptied in_force
  names_nothing s d e = go (read_commit g (s 0)) refl
    where
      go : (o : Option ℕ) → read_commit g (s 0) ≡ o → is_emptied o ≡ true
      go none q = absurd (true≢false (rw q at d))
      go (some m) q = ap (λ n. same n 0) (names-none g m (read_is g (s 0) m q).1 off) ∙ same_refl 0
        where
          off : (r : ℕ) → r < records g → named g m r ≡ false
          off r h = at (is_cases (named g m r))
            where
              is_named_lem : is_named g s r ≡ named g m r
              is_named_lem = unfold is_named map_in in rw (lt-under r (records g) h, q)

              at : Is (named g m r) → named g m r ≡ false
              at (no' z) = z
              at (yes' z) = absurd (true≢false (sym (those-all (records g) (is_named g s) r h (is_named_lem ∙ z)) ∙ unfold mem in ap (mem r) e))

  -- what is prepared, by the commit page
  pub free_unmoved : (c s : Pages) → read_prepared g (c 0) ≡ none → read_prepared g (s 0) ≡ none → Unmoved (atomic_pages g) c s
  free_unmoved c s e h = record { same_identity = ap identity_in (e ∙ sym h); same_pending = λ r. pending_free g c e r ∙ sym (pending_free g s h r) }

  pub same_unmoved : {c s : Pages} → c ≡ s → Unmoved (atomic_pages g) c s
  same_unmoved {c} {s} e = record { same_identity = ap (λ (x : Pages). identity_in (read_prepared g (x 0))) e; same_pending = λ r. ap (λ (x : Pages). pending g x r) e }

  pub unidentified : (s : Pages) → identity_in (read_prepared g (s 0)) ≡ none → read_prepared g (s 0) ≡ none
  unfolding identity_in
  unidentified s e = go (read_prepared g (s 0)) e
    where
      go : (o : Option Prepared) → identity_in o ≡ none → o ≡ none
      go none h = refl
      go (some p) h = let z : ◌≡◌ {A = ℕ} 0 1 = cc in absurd (omega arith)

  pub pending_below : (s : Pages) (r : ℕ) → is_some (pending g s r) ≡ true → r < records g
  unfolding pending is_reserved
  pending_below s r e = go (is_cases (reserves g (s 0) r))
    where
      go : Is (reserves g (s 0) r) → r < records g
      go (yes' h) = reserves_below g (s 0) r h
      go (no' h) = absurd (false≢true (unfold is_some in rw h at e))

  module _ (proper : Proper g) where
    pub emptied_unprepared : (s : Pages) → emptied g s ≡ true → read_prepared g (s 0) ≡ none
    unfolding emptied is_emptied
    emptied_unprepared s e = go (read_commit g (s 0)) refl e
      where
        go : (o : Option ℕ) → read_commit g (s 0) ≡ o → is_emptied o ≡ true → read_prepared g (s 0) ≡ none
        go none q h = absurd (false≢true h)
        go (some m) q h = read_unprepared g proper (s 0) m q

    -- where one is prepared the home pages are settled
    pub home_unread : (s : Pages) (r : ℕ) (p : Prepared) → read_prepared g (s 0) ≡ some p → settled g s r ≡ s (home g r)
    unfolding settled is_named names
    home_unread s r p e = rw (names_unread g (s 0) (prepared_unread g proper (s 0) p e) r)

    module _ (s : Pages) (v : ℕ → Option Page) (k : ℕ) (empty : emptied g s ≡ true) where
      -- what is settled, by whether the commit record is written
      commit_at_lem : (r : ℕ) → settled g (commit_at g s v k).store r ≡ cond (stored (changed_in g v) (commit_at g s v k).made) (cond (mem r (changes v)) (page_in v r) (settled g s r)) (settled g s r)
      unfolding changes changed
      commit_at_lem r = at ∙ rw (commit_stored s v k, ← changes-length v, home_settled g s empty r)
        where
          at : settled g (commit_at g s v k).store r ≡ cond (same (length (changes v)) 0 || under (length (changes v)) k) (cond (mem r (changes v)) (page_in v r) (s (home g r))) (s (home g r))
          at = unfold commit_at cut_at in commit_settled g proper (page_in v) (changed v) k s empty r (changes v) refl

      pub commit_kept : (r : ℕ) → Ranged g v → stored (changed_in g v) (commit_at g s v k).made ≡ true → settled g (commit_at g s v k).store r ≡ else (v r) (settled g s r)
      unfolding changes changed page_in
      commit_kept r ranged q = commit_at_lem r ∙ rw (q, those_is (records g) (changed v) ranged r) (else_is (v r) (settled g s r))

      pub commit_lost : (r : ℕ) → stored (changed_in g v) (commit_at g s v k).made ≡ false → settled g (commit_at g s v k).store r ≡ settled g s r
      commit_lost r q = commit_at_lem r ∙ rw q

      pub commit_whole : (commit_at g s v k).crashed ≡ false → (emptied g (commit_at g s v k).store ≡ true) × (stored (changed_in g v) (commit_at g s v k).made ≡ true)
      unfolding emptied commit_due
      commit_whole e =
          let due : commit_due (changed_in g v) ≤ k = not-under k _ (sym (commit_crashed s v k) ∙ e) in (
            ap (λ p. is_emptied (read_commit g p)) (commit_page s v k) ∙ commit_ends g proper k (map_of g (changed v)) (changes v) (s 0) (rw (changes-length v) due) empty,
            commit_stored s v k ∙ go due (same_cases (changed_in g v) 0),
          )
        where
          go : cond (same (changed_in g v) 0) 0 (2 * changed_in g v + 2) ≤ k → Same (changed_in g v) 0 → (same (changed_in g v) 0 || under (changed_in g v) k) ≡ true
          go h (is a z _) = rw z
          go h (isnt a z _) = let h' : 2 * changed_in g v + 2 ≤ k = rw z at h in rw (z, lt-under (changed_in g v) k (omega arith))

    pub recover_whole : (s : Pages) (k : ℕ) → is_damaged (read_commit g (s 0)) ≡ false → (recover_at g s k).crashed ≡ false → emptied g (recover_at g s k).store ≡ true
    unfolding emptied
    recover_whole s k d e =
        let due : recover_due (named_in s) ≤ k = not-under k _ (sym (recover_crashed s k) ∙ e) in
        ap (λ p. is_emptied (read_commit g p)) (recover_page s k) ∙ recover_ends g proper k (in_force s) (s 0) (rw (in_force_length s) due) (names_nothing s d)

    pub recover_keeps : (s : Pages) (k r : ℕ) → settled g (recover_at g s k).store r ≡ settled g s r
    unfolding recover_at cut_at
    recover_keeps s k r = recover_settled g s k r proper

    -- the same commit page, and the same settled records
    unfoldable pub Agree : Pages → Pages → Type 0
    Agree s c = (c 0 ≡ s 0) × ((r : ℕ) → settled g c r ≡ settled g s r)

    pub agree_recover : (s c : Pages) (k : ℕ) → Agree s c
        → Agree (recover_at g s k).store (recover_at g c k).store × ((recover_at g c k).made ≡ (recover_at g s k).made) × ((recover_at g c k).crashed ≡ (recover_at g s k).crashed)
    unfolding Agree
    agree_recover s c k A = (
      (recover_page c k ∙ ap₂ (recovered_mark g k) lists A.0 ∙ sym (recover_page s k), λ r. recover_keeps c k r ∙ A.1 r ∙ sym (recover_keeps s k r)),
      recover_made c k ∙ ap (λ n. made_of k (recover_due n)) counts ∙ sym (recover_made s k),
      recover_crashed c k ∙ ap (λ n. under k (recover_due n)) counts ∙ sym (recover_crashed s k),
    )
      where
        lists : in_force c ≡ in_force s
        lists = in_force_same s c A.0

        counts : named_in c ≡ named_in s
        counts = sym (in_force_length c) ∙ ap length lists ∙ in_force_length s

    no_version : (v : ℕ → Option Page) → changed_in g v ≡ 0 → Ranged g v → (r : ℕ) → is_some (v r) ≡ false
    unfolding changes changed mem
    no_version v e ranged r = refute (is_some (v r)) (λ h. clash (those-all (records g) (changed v) r (ranged r h) h) (ap (mem r) (no_changes v e)))

    commit_idle : (s : Pages) (v : ℕ → Option Page) (k : ℕ) → changed_in g v ≡ 0 → (commit_at g s v k).store ≡ s
    unfolding commit_at cut_at commit_writes changes changed
    commit_idle s v k e = ap (λ (rs : List ℕ). applied (take k (commit_writes g (page_in v) (map_of g (changed v)) rs)) s) (no_changes v e) ∙ take_none k s

    -- a commit of versions that may be written
    module _ (s : Pages) (v : ℕ → Option Page) (clear : is_clear g (atomic_pages g) s v ≡ true) where
      pub by_clear : {A : Type 0} → (emptied g s ≡ true → A) → (changed_in g v ≡ 0 → A) → A
      unfolding is_clear
      by_clear a b = or_cases (emptied g s) (same (changed_in g v) 0) clear a (λ e. b (same-eq (changed_in g v) 0 e))

      pub clear_kept : (k r : ℕ) → Ranged g v → stored (changed_in g v) (commit_at g s v k).made ≡ true → settled g (commit_at g s v k).store r ≡ else (v r) (settled g s r)
      clear_kept k r ranged q = by_clear (λ e. commit_kept s v k e r ranged q)
          (λ e. ap (λ (x : Pages). settled g x r) (commit_idle s v k e) ∙ sym (else-none (v r) (settled g s r) (no_version v e ranged r)))

      pub clear_lost : (k r : ℕ) → stored (changed_in g v) (commit_at g s v k).made ≡ false → settled g (commit_at g s v k).store r ≡ settled g s r
      clear_lost k r q = by_clear (λ e. commit_lost s v k e r q) (λ e. ap (λ (x : Pages). settled g x r) (commit_idle s v k e))

      pub clear_whole : (k : ℕ) → is_calm (atomic_pages g) s ≡ true → (commit_at g s v k).crashed ≡ false → (is_calm (atomic_pages g) (commit_at g s v k).store ≡ true) × (stored (changed_in g v) (commit_at g s v k).made ≡ true)
      unfolding is_calm stored
      clear_whole k calm q = by_clear
          (λ e. let w = commit_whole s v k e q in (or_left (emptied g (commit_at g s v k).store) _ w.0, w.1))
          (λ e. (ap (is_calm (atomic_pages g)) (commit_idle s v k e) ∙ calm, or_left (same (changed_in g v) 0) _ (rw e (same_refl 0))))

      -- the commit page says what it said of a prepared transaction
      pub clear_held : (k : ℕ) → read_prepared g ((commit_at g s v k).store 0) ≡ read_prepared g (s 0)
      clear_held k = by_clear
          (λ e. ap (read_prepared g) (commit_page s v k) ∙ commit_unprepared g proper k (map_of g (changed v)) (map_of-lt g (changed v)) (changes v) (s 0) (emptied_unprepared s e) ∙ sym (emptied_unprepared s e))
          (λ e. ap (λ (x : Pages). read_prepared g (x 0)) (commit_idle s v k e))

      pub clear_unmoved : (k : ℕ) → Unmoved (atomic_pages g) (commit_at g s v k).store s
      clear_unmoved k = by_clear
          (λ e. free_unmoved (commit_at g s v k).store s (clear_held k ∙ emptied_unprepared s e) (emptied_unprepared s e))
          (λ e. same_unmoved (commit_idle s v k e))

    pub agree_commit : (s c : Pages) (v w : ℕ → Option Page) (k : ℕ) → is_clear g (atomic_pages g) s v ≡ true → is_clear g (atomic_pages g) c w ≡ true → Ranged g v → Agree s c
        → ((r : ℕ) → is_some (w r) ≡ is_some (v r)) → (stored (changed_in g v) (commit_at g s v k).made ≡ true → (r : ℕ) → w r ≡ v r)
        → Agree (commit_at g s v k).store (commit_at g c w k).store × ((commit_at g c w k).made ≡ (commit_at g s v k).made) × ((commit_at g c w k).crashed ≡ (commit_at g s v k).crashed)
    unfolding Agree changes changed changed_in
    agree_commit s c v w k clear clear' ranged A shape same_pages = (
      (commit_page c w k ∙ ap₂ (λ (p : ℕ → Bool) (x : Page). committed_mark g k (map_of g p) (those (records g) p) x) shapes A.0 ∙ sym (commit_page s v k), λ r. go r (is_cases (stored (changed_in g v) (commit_at g s v k).made))),
      made_same,
      commit_crashed c w k ∙ ap (λ n. under k (commit_due n)) counts ∙ sym (commit_crashed s v k),
    )
      where
        shapes : ◌≡◌ {A = ℕ → Bool} (changed w) (changed v)
        shapes = fun_ext shape

        counts : changed_in g w ≡ changed_in g v
        counts = ap (count (records g)) shapes

        made_same : (commit_at g c w k).made ≡ (commit_at g s v k).made
        made_same = commit_made c w k ∙ ap (λ n. made_of k (commit_due n)) counts ∙ sym (commit_made s v k)

        stores : stored (changed_in g w) (commit_at g c w k).made ≡ stored (changed_in g v) (commit_at g s v k).made
        stores = ap₂ stored counts made_same

        go : (r : ℕ) → Is (stored (changed_in g v) (commit_at g s v k).made) → settled g (commit_at g c w k).store r ≡ settled g (commit_at g s v k).store r
        go r (yes' q) = clear_kept c w clear' k r (λ r z. ranged r (sym (shape r) ∙ z)) (stores ∙ q) ∙ ap₂ else (same_pages q r) (A.1 r) ∙ sym (clear_kept s v clear k r ranged q)
        go r (no' q) = clear_lost c w clear' k r (stores ∙ q) ∙ A.1 r ∙ sym (clear_lost s v clear k r q)

    -- a recovery
    unnamed : (s : Pages) (p : Prepared) → read_prepared g (s 0) ≡ some p → in_force s ≡ []
    unfolding in_force is_named names
    unnamed s p e = those-none (records g) (is_named g s) (λ r h. names_unread g (s 0) (prepared_unread g proper (s 0) p e) r)

    pub recover_idle : (s : Pages) (k : ℕ) (p : Prepared) → read_prepared g (s 0) ≡ some p → (recover_at g s k).store ≡ s
    unfolding recover_at cut_at recover_writes in_force planned
    recover_idle s k p e = ap (λ (rs : List ℕ). applied (take k (recover_writes g (planned s) rs)) s) (unnamed s p e) ∙ take_none k s

    pub recover_calm : (s : Pages) (k : ℕ) → damaged g s ≡ false → (recover_at g s k).crashed ≡ false → is_calm (atomic_pages g) (recover_at g s k).store ≡ true
    unfolding damaged is_prepared is_calm identity_in is_busy
    recover_calm s k d q = go (read_prepared g (s 0)) refl
      where
        go : (o : Option Prepared) → read_prepared g (s 0) ≡ o → (emptied g (recover_at g s k).store || is_busy (identity_in (read_prepared g ((recover_at g s k).store 0)))) ≡ true
        go (some p) e = or_right (emptied g (recover_at g s k).store) _ (ap (λ (x : Pages). is_busy (identity_in (read_prepared g (x 0)))) (recover_idle s k p e) ∙ rw e)
        go none e = or_left (emptied g (recover_at g s k).store) _ (recover_whole s k (sym (and-true (is_damaged (read_commit g (s 0)))) ∙ rw e at d) q)

    pub recover_held : (s : Pages) (k : ℕ) → read_prepared g ((recover_at g s k).store 0) ≡ read_prepared g (s 0)
    recover_held s k = go (read_prepared g (s 0)) refl
      where
        go : (o : Option Prepared) → read_prepared g (s 0) ≡ o → read_prepared g ((recover_at g s k).store 0) ≡ read_prepared g (s 0)
        go (some p) e = ap (λ (x : Pages). read_prepared g (x 0)) (recover_idle s k p e)
        go none e = ap (read_prepared g) (recover_page s k) ∙ recover_unprepared g proper k (in_force s) (s 0) e ∙ sym e

    pub recover_unmoved : (s : Pages) (k : ℕ) → Unmoved (atomic_pages g) (recover_at g s k).store s
    recover_unmoved s k = go (read_prepared g (s 0)) refl
      where
        go : (o : Option Prepared) → read_prepared g (s 0) ≡ o → Unmoved (atomic_pages g) (recover_at g s k).store s
        go (some p) e = same_unmoved (recover_idle s k p e)
        go none e = free_unmoved (recover_at g s k).store s (recover_held s k ∙ e) e

    pub home_calm : (s : Pages) (r : ℕ) → is_calm (atomic_pages g) s ≡ true → s (home g r) ≡ settled g s r
    unfolding is_calm settled is_named names is_busy identity_in
    home_calm s r calm = or_cases (emptied g s) (is_busy (identity_in (read_prepared g (s 0)))) calm (λ e. sym (home_settled g s e r)) (λ e. go (read_prepared g (s 0)) refl e)
      where
        go : (o : Option Prepared) → read_prepared g (s 0) ≡ o → is_busy (identity_in o) ≡ true → s (home g r) ≡ settled g s r
        go none q h = absurd (false≢true h)
        go (some p) q h = sym (home_unread s r p q)
