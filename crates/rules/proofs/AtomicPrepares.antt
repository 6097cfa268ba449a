-- A prepare over atomic pages: its counts, what is settled, what is prepared and pending, and that two stores which agree do so after.
use mathlib.Core.Path.{◌≡◌, refl, sym, ◌∙◌, ap, ap₂, subst⁻¹, fun_ext}
use mathlib.Core.Bool.{Bool, true, false, cond, ◌&&◌, ◌||◌}
use mathlib.Core.Option.{Option, none, some}
use Prim.Native.Nat.{ℕ, ◌+◌, ◌≤◌, ◌<◌}
use native.Mathlib.Omega.{arith}
use lib.ListN.{length, take}
use Rattle.laws.specs.Tests.{same, under}
use Rattle.laws.specs.Counting.{count, those}
use Rattle.laws.proofs.Tests.{same_cases, Same, is, isnt, same_refl, ne_false, under-lt, lt-under, not-under}
use Rattle.laws.proofs.Booleans.{or_right}
use Rattle.laws.proofs.Those.{count_none}
use Rattle.rules.specs.Geometry.{Geometry, Proper, records, page_count}
use Rattle.rules.specs.Store.{Page, Pages, map_of, emptied, Prepared, prepared_page, read_prepared, identity_in, pending, settled}
use Rattle.rules.specs.State.{mem}
use Rattle.rules.specs.Versions.{is_some, else}
use Rattle.rules.specs.Commit.{cut_at, page_in, prepare_writes, prepare_at}
use Rattle.rules.specs.Form.{atomic_pages}
use Rattle.rules.specs.Step.{is_busy}
use Rattle.rules.specs.Sound.{is_calm}
use Rattle.rules.proofs.Medium.{changed_in, Ranged, Paged, is_clear, Unmoved}
use Rattle.rules.proofs.Map.{map_of-lt, map_of-zero}
use Rattle.rules.proofs.PreparedPage.{Sensible, read_prepared_page, prepared_unread}
use Rattle.rules.proofs.Members.{those_is}
use Rattle.rules.proofs.Shows.{lay, Shows, settled_shows, names_empty, names_unread}
use Rattle.rules.proofs.Cuts.{not_lt_under, plan_of, home_of, home_settled}
use Rattle.rules.proofs.Prepares.{prepare_due, prepare_length, Came, nothing_due, part, whole, came, pending_shows, reserves_those}
use Rattle.rules.proofs.Pages.{Sized}
use Rattle.rules.proofs.Writable.{fit_take, applied_sized, fit_prepare}
use Rattle.rules.proofs.AtomicCommits.{made_of, changed, changes, changes_below, changes-length, sound_versions, free_unmoved, same_unmoved, emptied_unprepared, Agree, by_clear}

module _ (g : Geometry) where
  module _ (proper : Proper g) where
    -- a prepare
    module _ (s : Pages) (v : ℕ → Option Page) (i k : ℕ) where
      abbrev taken : Prepared
      taken = record { map = map_of g (changed g v); identity = i }

      prepare_came : Came g (page_in v) taken (changes g v) k s (prepare_at g s v i k).store
      unfolding prepare_at cut_at changes changed
      prepare_came = came g (page_in v) taken (changes g v) (changes_below g v) k s

      pub prepare_made : (prepare_at g s v i k).made ≡ made_of k (prepare_due (changed_in g v))
      unfolding prepare_at cut_at made_of changes changed
      prepare_made = ap (made_of k) (prepare_length g (page_in v) taken (changes g v) ∙ ap prepare_due (changes-length g v))

      pub prepare_crashed : (prepare_at g s v i k).crashed ≡ under k (prepare_due (changed_in g v))
      unfolding prepare_at cut_at changes changed
      prepare_crashed = ap (under k) (prepare_length g (page_in v) taken (changes g v) ∙ ap prepare_due (changes-length g v))

      pub prepare_sized : Sized (page_count g) s → Paged v → Sized (page_count g) (prepare_at g s v i k).store
      unfolding prepare_at cut_at changes changed
      prepare_sized S paged =
          applied_sized (page_count g) (take k (prepare_writes g (page_in v) taken (changes g v))) s
          (fit_take (page_count g) k (prepare_writes g (page_in v) taken (changes g v)) (fit_prepare g (page_in v) taken (changes g v) (sound_versions g v paged))) S

      pub prepare_idle : changed_in g v ≡ 0 → ((prepare_at g s v i k).store ≡ s) × ((prepare_at g s v i k).made ≡ 0) × ((prepare_at g s v i k).crashed ≡ false)
      unfolding prepare_due made_of
      prepare_idle e = (
        go prepare_came,
        prepare_made ∙ rw (e, same_refl 0) (zero-made k),
        prepare_crashed ∙ rw (e, same_refl 0) (not_lt_under k 0 (omega arith)),
      )
        where
          zero-made : (k : ℕ) → cond (under k 0) k 0 ≡ 0
          zero-made k = rw (not_lt_under k 0 (omega arith))

          go : Came g (page_in v) taken (changes g v) k s (prepare_at g s v i k).store → (prepare_at g s v i k).store ≡ s
          go (nothing_due a b) = b
          go (part a b S) = absurd (omega (arith, a, (changes-length g) v, e))
          go (whole a b S) = absurd (omega (arith, a, (changes-length g) v, e))

      -- a prepare that isn't cut, and (changes g) something, is whole; one that is cut isn't
      due_is : 0 < changed_in g v → prepare_due (changed_in g v) ≡ changed_in g v + 1
      unfolding prepare_due
      due_is h = rw (ne_false (changed_in g v) 0 (λ e. omega (arith, h, e)))

      cut_short : (prepare_at g s v i k).crashed ≡ true → (0 < changed_in g v) × (k ≤ changed_in g v)
      unfolding prepare_due
      cut_short q = go (same_cases (changed_in g v) 0) (under-lt k _ (sym prepare_crashed ∙ q))
        where
          go : Same (changed_in g v) 0 → k < cond (same (changed_in g v) 0) 0 (changed_in g v + 1) → (0 < changed_in g v) × (k ≤ changed_in g v)
          go (is e z _) h = let h' : k < 0 = rw z at h in absurd (omega arith)
          go (isnt e z _) h = let h' : k < changed_in g v + 1 = rw z at h in (omega (arith, e), omega (arith, h'))

      uncut : (prepare_at g s v i k).crashed ≡ false → 0 < changed_in g v → changed_in g v < k
      uncut q h = let b : prepare_due (changed_in g v) ≤ k = not-under k _ (sym prepare_crashed ∙ q) in omega (arith, b, due_is h)

      sensible : g.joint ≡ true → i < 256 → 0 < length (changes g v) → Sensible g taken
      unfolding changed changed_in
      sensible on short h = record {
        on = on;
        some_record = λ e. let z : changed_in g v ≡ 0 = count_none (records g) (λ r. is_some (v r)) (λ r k. map_of-zero g (changed g v) e r k) in omega (arith, h, (changes-length g) v, z);
        map-fits = map_of-lt g (changed g v);
        identity_fits = short;
      }

      pub prepare_keeps : is_clear g (atomic_pages g) s v ≡ true → g.joint ≡ true → i < 256 → (r : ℕ) → settled g (prepare_at g s v i k).store r ≡ settled g s r
      unfolding home_of emptied
      prepare_keeps clear on short r = go prepare_came
        where
          before : 0 < length (changes g v) → emptied g s ≡ true
          before h = by_clear g proper s v clear (λ e. e) (λ e. absurd (omega (arith, h, e, (changes-length g) v)))

          at_home : emptied g s ≡ true → settled g s r ≡ home_of g s r
          at_home e = home_settled g s e r

          go : Came g (page_in v) taken (changes g v) k s (prepare_at g s v i k).store → settled g (prepare_at g s v i k).store r ≡ settled g s r
          go (nothing_due a b) = ap (λ (x : Pages). settled g x r) b
          go (part a b S) = settled_shows g S r ∙ rw (names_empty g (s 0) (before a) r) (sym (at_home (before a)))
          go (whole a b S) =
              settled_shows g S r
              ∙ rw (names_unread g (prepared_page g taken) (prepared_unread g proper (prepared_page g taken) taken (read_prepared_page g proper taken (sensible on short a))) r) (sym (at_home (before a)))

      prepare_read : g.joint ≡ true → i < 256 → 0 < changed_in g v → (prepare_at g s v i k).crashed ≡ false
          → Shows g (prepare_at g s v i k).store (prepared_page g taken) (lay (page_in v) (changes g v) (plan_of g s)) (home_of g s) × (0 < length (changes g v))
      prepare_read on short h q = go prepare_came
        where
          go : Came g (page_in v) taken (changes g v) k s (prepare_at g s v i k).store
              → Shows g (prepare_at g s v i k).store (prepared_page g taken) (lay (page_in v) (changes g v) (plan_of g s)) (home_of g s) × (0 < length (changes g v))
          go (nothing_due a b) = absurd (omega (arith, h, (changes-length g) v, ap length a))
          go (part a b S) = absurd (omega (arith, uncut q h, (changes-length g) v, b))
          go (whole a b S) = (S, a)

      pub prepare_calm : is_calm (atomic_pages g) s ≡ true → g.joint ≡ true → i < 256 → (prepare_at g s v i k).crashed ≡ false → is_calm (atomic_pages g) (prepare_at g s v i k).store ≡ true
      unfolding is_calm is_busy identity_in
      prepare_calm calm on short q = go (same_cases (changed_in g v) 0)
        where
          go : Same (changed_in g v) 0 → (emptied g (prepare_at g s v i k).store || is_busy (identity_in (read_prepared g ((prepare_at g s v i k).store 0)))) ≡ true
          go (is e _ _) = ap (is_calm (atomic_pages g)) (prepare_idle e).0 ∙ calm
          go (isnt e _ _) =
              let h : 0 < changed_in g v = omega (arith, e) in
              let W = prepare_read on short h q in
              or_right (emptied g (prepare_at g s v i k).store) _ (ap (λ (x : Page). is_busy (identity_in (read_prepared g x))) W.0.at_mark ∙ rw (read_prepared_page g proper taken (sensible on short W.1)))

      pub prepare_taken : Ranged g v → g.joint ≡ true → i < 256 → 0 < changed_in g v → (prepare_at g s v i k).crashed ≡ false
          → (identity_in (read_prepared g ((prepare_at g s v i k).store 0)) ≡ some i) × ((r : ℕ) → pending g (prepare_at g s v i k).store r ≡ v r) × (0 < (prepare_at g s v i k).made)
      unfolding identity_in made_of changes changed lay
      prepare_taken ranged on short h q = (
        ap (λ (x : Page). identity_in (read_prepared g x)) W.0.at_mark ∙ rw (read_prepared_page g proper taken T),
        λ r. pending_shows g W.0 r ∙ rw (reserves_those g proper (changed g v) i T r) (at r),
        subst⁻¹ (λ (n : ℕ). 0 < n) (prepare_made ∙ whole_made) (omega arith),
      )
        where
          W : Shows g (prepare_at g s v i k).store (prepared_page g taken) (lay (page_in v) (changes g v) (plan_of g s)) (home_of g s) × (0 < length (changes g v))
          W = prepare_read on short h q

          T : Sensible g taken
          T = sensible on short W.1

          whole_made : made_of k (prepare_due (changed_in g v)) ≡ changed_in g v + 1
          whole_made = rw (due_is h, not_lt_under k (changed_in g v + 1) (omega (arith, uncut q h)))

          at : (r : ℕ) → cond (mem r (those (records g) (changed g v))) (some (lay (page_in v) (changes g v) (plan_of g s) r)) none ≡ v r
          at r = rw (those_is (records g) (changed g v) ranged r) (one (v r) refl)
            where
              one : (o : Option Page) → v r ≡ o → cond (changed g v r) (some (cond (changed g v r) (page_in v r) (plan_of g s r))) none ≡ o
              one none e = unfold changed is_some in rw e
              one (some x) e = unfold changed is_some page_in else in rw e

      pub prepare_unmoved : is_clear g (atomic_pages g) s v ≡ true → (prepare_at g s v i k).crashed ≡ true → Unmoved (atomic_pages g) (prepare_at g s v i k).store s
      prepare_unmoved clear q = go prepare_came
        where
          none_then : 0 < length (changes g v) → read_prepared g (s 0) ≡ none
          none_then h = emptied_unprepared g proper s (by_clear g proper s v clear (λ e. e) (λ e. absurd (omega (arith, h, e, (changes-length g) v))))

          go : Came g (page_in v) taken (changes g v) k s (prepare_at g s v i k).store → Unmoved (atomic_pages g) (prepare_at g s v i k).store s
          go (nothing_due a b) = same_unmoved g b
          go (part a b S) = free_unmoved g (prepare_at g s v i k).store s (ap (read_prepared g) S.at_mark ∙ none_then a) (none_then a)
          go (whole a b S) = absurd (omega (arith, b, (changes-length g) v, (cut_short q).1))

      -- the commit page after it
      prepare_page : (prepare_at g s v i k).store 0 ≡ cond (under 0 (changed_in g v) && under (changed_in g v) k) (prepared_page g taken) (s 0)
      prepare_page = go prepare_came
        where
          go : Came g (page_in v) taken (changes g v) k s (prepare_at g s v i k).store → (prepare_at g s v i k).store 0 ≡ cond (under 0 (changed_in g v) && under (changed_in g v) k) (prepared_page g taken) (s 0)
          go (nothing_due a b) = ap (λ (x : Pages). x 0) b ∙ rw (sym (changes-length g v) ∙ ap length a, not_lt_under 0 0 (omega arith))
          go (part a b S) = S.at_mark ∙ rw (← (changes-length g) v, lt-under 0 (length (changes g v)) a, not_lt_under (length (changes g v)) k b)
          go (whole a b S) = S.at_mark ∙ rw (← (changes-length g) v, lt-under 0 (length (changes g v)) a, lt-under (length (changes g v)) k b)

    pub agree_prepare : (s c : Pages) (v w : ℕ → Option Page) (i k : ℕ) → is_clear g (atomic_pages g) s v ≡ true → is_clear g (atomic_pages g) c w ≡ true → g.joint ≡ true → i < 256 → (Agree g proper) s c → ((r : ℕ) → is_some (w r) ≡ is_some (v r))
        → (Agree g proper) (prepare_at g s v i k).store (prepare_at g c w i k).store × ((prepare_at g c w i k).made ≡ (prepare_at g s v i k).made) × ((prepare_at g c w i k).crashed ≡ (prepare_at g s v i k).crashed)
    unfolding Agree changed changed_in is_clear emptied
    agree_prepare s c v w i k clear clear' on short A shape = (
      (
        prepare_page c w i k
            ∙ ap₂ (λ (t : ℕ → Bool) (x : Page). cond (under 0 (count (records g) t) && under (count (records g) t) k) (prepared_page g (record { map = map_of g t; identity = i })) x) shapes A.0
            ∙ sym (prepare_page s v i k),
        λ r. prepare_keeps c w i k clear' on short r ∙ A.1 r ∙ sym (prepare_keeps s v i k clear on short r),
      ),
      prepare_made c w i k ∙ ap (λ n. made_of k (prepare_due n)) counts ∙ sym (prepare_made s v i k),
      prepare_crashed c w i k ∙ ap (λ n. under k (prepare_due n)) counts ∙ sym (prepare_crashed s v i k),
    )
      where
        shapes : ◌≡◌ {A = ℕ → Bool} (changed g w) (changed g v)
        shapes = fun_ext shape

        counts : changed_in g w ≡ changed_in g v
        counts = ap (count (records g)) shapes
