-- The laws of locks and versions are kept: by a lock that is granted, by a version made under it, when transactions end, and when one leaves
-- its locks to its parent. What becomes of modes is shown once for every grade of them.
use mathlib.Core.Path.{◌≡◌, refl, sym, ◌∙◌}
use mathlib.Core.Bool.{Bool, true, false, cond, ◌&&◌, ◌||◌, false≢true, or-true}
use mathlib.Core.List.{[], ◌∷◌}
use mathlib.Core.Logic.{◌≢◌}
use mathlib.Core.Option.{Option, none, some}
use Prim.Native.Nat.{ℕ}
use Rattle.laws.specs.Tests.{same}
use Rattle.laws.proofs.Tests.{same_cases, Same, is, isnt, same-eq, same_refl, ne_false, Is, is_cases, yes', no'}
use Rattle.laws.proofs.Booleans.{or_cases, or_left, or_right, and_left, and_right, clash}
use Rattle.rules.specs.Store.{Page}
use Rattle.rules.specs.Event.{Access, to_write}
use Rattle.rules.specs.State.{mem, is_lock, is_writing, stronger, Modes, Versions}
use Rattle.rules.specs.Locks.{mode_for, bars, granted, inherited, discarded}
use Rattle.rules.specs.Versions.{is_some, also, with_version, handed_up, dropped}
use Rattle.rules.proofs.Tree.{Lines}
use Rattle.rules.proofs.Grades.{Grade, any_mode, write_mode, allows, allowing, barring, graded_lock, meets, covers, has, has_as}
use Rattle.rules.proofs.Locks.{Owned}

pub is_also : (a b : Option Page) → is_some (also a b) ≡ (is_some a || is_some b)
unfolding is_some also
is_also none b = refl
is_also (some p) b = refl

module _ {line : Lines} {held retained : Modes} {version : Versions} (L : Owned line held retained version) where
  -- The lock of x is granted to t, which is live: no other holds it in a mode that bars the access, and who retains it in such a mode is on
  -- the line of t.
  module _ (a : Access) (t x : ℕ) (own : mem t (line t) ≡ true) (alone : (z : ℕ) → z ≢ t → bars a (held x z) ≡ false)
      (over : (q : ℕ) → bars a (retained x q) ≡ true → mem q (line t) ≡ true) where
    abbrev held' : Modes
    held' = granted a t x held

    -- whose mode bars the access is at or above t
    reach : (q : ℕ) → has (bars a) held retained x q ≡ true → Same q t → mem q (line t) ≡ true
    reach q h (is e s _) = rw e own
    reach q h (isnt e s _) = over q (rw (alone q e) at h)

    -- what passes a test then passed it before, or is what t was granted
    data Gained (before : Type 0) (g : Grade) (r j : ℕ) : Type 0 where
      had : before → Gained before g r j
      got : r ≡ x → j ≡ t → g.test (mode_for a) ≡ true → Gained before g r j

    holds_then : (g : Grade) (r j : ℕ) → g.test (held' r j) ≡ true → Is (same r x && same j t) → Gained (g.test (held r j) ≡ true) g r j
    unfolding granted
    holds_then g r j e (no' d) = had (rw d at e)
    holds_then g r j e (yes' d) = or_cases (g.test (held r j)) (g.test (mode_for a)) (sym (g.either (held r j) (mode_for a)) ∙ rw d at e)
        (λ k. had k)
        (λ k. got (same-eq r x (and_left (same r x) (same j t) d)) (same-eq j t (and_right (same r x) (same j t) d)) k)

    has_then : (g : Grade) (r j : ℕ) → has g.test held' retained r j ≡ true → Gained (has g.test held retained r j ≡ true) g r j
    has_then g r j e = or_cases (g.test (held' r j)) (g.test (retained r j)) e
        (λ k. widen (holds_then g r j k (is_cases (same r x && same j t))))
        (λ k. had (or_right (g.test (held r j)) (g.test (retained r j)) k))
      where
        widen : Gained (g.test (held r j) ≡ true) g r j → Gained (has g.test held retained r j ≡ true) g r j
        widen (had k) = had (or_left (g.test (held r j)) (g.test (retained r j)) k)
        widen (got u v k) = got u v k

    -- and what passed it before passes it then
    stays : (g : Grade) (r j : ℕ) → has g.test held retained r j ≡ true → Is (same r x && same j t) → has g.test held' retained r j ≡ true
    unfolding granted
    stays g r j e (no' d) = rw d e
    stays g r j e (yes' d) = rw (d, g.either (held r j) (mode_for a)) (or_cases (g.test (held r j)) (g.test (retained r j)) e
        (λ k. rw k)
        (λ k. or_right (g.test (held r j) || g.test (mode_for a)) (g.test (retained r j)) k))

    grant_alive : (r j : ℕ) → Gained (has is_lock held retained r j ≡ true) any_mode r j → mem j (line j) ≡ true
    grant_alive r j (had k) = L.alive r j k
    grant_alive r j (got e f m) = rw f own

    grant_beneath : (b : Access) (r h q : ℕ) → Gained (allows b (held r h) ≡ true) (allowing b) r h
        → Gained (has (bars b) held retained r q ≡ true) (barring b) r q → Same h t → mem q (line h) ≡ true
    grant_beneath b r h q (had p) (had k) d = L.beneath b r h q p k
    grant_beneath b r h q (had p) (got e f m) (is n _ _) = rw (f, n) own
    grant_beneath b r h q (had p) (got e f m) (isnt n _ _) = clash (meets a b (held x h) m (rw e at p)) (alone h n)
    grant_beneath b r h q (got e f m) (had k) d = rw f (reach q (has_as (bars b) (bars a) held retained x q (λ c l. covers a b c m l) (rw e at k)) (same_cases q t))
    grant_beneath b r h q (got e f m) (got e' f' m') d = rw (f, f') own

    grant_line : (r q z : ℕ) → Gained (has is_writing held retained r q ≡ true) write_mode r q → Gained (has is_lock held retained r z ≡ true) any_mode r z
        → (mem q (line z) || mem z (line q)) ≡ true
    unfolding bars
    grant_line r q z (had p) (had k) = L.in_line_lem r q z p k
    grant_line r q z (had p) (got e f m) =
        rw (f, reach q (has_as is_writing (bars a) held retained x q (λ c l. meets a to_write c m l) (rw e at p)) (same_cases q t))
    grant_line r q z (got e f m) (had k) =
        rw (f, reach z (has_as is_lock (bars a) held retained x z (λ c l. covers a to_write c m l) (rw e at k)) (same_cases z t)) (or-true (mem t (line z)))
    grant_line r q z (got e f m) (got e' f' m') = rw (f, f', own)

    pub grant_owned : Owned line held' retained version
    grant_owned = record {
      alive = λ r j e. grant_alive r j (has_then any_mode r j e);
      beneath = λ b r h q p k. grant_beneath b r h q (holds_then (allowing b) r h p (is_cases (same r x && same h t))) (has_then (barring b) r q k) (same_cases h t);
      in_line_lem = λ r q z p k. grant_line r q z (has_then write_mode r q p) (has_then any_mode r z k);
      by_lock = λ j r v. stays write_mode r j (L.by_lock j r v) (is_cases (same r x && same j t));
    }

  -- a version of a record that t holds to write
  pub write_owned : (t x : ℕ) (p : Page) → is_writing (held x t) ≡ true → Owned line held retained (with_version t x p version)
  unfolding with_version is_some
  write_owned t x p e = record { alive = L.alive; beneath = L.beneath; in_line_lem = L.in_line_lem; by_lock = λ j r v. go j r v (same_cases j t) (same_cases r x) }
    where
      go : (j r : ℕ) → is_some (with_version t x p version j r) ≡ true → Same j t → Same r x → has is_writing held retained r j ≡ true
      go j r v (is q s _) (is f k _) = rw (q, f, e)
      go j r v (is q s _) (isnt f k _) = L.by_lock j r (rw (s, k) at v)
      go j r v (isnt q s _) d = L.by_lock j r (rw s at v)

  -- the transactions that `dead` picks end, and have nothing
  module _ (dead : ℕ → Bool) where
    abbrev left : Modes
    left = discarded dead held

    abbrev lines_left : Lines
    lines_left j = cond (dead j) [] (line j)

    left_holds : (g : Grade) (r j : ℕ) → g.test (left r j) ≡ true → Is (dead j) → (dead j ≡ false) × (g.test (held r j) ≡ true)
    unfolding discarded
    left_holds g r j e (yes' d) = clash (rw d at e) g.fails
    left_holds g r j e (no' d) = (d, rw d at e)

    left_has : (g : Grade) (r j : ℕ) → has g.test left (discarded dead retained) r j ≡ true → Is (dead j) → (dead j ≡ false) × (has g.test held retained r j ≡ true)
    unfolding discarded
    left_has g r j e (yes' d) = absurd (false≢true (rw (d, g.fails) at e))
    left_has g r j e (no' d) = (d, rw d at e)

    left_lock : (j r : ℕ) → is_some (dropped dead version j r) ≡ true → Is (dead j) → has is_writing left (discarded dead retained) r j ≡ true
    unfolding discarded dropped is_some
    left_lock j r v (yes' d) = absurd (false≢true (rw d at v))
    left_lock j r v (no' d) = rw d (L.by_lock j r (rw d at v))

    pub ended_owned : Owned lines_left left (discarded dead retained) (dropped dead version)
    ended_owned = record {
      alive = λ r j e. let a = left_has any_mode r j e (is_cases (dead j)) in rw a.0 (L.alive r j a.1);
      beneath = λ b r h q p k. let a = left_holds (allowing b) r h p (is_cases (dead h)) in rw a.0 (L.beneath b r h q a.1 (left_has (barring b) r q k (is_cases (dead q))).1);
      in_line_lem = λ r q z p k. let a = left_has write_mode r q p (is_cases (dead q)) in let b = left_has any_mode r z k (is_cases (dead z)) in rw (a.0, b.0) (L.in_line_lem r q z a.1 b.1);
      by_lock = λ j r v. left_lock j r v (is_cases (dead j));
    }

    -- x and all beneath it are among them, and the parent y of x retains what x had
    module _ (x y : ℕ) (apart : (z : ℕ) → dead z ≡ false → mem x (line z) ≡ false) (under : line x ≡ x ∷ line y) (home : mem y (line y) ≡ true) where
      abbrev taken : Modes
      taken = discarded dead (inherited x y held retained)

      -- who has a lock then had it before, or is y and has it of x
      data Took (g : Grade) (r j : ℕ) : Type 0 where
        kept : dead j ≡ false → has g.test held retained r j ≡ true → Took g r j
        heir : dead j ≡ false → j ≡ y → has g.test held retained r x ≡ true → Took g r j

      took : (g : Grade) (r j : ℕ) → has g.test left taken r j ≡ true → Is (dead j) → Same j y → Took g r j
      unfolding discarded inherited
      took g r j e (yes' d) k = absurd (false≢true (rw (d, g.fails) at e))
      took g r j e (no' d) (isnt f s _) = kept d (rw (d, s) at e)
      took g r j e (no' d) (is f s _) = or_cases (g.test (held r j)) (g.test (stronger (retained r y) (stronger (held r x) (retained r x)))) (rw (d, s) at e)
          (λ c. kept d (or_left (g.test (held r j)) (g.test (retained r j)) c))
          (λ c. or_cases (g.test (retained r y)) (g.test (stronger (held r x) (retained r x))) (sym (g.either (retained r y) (stronger (held r x) (retained r x))) ∙ c)
          (λ k. kept d (or_right (g.test (held r j)) (g.test (retained r j)) (rw f k)))
          (λ k. heir d f (sym (g.either (held r x) (retained r x)) ∙ k)))

      -- what y retains then: what it retained, or what x held or retained
      gives : (g : Grade) (r : ℕ) → dead y ≡ false → (g.test (held r y) || (g.test (retained r y) || has g.test held retained r x)) ≡ true → has g.test left taken r y ≡ true
      unfolding discarded inherited
      gives g r d e = rw (d, same_refl y, g.either (retained r y) (stronger (held r x) (retained r x)), g.either (held r x) (retained r x)) e

      passes : (g : Grade) (r j : ℕ) → Took g r j → Same j y → has g.test left taken r j ≡ true
      unfolding discarded inherited
      passes g r j (kept d e) (isnt f s _) = rw (d, s) e
      passes g r j (kept d e) (is f s _) = rw f (gives g r (rw f at d) (or_cases (g.test (held r y)) (g.test (retained r y)) (rw f at e)
          (λ k. or_left (g.test (held r y)) (g.test (retained r y) || has g.test held retained r x) k)
          (λ k. or_right (g.test (held r y)) (g.test (retained r y) || has g.test held retained r x) (or_left (g.test (retained r y)) (has g.test held retained r x) k))))
      passes g r j (heir d f e) k =
          rw f (gives g r (rw f at d) (or_right (g.test (held r y)) (g.test (retained r y) || has g.test held retained r x) (or_right (g.test (retained r y)) (has g.test held retained r x) e)))

      -- who is on the line of x and has not ended is at or above y
      above_y : (z : ℕ) → dead z ≡ false → mem z (line x) ≡ true → mem z (line y) ≡ true
      unfolding mem
      above_y z d e = rw (under, ne_false z x (λ q. clash own (rw q at (apart z d)))) at e
        where
          own : mem x (line x) ≡ true
          own = rw (under, same_refl x)

      taken_alive : (r j : ℕ) → Took any_mode r j → mem j (lines_left j) ≡ true
      taken_alive r j (kept d k) = rw d (L.alive r j k)
      taken_alive r j (heir d e k) = rw (d, e) home

      taken_beneath : (b : Access) (r h q : ℕ) → (dead h ≡ false) × (allows b (held r h) ≡ true) → Took (barring b) r q → mem q (lines_left h) ≡ true
      taken_beneath b r h q p (kept d k) = rw p.0 (L.beneath b r h q p.1 k)
      taken_beneath b r h q p (heir d e k) = clash (L.beneath b r h x p.1 k) (apart h p.0)

      taken_line : (r q z : ℕ) → Took write_mode r q → Took any_mode r z → (mem q (lines_left z) || mem z (lines_left q)) ≡ true
      taken_line r q z (kept d k) (kept d' k') = rw (d, d') (L.in_line_lem r q z k k')
      taken_line r q z (kept d k) (heir d' e k') =
          rw (d', e, or_cases (mem q (line x)) (mem x (line q)) (L.in_line_lem r q x k k') (above_y q d) (λ c. clash c (apart q d)))
      taken_line r q z (heir d e k) (kept d' k') =
          rw (d, e, or_cases (mem x (line z)) (mem z (line x)) (L.in_line_lem r x z k k') (λ c. clash c (apart z d')) (above_y z d')) (or-true (mem y (lines_left z)))
      taken_line r q z (heir d e k) (heir d' e' k') = rw (d', e, e', home)

      -- the versions are such as their owners then had, or y has of x
      taken_owned : (version' : Versions) → ((j r : ℕ) → is_some (version' j r) ≡ true → Took write_mode r j) → Owned lines_left left taken version'
      taken_owned version' from = record {
        alive = λ r j e. taken_alive r j (took any_mode r j e (is_cases (dead j)) (same_cases j y));
        beneath = λ b r h q p k. taken_beneath b r h q (left_holds (allowing b) r h p (is_cases (dead h))) (took (barring b) r q k (is_cases (dead q)) (same_cases q y));
        in_line_lem = λ r q z p k. taken_line r q z (took write_mode r q p (is_cases (dead q)) (same_cases q y)) (took any_mode r z k (is_cases (dead z)) (same_cases z y));
        by_lock = λ j r v. passes write_mode r j (from j r v) (same_cases j y);
      }

      -- an abort with a report drops them
      pub report_owned : Owned lines_left left taken (dropped dead version)
      unfolding dropped is_some
      report_owned = taken_owned (dropped dead version) (λ j r v. go j r v (is_cases (dead j)))
        where
          go : (j r : ℕ) → is_some (dropped dead version j r) ≡ true → Is (dead j) → Took write_mode r j
          go j r v (yes' d) = absurd (false≢true (rw d at v))
          go j r v (no' d) = kept d (L.by_lock j r (rw d at v))

      -- a child's commit hands its versions up
      pub child_owned : Owned lines_left left taken (dropped dead (handed_up x y version))
      unfolding dropped handed_up is_some
      child_owned = taken_owned (dropped dead (handed_up x y version)) (λ j r v. go j r v (is_cases (dead j)) (same_cases j y))
        where
          go : (j r : ℕ) → is_some (dropped dead (handed_up x y version) j r) ≡ true → Is (dead j) → Same j y → Took write_mode r j
          go j r v (yes' d) k = absurd (false≢true (rw d at v))
          go j r v (no' d) (isnt f s _) = kept d (L.by_lock j r (rw (d, s) at v))
          go j r v (no' d) (is f s _) = or_cases (is_some (version x r)) (is_some (version y r)) (sym (is_also (version x r) (version y r)) ∙ rw (d, s) at v)
              (λ c. heir d f (L.by_lock x r c))
              (λ c. kept d (rw f (L.by_lock y r c)))

-- the laws go by the lines of those that have locks
pub relined : {line line' : Lines} {held retained : Modes} {version : Versions} → Owned line held retained version
    → ((r j : ℕ) → has is_lock held retained r j ≡ true → line' j ≡ line j) → Owned line' held retained version
relined {held} {retained} L h = record {
  alive = λ r j e. rw (h r j e) (L.alive r j e);
  beneath = λ b r a q p k. rw (h r a (or_left (is_lock (held r a)) (is_lock (retained r a)) (graded_lock (allowing b) (held r a) p))) (L.beneath b r a q p k);
  in_line_lem = λ r q z p k. rw (h r q (has_as is_writing is_lock held retained r q (graded_lock write_mode) p), h r z k) (L.in_line_lem r q z p k);
  by_lock = L.by_lock;
}
