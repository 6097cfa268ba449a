-- A commit and a recovery cut anywhere: the pages that are there then, how many writes are due, and what is settled.
use mathlib.Core.Path.{◌≡◌, refl, sym, ◌∙◌, ap, subst⁻¹}
use mathlib.Core.Bool.{Bool, true, false, not, cond, ◌&&◌, ◌||◌, true≢false}
use mathlib.Core.List.{List, [], ◌∷◌, ◌++◌}
use mathlib.Core.Option.{none}
use Prim.Native.Nat.{ℕ, zero, suc, ◌+◌, ◌-◌, ◌*◌, ◌^◌, ◌≤◌, ◌<◌}
use native.Mathlib.Omega.{arith}
use lib.ListN.{length, take, length-append, length-map}
use lib.Pow.{pow_pos}
use lib.Seq.{take-append-le, take-append-add, take_all}
use Rattle.laws.specs.Tests.{same, under}
use Rattle.laws.specs.Counting.{those}
use Rattle.laws.proofs.Tests.{same_refl, ne_false, Is, is_cases, yes', no', under-lt, lt-under, not-under}
use Rattle.rules.specs.Geometry.{Geometry, Proper, records}
use Rattle.rules.specs.Store.{Page, Pages, intention, home, map_of, commit_page, read_commit, is_damaged, is_emptied, emptied, is_named, read_prepared, is_prepared, settled}
use Rattle.rules.specs.State.{mem}
use Rattle.rules.specs.Commit.{PageWrite, sets, written, applied, intentions, homes, marks, commit_writes, recover_writes}
use Rattle.rules.proofs.CommitPage.{read_commit_page}
use Rattle.rules.proofs.PreparedPage.{not-prepared}
use Rattle.rules.proofs.Members.{mem-take, those_below, those_is}
use Rattle.rules.proofs.Shows.{lay, applied-append, take-map, Shows, shows_itself, shows_mark, shows_intentions, shows_homes, names, names_below, settled_shows, names_empty, emptied-zero, names_those}

-- where a cut at k falls among the writes for n records: before the commit record, before the home pages are written, at the end
data Stage (n k : ℕ) : Type 0 where
  early : k ≤ n → Stage n k
  middle : (j : ℕ) → k ≡ n + suc j → j ≤ n → Stage n k
  late : (j : ℕ) → k ≡ n + suc j → n < j → Stage n k

stage_cases : (n k : ℕ) → Stage n k
stage_cases n k = go (is_cases (under n k)) (is_cases (under n (k - suc n)))
  where
    go : Is (under n k) → Is (under n (k - suc n)) → Stage n k
    go (no' a) b = early (not-under n k a)
    go (yes' a) (no' b) = let h : n < k = under-lt n k a in middle (k - suc n) (omega arith) (not-under n (k - suc n) b)
    go (yes' a) (yes' b) = let h : n < k = under-lt n k a in late (k - suc n) (omega arith) (under-lt n (k - suc n) b)

pub not_lt_under : (a b : ℕ) → b ≤ a → under a b ≡ false
not_lt_under a b h = go (is_cases (under a b))
  where
    go : Is (under a b) → under a b ≡ false
    go (no' e) = e
    go (yes' e) = let k : a < b = under-lt a b e in absurd (omega arith)

-- the page writes due for n records, in a commit and in a recovery
unfoldable pub commit_due : ℕ → ℕ
commit_due n = cond (same n 0) 0 (2 * n + 2)

unfoldable pub recover_due : ℕ → ℕ
recover_due n = cond (same n 0) 0 (n + 1)

pub take_none : (k : ℕ) (s : Pages) → applied (take k []) s ≡ s
unfolding applied
take_none zero s = refl
take_none (suc k) s = refl

-- a record that the list has shows its new page, another its home page, however many of the list are written home
not_taken : (f : ℕ → Page) (rs : List ℕ) (j : ℕ) (base : ℕ → Page) (r : ℕ) → cond (mem r rs) (f r) (lay f (take j rs) base r) ≡ cond (mem r rs) (f r) (base r)
unfolding lay
not_taken f rs j base r = go (is_cases (mem r rs)) (is_cases (mem r (take j rs)))
  where
    go : Is (mem r rs) → Is (mem r (take j rs)) → cond (mem r rs) (f r) (lay f (take j rs) base r) ≡ cond (mem r rs) (f r) (base r)
    go (yes' a) b = rw a
    go (no' a) (no' b) = rw (a, b)
    go (no' a) (yes' b) = absurd (true≢false (sym (mem-take j r rs b) ∙ a))

pub lay_lay : (f : ℕ → Page) (rs : List ℕ) (base : ℕ → Page) (c : Page) (r : ℕ) → cond (mem r rs) (lay f rs base r) c ≡ cond (mem r rs) (f r) c
unfolding lay
lay_lay f rs base c r = go (is_cases (mem r rs))
  where
    go : Is (mem r rs) → cond (mem r rs) (lay f rs base r) c ≡ cond (mem r rs) (f r) c
    go (yes' a) = rw a
    go (no' a) = rw a

-- a commit page that is damaged
unfoldable pub broken : Geometry → Page → Bool
broken g page = is_damaged (read_commit g page) && not (is_prepared (read_prepared g page))

module _ (g : Geometry) where
  pub commit_length : (f : ℕ → Page) (m : ℕ) (rs : List ℕ) → length (commit_writes g f m rs) ≡ commit_due (length rs)
  unfolding commit_writes commit_due intentions homes marks
  commit_length f m [] = rw (same_refl 0) refl
  commit_length f m (r ∷ rs) = rw (ne_false (suc (length rs)) 0 (λ e. omega arith)) (omega (
    arith,
    length-append (intentions g f (r ∷ rs)) (marks g m ∷ (homes g f (r ∷ rs) ++ (marks g 0 ∷ []))),
    length-append (homes g f (r ∷ rs)) (marks g 0 ∷ []),
    length-map (r ∷ rs) (λ r. sets (intention r) (f r)),
    length-map (r ∷ rs) (λ r. sets (home g r) (f r)),
  ))

  pub recover_length : (f : ℕ → Page) (rs : List ℕ) → length (recover_writes g f rs) ≡ recover_due (length rs)
  unfolding recover_writes recover_due homes marks
  recover_length f [] = rw (same_refl 0)
  recover_length f (r ∷ rs) = rw (ne_false (suc (length rs)) 0 (λ e. omega arith)) (omega (
    arith,
    length-append (homes g f (r ∷ rs)) (marks g 0 ∷ []),
    length-map (r ∷ rs) (λ r. sets (home g r) (f r)),
  ))

  -- the writes of a commit that changes some record
  body : (ℕ → Page) → ℕ → List ℕ → List PageWrite
  body f m rs = intentions g f rs ++ (marks g m ∷ (homes g f rs ++ (marks g 0 ∷ [])))

  unfoldable pub plan_of : Pages → ℕ → Page
  plan_of s q = s (intention q)

  unfoldable pub home_of : Pages → ℕ → Page
  home_of s q = s (home g q)

  -- the pages where a commit is cut
  Reached : (f : ℕ → Page) (m : ℕ) (rs : List ℕ) (k : ℕ) (s : Pages) → Stage (length rs) k → Pages → Type 0
  Reached f m rs k s (early h) x = Shows g x (s 0) (lay f (take k rs) (plan_of s)) (home_of s)
  Reached f m rs k s (middle j e h) x = Shows g x (commit_page g m) (lay f rs (plan_of s)) (lay f (take j rs) (home_of s))
  Reached f m rs k s (late j e h) x = Shows g x (commit_page g 0) (lay f rs (plan_of s)) (lay f rs (home_of s))

  module _ (f : ℕ → Page) (rs : List ℕ) where
    pub planned-length : length (intentions g f rs) ≡ length rs
    unfolding intentions
    planned-length = length-map rs (λ r. sets (intention r) (f r))

    homed_length : length (homes g f rs) ≡ length rs
    unfolding homes
    homed_length = length-map rs (λ r. sets (home g r) (f r))

    pub take-intentions : (k : ℕ) → take k (intentions g f rs) ≡ intentions g f (take k rs)
    unfolding intentions
    take-intentions k = take-map (λ r. sets (intention r) (f r)) k rs

    take-homes : (k : ℕ) → take k (homes g f rs) ≡ homes g f (take k rs)
    unfolding homes
    take-homes k = take-map (λ r. sets (home g r) (f r)) k rs

  pub start : (s : Pages) → Shows g s (s 0) (plan_of s) (home_of s)
  unfolding plan_of home_of
  start s = shows_itself g s

  module _ (f : ℕ → Page) (m : ℕ) (rs : List ℕ) (below : (q : ℕ) → mem q rs ≡ true → q < records g) (s : Pages) where
    reach : (k : ℕ) (st : Stage (length rs) k) → Reached f m rs k s st (applied (take k (body f m rs)) s)
    unfolding Reached body applied marks written
    reach k (early h) =
        rw (take-append-le k (intentions g f rs) (marks g m ∷ (homes g f rs ++ (marks g 0 ∷ []))) (omega (arith, planned-length f rs)), take-intentions f rs k)
        (shows_intentions g f (take k rs) (λ q e. below q (mem-take k q rs e)) (start s))
    reach k (middle j e h) =
        subst⁻¹ (λ (ws : List PageWrite). Shows g (applied ws s) (commit_page g m) (lay f rs (plan_of s)) (lay f (take j rs) (home_of s)))
        (ap (λ n. take n (body f m rs)) (e ∙ ap (◌+ suc j) (sym (planned-length f rs))) ∙ take-append-add (intentions g f rs) (marks g m ∷ (homes g f rs ++ (marks g 0 ∷ []))) (suc j))
        (rw (
          applied-append (intentions g f rs) (marks g m ∷ take j (homes g f rs ++ (marks g 0 ∷ []))) s,
          take-append-le j (homes g f rs) (marks g 0 ∷ []) (omega (arith, homed_length f rs)),
          take-homes f rs j,
        )
        (shows_homes g f (take j rs) (shows_mark g (shows_intentions g f rs below (start s)) (commit_page g m))))
    reach k (late j e h) =
        rw (take_all k (body f m rs) long, applied-append (intentions g f rs) (marks g m ∷ (homes g f rs ++ (marks g 0 ∷ []))) s)
        (rw (applied-append (homes g f rs) (marks g 0 ∷ []) _)
        (shows_mark g (shows_homes g f rs (shows_mark g (shows_intentions g f rs below (start s)) (commit_page g m))) (commit_page g 0)))
      where
        long : length (body f m rs) ≤ k
        long = omega (arith, length-append (intentions g f rs) (marks g m ∷ (homes g f rs ++ (marks g 0 ∷ []))), length-append (homes g f rs) (marks g 0 ∷ []), planned-length f rs, homed_length f rs)

  -- the commit page after a commit's first k writes; after a recovery's
  mark_at : ℕ → {n k : ℕ} → Stage n k → Page → Page
  mark_at m (early h) p = p
  mark_at m (middle j e h) p = commit_page g m
  mark_at m (late j e h) p = commit_page g 0

  pub committed_mark : ℕ → ℕ → List ℕ → Page → Page
  committed_mark k m [] p = p
  committed_mark k m (r ∷ rs) p = mark_at m (stage_cases (suc (length rs)) k) p

  pub recovered_mark : ℕ → List ℕ → Page → Page
  recovered_mark k [] p = p
  recovered_mark k (r ∷ rs) p = cond (under (suc (length rs)) k) (commit_page g 0) p

  reached_mark : (f : ℕ → Page) (m : ℕ) (rs : List ℕ) (k : ℕ) (s x : Pages) (st : Stage (length rs) k) → Reached f m rs k s st x → x 0 ≡ mark_at m st (s 0)
  unfolding Reached mark_at
  reached_mark f m rs k s x (early h) S = S.at_mark
  reached_mark f m rs k s x (middle j e h) S = S.at_mark
  reached_mark f m rs k s x (late j e h) S = S.at_mark

  pub commit_mark : (f : ℕ → Page) (m : ℕ) (rs : List ℕ) → ((q : ℕ) → mem q rs ≡ true → q < records g) → (k : ℕ) (s : Pages)
      → applied (take k (commit_writes g f m rs)) s 0 ≡ committed_mark k m rs (s 0)
  unfolding commit_writes committed_mark body
  commit_mark f m [] below k s = ap (λ (x : Pages). x 0) (take_none k s)
  commit_mark f m (r ∷ rs) below k s =
      let st = stage_cases (length (r ∷ rs)) k in reached_mark f m (r ∷ rs) k s _ st (reach f m (r ∷ rs) below s k st)

  -- once all writes are made the commit page is empty
  pub commit_ends : Proper g → (k m : ℕ) (rs : List ℕ) (p : Page) → commit_due (length rs) ≤ k → is_emptied (read_commit g p) ≡ true → is_emptied (read_commit g (committed_mark k m rs p)) ≡ true
  unfolding committed_mark commit_due mark_at
  commit_ends proper k m [] p h e = e
  commit_ends proper k m (r ∷ rs) p h e = go (stage_cases (suc (length rs)) k)
    where
      due : 2 * suc (length rs) + 2 ≤ k
      due = rw (ne_false (suc (length rs)) 0 (λ e. omega arith)) at h

      go : (st : Stage (suc (length rs)) k) → is_emptied (read_commit g (mark_at m st p)) ≡ true
      go (early a) = absurd (omega (arith, due))
      go (middle j e a) = absurd (omega (arith, due))
      go (late j e a) = emptied-zero g proper

  -- wherever it is cut, the commit page is not damaged
  pub commit_readable : Proper g → (k m : ℕ) → m < 2 ^ records g → (rs : List ℕ) (p : Page) → broken g p ≡ false → broken g (committed_mark k m rs p) ≡ false
  unfolding committed_mark mark_at broken is_damaged
  commit_readable proper k m small [] p e = e
  commit_readable proper k m small (r ∷ rs) p e = go (stage_cases (suc (length rs)) k)
    where
      go : (st : Stage (suc (length rs)) k) → broken g (mark_at m st p) ≡ false
      go (early a) = e
      go (middle j q a) = rw (read_commit_page g proper m small)
      go (late j q a) = rw (read_commit_page g proper 0 (pow_pos (records g)))

  pub recover_readable : Proper g → (k : ℕ) (rs : List ℕ) (p : Page) → broken g p ≡ false → broken g (recovered_mark k rs p) ≡ false
  unfolding recovered_mark broken is_damaged
  recover_readable proper k [] p e = e
  recover_readable proper k (r ∷ rs) p e = go (under (suc (length rs)) k)
    where
      go : (b : Bool) → broken g (cond b (commit_page g 0) p) ≡ false
      go true = rw (read_commit_page g proper 0 (pow_pos (records g)))
      go false = e

  -- nor is it a prepared one, where it wasn't
  pub commit_unprepared : Proper g → (k m : ℕ) → m < 2 ^ records g → (rs : List ℕ) (p : Page) → read_prepared g p ≡ none → read_prepared g (committed_mark k m rs p) ≡ none
  unfolding committed_mark mark_at
  commit_unprepared proper k m small [] p e = e
  commit_unprepared proper k m small (r ∷ rs) p e = go (stage_cases (suc (length rs)) k)
    where
      go : (st : Stage (suc (length rs)) k) → read_prepared g (mark_at m st p) ≡ none
      go (early a) = e
      go (middle j q a) = not-prepared g proper m small
      go (late j q a) = not-prepared g proper 0 (pow_pos (records g))

  pub recover_unprepared : Proper g → (k : ℕ) (rs : List ℕ) (p : Page) → read_prepared g p ≡ none → read_prepared g (recovered_mark k rs p) ≡ none
  unfolding recovered_mark
  recover_unprepared proper k [] p e = e
  recover_unprepared proper k (r ∷ rs) p e = go (under (suc (length rs)) k)
    where
      go : (b : Bool) → read_prepared g (cond b (commit_page g 0) p) ≡ none
      go true = not-prepared g proper 0 (pow_pos (records g))
      go false = e

  module _ (f : ℕ → Page) (rs : List ℕ) (s : Pages) where
    recover_early : (k : ℕ) → k ≤ length rs → Shows g (applied (take k (homes g f rs ++ (marks g 0 ∷ []))) s) (s 0) (plan_of s) (lay f (take k rs) (home_of s))
    recover_early k h =
        rw (take-append-le k (homes g f rs) (marks g 0 ∷ []) (omega (arith, homed_length f rs)), take-homes f rs k)
        (shows_homes g f (take k rs) (start s))

    recover_late : (k : ℕ) → length rs < k → Shows g (applied (take k (homes g f rs ++ (marks g 0 ∷ []))) s) (commit_page g 0) (plan_of s) (lay f rs (home_of s))
    unfolding applied marks written
    recover_late k h = rw (take_all k (homes g f rs ++ (marks g 0 ∷ [])) long, applied-append (homes g f rs) (marks g 0 ∷ []) s)
        (shows_mark g (shows_homes g f rs (start s)) (commit_page g 0))
      where
        long : length (homes g f rs ++ (marks g 0 ∷ [])) ≤ k
        long = omega (arith, length-append (homes g f rs) (marks g 0 ∷ []), homed_length f rs)

  pub recover_mark : (f : ℕ → Page) (rs : List ℕ) (k : ℕ) (s : Pages) → applied (take k (recover_writes g f rs)) s 0 ≡ recovered_mark k rs (s 0)
  unfolding recover_writes recovered_mark
  recover_mark f [] k s = ap (λ (x : Pages). x 0) (take_none k s)
  recover_mark f (r ∷ rs) k s = go (is_cases (under (suc (length rs)) k))
    where
      go : Is (under (suc (length rs)) k) → applied (take k (homes g f (r ∷ rs) ++ (marks g 0 ∷ []))) s 0 ≡ cond (under (suc (length rs)) k) (commit_page g 0) (s 0)
      go (yes' a) = rw a (recover_late f (r ∷ rs) s k (under-lt _ _ a)).at_mark
      go (no' a) = rw a (recover_early f (r ∷ rs) s k (not-under _ _ a)).at_mark

  pub recover_ends : Proper g → (k : ℕ) (rs : List ℕ) (p : Page) → recover_due (length rs) ≤ k → (rs ≡ [] → is_emptied (read_commit g p) ≡ true) → is_emptied (read_commit g (recovered_mark k rs p)) ≡ true
  unfolding recovered_mark recover_due
  recover_ends proper k [] p h e = e refl
  recover_ends proper k (r ∷ rs) p h e =
      let due : suc (length rs) + 1 ≤ k = rw (ne_false (suc (length rs)) 0 (λ e. omega arith)) at h in
      rw (lt-under (suc (length rs)) k (omega (arith, due))) (emptied-zero g proper)

  -- a recovery cut at k: every record is settled as before
  pub recover_settled : (s : Pages) (k r : ℕ) → Proper g
      → settled g (applied (take k (recover_writes g (λ q. s (intention q)) (those (records g) (is_named g s)))) s) r ≡ settled g s r
  unfolding recover_writes names plan_of is_named lay
  recover_settled s k r proper = go (those (records g) (names g (s 0))) (those_is (records g) (names g (s 0)) (names_below g (s 0)) r)
    where
      before : settled g s r ≡ cond (names g (s 0) r) (plan_of s r) (home_of s r)
      before = settled_shows g (start s) r

      go : (rs : List ℕ) → mem r rs ≡ names g (s 0) r → settled g (applied (take k (recover_writes g (plan_of s) rs)) s) r ≡ settled g s r
      go [] e = ap (λ x. settled g x r) (take_none k s)
      go (a ∷ rs) e = at (is_cases (under (length (a ∷ rs)) k))
        where
          at : Is (under (length (a ∷ rs)) k) → settled g (applied (take k (homes g (plan_of s) (a ∷ rs) ++ (marks g 0 ∷ []))) s) r ≡ settled g s r
          at (yes' z) =
              settled_shows g (recover_late (plan_of s) (a ∷ rs) s k (under-lt _ _ z)) r
              ∙ ap (λ b. cond b (plan_of s r) (lay (plan_of s) (a ∷ rs) (home_of s) r)) (names_empty g (commit_page g 0) (emptied-zero g proper) r)
              ∙ ap (λ b. cond b (plan_of s r) (home_of s r)) e
              ∙ sym before
          at (no' z) =
              settled_shows g (recover_early (plan_of s) (a ∷ rs) s k (not-under _ _ z)) r
              ∙ ap (λ b. cond b (plan_of s r) (lay (plan_of s) (take k (a ∷ rs)) (home_of s) r)) (sym e)
              ∙ not_taken (plan_of s) (a ∷ rs) k (home_of s) r
              ∙ ap (λ b. cond b (plan_of s r) (home_of s r)) e
              ∙ sym before

  -- where the commit page is empty the home pages are settled
  pub home_settled : (s : Pages) → emptied g s ≡ true → (r : ℕ) → settled g s r ≡ s (home g r)
  unfolding emptied home_of
  home_settled s empty r = settled_shows g (start s) r ∙ rw (names_empty g (s 0) empty r)

  -- a commit over an empty commit page, cut at k: all its versions are settled if the commit record is written, and none if it isn't
  module _ (proper : Proper g) (f : ℕ → Page) (p : ℕ → Bool) (k : ℕ) (s : Pages) (empty : emptied g s ≡ true) (r : ℕ) where
    reached_settled : (rs : List ℕ) → those (records g) p ≡ rs → (st : Stage (length rs) k) (x : Pages) → Reached f (map_of g p) rs k s st x
        → settled g x r ≡ cond (under (length rs) k) (cond (mem r rs) (f r) (s (home g r))) (s (home g r))
    unfolding Reached emptied home_of lay
    reached_settled rs q (early h) x S = settled_shows g S r ∙ rw (names_empty g (s 0) empty r, not_lt_under (length rs) k h)
    reached_settled rs q (middle j e h) x S =
        settled_shows g S r ∙ rw (names_those g proper p r, q, lt-under (length rs) k (omega arith))
        (lay_lay f rs (plan_of s) (lay f (take j rs) (home_of s) r) r ∙ not_taken f rs j (home_of s) r)
    reached_settled rs q (late j e h) x S = settled_shows g S r ∙ rw (names_empty g (commit_page g 0) (emptied-zero g proper) r, lt-under (length rs) k (omega arith))

    pub commit_settled : (rs : List ℕ) → those (records g) p ≡ rs
        → settled g (applied (take k (commit_writes g f (map_of g p) rs)) s) r ≡ cond (same (length rs) 0 || under (length rs) k) (cond (mem r rs) (f r) (s (home g r))) (s (home g r))
    unfolding commit_writes mem body
    commit_settled [] q = ap (λ x. settled g x r) (take_none k s) ∙ home_settled s empty r ∙ rw (same_refl 0)
    commit_settled (a ∷ rs) q =
        let st = stage_cases (length (a ∷ rs)) k in
        reached_settled (a ∷ rs) q st _ (reach f (map_of g p) (a ∷ rs) (λ z e. those_below (records g) p z (rw q e)) s k st)
        ∙ rw (ne_false (suc (length rs)) 0 (λ e. omega arith))
