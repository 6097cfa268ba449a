-- A prepare and a decision cut anywhere: the pages that are there then, how many writes are due, what is settled, what is prepared and pending.
use mathlib.Core.Path.{◌≡◌, refl, sym, ◌∙◌, ap, ap₂, fun_ext}
use mathlib.Core.Bool.{Bool, true, false, cond, ◌&&◌, true≢false, and-false}
use mathlib.Core.List.{List, [], ◌∷◌, ◌++◌}
use mathlib.Core.Option.{none, some}
use Prim.Native.Nat.{ℕ, suc, ◌+◌, ◌^◌, ◌≤◌, ◌<◌}
use native.Mathlib.Omega.{arith}
use lib.ListN.{length, take, length-append}
use lib.Seq.{take-append-le, take_all}
use Rattle.laws.specs.Tests.{same, under}
use Rattle.laws.specs.Counting.{count, those}
use Rattle.laws.specs.Functions.{updated}
use Rattle.laws.proofs.Tests.{same_refl, ne_false, Is, is_cases, yes', no', under-lt, lt-under, not-under}
use Rattle.laws.proofs.Updated.{updated_same, updated_other}
use Rattle.rules.specs.Geometry.{Geometry, Proper, records}
use Rattle.rules.specs.Store.{Page, Pages, intention, home, map_of, named, commit_page, read_commit, map_in, is_named, Prepared, prepared_page, read_prepared, prepared_map, is_reserved, pending, settled}
use Rattle.rules.specs.State.{mem}
use Rattle.rules.specs.Versions.{else}
use Rattle.rules.specs.Commit.{Cut, PageWrite, sets, written, applied, cut_at, intentions, marks, recover_writes, prepare_writes, decide_writes, recover_at, decide_at}
use Rattle.laws.proofs.Booleans.{and_left}
use Rattle.rules.proofs.Plans.{prepare_takes}
use Rattle.rules.proofs.Map.{named-zero, named-map_of}
use Rattle.rules.proofs.CommitPage.{read_commit_page}
use Rattle.rules.proofs.PreparedPage.{Sensible, read_prepared_page, prepared_is, prepared_unread}
use Rattle.rules.proofs.Members.{mem-take, those_only, those-all, those_below}
use Rattle.rules.proofs.Shows.{lay, applied-append, Shows, shows_mark, shows_intentions, names, names_unread}
use Rattle.rules.proofs.Cuts.{take_none, plan_of, home_of, start, planned-length, take-intentions}

-- the page writes due for n records, in a prepare
unfoldable pub prepare_due : ℕ → ℕ
prepare_due n = cond (same n 0) 0 (n + 1)

-- the records that some page 0 reserves
abbrev pub reserves : Geometry → Page → ℕ → Bool
reserves g page r = under r (records g) && named g (prepared_map (read_prepared g page)) r

module _ (g : Geometry) where
  pub prepare_length : (f : ℕ → Page) (p : Prepared) (rs : List ℕ) → length (prepare_writes g f p rs) ≡ prepare_due (length rs)
  unfolding prepare_writes prepare_due
  prepare_length f p [] = rw (same_refl 0) refl
  prepare_length f p (r ∷ rs) = rw (ne_false (suc (length rs)) 0 (λ e. omega arith)) (prepare_takes g f p r rs)

  module _ (f : ℕ → Page) (p : Prepared) (rs : List ℕ) (below : (q : ℕ) → mem q rs ≡ true → q < records g) (s : Pages) where
    early : (k : ℕ) → k ≤ length rs → Shows g (applied (take k (intentions g f rs ++ (sets 0 (prepared_page g p) ∷ []))) s) (s 0) (lay f (take k rs) (plan_of g s)) (home_of g s)
    early k h =
        rw (take-append-le k (intentions g f rs) (sets 0 (prepared_page g p) ∷ []) (omega (arith, planned-length g f rs)), take-intentions g f rs k)
        (shows_intentions g f (take k rs) (λ q e. below q (mem-take k q rs e)) (start g s))

    late : (k : ℕ) → length rs < k → Shows g (applied (take k (intentions g f rs ++ (sets 0 (prepared_page g p) ∷ []))) s) (prepared_page g p) (lay f rs (plan_of g s)) (home_of g s)
    unfolding applied written
    late k h =
        rw (take_all k (intentions g f rs ++ (sets 0 (prepared_page g p) ∷ [])) long, applied-append (intentions g f rs) (sets 0 (prepared_page g p) ∷ []) s)
        (shows_mark g (shows_intentions g f rs below (start g s)) (prepared_page g p))
      where
        long : length (intentions g f rs ++ (sets 0 (prepared_page g p) ∷ [])) ≤ k
        long = omega (arith, length-append (intentions g f rs) (sets 0 (prepared_page g p) ∷ []), planned-length g f rs)

  -- how far a prepare of these records came, cut at k
  pub data Came (f : ℕ → Page) (p : Prepared) (rs : List ℕ) (k : ℕ) (s x : Pages) : Type 0 where
    nothing_due : rs ≡ [] → x ≡ s → Came f p rs k s x
    part : 0 < length rs → k ≤ length rs → Shows g x (s 0) (lay f (take k rs) (plan_of g s)) (home_of g s) → Came f p rs k s x
    whole : 0 < length rs → length rs < k → Shows g x (prepared_page g p) (lay f rs (plan_of g s)) (home_of g s) → Came f p rs k s x

  pub came : (f : ℕ → Page) (p : Prepared) (rs : List ℕ) → ((q : ℕ) → mem q rs ≡ true → q < records g) → (k : ℕ) (s : Pages) → Came f p rs k s (applied (take k (prepare_writes g f p rs)) s)
  unfolding prepare_writes
  came f p [] below k s = nothing_due refl (take_none k s)
  came f p (r ∷ rs) below k s = go (is_cases (under (suc (length rs)) k))
    where
      go : Is (under (suc (length rs)) k) → Came f p (r ∷ rs) k s (applied (take k (intentions g f (r ∷ rs) ++ (sets 0 (prepared_page g p) ∷ []))) s)
      go (no' e) = part (omega arith) (not-under _ _ e) (early f p (r ∷ rs) below s k (not-under _ _ e))
      go (yes' e) = whole (omega arith) (under-lt _ _ e) (late f p (r ∷ rs) below s k (under-lt _ _ e))

  -- where none is prepared nothing is reserved, and nothing is pending
  pub free_reserves : (page : Page) → read_prepared g page ≡ none → (r : ℕ) → reserves g page r ≡ false
  unfolding prepared_map
  free_reserves page e r = rw (e, named-zero g r) (and-false (under r (records g)))

  pub pending_free : (s : Pages) → read_prepared g (s 0) ≡ none → (r : ℕ) → pending g s r ≡ none
  unfolding pending is_reserved
  pending_free s e r = rw (free_reserves (s 0) e r)

  pub reserves_below : (page : Page) (r : ℕ) → reserves g page r ≡ true → r < records g
  reserves_below page r e = under-lt r (records g) (and_left (under r (records g)) _ e)

  -- what is pending where a store shows these pages
  pub pending_shows : {x : Pages} {mark : Page} {plan homed : ℕ → Page} → Shows g x mark plan homed → (r : ℕ) → pending g x r ≡ cond (reserves g mark r) (some (plan r)) none
  unfolding pending is_reserved
  pending_shows {x} {mark} {plan} {homed} S r = rw S.at_mark (go (is_cases (reserves g mark r)))
    where
      go : Is (reserves g mark r) → cond (reserves g mark r) (some (x (intention r))) none ≡ cond (reserves g mark r) (some (plan r)) none
      go (yes' k) = rw k (ap some (S.at_plan r (reserves_below mark r k)))
      go (no' k) = rw k

  -- the page of a transaction that is prepared with some records reserves them
  pub reserves_those : (proper : Proper g) (t : ℕ → Bool) (i : ℕ) → Sensible g (record { map = map_of g t; identity = i }) → (r : ℕ)
      → reserves g (prepared_page g (record { map = map_of g t; identity = i })) r ≡ mem r (those (records g) t)
  unfolding prepared_map
  reserves_those proper t i S r = rw (read_prepared_page g proper (record { map = map_of g t; identity = i }) S) (go (is_cases (under r (records g))) (is_cases (t r)) (is_cases (mem r (those (records g) t))))
    where
      go : Is (under r (records g)) → Is (t r) → Is (mem r (those (records g) t)) → (under r (records g) && named g (map_of g t) r) ≡ mem r (those (records g) t)
      go (yes' k) (yes' a) b = rw (k, named-map_of g t r (under-lt r (records g) k), a) (sym (those-all (records g) t r (under-lt r (records g) k) a))
      go (yes' k) (no' a) (no' b) = rw (k, named-map_of g t r (under-lt r (records g) k), a, b)
      go (yes' k) (no' a) (yes' b) = absurd (true≢false (sym (those_only (records g) t r b) ∙ a))
      go (no' k) a (no' b) = rw (k, b)
      go (no' k) a (yes' b) = absurd (true≢false (sym (lt-under r (records g) (those_below (records g) t r b)) ∙ k))

-- A decision to commit is a page write, and then a recovery over that page.
module _ (g : Geometry) (proper : Proper g) (s : Pages) (p : Prepared) (here : read_prepared g (s 0) ≡ some p) where
  -- the store with its commit page as committed
  unfoldable pub ruled : Pages
  ruled = updated 0 (commit_page g p.map) s

  pub ruled_page : ruled 0 ≡ commit_page g p.map
  unfolding ruled
  ruled_page = updated_same 0 (commit_page g p.map) s

  small : p.map < 2 ^ records g
  small = (prepared_is g (s 0) p here).1.map-fits

  pub ruled_read : read_commit g (ruled 0) ≡ some p.map
  ruled_read = ap (read_commit g) ruled_page ∙ read_commit_page g proper p.map small

  ruled_plan : (q : ℕ) → ruled (intention q) ≡ s (intention q)
  unfolding ruled intention
  ruled_plan q = updated_other 0 (commit_page g p.map) s (1 + q) (λ e. omega arith)

  ruled_home : (q : ℕ) → ruled (home g q) ≡ s (home g q)
  unfolding ruled home
  ruled_home q = updated_other 0 (commit_page g p.map) s (1 + (records g + q)) (λ e. omega arith)

  -- its commit page names what was reserved
  ruled_names : (q : ℕ) → is_named g ruled q ≡ is_reserved g s q
  unfolding is_named is_reserved map_in prepared_map
  ruled_names q = rw (ruled_read, here)

  pub ruled-count : count (records g) (is_named g ruled) ≡ count (records g) (is_reserved g s)
  ruled-count = ap (count (records g)) (fun_ext ruled_names)

  -- what is settled there: what was pending, and the rest as before
  pub ruled_settled : (r : ℕ) → settled g ruled r ≡ else (pending g s r) (settled g s r)
  unfolding settled pending else
  ruled_settled r = rw (ruled_names r, unnamed) (go (is_reserved g s r))
    where
      unnamed : is_named g s r ≡ false
      unnamed = unfold is_named names in names_unread g (s 0) (prepared_unread g proper (s 0) p here) r

      go : (b : Bool) → cond b (ruled (intention r)) (ruled (home g r)) ≡ else (cond b (some (s (intention r))) none) (s (home g r))
      go true = ruled_plan r
      go false = ruled_home r

  as_writes : decide_writes g true (λ r. s (intention r)) (prepared_map (read_prepared g (s 0))) (those (records g) (is_reserved g s))
      ≡ marks g p.map ∷ recover_writes g (λ r. ruled (intention r)) (those (records g) (is_named g ruled))
  unfolding decide_writes prepared_map
  as_writes = rw here (ap₂ (λ (f : ℕ → Page) (t : ℕ → Bool). marks g p.map ∷ recover_writes g f (those (records g) t)) (sym (fun_ext ruled_plan)) (sym (fun_ext ruled_names)))

  pub commits_first : decide_at g s true 0 ≡ record { store = s; made = 0; crashed = true }
  unfolding decide_at cut_at decide_writes applied
  commits_first = rw (lt-under 0 (suc (length (recover_writes g (λ r. s (intention r)) (those (records g) (is_reserved g s))))) (omega arith))

  under-suc : (a b : ℕ) → under (suc a) (suc b) ≡ under a b
  under-suc a b = go (is_cases (under a b)) (is_cases (under (suc a) (suc b)))
    where
      go : Is (under a b) → Is (under (suc a) (suc b)) → under (suc a) (suc b) ≡ under a b
      go (yes' e) (yes' h) = h ∙ sym e
      go (no' e) (no' h) = h ∙ sym e
      go (yes' e) (no' h) = let l : a < b = under-lt a b e in let m : suc b ≤ suc a = not-under _ _ h in absurd (omega arith)
      go (no' e) (yes' h) = let l : suc a < suc b = under-lt _ _ h in let m : b ≤ a = not-under a b e in absurd (omega arith)

  suc_cond : (b : Bool) (x y : ℕ) → cond b (suc x) (suc y) ≡ suc (cond b x y)
  suc_cond true x y = refl
  suc_cond false x y = refl

  pub commits_then : (k : ℕ) → let c = recover_at g ruled k in decide_at g s true (suc k) ≡ record { store = c.store; made = suc c.made; crashed = c.crashed }
  unfolding decide_at recover_at cut_at
  commits_then k = ap (λ (ws : List PageWrite). cut_at (suc k) ws s) as_writes ∙ go (recover_writes g (λ r. ruled (intention r)) (those (records g) (is_named g ruled)))
    where
      go : (ws : List PageWrite) → cut_at (suc k) (marks g p.map ∷ ws) s ≡ record { store = applied (take k ws) ruled; made = suc (cond (under k (length ws)) k (length ws)); crashed = under k (length ws) }
      go ws = unfold cut_at applied marks written ruled in λ i. record { store = applied (take k ws) ruled; made = (ap (λ b. cond b (suc k) (suc (length ws))) (under-suc k (length ws)) ∙ suc_cond (under k (length ws)) k (length ws)) i; crashed = under-suc k (length ws) i }

  pub aborts_first : decide_at g s false 0 ≡ record { store = s; made = 0; crashed = true }
  unfolding decide_at cut_at decide_writes applied
  aborts_first = rw (lt-under 0 1 (omega arith))

  pub aborts_then : (k : ℕ) → decide_at g s false (suc k) ≡ record { store = updated 0 (commit_page g 0) s; made = 1; crashed = false }
  unfolding decide_at cut_at decide_writes applied marks written
  aborts_then k = go (is_cases (under (suc k) 1))
    where
      go : Is (under (suc k) 1) → ◌≡◌ {A = Cut Pages} (record { store = applied (take k []) (updated 0 (commit_page g 0) s); made = cond (under (suc k) 1) (suc k) 1; crashed = under (suc k) 1 }) (record { store = updated 0 (commit_page g 0) s; made = 1; crashed = false })
      go (yes' e) = let l : suc k < 1 = under-lt _ _ e in absurd (omega arith)
      go (no' e) = rw (e, take_none k (updated 0 (commit_page g 0) s))
