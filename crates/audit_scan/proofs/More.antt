-- One event more: what it adds to the accepted locks and writes.
use mathlib.Core.Path.{◌≡◌, refl, sym, ap, ◌∙◌}
use mathlib.Core.Bool.{Bool, true, false, not, cond, ◌&&◌, ◌||◌}
use mathlib.Core.List.{List, ◌∷◌}
use mathlib.Core.Logic.{◌≢◌}
use mathlib.Core.Option.{Option, none, some}
use Prim.Native.Nat.{ℕ, zero, suc, ◌+◌, ◌<◌}
use native.Mathlib.Omega.{arith}
use native.Mathlib.Numerals.{add-one}
use lib.ListN.{get_or, set}
use lib.Dec.{eqb-suc-zero}
use Rattle.laws.specs.Tests.{same, open_tests}
use Rattle.laws.specs.Counting.{any}
use Rattle.laws.proofs.Tests.{same_cases, Same, is, isnt, same_refl, ne_false, Is, is_cases, yes', no'}
use Rattle.rules.specs.Store.{Page}
use Rattle.rules.specs.Event.{Event, begin, lock, write, read, commit, abort, crash, recover, prepare, decide, query, access_of}
use Rattle.rules.specs.State.{Mode, is_lock, is_writing}
use Rattle.rules.specs.Locks.{mode_for}
use Rattle.leaf_event.specs.declared.Event.{Event as Fields}
use Rattle.leaf_event.specs.Meaning.{meaning, InRange}
use Rattle.leaf_event.proofs.Meaning.{means_bad, means_begin, means_lock, means_write, means_read, means_commit, means_abort, means_crash, means_recover, means_prepare, means_decide, means_query}
use Rattle.history.specs.History.{Write, writes_to, overlaid}
use Rattle.audit_rules.specs.Plain.{Grant, locks_of}
use Rattle.audit_scan.specs.Scans.{event_in_bytes, mode_test, locks_at, writes_at, byte_at, with_grant, with_write, grants_to, writes_up_to}

quiet : (m z q : Bool) → (m || (not z && (q && false))) ≡ m
quiet true z q = refl
quiet false true q = refl
quiet false false true = refl
quiet false false false = refl

pub or-none : (m : Bool) → (m || false) ≡ m
or-none true = refl
or-none false = refl

or_comm : (a b : Bool) → (a || b) ≡ (b || a)
or_comm true true = refl
or_comm true false = refl
or_comm false true = refl
or_comm false false = refl

still : (b : Bool) (page : Page) → cond b page page ≡ page
still true page = refl
still false page = refl

-- a lock that is added
pub grant_more : (test : Mode → Bool) (p : ℕ → Bool) (r i : ℕ) (e : Option Event) (gs : List Grant)
    → (locks_of test p r gs || (not (same i 0) && (p i && locks_at e r test))) ≡ locks_of test p r (with_grant i e gs)
unfolding with_grant locks_at locks_of
grant_more test p r i none gs = quiet (locks_of test p r gs) (same i 0) (p i)
grant_more test p r i (some (begin t)) gs = quiet (locks_of test p r gs) (same i 0) (p i)
grant_more test p r i (some (lock t q a)) gs = go (is_cases (same i 0))
  where
    go : Is (same i 0) → (locks_of test p r gs || (not (same i 0) && (p i && (same q r && test (mode_for a))))) ≡ locks_of test p r (cond (same i 0) gs (record { transaction = i; rec = q; access = a } ∷ gs))
    go (yes' z) = rw z (or-none (locks_of test p r gs))
    go (no' z) = rw z (or_comm (locks_of test p r gs) (p i && (same q r && test (mode_for a))))
grant_more test p r i (some (write t q o v)) gs = quiet (locks_of test p r gs) (same i 0) (p i)
grant_more test p r i (some (read t q o)) gs = quiet (locks_of test p r gs) (same i 0) (p i)
grant_more test p r i (some (commit t k)) gs = quiet (locks_of test p r gs) (same i 0) (p i)
grant_more test p r i (some (abort t w)) gs = quiet (locks_of test p r gs) (same i 0) (p i)
grant_more test p r i (some crash) gs = quiet (locks_of test p r gs) (same i 0) (p i)
grant_more test p r i (some (recover k)) gs = quiet (locks_of test p r gs) (same i 0) (p i)
grant_more test p r i (some (prepare u c j)) gs = quiet (locks_of test p r gs) (same i 0) (p i)
grant_more test p r i (some (decide d c j)) gs = quiet (locks_of test p r gs) (same i 0) (p i)
grant_more test p r i (some (query j)) gs = quiet (locks_of test p r gs) (same i 0) (p i)

-- a write that is added
pub write_more : (p : ℕ → Bool) (r i : ℕ) (e : Option Event) (ws : List Write)
    → (writes_to p r ws || (not (same i 0) && (p i && writes_at e r))) ≡ writes_to p r (with_write i e ws)
unfolding with_write writes_at writes_to
write_more p r i none ws = quiet (writes_to p r ws) (same i 0) (p i)
write_more p r i (some (begin t)) ws = quiet (writes_to p r ws) (same i 0) (p i)
write_more p r i (some (lock t q a)) ws = quiet (writes_to p r ws) (same i 0) (p i)
write_more p r i (some (write t q o v)) ws = go (is_cases (same i 0))
  where
    go : Is (same i 0) → (writes_to p r ws || (not (same i 0) && (p i && same q r))) ≡ writes_to p r (cond (same i 0) ws (record { transaction = i; rec = q; laid = λ page. set page o v } ∷ ws))
    go (yes' z) = rw z (or-none (writes_to p r ws))
    go (no' z) = rw z (or_comm (writes_to p r ws) (p i && same q r))
write_more p r i (some (read t q o)) ws = quiet (writes_to p r ws) (same i 0) (p i)
write_more p r i (some (commit t k)) ws = quiet (writes_to p r ws) (same i 0) (p i)
write_more p r i (some (abort t w)) ws = quiet (writes_to p r ws) (same i 0) (p i)
write_more p r i (some crash) ws = quiet (writes_to p r ws) (same i 0) (p i)
write_more p r i (some (recover k)) ws = quiet (writes_to p r ws) (same i 0) (p i)
write_more p r i (some (prepare u c j)) ws = quiet (writes_to p r ws) (same i 0) (p i)
write_more p r i (some (decide d c j)) ws = quiet (writes_to p r ws) (same i 0) (p i)
write_more p r i (some (query j)) ws = quiet (writes_to p r ws) (same i 0) (p i)

-- a write that is laid over
pub lay_more : (p : ℕ → Bool) (r i : ℕ) (e : Option Event) (ws : List Write) (b : Page)
    → cond (not (same i 0) && (p i && writes_at e r)) (byte_at e (overlaid p r ws b)) (overlaid p r ws b) ≡ overlaid p r (with_write i e ws) b
unfolding with_write writes_at byte_at overlaid
lay_more p r i none ws b = still (not (same i 0) && (p i && false)) (overlaid p r ws b)
lay_more p r i (some (begin t)) ws b = still (not (same i 0) && (p i && false)) (overlaid p r ws b)
lay_more p r i (some (lock t q a)) ws b = still (not (same i 0) && (p i && false)) (overlaid p r ws b)
lay_more p r i (some (write t q o v)) ws b = go (is_cases (same i 0))
  where
    go : Is (same i 0) → cond (not (same i 0) && (p i && same q r)) (set (overlaid p r ws b) o v) (overlaid p r ws b) ≡ overlaid p r (cond (same i 0) ws (record { transaction = i; rec = q; laid = λ page. set page o v } ∷ ws)) b
    go (yes' z) = rw z
    go (no' z) = rw z
lay_more p r i (some (read t q o)) ws b = still (not (same i 0) && (p i && false)) (overlaid p r ws b)
lay_more p r i (some (commit t k)) ws b = still (not (same i 0) && (p i && false)) (overlaid p r ws b)
lay_more p r i (some (abort t w)) ws b = still (not (same i 0) && (p i && false)) (overlaid p r ws b)
lay_more p r i (some crash) ws b = still (not (same i 0) && (p i && false)) (overlaid p r ws b)
lay_more p r i (some (recover k)) ws b = still (not (same i 0) && (p i && false)) (overlaid p r ws b)
lay_more p r i (some (prepare u c j)) ws b = still (not (same i 0) && (p i && false)) (overlaid p r ws b)
lay_more p r i (some (decide d c j)) ws b = still (not (same i 0) && (p i && false)) (overlaid p r ws b)
lay_more p r i (some (query j)) ws b = still (not (same i 0) && (p i && false)) (overlaid p r ws b)

-- the mode of a lock's value
mode_is : (any : Bool) (v : ℕ) → (any || same v 0) ≡ mode_test any (mode_for (access_of v))
unfolding mode_test mode_for access_of is_lock is_writing open_tests
mode_is true zero = refl
mode_is true (suc v) = refl
mode_is false zero = refl
mode_is false (suc v) = eqb-suc-zero v

-- an event by its kind
module _ (e : Fields) where
  no_lock : (k r : ℕ) (test : Mode → Bool) → e.kind ≡ k → k < 12 → k ≢ 2 → locks_at (meaning e) r test ≡ false
  unfolding locks_at
  no_lock zero r test q h n = rw (means_bad e q)
  no_lock (suc zero) r test q h n = rw (means_begin e q)
  no_lock (suc (suc zero)) r test q h n = absurd (n refl)
  no_lock (suc (suc (suc zero))) r test q h n = rw (means_write e q)
  no_lock (suc (suc (suc (suc zero)))) r test q h n = rw (means_read e q)
  no_lock (suc (suc (suc (suc (suc zero))))) r test q h n = rw (means_commit e q)
  no_lock (suc (suc (suc (suc (suc (suc zero)))))) r test q h n = rw (means_abort e q)
  no_lock (suc (suc (suc (suc (suc (suc (suc zero))))))) r test q h n = rw (means_crash e q)
  no_lock (suc (suc (suc (suc (suc (suc (suc (suc zero)))))))) r test q h n = rw (means_recover e q)
  no_lock (suc (suc (suc (suc (suc (suc (suc (suc (suc zero))))))))) r test q h n = rw (means_prepare e q)
  no_lock (suc (suc (suc (suc (suc (suc (suc (suc (suc (suc zero)))))))))) r test q h n = rw (means_decide e q)
  no_lock (suc (suc (suc (suc (suc (suc (suc (suc (suc (suc (suc zero))))))))))) r test q h n = rw (means_query e q)
  no_lock (suc (suc (suc (suc (suc (suc (suc (suc (suc (suc (suc (suc k)))))))))))) r test q h n = absurd (omega (arith, h))

  no_write : (k r : ℕ) → e.kind ≡ k → k < 12 → k ≢ 3 → writes_at (meaning e) r ≡ false
  unfolding writes_at
  no_write zero r q h n = rw (means_bad e q)
  no_write (suc zero) r q h n = rw (means_begin e q)
  no_write (suc (suc zero)) r q h n = rw (means_lock e q)
  no_write (suc (suc (suc zero))) r q h n = absurd (n refl)
  no_write (suc (suc (suc (suc zero)))) r q h n = rw (means_read e q)
  no_write (suc (suc (suc (suc (suc zero))))) r q h n = rw (means_commit e q)
  no_write (suc (suc (suc (suc (suc (suc zero)))))) r q h n = rw (means_abort e q)
  no_write (suc (suc (suc (suc (suc (suc (suc zero))))))) r q h n = rw (means_crash e q)
  no_write (suc (suc (suc (suc (suc (suc (suc (suc zero)))))))) r q h n = rw (means_recover e q)
  no_write (suc (suc (suc (suc (suc (suc (suc (suc (suc zero))))))))) r q h n = rw (means_prepare e q)
  no_write (suc (suc (suc (suc (suc (suc (suc (suc (suc (suc zero)))))))))) r q h n = rw (means_decide e q)
  no_write (suc (suc (suc (suc (suc (suc (suc (suc (suc (suc (suc zero))))))))))) r q h n = rw (means_query e q)
  no_write (suc (suc (suc (suc (suc (suc (suc (suc (suc (suc (suc (suc k)))))))))))) r q h n = absurd (omega (arith, h))

  pub locks_is : (r : ℕ) (any : Bool) → InRange e → ((same e.kind 2 && same e.rec r) && (any || same e.value 0)) ≡ locks_at (meaning e) r (mode_test any)
  unfolding locks_at
  locks_is r any R = go (same_cases e.kind 2)
    where
      go : Same e.kind 2 → ((same e.kind 2 && same e.rec r) && (any || same e.value 0)) ≡ locks_at (meaning e) r (mode_test any)
      go (is q s _) = rw (means_lock e q, s, mode_is any e.value)
      go (isnt q s _) = rw s (sym (no_lock e.kind r (mode_test any) refl R.kind q))

  pub writes_is : (r : ℕ) → InRange e → (same e.kind 3 && same e.rec r) ≡ writes_at (meaning e) r
  unfolding writes_at
  writes_is r R = go (same_cases e.kind 3)
    where
      go : Same e.kind 3 → (same e.kind 3 && same e.rec r) ≡ writes_at (meaning e) r
      go (is q s _) = rw (means_write e q, s)
      go (isnt q s _) = rw s (sym (no_write e.kind r refl R.kind q))

  pub byte_is : (page : Page) → e.kind ≡ 3 → byte_at (meaning e) page ≡ set page e.offset e.value
  unfolding byte_at
  byte_is page q = rw (means_write e q)

-- an event of a transaction belongs to one
pub own_some : (o me : ℕ) (x : Bool) → 0 < me → (same o me && x) ≡ (not (same o 0) && (same o me && x))
own_some o me x h = go (same_cases o 0)
  where
    go : Same o 0 → (same o me && x) ≡ (not (same o 0) && (same o me && x))
    go (is q s _) = rw (q, ne_false 0 me (λ z. omega (arith, z, h)), same_refl 0)
    go (isnt q s _) = rw s

-- some event is a lock, a write
module _ (owner events : List ℕ) where
  pub locks_any : (test : Mode → Bool) (p : ℕ → Bool) (r n : ℕ)
      → any n (λ k. not (same (get_or owner k 0) 0) && (p (get_or owner k 0) && locks_at (event_in_bytes events k) r test)) ≡ locks_of test p r (grants_to owner events n)
  unfolding any grants_to locks_of
  locks_any test p r zero = refl
  locks_any test p r (suc n) = rw (locks_any test p r n) (grant_more test p r (get_or owner n 0) (event_in_bytes events n) (grants_to owner events n))

  pub writes_any : (p : ℕ → Bool) (r n : ℕ)
      → any n (λ k. not (same (get_or owner k 0) 0) && (p (get_or owner k 0) && writes_at (event_in_bytes events k) r)) ≡ writes_to p r (writes_up_to owner events n)
  unfolding any writes_up_to writes_to
  writes_any p r zero = refl
  writes_any p r (suc n) = rw (writes_any p r n) (write_more p r (get_or owner n 0) (event_in_bytes events n) (writes_up_to owner events n))

module _ (owner events : List ℕ) (k : ℕ) where
  abbrev o : ℕ
  o = get_or owner k 0

  abbrev e : Option Event
  e = event_in_bytes events k

  writes_next : writes_up_to owner events (k + 1) ≡ with_write o e (writes_up_to owner events k)
  unfolding writes_up_to
  writes_next = ap (writes_up_to owner events) (add-one k)

  -- the writes that are laid over: one event more
  pub lay_scan : (p : ℕ → Bool) (r : ℕ) (b page after : Page) → page ≡ overlaid p r (writes_up_to owner events k) b
      → after ≡ cond (not (same o 0) && (p o && writes_at e r)) (byte_at e page) page → after ≡ overlaid p r (writes_up_to owner events (k + 1)) b
  lay_scan p r b page after m h = rw (writes_next) (h ∙ rw m (lay_more p r o e (writes_up_to owner events k) b))
