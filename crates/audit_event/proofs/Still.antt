-- An event that owns nothing leaves the accepted locks and writes as they were; a refused event leaves everything.
use mathlib.Core.Path.{◌≡◌, refl, ◌∙◌}
use mathlib.Core.List.{List}
use mathlib.Core.Option.{Option, none, some}
use Prim.Native.Nat.{ℕ, zero, suc, ◌≤◌}
use native.Mathlib.Omega.{arith}
use lib.ListN.{get_or, set}
use lib.Seq.{get_or-set_other}
use Rattle.laws.proofs.Tests.{same_refl}
use Rattle.rules.specs.Geometry.{records}
use Rattle.rules.specs.Store.{Page, Pages, pages_of}
use Rattle.rules.specs.Event.{Event, begin, lock, write, read, commit, abort, crash, recover, prepare, decide, query}
use Rattle.rules.specs.Step.{refused, number_of, value_of, first_of}
use Rattle.rules.specs.Editions.{geometry1, edition1}
use Rattle.history.specs.History.{Write}
use Rattle.audit_rules.specs.Plain.{Grant, Ledger, learned, Due, due_refusals, due_by, due}
use Rattle.audit_scan.specs.Scans.{event_in_bytes, with_grant, with_write, grants_to, writes_up_to}
use Rattle.audit_bearer.specs.Tables.{Tables, ledger_of}
use Rattle.audit_event.specs.Step.{Consistent, Audited, Before}

-- what is nobody's is not added
no_grant : (e : Option Event) (gs : List Grant) → with_grant 0 e gs ≡ gs
unfolding with_grant
no_grant none gs = refl
no_grant (some (begin p)) gs = refl
no_grant (some (lock t r a)) gs = rw (same_refl 0)
no_grant (some (write t r o v)) gs = refl
no_grant (some (read t r o)) gs = refl
no_grant (some (commit t k)) gs = refl
no_grant (some (abort t w)) gs = refl
no_grant (some crash) gs = refl
no_grant (some (recover k)) gs = refl
no_grant (some (prepare u c j)) gs = refl
no_grant (some (decide d c j)) gs = refl
no_grant (some (query j)) gs = refl

no_write : (e : Option Event) (ws : List Write) → with_write 0 e ws ≡ ws
unfolding with_write
no_write none ws = refl
no_write (some (begin p)) ws = refl
no_write (some (lock t r a)) ws = refl
no_write (some (write t r o v)) ws = rw (same_refl 0)
no_write (some (read t r o)) ws = refl
no_write (some (commit t k)) ws = refl
no_write (some (abort t w)) ws = refl
no_write (some crash) ws = refl
no_write (some (recover k)) ws = refl
no_write (some (prepare u c j)) ws = refl
no_write (some (decide d c j)) ws = refl
no_write (some (query j)) ws = refl

module _ (owner events : List ℕ) (n : ℕ) where
  pub grants_still : get_or owner n 0 ≡ 0 → grants_to owner events (suc n) ≡ grants_to owner events n
  unfolding grants_to
  grants_still e = rw e (no_grant (event_in_bytes events n) (grants_to owner events n))

  pub writes_still : get_or owner n 0 ≡ 0 → writes_up_to owner events (suc n) ≡ writes_up_to owner events n
  unfolding writes_up_to
  writes_still e = rw e (no_write (event_in_bytes events n) (writes_up_to owner events n))

-- earlier events don't see a later owner
pub grants_before : (owner events : List ℕ) (n v k : ℕ) → k ≤ n → grants_to (set owner n v) events k ≡ grants_to owner events k
unfolding grants_to
grants_before owner events n v zero h = refl
grants_before owner events n v (suc k) h = rw (get_or-set_other owner n k v 0 (λ q. omega (arith, q, h)), grants_before owner events n v k (omega (arith, h)))

pub writes_before : (owner events : List ℕ) (n v k : ℕ) → k ≤ n → writes_up_to (set owner n v) events k ≡ writes_up_to owner events k
unfolding writes_up_to
writes_before owner events n v zero h = refl
writes_before owner events n v (suc k) h = rw (get_or-set_other owner n k v 0 (λ q. omega (arith, q, h)), writes_before owner events n v k (omega (arith, h)))

pub consistent_still : {b : Tables} {n : ℕ} → Consistent b n → Consistent b (suc n)
consistent_still {b} {n} T = record {
  matched = T.matched;
  earlier = T.earlier;
  tall = T.tall;
  full = T.full;
  owners = T.owners;
  later = λ j h. T.later j (omega (arith, h));
  few = (let k = T.few in omega (arith, k));
}

pub ledger_still : (b : Tables) (events : List ℕ) (n : ℕ) → Consistent b n → ledger_of b events (suc n) ≡ ledger_of b events n
unfolding ledger_of
ledger_still b events n T = rw (grants_still b.owner events n (T.later n (omega arith)), writes_still b.owner events n (T.later n (omega arith)))

learned_refused : (k : ℕ) (l : Ledger) (e : Option Event) (m : ℕ) → l ≡ learned k l e (refused m)
unfolding learned
learned_refused k l none m = refl
learned_refused k l (some e) m = refl

module _ (start : ℕ → Page) (events : List ℕ) (n : ℕ) (b : Tables) (store : List ℕ) where
  abbrev D : Option Event → Due Pages
  D e = due edition1 start (ledger_of b events n) (pages_of store) e

  -- the event is refused
  due_refused : (e : Event) (m : ℕ) → first_of (due_refusals edition1 start (ledger_of b events n) (pages_of store) e) ≡ some m → D (some e) ≡ record { answer = refused m; store = pages_of store }
  unfolding due due_by
  due_refused e m q = rw q

  pub due_accepted : (e : Event) → first_of (due_refusals edition1 start (ledger_of b events n) (pages_of store) e) ≡ none → D (some e) ≡ due_by edition1 start (ledger_of b events n) (pages_of store) e none
  unfolding due
  due_accepted e q = rw q

  refused_by : (e : Option Event) (m : ℕ) → D e ≡ record { answer = refused m; store = pages_of store } → Consistent b n → Audited start events n b store e m 0 b store
  unfolding number_of value_of
  refused_by e m q T = record {
    numbered = rw q;
    valued = rw q;
    stored = rw q;
    learns = rw q (ledger_still b events n T ∙ learned_refused (records geometry1) (ledger_of b events n) e m);
    consistent = consistent_still T;
  }

  pub refused_audited : (e : Event) (m : ℕ) → first_of (due_refusals edition1 start (ledger_of b events n) (pages_of store) e) ≡ some m → Before events n (some e) b → Audited start events n b store (some e) m 0 b store
  refused_audited e m q B = refused_by (some e) m (due_refused e m q) B.consistent

  pub bad_audited : Before events n none b → Audited start events n b store none 1 0 b store
  unfolding due
  bad_audited B = refused_by none 1 refl B.consistent
