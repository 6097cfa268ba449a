-- Locks, writes and reads: of a live transaction without a live child.
use mathlib.Core.Path.{◌≡◌, refl, sym, ap, ◌∙◌, fun_ext}
use mathlib.Core.Bool.{Bool, true, false, cond}
use mathlib.Core.List.{List}
use mathlib.Core.Option.{some}
use Prim.Native.Nat.{ℕ, zero, suc, ◌<◌, ◌≤◌}
use native.Mathlib.Omega.{arith}
use lib.Dec.{eqb-suc-zero}
use lib.ListN.{get_or, set, length-set}
use lib.Seq.{get_or-set_same}
use Rattle.laws.specs.Tests.{same}
use Rattle.laws.proofs.Tests.{same_cases, Same, is, isnt, ne_false}
use Rattle.rules.specs.Geometry.{records}
use Rattle.rules.specs.Store.{Page, pages_of}
use Rattle.rules.specs.Event.{Access, access_of, Event, lock, write, read}
use Rattle.rules.specs.State.{Mode, is_lock, is_writing}
use Rattle.rules.specs.Locks.{bars}
use Rattle.rules.specs.Step.{done, number_of, value_of, first_of}
use Rattle.rules.specs.Editions.{geometry1, edition1}
use Rattle.history.specs.History.{told, effect_of, effect, after, overlaid}
use Rattle.history.specs.Claims.{seen_by}
use Rattle.audit_rules.specs.Plain.{Ledger, borne, is_parent, grant_blocks, locks_of, learned, passed_by, grants_by, up_by, read_by, due_refusals, due_done, due_to, due_by, due}
use Rattle.audit_link.specs.Links.{entry_at, shows_to}
use Rattle.audit_scan.specs.Scans.{mode_test, with_grant, with_write, grants_to, writes_up_to}
use Rattle.audit_bearer.specs.Tables.{Tables, tables, ledger_of}
use Rattle.audit_bearer.proofs.Change.{entry_set}
use Rattle.audit_event.specs.Step.{Consistent, Audited, Before, BearerReady}
use Rattle.audit_event.proofs.Still.{grants_before, writes_before, ledger_still, consistent_still, refused_audited, due_accepted}

-- the modes that bar what a lock's value asks for
pub bars_is : (v : ℕ) → mode_test (same v 0) ≡ bars (access_of v)
unfolding mode_test bars access_of same
bars_is zero = fun_ext (λ m. refl)
bars_is (suc v) = ap mode_test (eqb-suc-zero v) ∙ fun_ext (λ m. refl)

pub any_is : mode_test true ≡ is_lock
unfolding mode_test
any_is = fun_ext (λ m. refl)

pub writing_is : mode_test false ≡ is_writing
unfolding mode_test
writing_is = fun_ext (λ m. refl)

module _ (start : ℕ → Page) (owner parent fate bearer events store : List ℕ) (begun n t me : ℕ) where
  abbrev b : Tables
  b = tables owner parent fate bearer begun true

  abbrev l : Ledger
  l = ledger_of b events n

  module _ (R : BearerReady b t me) (alone : is_parent l.story me ≡ false) where
    bears : l.story.bearer t ≡ me
    unfolding ledger_of tables entry_at
    bears = R.bears

    is_up : l.up ≡ true
    unfolding ledger_of tables
    is_up = refl

    alive : borne l.story t ≡ true
    unfolding borne
    alive = rw (bears, ne_false me 0 R.some)

    -- an event that is accepted, and owned by me
    module _ (e : Event) (B : Before events n (some e) b) (small : n < 4096) where
      abbrev b' : Tables
      b' = tables (set owner n me) parent fate bearer begun true

      me_known : me ≤ begun
      unfolding tables
      me_known = rw (← R.bears) (B.consistent.matched.known t)

      owned_consistent : Consistent b' (suc n)
      unfolding tables
      owned_consistent = let T = B.consistent in record {
        matched = T.matched;
        earlier = T.earlier;
        tall = T.tall;
        full = length-set owner n me ∙ T.full;
        owners = λ j. rw (entry_set owner n me j (let w = T.full in omega (arith, w, small))) (low j (same_cases j n));
        later = λ j h. rw (entry_set owner n me j (let w = T.full in omega (arith, w, small)), ne_false j n (λ z. omega (arith, z, h))) (T.later j (omega (arith, h)));
        few = (let k = T.few in omega (arith, k));
      }
        where
          low : (j : ℕ) → Same j n → cond (same j n) me (get_or owner j 0) ≤ begun
          low j (is q s _) = rw s me_known
          low j (isnt q s _) = rw s (B.consistent.owners j)

      owned_grants : grants_to (set owner n me) events (suc n) ≡ with_grant me (some e) (grants_to owner events n)
      unfolding grants_to tables
      owned_grants = rw (get_or-set_same owner n me 0 (let w = B.consistent.full in omega (arith, w, small)), B.comes, grants_before owner events n me n (omega arith))

      owned_writes : writes_up_to (set owner n me) events (suc n) ≡ with_write me (some e) (writes_up_to owner events n)
      unfolding writes_up_to tables
      owned_writes = rw (get_or-set_same owner n me 0 (let w = B.consistent.full in omega (arith, w, small)), B.comes, writes_before owner events n me n (omega arith))

    locked_ledger : (r : ℕ) (a : Access) (B : Before events n (some (lock t r a)) b) (small : n < 4096)
        → ledger_of (tables (set owner n me) parent fate bearer begun true) events (suc n) ≡ learned (records geometry1) l (some (lock t r a)) (done 0)
    unfolding tables ledger_of learned told effect_of effect after passed_by grants_by up_by with_grant with_write
    locked_ledger r a B small = rw (owned_grants (lock t r a) B small, owned_writes (lock t r a) B small, ne_false me 0 R.some, bears)

    childless : is_parent l.story (l.story.bearer t) ≡ false
    childless = ap (is_parent l.story) bears ∙ alone

    barred : (r : ℕ) (a : Access) → locks_of (bars a) (grant_blocks l (l.story.bearer t)) r l.grants ≡ locks_of (bars a) (grant_blocks l me) r l.grants
    barred r a = ap (λ (i : ℕ). locks_of (bars a) (grant_blocks l i) r l.grants) bears

    -- a lock
    pub lock_8 : (r : ℕ) (a : Access) → locks_of (bars a) (grant_blocks l me) r l.grants ≡ true → Before events n (some (lock t r a)) b → Audited start events n b store (some (lock t r a)) 8 0 b store
    unfolding due_refusals first_of ledger_of tables
    lock_8 r a q B = refused_audited start events n b store (lock t r a) 8 (rw (alive, childless, barred r a, q)) B

    pub lock_0 : (r : ℕ) (a : Access) → locks_of (bars a) (grant_blocks l me) r l.grants ≡ false → (B : Before events n (some (lock t r a)) b) → n < 4096
        → Audited start events n b store (some (lock t r a)) 0 0 (tables (set owner n me) parent fate bearer begun true) store
    unfolding number_of value_of due_refusals first_of due_by due_to due_done ledger_of tables
    lock_0 r a q B small =
        let w : due edition1 start l (pages_of store) (some (lock t r a)) ≡ record { answer = done 0; store = pages_of store } = due_accepted start events n b store (lock t r a) (rw (alive, childless, barred r a, q)) in
        record { numbered = rw w; valued = rw w; stored = rw w; learns = rw w (locked_ledger r a B small); consistent = owned_consistent (lock t r a) B small }

    wrote_ledger : (r o v : ℕ) (B : Before events n (some (write t r o v)) b) (small : n < 4096)
        → ledger_of (tables (set owner n me) parent fate bearer begun true) events (suc n) ≡ learned (records geometry1) l (some (write t r o v)) (done 0)
    unfolding tables ledger_of learned told effect_of effect after passed_by grants_by up_by with_grant with_write
    wrote_ledger r o v B small = rw (owned_grants (write t r o v) B small, owned_writes (write t r o v) B small, ne_false me 0 R.some, bears)

    -- a write
    pub write_9 : (r o v : ℕ) → locks_of is_writing (λ i. same i me) r l.grants ≡ false → Before events n (some (write t r o v)) b → Audited start events n b store (some (write t r o v)) 9 0 b store
    unfolding due_refusals first_of
    write_9 r o v q B = refused_audited start events n b store (write t r o v) 9 (rw (is_up, alive, bears, alone, q)) B

    pub write_0 : (r o v : ℕ) → locks_of is_writing (λ i. same i me) r l.grants ≡ true → (B : Before events n (some (write t r o v)) b) → n < 4096
        → Audited start events n b store (some (write t r o v)) 0 0 (tables (set owner n me) parent fate bearer begun true) store
    unfolding number_of value_of due_refusals first_of due_by due_to due_done
    write_0 r o v q B small =
        let w : due edition1 start l (pages_of store) (some (write t r o v)) ≡ record { answer = done 0; store = pages_of store } = due_accepted start events n b store (write t r o v) (rw (is_up, alive, bears, alone, q)) in
        record { numbered = rw w; valued = rw w; stored = rw w; learns = rw w (wrote_ledger r o v B small); consistent = owned_consistent (write t r o v) B small }

    -- a read
    pub read_9 : (r o : ℕ) → locks_of is_lock (λ i. same i me) r l.grants ≡ false → Before events n (some (read t r o)) b → Audited start events n b store (some (read t r o)) 9 0 b store
    unfolding due_refusals first_of
    read_9 r o q B = refused_audited start events n b store (read t r o) 9 (rw (is_up, alive, bears, alone, q)) B

    read_ledger : (r o v : ℕ) → l ≡ learned (records geometry1) l (some (read t r o)) (done v)
    unfolding learned told effect_of effect after passed_by grants_by up_by
    read_ledger r o v = refl

    reads_are : (r : ℕ) → overlaid (shows_to l me) r l.story.writes (start r) ≡ read_by edition1 start l.story t r
    unfolding read_by seen_by shows_to
    reads_are r = ap (λ (i : ℕ). overlaid (shows_to l i) r l.story.writes (start r)) (sym bears)

    pub read_0 : (r o v : ℕ) → locks_of is_lock (λ i. same i me) r l.grants ≡ true → v ≡ get_or (overlaid (shows_to l me) r l.story.writes (start r)) o 0
        → Before events n (some (read t r o)) b → Audited start events n b store (some (read t r o)) 0 v b store
    unfolding number_of value_of due_refusals first_of due_by due_to due_done
    read_0 r o v q z B =
        let w : due edition1 start l (pages_of store) (some (read t r o)) ≡ record { answer = done v; store = pages_of store } =
        due_accepted start events n b store (read t r o) (rw (is_up, alive, bears, alone, q)) ∙ ap (λ (x : ℕ). record { answer = done x; store = pages_of store }) (sym (z ∙ ap (λ (p : Page). get_or p o 0) (reads_are r))) in
        record { numbered = rw w; valued = rw w; stored = rw w; learns = rw w (ledger_still b events n B.consistent ∙ read_ledger r o v); consistent = consistent_still B.consistent }

  pub lock_told : (r v : ℕ) (hit : Bool) → hit ≡ locks_of (mode_test (same v 0)) (grant_blocks l me) r (grants_to owner events n) → locks_of (bars (access_of v)) (grant_blocks l me) r l.grants ≡ hit
  unfolding ledger_of tables
  lock_told r v hit e = ap (λ (test : Mode → Bool). locks_of test (grant_blocks l me) r (grants_to owner events n)) (sym (bars_is v)) ∙ sym e

  pub write_told : (r : ℕ) (hit : Bool) → hit ≡ locks_of (mode_test false) (λ i. same i me) r (grants_to owner events n) → locks_of is_writing (λ i. same i me) r l.grants ≡ hit
  unfolding ledger_of tables
  write_told r hit e = ap (λ (test : Mode → Bool). locks_of test (λ i. same i me) r (grants_to owner events n)) (sym writing_is) ∙ sym e

  pub read_told : (r : ℕ) (hit : Bool) → hit ≡ locks_of (mode_test true) (λ i. same i me) r (grants_to owner events n) → locks_of is_lock (λ i. same i me) r l.grants ≡ hit
  unfolding ledger_of tables
  read_told r hit e = ap (λ (test : Mode → Bool). locks_of test (λ i. same i me) r (grants_to owner events n)) (sym any_is) ∙ sym e

  pub read_byte : (r o : ℕ) (page settled : Page) → page ≡ overlaid (shows_to l me) r (writes_up_to owner events n) settled → settled ≡ start r
      → get_or page o 0 ≡ get_or (overlaid (shows_to l me) r l.story.writes (start r)) o 0
  unfolding ledger_of tables
  read_byte r o page settled e q = rw (e, q)
