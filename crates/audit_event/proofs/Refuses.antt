-- Refusals that several kinds of event share: while down, of a number that nobody bears, beside a live child.
use mathlib.Core.Path.{◌≡◌, refl, ap, ◌∙◌}
use mathlib.Core.Bool.{Bool, true, false}
use mathlib.Core.List.{List}
use mathlib.Core.Option.{Option, some}
use Prim.Native.Nat.{ℕ, zero, suc, ◌<◌}
use native.Mathlib.Omega.{arith}
use lib.ListN.{get_or}
use Rattle.laws.proofs.Tests.{same_refl, ne_false}
use Rattle.rules.specs.Store.{Page, pages_of}
use Rattle.rules.specs.Event.{Event, begin, lock, write, read, commit, abort, recover, prepare, decide, query, decision_of, access_of, report_of}
use Rattle.rules.specs.Step.{first_of}
use Rattle.rules.specs.Editions.{edition1}
use Rattle.leaf_event.specs.declared.Event.{Event as Fields}
use Rattle.leaf_event.specs.Meaning.{meaning}
use Rattle.leaf_event.proofs.Meaning.{means_bad, means_begin, means_lock, means_write, means_read, means_commit, means_abort, means_recover, means_prepare, means_decide, means_query}
use Rattle.audit_rules.specs.Plain.{Ledger, borne, is_parent, due_refusals}
use Rattle.audit_link.specs.Links.{entry_at}
use Rattle.audit_bearer.specs.Tables.{Tables, tables, ledger_of}
use Rattle.audit_event.specs.Step.{Audited, Before, BearerReady}
use Rattle.audit_event.proofs.Still.{refused_audited, bad_audited}

module _ (start : ℕ → Page) (owner parent fate bearer events store : List ℕ) (begun n : ℕ) where
  abbrev B' : Bool → Tables
  B' up = tables owner parent fate bearer begun up

  abbrev Says : Bool → Option Event → ℕ → Type 0
  Says up e m = Audited start events n (B' up) store e m 0 (B' up) store

  -- an event by its meaning
  say : (up : Bool) (x : Fields) (e : Event) (m : ℕ) → meaning x ≡ some e → first_of (due_refusals edition1 start (ledger_of (B' up) events n) (pages_of store) e) ≡ some m
      → Before events n (meaning x) (B' up) → Says up (meaning x) m
  say up x e m q f B = rw q (refused_audited start events n (B' up) store e m f (rw q at B))

  pub bad_is : (up : Bool) (x : Fields) → x.kind ≡ 0 → Before events n (meaning x) (B' up) → Says up (meaning x) 1
  bad_is up x k B = rw (means_bad x k) (bad_audited start events n (B' up) store (rw (means_bad x k) at B))

  -- kinds 9 to 11
  pub other_is : (up : Bool) (x : Fields) (k : ℕ) → x.kind ≡ k → 8 < k → k < 12 → Before events n (meaning x) (B' up) → Says up (meaning x) 1
  unfolding due_refusals first_of
  other_is up x (suc (suc (suc (suc (suc (suc (suc (suc (suc zero))))))))) q h g B = say up x (prepare x.transaction x.count x.value) 1 (means_prepare x q) refl B
  other_is up x (suc (suc (suc (suc (suc (suc (suc (suc (suc (suc zero)))))))))) q h g B = say up x (decide (decision_of x.offset) x.count x.value) 1 (means_decide x q) refl B
  other_is up x (suc (suc (suc (suc (suc (suc (suc (suc (suc (suc (suc zero))))))))))) q h g B = say up x (query x.value) 1 (means_query x q) refl B
  other_is up x (suc (suc (suc (suc (suc (suc (suc (suc (suc (suc (suc (suc k)))))))))))) q h g B = absurd (omega (arith, g))
  other_is up x zero q h g B = absurd (omega (arith, h))
  other_is up x (suc zero) q h g B = absurd (omega (arith, h))
  other_is up x (suc (suc zero)) q h g B = absurd (omega (arith, h))
  other_is up x (suc (suc (suc zero))) q h g B = absurd (omega (arith, h))
  other_is up x (suc (suc (suc (suc zero)))) q h g B = absurd (omega (arith, h))
  other_is up x (suc (suc (suc (suc (suc zero))))) q h g B = absurd (omega (arith, h))
  other_is up x (suc (suc (suc (suc (suc (suc zero)))))) q h g B = absurd (omega (arith, h))
  other_is up x (suc (suc (suc (suc (suc (suc (suc zero))))))) q h g B = absurd (omega (arith, h))
  other_is up x (suc (suc (suc (suc (suc (suc (suc (suc zero)))))))) q h g B = absurd (omega (arith, h))

  pub up_is : (x : Fields) → x.kind ≡ 8 → Before events n (meaning x) (B' true) → Says true (meaning x) 3
  unfolding due_refusals first_of ledger_of tables
  up_is x k B = say true x (recover x.count) 3 (means_recover x k) refl B

  pub down_is : (x : Fields) (k : ℕ) → x.kind ≡ k → 0 < k → k < 7 → Before events n (meaning x) (B' false) → Says false (meaning x) 2
  unfolding due_refusals first_of ledger_of tables
  down_is x zero q h g B = absurd (omega (arith, h))
  down_is x (suc zero) q h g B = say false x (begin x.transaction) 2 (means_begin x q) refl B
  down_is x (suc (suc zero)) q h g B = say false x (lock x.transaction x.rec (access_of x.value)) 2 (means_lock x q) refl B
  down_is x (suc (suc (suc zero))) q h g B = say false x (write x.transaction x.rec x.offset x.value) 2 (means_write x q) refl B
  down_is x (suc (suc (suc (suc zero)))) q h g B = say false x (read x.transaction x.rec x.offset) 2 (means_read x q) refl B
  down_is x (suc (suc (suc (suc (suc zero))))) q h g B = say false x (commit x.transaction x.count) 2 (means_commit x q) refl B
  down_is x (suc (suc (suc (suc (suc (suc zero)))))) q h g B = say false x (abort x.transaction (report_of x.value)) 2 (means_abort x q) refl B
  down_is x (suc (suc (suc (suc (suc (suc (suc k))))))) q h g B = absurd (omega (arith, g))

  -- a number that nobody bears
  module _ (x : Fields) (none_bears : get_or bearer x.transaction 0 ≡ 0) where
    dead : borne (ledger_of (B' true) events n).story x.transaction ≡ false
    unfolding borne ledger_of tables entry_at
    dead = rw (none_bears, same_refl 0)

    pub unknown_is : (k : ℕ) → x.kind ≡ k → 1 < k → k < 7 → Before events n (meaning x) (B' true) → Says true (meaning x) 5
    unfolding due_refusals first_of ledger_of tables
    unknown_is zero q h g B = absurd (omega (arith, h))
    unknown_is (suc zero) q h g B = absurd (omega (arith, h))
    unknown_is (suc (suc zero)) q h g B = say true x (lock x.transaction x.rec (access_of x.value)) 5 (means_lock x q) (rw dead) B
    unknown_is (suc (suc (suc zero))) q h g B = say true x (write x.transaction x.rec x.offset x.value) 5 (means_write x q) (rw dead) B
    unknown_is (suc (suc (suc (suc zero)))) q h g B = say true x (read x.transaction x.rec x.offset) 5 (means_read x q) (rw dead) B
    unknown_is (suc (suc (suc (suc (suc zero))))) q h g B = say true x (commit x.transaction x.count) 5 (means_commit x q) (rw dead) B
    unknown_is (suc (suc (suc (suc (suc (suc zero)))))) q h g B = say true x (abort x.transaction (report_of x.value)) 5 (means_abort x q) (rw dead) B
    unknown_is (suc (suc (suc (suc (suc (suc (suc k))))))) q h g B = absurd (omega (arith, g))

  -- a live child
  module _ (x : Fields) (me : ℕ) (R : BearerReady (B' true) x.transaction me) (child : is_parent (ledger_of (B' true) events n).story me ≡ true) where
    abbrev l : Ledger
    l = ledger_of (B' true) events n

    bears : l.story.bearer x.transaction ≡ me
    unfolding ledger_of tables entry_at
    bears = R.bears

    alive : borne l.story x.transaction ≡ true
    unfolding borne
    alive = rw (bears, ne_false me 0 R.some)

    has_child : is_parent l.story (l.story.bearer x.transaction) ≡ true
    has_child = ap (is_parent l.story) bears ∙ child

    pub waits_is : (k : ℕ) → x.kind ≡ k → 1 < k → k < 5 → Before events n (meaning x) (B' true) → Says true (meaning x) 14
    unfolding due_refusals first_of ledger_of tables
    waits_is zero q h g B = absurd (omega (arith, h))
    waits_is (suc zero) q h g B = absurd (omega (arith, h))
    waits_is (suc (suc zero)) q h g B = say true x (lock x.transaction x.rec (access_of x.value)) 14 (means_lock x q) (rw (alive, has_child)) B
    waits_is (suc (suc (suc zero))) q h g B = say true x (write x.transaction x.rec x.offset x.value) 14 (means_write x q) (rw (alive, has_child)) B
    waits_is (suc (suc (suc (suc zero)))) q h g B = say true x (read x.transaction x.rec x.offset) 14 (means_read x q) (rw (alive, has_child)) B
    waits_is (suc (suc (suc (suc (suc k))))) q h g B = absurd (omega (arith, g))

    pub stays_is : x.kind ≡ 5 → Before events n (meaning x) (B' true) → Says true (meaning x) 10
    unfolding due_refusals first_of ledger_of tables
    stays_is q B = say true x (commit x.transaction x.count) 10 (means_commit x q) (rw (alive, has_child)) B
