-- A recovery, while down.
use mathlib.Core.Path.{◌≡◌, refl, sym, ap, ◌∙◌}
use mathlib.Core.Bool.{Bool, true, false, not, true≢false, false≢true}
use mathlib.Core.List.{List}
use mathlib.Core.Option.{some}
use Prim.Native.Nat.{ℕ, suc}
use native.Mathlib.Omega.{arith}
use Rattle.rules.specs.Store.{Page, Pages, pages_of, damaged}
use Rattle.rules.specs.Event.{recover}
use Rattle.rules.specs.Commit.{recover_at}
use Rattle.rules.specs.Step.{number_of, value_of, first_of}
use Rattle.rules.specs.Editions.{geometry1, edition1}
use Rattle.history.specs.History.{told, effect_of, effect, after}
use Rattle.audit_rules.specs.Plain.{Ledger, learned, passed_by, grants_by, up_by, due_refusals, due_cut, due_to, due_by, due}
use Rattle.leaf_commit_page.specs.Heard.{understood}
use Rattle.leaf_commit_page.specs.declared.CommitMap.{CommitMap}
use Rattle.audit_bearer.specs.Tables.{Tables, Matched, Ending, takes, tables, ledger_of}
use Rattle.audit_event.specs.Step.{Audited, Before}
use Rattle.audit_event.proofs.Still.{grants_still, writes_still, refused_audited, due_accepted}
use Rattle.audit_event.proofs.Aborts.{after_consistent, all_ledger}

-- what is read of a commit page of any kind: whether it is damaged
pub good_said : (s : Pages) {c : CommitMap} → c ≡ understood geometry1 (s 0) → c.good ≡ not (damaged geometry1 s)
unfolding understood damaged
good_said s e = ap (λ (c : CommitMap). c.good) e

not_flip : (a b : Bool) → b ≡ not a → b ≡ false → a ≡ true
not_flip true b e q = refl
not_flip false b e q = absurd (true≢false (sym e ∙ q))

not_flop : (a b : Bool) → b ≡ not a → b ≡ true → a ≡ false
not_flop true b e q = absurd (false≢true (sym e ∙ q))
not_flop false b e q = refl

module _ (start : ℕ → Page) (owner parent fate bearer events store : List ℕ) (begun n k : ℕ)
    (B : Before events n (some (recover k)) (tables owner parent fate bearer begun false)) where
  abbrev b : Tables
  b = tables owner parent fate bearer begun false

  abbrev l : Ledger
  l = ledger_of b events n

  matched : Matched fate bearer begun
  unfolding tables
  matched = B.consistent.matched

  module _ (good : Bool) (told_good : good ≡ not (damaged geometry1 (pages_of store))) where
    pub recover_4 : good ≡ false → Audited start events n b store (some (recover k)) 4 0 b store
    unfolding due_refusals first_of ledger_of tables
    recover_4 e = refused_audited start events n b store (recover k) 4 (rw (not_flip (damaged geometry1 (pages_of store)) good told_good e)) B

    module _ (e : good ≡ true) (made : ℕ) (crashed : Bool) (store' : List ℕ) (left_store : pages_of store' ≡ (recover_at geometry1 (pages_of store) k).store)
        (left_made : made ≡ (recover_at geometry1 (pages_of store) k).made) (left_crashed : crashed ≡ (recover_at geometry1 (pages_of store) k).crashed) where
      due_is : due edition1 start l (pages_of store) (some (recover k)) ≡ due_cut edition1 start (recover_at geometry1 (pages_of store) k) crashed
      unfolding due_refusals first_of ledger_of tables due_by due_to
      due_is = due_accepted start events n b store (recover k) (rw (not_flop (damaged geometry1 (pages_of store)) good told_good e)) ∙ rw left_crashed

      raised_ledger : ledger_of (tables owner parent fate bearer begun true) events (suc n) ≡ record { story = l.story; passed = l.passed; grants = l.grants; up = true }
      unfolding ledger_of tables
      raised_ledger = rw (grants_still owner events n (B.consistent.later n (omega arith)), writes_still owner events n (B.consistent.later n (omega arith)))

      pub recover_0 : crashed ≡ false → Audited start events n b store (some (recover k)) 0 made (tables owner parent fate bearer begun true) store'
      unfolding number_of value_of due_cut learned told effect_of effect after passed_by grants_by up_by
      recover_0 c =
          let w = due_is ∙ ap (due_cut edition1 start (recover_at geometry1 (pages_of store) k)) c in
          record { numbered = rw w; valued = rw w left_made; stored = rw w left_store; learns = rw w raised_ledger; consistent = after_consistent start owner parent fate bearer events store begun n false (recover k) B fate bearer true match_of }
        where
          match_of : Matched fate bearer begun
          match_of = matched

      pub recover_cut : crashed ≡ true → {fate' bearer' : List ℕ} → Ending (takes parent 0) 24 fate bearer fate' bearer' → Matched fate' bearer' begun
          → Audited start events n b store (some (recover k)) 11 made (tables owner parent fate' bearer' begun false) store'
      unfolding number_of value_of due_cut learned told effect_of effect after passed_by grants_by
      recover_cut c {fate'} {bearer'} E S =
          let w = due_is ∙ ap (due_cut edition1 start (recover_at geometry1 (pages_of store) k)) c in
          record {
            numbered = rw w;
            valued = rw w left_made;
            stored = rw w left_store;
            learns = rw w (all_ledger start owner parent fate bearer events store begun n false false (recover k) B E);
            consistent = after_consistent start owner parent fate bearer events store begun n false (recover k) B fate' bearer' false S;
          }
