-- A begin.
use mathlib.Core.Path.{◌≡◌, refl, sym, ap, ◌∙◌, fun_ext}
use mathlib.Core.Bool.{Bool, true, false, not, cond, ◌&&◌, ◌||◌}
use mathlib.Core.List.{List}
use mathlib.Core.Logic.{◌≢◌}
use mathlib.Core.Option.{some}
use Prim.Native.Nat.{ℕ, suc, ◌+◌, ◌-◌, ◌<◌, ◌≤◌}
use native.Mathlib.Omega.{arith}
use lib.ListN.{length, get_or, set, length-set, get_or-eq_default}
use Rattle.laws.specs.Tests.{same}
use Rattle.laws.specs.Counting.{all, lowest}
use Rattle.laws.specs.Functions.{updated}
use Rattle.laws.proofs.Tests.{same_cases, Same, is, isnt, same-eq, same_refl, ne_false}
use Rattle.laws.proofs.Booleans.{refute, clash, not-false, not-true}
use Rattle.laws.proofs.Counting.{all_of, all_true_lem, Lowest, found, missing, lowest_is}
use Rattle.laws.proofs.Updated.{updated_self}
use Rattle.rules.specs.Geometry.{records, transactions, nobody}
use Rattle.rules.specs.Store.{Page, pages_of}
use Rattle.rules.specs.Event.{begin}
use Rattle.rules.specs.Step.{done, number_of, value_of, first_of}
use Rattle.rules.specs.Editions.{geometry1, edition1}
use Rattle.history.specs.History.{told, effect_of, effect, after}
use Rattle.audit_rules.specs.Plain.{Ledger, borne, depth_of, height, learned, passed_by, grants_by, up_by, due_refusals, due_done, due_to, due_by, due}
use Rattle.audit_link.specs.Links.{entry_at, passed_in}
use Rattle.audit_bearer.specs.Tables.{Tables, Matched, tables, ledger_of}
use Rattle.audit_bearer.proofs.Change.{entry_set, entries-set, fates_set, passes-set, fate_bears, pass_bears, pass_ended}
use Rattle.audit_bearer.proofs.Matching.{matched_begin}
use Rattle.audit_event.specs.Step.{Consistent, Audited, Before}
use Rattle.audit_event.proofs.Still.{grants_still, writes_still, refused_audited, due_accepted}

double : (a : Bool) → not (not a) ≡ a
double true = refl
double false = refl

de_morgan : (a z : Bool) → not (a || not z) ≡ (not a && z)
de_morgan true z = refl
de_morgan false true = refl
de_morgan false false = refl

unborn_passed : (fate : List ℕ) (k : ℕ) → get_or fate k 0 ≡ 0 → passed_in fate k ≡ false
unfolding passed_in
unborn_passed fate k e = rw e pass_ended

module _ (start : ℕ → Page) (owner parent fate bearer events store : List ℕ) (begun n p : ℕ) where
  abbrev b : Tables
  b = tables owner parent fate bearer begun true

  abbrev l : Ledger
  l = ledger_of b events n

  -- the tests of the table
  unknown_is : (above : ℕ) → above ≡ entry_at bearer p → not (same p nobody || borne l.story p) ≡ (not (same p 31) && same above 0)
  unfolding borne ledger_of tables
  unknown_is above e = rw e (de_morgan (same p 31) (same (entry_at bearer p) 0))

  deep_is : (above : ℕ) → above ≡ entry_at bearer p → depth_of l.story (l.story.bearer p) ≡ height (entry_at parent) above above
  unfolding depth_of ledger_of tables
  deep_is above e = rw e

  free_is : (t : ℕ) → not (borne l.story t) ≡ same (entry_at bearer t) 0
  unfolding borne ledger_of tables
  free_is t = double (same (entry_at bearer t) 0)

  full_is : lowest transactions (λ t. same (entry_at bearer t) 0) ≡ 24 → all transactions (borne l.story) ≡ true
  full_is e = go (lowest_is transactions (λ t. same (entry_at bearer t) 0))
    where
      go : Lowest transactions (λ t. same (entry_at bearer t) 0) 0 (lowest transactions (λ t. same (entry_at bearer t) 0)) → all transactions (borne l.story) ≡ true
      go (found q h k) = absurd (omega (arith, h, e))
      go (missing q k) = all_of transactions (borne l.story) (λ u h. not-false (borne l.story u) (free_is u ∙ k u (omega arith) (omega (arith, h))))

  pub record Free (t : ℕ) : Type 0 where
    pub small : t < 24
    pub unborne : get_or bearer t 0 ≡ 0
    pub spare : all transactions (borne l.story) ≡ false

  pub free_of : (t : ℕ) → t ≡ lowest transactions (λ u. same (entry_at bearer u) 0) → t ≢ 24 → Free t
  unfolding entry_at
  free_of t e n = go (lowest_is transactions (λ u. same (get_or bearer u 0) 0))
    where
      go : Lowest transactions (λ u. same (get_or bearer u 0) 0) 0 (lowest transactions (λ u. same (get_or bearer u 0) 0)) → Free t
      go (missing q k) = absurd (n (e ∙ q ∙ zero_left))
        where
          zero_left : 0 + transactions ≡ 24
          zero_left = omega arith
      go (found q h k) =
          let small : t < 24 = omega (arith, e, h) in
          let z : same (get_or bearer t 0) 0 ≡ true = rw e q in
          record {
            small = small;
            unborne = same-eq (get_or bearer t 0) 0 z;
            spare = refute (all transactions (borne l.story)) (λ d. clash (all_true_lem transactions (borne l.story) t d small) (not-true (borne l.story t) (free_is t ∙ z)));
          }

  module _ (above : ℕ) (a : above ≡ entry_at bearer p) where
    pub begin_5 : (not (same p 31) && same above 0) ≡ true → Before events n (some (begin p)) b → Audited start events n b store (some (begin p)) 5 0 b store
    unfolding due_refusals first_of ledger_of tables
    begin_5 e B = refused_audited start events n b store (begin p) 5 (rw (unknown_is above a, e)) B

    pub begin_6 : (not (same p 31) && same above 0) ≡ false → height (entry_at parent) above above ≡ 16 → Before events n (some (begin p)) b → Audited start events n b store (some (begin p)) 6 0 b store
    unfolding due_refusals first_of ledger_of tables
    begin_6 e q B = refused_audited start events n b store (begin p) 6 (rw (unknown_is above a, e, deep_is above a, q, same_refl 16)) B

    pub begin_7 : (not (same p 31) && same above 0) ≡ false → height (entry_at parent) above above ≢ 16 → lowest transactions (λ t. same (entry_at bearer t) 0) ≡ 24
        → Before events n (some (begin p)) b → Audited start events n b store (some (begin p)) 7 0 b store
    unfolding due_refusals first_of ledger_of tables
    begin_7 e q r B = refused_audited start events n b store (begin p) 7 (rw (unknown_is above a, e, deep_is above a, ne_false _ 16 q, full_is r)) B

    -- the parent: none for nobody
    parent_is : length bearer ≡ 24 → above ≡ cond (same p nobody) 0 (entry_at bearer p)
    unfolding entry_at
    parent_is long = go (same_cases p nobody)
      where
        go : Same p nobody → above ≡ cond (same p nobody) 0 (get_or bearer p 0)
        go (is q s _) = rw s (a ∙ get_or-eq_default bearer 0 (omega (arith, q, long)))
        go (isnt q s _) = rw s a

    module _ (t i : ℕ) (F : Free t) (q : i ≡ suc begun) (room : begun < 4096) (B : Before events n (some (begin p)) b) where
      abbrev b' : Tables
      b' = tables owner (set parent i above) (set fate i (32 + t)) (set bearer t i) i true

      S : Matched fate bearer begun
      unfolding tables
      S = B.consistent.matched

      T : Consistent b n
      T = B.consistent

      above_known : above ≤ begun
      unfolding entry_at
      above_known = rw a (S.known p)

      begun_consistent : Consistent b' (suc n)
      unfolding tables
      begun_consistent = record {
        matched = rw q (matched_begin S t F.small F.unborne room);
        earlier = λ k. rw (entry_set parent i above k (let w = T.tall in omega (arith, w, q, room))) (low k (same_cases k i));
        tall = length-set parent i above ∙ T.tall;
        full = T.full;
        owners = λ j. let k = T.owners j in omega (arith, k, q);
        later = λ j h. T.later j (omega (arith, h));
        few = (let k = T.few in omega (arith, k, q));
      }
        where
          low : (k : ℕ) → Same k i → cond (same k i) above (get_or parent k 0) ≤ k - 1
          low k (is e s _) = rw s (let m = above_known in omega (arith, m, e, q))
          low k (isnt e s _) = rw s (T.earlier k)

      passes_kept : updated (suc begun) false (passed_in fate) ≡ passed_in fate
      passes_kept = ap (λ (z : Bool). updated (suc begun) z (passed_in fate)) (sym not-passed) ∙ sym (updated_self (suc begun) (passed_in fate))
        where
          not-passed : passed_in fate (suc begun) ≡ false
          not-passed = unborn_passed fate (suc begun) (S.unborn (suc begun) (omega arith))

      begun_ledger : ledger_of b' events (suc n) ≡ learned (records geometry1) l (some (begin p)) (done t)
      unfolding tables ledger_of learned told effect_of effect after passed_by grants_by up_by value_of
      begun_ledger =
          let inside : i < length fate = (let w = S.wide in omega (arith, w, q, room)) in
          rw (
            grants_still owner events n (T.later n (omega arith)),
            writes_still owner events n (T.later n (omega arith)),
            entries-set bearer t i (let w = S.long in let k = F.small in omega (arith, w, k)),
            entries-set parent i above (let w = T.tall in omega (arith, w, q, room)),
            fates_set fate i (32 + t) inside,
            passes-set fate i (32 + t) inside,
            fate_bears t,
            pass_bears t,
            ← parent_is S.long,
            q,
            passes_kept,
          )

      due_is : (not (same p 31) && same above 0) ≡ false → height (entry_at parent) above above ≢ 16 → t ≡ lowest transactions (λ u. same (entry_at bearer u) 0)
          → due edition1 start l (pages_of store) (some (begin p)) ≡ record { answer = done t; store = pages_of store }
      unfolding due_refusals first_of due_by due_to due_done ledger_of tables
      due_is e d f = due_accepted start events n b store (begin p) (rw (unknown_is above a, e, deep_is above a, ne_false _ 16 d, F.spare))
          ∙ ap (λ (v : ℕ). record { answer = done v; store = pages_of store }) (ap (lowest transactions) (fun_ext free_is) ∙ sym f)

      pub begin_0 : (not (same p 31) && same above 0) ≡ false → height (entry_at parent) above above ≢ 16 → t ≡ lowest transactions (λ u. same (entry_at bearer u) 0)
          → Audited start events n b store (some (begin p)) 0 t b' store
      unfolding number_of value_of
      begin_0 e d f =
          let w = due_is e d f in
          record { numbered = rw w; valued = rw w; stored = rw w; learns = rw w begun_ledger; consistent = begun_consistent }
