-- The history before the first event holds of a start: where a transaction is prepared there, its pages are the only writes, and they wait.
use mathlib.Core.Path.{◌≡◌, refl, sym, ap, ◌∙◌}
use mathlib.Core.Bool.{Bool, true, false, cond, ◌&&◌, ◌||◌, true≢false, false≢true, and-false}
use mathlib.Core.List.{[]}
use mathlib.Core.Option.{Option, none, some}
use Prim.Native.Nat.{ℕ, zero, suc, ◌<◌, ◌≤◌}
use native.Mathlib.Omega.{arith}
use Rattle.laws.specs.Tests.{same, under}
use Rattle.laws.specs.Counting.{any}
use Rattle.laws.proofs.Tests.{same_cases, Same, is, isnt, same_refl, ne_false, Is, is_cases, yes', no', under-lt, lt-under, not-under}
use Rattle.laws.proofs.Booleans.{refute, clash}
use Rattle.laws.proofs.Counting.{any_false, any_of}
use Rattle.rules.specs.Geometry.{records}
use Rattle.rules.specs.Store.{Page}
use Rattle.rules.specs.State.{down, open_state}
use Rattle.rules.specs.Versions.{is_some, open_versions}
use Rattle.rules.specs.Form.{Form}
use Rattle.rules.proofs.Cuts.{not_lt_under}
use Rattle.rules.proofs.Medium.{MediumLaws}
use Rattle.history.specs.History.{bearing, waiting, ended, is_bearing, is_committed, nothing_yet, page_write, page_writes, starting, writes_to, overlaid, open_history}
use Rattle.history.proofs.Roots.{Root, lost, waiting as awaiting, is_settled, is_waiting, is_kept, is_at}
use Rattle.history.proofs.Table.{entry}
use Rattle.history.proofs.Invariant.{Holds}

abbrev Pages : Type 0
Pages = ℕ → Option Page

-- the pages are writes of transaction 0: one that isn't picked
unpicked_writes : (p : ℕ → Bool) (r n : ℕ) (pend : Pages) → p 0 ≡ false → writes_to p r (page_writes n pend) ≡ false
unfolding writes_to page_writes page_write
unpicked_writes p r zero pend e = refl
unpicked_writes p r (suc n) pend e = go (pend n) (unpicked_writes p r n pend e)
  where
    go : (o : Option Page) → writes_to p r (page_writes n pend) ≡ false → writes_to p r (page_write n o (page_writes n pend)) ≡ false
    go none ih = ih
    go (some page) ih = rw e ih

unpicked_laid : (p : ℕ → Bool) (r n : ℕ) (pend : Pages) (b : Page) → p 0 ≡ false → overlaid p r (page_writes n pend) b ≡ b
unfolding overlaid page_writes page_write
unpicked_laid p r zero pend b e = refl
unpicked_laid p r (suc n) pend b e = go (pend n) (unpicked_laid p r n pend b e)
  where
    go : (o : Option Page) → overlaid p r (page_writes n pend) b ≡ b → overlaid p r (page_write n o (page_writes n pend)) b ≡ b
    go none ih = ih
    go (some page) ih = rw e ih

-- and where it is
under-suc : (r n : ℕ) → Same r n → under r (suc n) ≡ (same r n || under r n)
under-suc r n (is e s _) = rw s (lt-under r (suc n) (omega (arith, e)))
under-suc r n (isnt e s _) = rw s (go (is_cases (under r n)))
  where
    go : Is (under r n) → under r (suc n) ≡ under r n
    go (yes' k) = lt-under r (suc n) (let l : r < n = under-lt r n k in omega arith) ∙ sym k
    go (no' k) = not_lt_under r (suc n) (let l : n ≤ r = not-under r n k in omega (arith, e)) ∙ sym k

picked_writes : (p : ℕ → Bool) (r n : ℕ) (pend : Pages) → p 0 ≡ true → writes_to p r (page_writes n pend) ≡ (under r n && is_some (pend r))
unfolding writes_to page_writes page_write is_some
picked_writes p r zero pend e = rw (not_lt_under r 0 (omega arith))
picked_writes p r (suc n) pend e = go (pend n) refl (same_cases r n) (picked_writes p r n pend e)
  where
    go : (o : Option Page) → pend n ≡ o → Same r n → writes_to p r (page_writes n pend) ≡ (under r n && is_some (pend r))
        → writes_to p r (page_write n o (page_writes n pend)) ≡ (under r (suc n) && is_some (pend r))
    go none q (is d s z) ih = ih ∙ rw (d, q, and-false (under n n), and-false (under n (suc n)))
    go none q (isnt d s z) ih = ih ∙ rw (under-suc r n (isnt d s z), s)
    go (some page) q (is d s z) ih = rw (e, z, lt-under r (suc n) (omega (arith, d)), d, q)
    go (some page) q (isnt d s z) ih = rw (e, z) (ih ∙ rw (under-suc r n (isnt d s z), s))

picked_laid : (p : ℕ → Bool) (r n : ℕ) (pend : Pages) (b q : Page) → p 0 ≡ true → r < n → pend r ≡ some q → overlaid p r (page_writes n pend) b ≡ q
unfolding overlaid page_writes page_write is_some
picked_laid p r zero pend b q e h k = absurd (omega arith)
picked_laid p r (suc n) pend b q e h k = go (pend n) refl (same_cases r n) (λ l. picked_laid p r n pend b q e l k)
  where
    go : (o : Option Page) → pend n ≡ o → Same r n → (r < n → overlaid p r (page_writes n pend) b ≡ q) → overlaid p r (page_write n o (page_writes n pend)) b ≡ q
    go none z (is d s y) ih = let w : ◌≡◌ {A = Option Page} none (some q) = sym z ∙ ap pend (sym d) ∙ k in absurd (false≢true (ap is_some w))
    go none z (isnt d s y) ih = ih (omega (arith, h, d))
    go (some page) z (is d s y) ih = rw (e, y) (some_page (sym z ∙ ap pend (sym d) ∙ k))
      where
        some_page : some page ≡ some q → page ≡ q
        some_page w = cc
    go (some page) z (isnt d s y) ih = rw (e, y) (ih (omega (arith, h, d)))

-- some page is pending
abbrev pub prepares : ℕ → Pages → Bool
prepares n pend = any n (λ r. is_some (pend r))

-- the labels at the start
abbrev pub start_root : ℕ → Pages → ℕ → Root
start_root n pend i = cond (same i 0 && prepares n pend) awaiting lost

first_root : (n : ℕ) (pend : Pages) → start_root n pend 0 ≡ cond (prepares n pend) awaiting lost
first_root n pend = rw (same_refl 0)

module _ (f : Form) (M : MediumLaws f.geometry f.medium) (d : f.medium.Store) where
  abbrev n : ℕ
  n = records f.geometry

  abbrev pend : Pages
  pend = f.medium.pending d

  not_yet : (φ : Root → Bool) → φ awaiting ≡ false → φ lost ≡ false → φ (start_root n pend 0) ≡ false
  not_yet φ a b = ap φ (first_root n pend) ∙ go (prepares n pend)
    where
      go : (c : Bool) → φ (cond c awaiting lost) ≡ false
      go true = a
      go false = b

  -- what is pending makes it wait
  some-pending : (r : ℕ) → is_some (pend r) ≡ true → (r < n) × (prepares n pend ≡ true)
  some-pending r e = (M.pending_ranged d r e, go (is_cases (prepares n pend)))
    where
      go : Is (prepares n pend) → prepares n pend ≡ true
      go (yes' k) = k
      go (no' k) = clash e (any_false n (λ r. is_some (pend r)) r k (M.pending_ranged d r e))

  waiting_then : (r : ℕ) → is_some (pend r) ≡ writes_to (λ i. is_waiting (start_root n pend i)) r (page_writes n pend)
  waiting_then r = go (is_cases (prepares n pend))
    where
      ranged : is_some (pend r) ≡ (under r n && is_some (pend r))
      ranged = at (is_cases (is_some (pend r)))
        where
          at : Is (is_some (pend r)) → is_some (pend r) ≡ (under r n && is_some (pend r))
          at (yes' k) = rw (lt-under r n (M.pending_ranged d r k), k)
          at (no' k) = rw (k, and-false (under r n))

      go : Is (prepares n pend) → is_some (pend r) ≡ writes_to (λ i. is_waiting (start_root n pend i)) r (page_writes n pend)
      go (yes' k) = ranged ∙ sym (picked_writes (λ i. is_waiting (start_root n pend i)) r n pend (ap is_waiting (first_root n pend) ∙ rw k))
      go (no' k) =
          refute (is_some (pend r)) (λ e. clash (some-pending r e).1 k)
          ∙ sym (unpicked_writes (λ i. is_waiting (start_root n pend i)) r n pend (ap is_waiting (first_root n pend) ∙ rw k))

  pending_then : (r : ℕ) (p : Page) → pend r ≡ some p → p ≡ overlaid (λ i. is_kept (start_root n pend i)) r (page_writes n pend) (f.medium.settled d r)
  unfolding is_some
  pending_then r p e =
      let k = some-pending r (ap is_some e) in
      sym (picked_laid (λ i. is_kept (start_root n pend i)) r n pend (f.medium.settled d r) p (ap is_kept (first_root n pend) ∙ rw k.1) k.0 e)

  pub start_holds : Holds f (f.medium.settled d) (down d) (starting n pend) (start_root n pend)
  unfolding down starting open_state open_versions open_history
  start_holds = record {
    data' = record {
      on_store = λ r. sym (unpicked_laid (λ i. is_settled (start_root n pend i)) r n pend (f.medium.settled d r) (not_yet is_settled refl refl));
      on_version = λ j r p e. (let z : true ≡ false = cc in absurd (true≢false z));
      on_wrote = λ j r. sym (unpicked_writes (λ i. is_at j (start_root n pend i)) r n pend (not_yet (is_at j) refl refl));
    };
    table = record {
      one = λ i. one (same i 0 && prepares n pend);
      earlier = λ i k. k;
      origin = refl;
      bears = λ t e. absurd (false≢true e);
      who = λ i t e. none_bears (same i 0 && prepares n pend) t e;
      vacant = λ t e. refl;
      above = λ t p m e. refl;
      none_bears = idle (same 0 0 && prepares n pend);
      none-commits = calm (same 0 0 && prepares n pend);
      unborn = λ i k. rw (ne_false i 0 (λ q. omega arith));
      fresh = λ i r k. unpicked_writes (λ j. same j i) r n pend (ne_false 0 i (λ q. omega arith));
    };
    waits = record { on_pending = pending_then; on_waiting = waiting_then };
  }
    where
      one : (b : Bool) → cond b awaiting lost ≡ entry (start_root n pend) 0 (cond b waiting ended)
      one true = refl
      one false = refl

      none_bears : {A : Type 0} (b : Bool) (t : ℕ) → cond b waiting ended ≡ bearing t → A
      none_bears true t e = (let z : true ≡ false = cc in absurd (true≢false z))
      none_bears false t e = (let z : true ≡ false = cc in absurd (true≢false z))

      idle : (b : Bool) → is_bearing (cond b waiting ended) ≡ false
      idle true = refl
      idle false = refl

      calm : (b : Bool) → is_committed (cond b waiting ended) ≡ false
      calm true = refl
      calm false = refl

none_written : (m : ℕ) (pend : Pages) → ((r : ℕ) → pend r ≡ none) → page_writes m pend ≡ []
unfolding page_writes page_write
none_written zero pend e = refl
none_written (suc m) pend e = rw (e m) (none_written m pend e)

-- where nothing is pending in the start store the history begins with nothing
pub plain_start : (n : ℕ) (pend : Pages) → ((r : ℕ) → pend r ≡ none) → starting n pend ≡ nothing_yet
unfolding starting nothing_yet
plain_start n pend e = λ i. record { begun = 0; bearer = λ t. 0; parent = λ j. 0; fate = λ j. fates j i; writes = no_writes n i }
  where
    nothing : prepares n pend ≡ false
    nothing = any_of n (λ r. is_some (pend r)) (λ r h. unfold is_some in rw (e r))

    fates : (j : ℕ) → cond (same j 0 && prepares n pend) waiting ended ≡ ended
    fates j = rw (nothing, and-false (same j 0))

    no_writes : (m : ℕ) → page_writes m pend ≡ []
    no_writes m = none_written m pend e
