-- A decision over atomic pages on what is prepared: what is settled then, that nothing is prepared, and that two stores which agree do so after.
use mathlib.Core.Path.{◌≡◌, refl, sym, ◌∙◌, ap, ap₂, subst⁻¹}
use mathlib.Core.Bool.{Bool, true, false, cond, true≢false}
use mathlib.Core.Option.{Option, none, some}
use Prim.Native.Nat.{ℕ, zero, suc, ◌+◌, ◌<◌}
use native.Mathlib.Omega.{arith}
use lib.ListN.{take}
use lib.Pow.{pow_pos}
use Rattle.laws.specs.Counting.{those}
use Rattle.laws.specs.Functions.{updated}
use Rattle.laws.proofs.Updated.{updated_same}
use Rattle.rules.specs.Geometry.{Geometry, Proper, records, page_count}
use Rattle.rules.specs.Store.{Pages, intention, commit_page, read_commit, is_damaged, is_emptied, emptied, Prepared, read_prepared, identity_in, prepared_map, is_reserved, pending, settled}
use Rattle.rules.specs.Versions.{is_some, else}
use Rattle.rules.specs.Commit.{Cut, cut_at, decide_writes, recover_at, decide_at}
use Rattle.rules.proofs.PreparedPage.{read_unprepared, not-prepared}
use Rattle.rules.proofs.Members.{those_below}
use Rattle.rules.proofs.Shows.{shows_mark, settled_shows, names_empty, emptied-zero}
use Rattle.rules.proofs.Cuts.{home_of, start}
use Rattle.rules.proofs.Prepares.{reserves, ruled, ruled_page, ruled_read, ruled_settled, commits_first, commits_then, aborts_first, aborts_then}
use Rattle.rules.proofs.Pages.{Sized}
use Rattle.rules.proofs.Writable.{fit_take, applied_sized, Writable, fit_decide}
use Rattle.rules.proofs.AtomicCommits.{home_unread, recover_whole, recover_keeps, Agree, agree_recover, recover_unmoved}

module _ (g : Geometry) where
  pub reserved_planned : (s : Pages) → Sized (page_count g) s → (Writable g) (λ r. s (intention r)) (those (records g) (is_reserved g s))
  unfolding Writable intention page_count
  reserved_planned s S q e = let k = those_below (records g) (is_reserved g s) q e in (k, S.full (1 + q) (omega arith))

  module _ (proper : Proper g) where
    -- a decision on what is prepared
    identified : (s : Pages) (i : ℕ) → identity_in (read_prepared g (s 0)) ≡ some i → (p : Prepared) × (read_prepared g (s 0) ≡ some p)
    unfolding identity_in
    identified s i e = go (read_prepared g (s 0)) refl e
      where
        go : (o : Option Prepared) → read_prepared g (s 0) ≡ o → identity_in o ≡ some i → (p : Prepared) × (read_prepared g (s 0) ≡ some p)
        go none q h = let z : ◌≡◌ {A = ℕ} 0 1 = cc in absurd (omega arith)
        go (some p) q h = (p, q)

    -- aborted: the commit page as empty
    struck : Pages → Pages
    struck s = updated 0 (commit_page g 0) s

    struck_page : (s : Pages) → struck s 0 ≡ commit_page g 0
    unfolding struck
    struck_page s = updated_same 0 (commit_page g 0) s

    struck_emptied : (s : Pages) → emptied g (struck s) ≡ true
    unfolding emptied
    struck_emptied s = ap (λ p. is_emptied (read_commit g p)) (struck_page s) ∙ emptied-zero g proper

    struck_settled : (s : Pages) (p : Prepared) (r : ℕ) → read_prepared g (s 0) ≡ some p → settled g (struck s) r ≡ settled g s r
    unfolding struck home_of
    struck_settled s p r e =
        settled_shows g (shows_mark g (start g s) (commit_page g 0)) r
        ∙ rw (names_empty g (commit_page g 0) (emptied-zero g proper) r) (sym (home_unread g proper s r p e))

    ruled_free : (s : Pages) (p : Prepared) (e : read_prepared g (s 0) ≡ some p) → read_prepared g (ruled g proper s p e 0) ≡ none
    ruled_free s p e = read_unprepared g proper (ruled g proper s p e 0) p.map (ruled_read g proper s p e)

    pub decide_sized : (s : Pages) (d : Bool) (k : ℕ) → Sized (page_count g) s → Sized (page_count g) (decide_at g s d k).store
    unfolding decide_at cut_at
    decide_sized s d k S =
        applied_sized (page_count g) (take k (decide_writes g d (λ r. s (intention r)) (prepared_map (read_prepared g (s 0))) (those (records g) (is_reserved g s)))) s
        (fit_take (page_count g) k _ (fit_decide g d (λ r. s (intention r)) (prepared_map (read_prepared g (s 0))) (those (records g) (is_reserved g s)) (reserved_planned s S))) S

    pub decide_first : (s : Pages) (d : Bool) (k i : ℕ) → identity_in (read_prepared g (s 0)) ≡ some i → (decide_at g s d k).made ≡ 0 → (decide_at g s d k).store ≡ s
    decide_first s true zero i e h = let p = identified s i e in ap (λ (c : Cut Pages). c.store) (commits_first g proper s p.0 p.1)
    decide_first s true (suc k) i e h = let p = identified s i e in absurd (omega (arith, h, ap (λ (c : Cut Pages). c.made) (commits_then g proper s p.0 p.1 k)))
    decide_first s false zero i e h = let p = identified s i e in ap (λ (c : Cut Pages). c.store) (aborts_first g proper s p.0 p.1)
    decide_first s false (suc k) i e h = let p = identified s i e in absurd (omega (arith, h, ap (λ (c : Cut Pages). c.made) (aborts_then g proper s p.0 p.1 k)))

    pub decide_ended : (s : Pages) (d : Bool) (k i : ℕ) → identity_in (read_prepared g (s 0)) ≡ some i → 0 < (decide_at g s d k).made → identity_in (read_prepared g ((decide_at g s d k).store 0)) ≡ none
    unfolding identity_in struck
    decide_ended s true zero i e h = let p = identified s i e in absurd (omega (arith, h, ap (λ (c : Cut Pages). c.made) (commits_first g proper s p.0 p.1)))
    decide_ended s true (suc k) i e h =
        let p = identified s i e in
        let x = ruled g proper s p.0 p.1 in
        ap (λ (c : Cut Pages). identity_in (read_prepared g (c.store 0))) (commits_then g proper s p.0 p.1 k)
        ∙ (recover_unmoved g proper x k).same_identity ∙ rw (ruled_free s p.0 p.1)
    decide_ended s false zero i e h = let p = identified s i e in absurd (omega (arith, h, ap (λ (c : Cut Pages). c.made) (aborts_first g proper s p.0 p.1)))
    decide_ended s false (suc k) i e h =
        let p = identified s i e in
        ap (λ (c : Cut Pages). identity_in (read_prepared g (c.store 0))) (aborts_then g proper s p.0 p.1 k) ∙ rw (struck_page s, not-prepared g proper 0 (pow_pos (records g)))

    pub decide_settled : (s : Pages) (d : Bool) (k i r : ℕ) → identity_in (read_prepared g (s 0)) ≡ some i → 0 < (decide_at g s d k).made
        → settled g (decide_at g s d k).store r ≡ cond d (else (pending g s r) (settled g s r)) (settled g s r)
    unfolding struck
    decide_settled s true zero i r e h = let p = identified s i e in absurd (omega (arith, h, ap (λ (c : Cut Pages). c.made) (commits_first g proper s p.0 p.1)))
    decide_settled s true (suc k) i r e h =
        let p = identified s i e in
        ap (λ (c : Cut Pages). settled g c.store r) (commits_then g proper s p.0 p.1 k)
        ∙ recover_keeps g proper (ruled g proper s p.0 p.1) k r ∙ ruled_settled g proper s p.0 p.1 r
    decide_settled s false zero i r e h = let p = identified s i e in absurd (omega (arith, h, ap (λ (c : Cut Pages). c.made) (aborts_first g proper s p.0 p.1)))
    decide_settled s false (suc k) i r e h =
        let p = identified s i e in ap (λ (c : Cut Pages). settled g c.store r) (aborts_then g proper s p.0 p.1 k) ∙ struck_settled s p.0 r p.1

    pub decide_whole : (s : Pages) (d : Bool) (k i : ℕ) → identity_in (read_prepared g (s 0)) ≡ some i → (decide_at g s d k).crashed ≡ false
        → (emptied g (decide_at g s d k).store ≡ true) × (0 < (decide_at g s d k).made)
    unfolding struck
    decide_whole s true zero i e h = let p = identified s i e in absurd (true≢false (sym (ap (λ (c : Cut Pages). c.crashed) (commits_first g proper s p.0 p.1)) ∙ h))
    decide_whole s true (suc k) i e h =
        let p = identified s i e in
        let q = commits_then g proper s p.0 p.1 k in
        let x = ruled g proper s p.0 p.1 in (
          ap (λ (c : Cut Pages). emptied g c.store) q ∙ recover_whole g proper x k (unfold is_damaged in rw (ruled_read g proper s p.0 p.1)) (sym (ap (λ (c : Cut Pages). c.crashed) q) ∙ h),
          subst⁻¹ (λ (n : ℕ). 0 < n) (ap (λ (c : Cut Pages). c.made) q) (omega arith),
        )
    decide_whole s false zero i e h = let p = identified s i e in absurd (true≢false (sym (ap (λ (c : Cut Pages). c.crashed) (aborts_first g proper s p.0 p.1)) ∙ h))
    decide_whole s false (suc k) i e h =
        let p = identified s i e in
        let q = aborts_then g proper s p.0 p.1 k in
        (ap (λ (c : Cut Pages). emptied g c.store) q ∙ struck_emptied s, subst⁻¹ (λ (n : ℕ). 0 < n) (ap (λ (c : Cut Pages). c.made) q) (omega arith))

    pub agree_shape : (s c : Pages) → c 0 ≡ s 0 → (r : ℕ) → is_some (pending g c r) ≡ is_some (pending g s r)
    unfolding pending is_reserved
    agree_shape s c e r = rw e (go (reserves g (s 0) r))
      where
        go : (b : Bool) → is_some (cond b (some (c (intention r))) none) ≡ is_some (cond b (some (s (intention r))) none)
        go true = unfold is_some in refl
        go false = refl

    -- two cuts that agree
    abbrev SameCut : Cut Pages → Cut Pages → Type 0
    SameCut x y = Agree g proper x.store y.store × (y.made ≡ x.made) × (y.crashed ≡ x.crashed)

    pub agree_decide : (s c : Pages) (d : Bool) (k i : ℕ) → identity_in (read_prepared g (s 0)) ≡ some i → (Agree g proper) s c → (0 < (decide_at g s d k).made → d ≡ true → (r : ℕ) → pending g c r ≡ pending g s r)
        → (Agree g proper) (decide_at g s d k).store (decide_at g c d k).store × ((decide_at g c d k).made ≡ (decide_at g s d k).made) × ((decide_at g c d k).crashed ≡ (decide_at g s d k).crashed)
    unfolding Agree struck
    agree_decide s c d k i e A alike = let p = identified s i e in by_page p.0 p.1 (ap (read_prepared g) A.0 ∙ p.1) d k alike
      where
        by_page : (p : Prepared) → (read_prepared g (s 0) ≡ some p) → (read_prepared g (c 0) ≡ some p) → (d : Bool) (k : ℕ)
            → (0 < (decide_at g s d k).made → d ≡ true → (r : ℕ) → pending g c r ≡ pending g s r) → SameCut (decide_at g s d k) (decide_at g c d k)
        by_page p h h' true zero l = subst⁻¹ (λ (x : Cut Pages). SameCut x (decide_at g c true 0)) (commits_first g proper s p h)
            (subst⁻¹ (λ (y : Cut Pages). SameCut (record { store = s; made = 0; crashed = true }) y) (commits_first g proper c p h') (A, refl, refl))
        by_page p h h' false zero l = subst⁻¹ (λ (x : Cut Pages). SameCut x (decide_at g c false 0)) (aborts_first g proper s p h)
            (subst⁻¹ (λ (y : Cut Pages). SameCut (record { store = s; made = 0; crashed = true }) y) (aborts_first g proper c p h') (A, refl, refl))
        by_page p h h' false (suc k) l = subst⁻¹ (λ (x : Cut Pages). SameCut x (decide_at g c false (suc k))) (aborts_then g proper s p h k)
            (subst⁻¹ (λ (y : Cut Pages). SameCut (record { store = struck s; made = 1; crashed = false }) y) (aborts_then g proper c p h' k)
            ((struck_page c ∙ sym (struck_page s), λ r. struck_settled c p r h' ∙ A.1 r ∙ sym (struck_settled s p r h)), refl, refl))
        by_page p h h' true (suc k) l =
            let x = ruled g proper s p h in
            let y = ruled g proper c p h' in
            let same_pending = l (subst⁻¹ (λ (n : ℕ). 0 < n) (ap (λ (c : Cut Pages). c.made) (commits_then g proper s p h k)) (omega arith)) refl in
            let B : (Agree g proper) x y = (
              ruled_page g proper c p h' ∙ sym (ruled_page g proper s p h),
              λ r. ruled_settled g proper c p h' r ∙ ap₂ else (same_pending r) (A.1 r) ∙ sym (ruled_settled g proper s p h r),
            ) in
            let R = agree_recover g proper x y k B in
            subst⁻¹ (λ (z : Cut Pages). SameCut z (decide_at g c true (suc k))) (commits_then g proper s p h k)
            (subst⁻¹ (λ (z : Cut Pages). SameCut (record { store = (recover_at g x k).store; made = suc (recover_at g x k).made; crashed = (recover_at g x k).crashed }) z) (commits_then g proper c p h' k)
            (R.0, ap suc R.1, R.2))
