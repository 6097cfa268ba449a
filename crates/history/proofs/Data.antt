-- The versions and the settled records hold the writes that stand with a transaction's line: kept by each kind of event,
-- from facts about lines and locks that are premises here.
use mathlib.Core.Path.{◌≡◌, refl, sym, ap, ap₂, ◌∙◌, subst⁻¹}
use mathlib.Core.Bool.{Bool, true, false, cond, ◌||◌, true≢false, false≢true, and-false}
use mathlib.Core.List.{List, [], ◌∷◌}
use mathlib.Core.Logic.{◌≢◌}
use mathlib.Core.Option.{Option, none, some}
use Prim.Native.Nat.{ℕ}
use lib.ListN.{set}
use Rattle.laws.specs.Tests.{same}
use Rattle.laws.proofs.Tests.{same_cases, Same, is, isnt, same_refl, ne_false, Is, is_cases, yes', no'}
use Rattle.rules.specs.Store.{Page}
use Rattle.rules.specs.State.{mem, Versions, open_state}
use Rattle.rules.specs.Versions.{is_some, else, also, nearest, with_version, handed_up, dropped, open_versions}
use Rattle.rules.proofs.Tree.{Good, Lines}
use Rattle.rules.proofs.Owners.{is_also}
use Rattle.history.specs.History.{Write, writes_to, overlaid}
use Rattle.history.proofs.Overlay.{overlaid-or, writes_to-or, writes_to-none, overlaid_pick, writes_to-pick, overlaid_fresh, writes_to-fresh}
use Rattle.history.proofs.Roots.{Root, settled, lost, waiting, at, is_settled, is_at, sees, move, lose, sees_nil, sees_cons, gains, stays, moved_away, moved_to, moved_past}

pub record Data (line : Lines) (ver : Versions) (now : ℕ → Page) (start : ℕ → Page) (root : ℕ → Root) (ws : List Write) : Type 0 where
  pub on_store : (r : ℕ) → now r ≡ overlaid (λ i. is_settled (root i)) r ws (start r)
  pub on_version : (j r : ℕ) (p : Page) → ver j r ≡ some p → p ≡ overlaid (λ i. sees (line j) (root i)) r ws (start r)
  pub on_wrote : (j r : ℕ) → is_some (ver j r) ≡ writes_to (λ i. is_at j (root i)) r ws

module _ {line : Lines} {ver : Versions} {now start : ℕ → Page} {root : ℕ → Root} {ws : List Write} (D : Data line ver now start root ws) where
  no_write : (a r : ℕ) → ver a r ≡ none → writes_to (λ i. is_at a (root i)) r ws ≡ false
  unfolding open_state open_versions writes_to overlaid
  no_write a r e = sym (D.on_wrote a r) ∙ ap is_some e

  -- seeing one transaction more that wrote nothing
  quiet : (a r : ℕ) (p : ℕ → Bool) → ver a r ≡ none → overlaid (λ i. is_at a (root i) || p i) r ws (start r) ≡ overlaid p r ws (start r)
  unfolding open_state open_versions writes_to overlaid
  quiet a r p e = overlaid-or (λ i. is_at a (root i)) p r ws (start r) (no_write a r e)

  -- what a transaction reads is what its line wrote, laid over what is settled
  pub reads_is : (r : ℕ) (l : List ℕ) → Good line l → nearest ver (now r) r l ≡ overlaid (λ i. sees l (root i)) r ws (start r)
  unfolding open_state open_versions writes_to overlaid
  reads_is r [] g = D.on_store r ∙ overlaid_pick r ws (start r) (λ i. sees_nil (root i))
  reads_is r (a ∷ l) g = go (ver a r) refl (reads_is r l g.1)
    where
      go : (o : Option Page) → ver a r ≡ o → nearest ver (now r) r l ≡ overlaid (λ i. sees l (root i)) r ws (start r)
          → else o (nearest ver (now r) r l) ≡ overlaid (λ i. sees (a ∷ l) (root i)) r ws (start r)
      go (some p) e ih = D.on_version a r p e ∙ ap (λ m. overlaid (λ i. sees m (root i)) r ws (start r)) g.0
      go none e ih = ih ∙ sym (quiet a r (λ i. sees l (root i)) e) ∙ overlaid_pick r ws (start r) (λ i. sees_cons a l (root i))

some_inj : {p q : Page} → some p ≡ some q → p ≡ q
unfolding open_state open_versions writes_to overlaid
some_inj {p} h = ap (λ o. else o p) h

-- a write by a, of record x
module _ {line : Lines} {ver : Versions} {now start : ℕ → Page} {root : ℕ → Root} {ws : List Write} (D : Data line ver now start root ws)
    (i a x o v : ℕ) (bears : root i ≡ at a) (own : mem a (line a) ≡ true) (good : Good line (line a))
    (apart : (z : ℕ) → z ≢ a → is_some (ver z x) ≡ true → mem a (line z) ≡ false) where
  abbrev new : Page
  new = set (nearest ver (now x) x (line a)) o v

  abbrev w : Write
  w = record { transaction = i; rec = x; laid = λ page. set page o v }

  write_version : (j r : ℕ) (p : Page) → Same j a → Same r x → with_version a x new ver j r ≡ some p → p ≡ overlaid (λ k. sees (line j) (root k)) r (w ∷ ws) (start r)
  unfolding open_state open_versions writes_to overlaid
  write_version j r p (is e s _) (is f t u) h =
      rw (e, f, bears, own, same_refl x) (sym (some_inj (rw (s, t) at h)) ∙ ap (λ p. set p o v)
      (subst⁻¹ (λ (z : ℕ). nearest ver (now x) x (line a) ≡ overlaid (λ k. sees (line z) (root k)) r ws (start x)) e
      (subst⁻¹ (λ (y : ℕ). nearest ver (now x) x (line a) ≡ overlaid (λ k. sees (line a) (root k)) y ws (start x)) f
      (reads_is D x (line a) good))))
  write_version j r p (is e s _) (isnt f t u) h = rw (u, and-false) (D.on_version j r p (rw (s, t) at h))
  write_version j r p (isnt e s _) (is f t u) h =
      let k : ver j r ≡ some p = rw s at h in
      rw (bears, apart j e (ap is_some (rw f at k))) (D.on_version j r p k)
  write_version j r p (isnt e s _) (isnt f t u) h = rw (u, and-false) (D.on_version j r p (rw s at h))

  write_wrote : (j r : ℕ) → Same j a → Same r x → is_some (with_version a x new ver j r) ≡ writes_to (λ k. is_at j (root k)) r (w ∷ ws)
  unfolding open_state open_versions writes_to overlaid
  write_wrote j r (is e s s') (is f t u) = rw (s, t, bears, s', u)
  write_wrote j r (is e s s') (isnt f t u) = rw (s, t, bears, s', u) (D.on_wrote j r)
  write_wrote j r (isnt e s s') k = rw (s, bears, s') (D.on_wrote j r)

  pub write_data : Data line (with_version a x new ver) now start root (w ∷ ws)
  unfolding open_state open_versions writes_to overlaid
  write_data = record {
    on_store = λ r. rw bears (D.on_store r);
    on_version = λ j r p h. write_version j r p (same_cases j a) (same_cases r x) h;
    on_wrote = λ j r. write_wrote j r (same_cases j a) (same_cases r x);
  }

-- a transaction x that commits: its writes go to t
module _ {line : Lines} {ver : Versions} {now start : ℕ → Page} {root : ℕ → Root} {ws : List Write} (D : Data line ver now start root ws)
    (x : ℕ) (t : Root) (leaf : (z : ℕ) → z ≢ x → mem x (line z) ≡ false) where
  abbrev root' : ℕ → Root
  root' i = move x t (root i)

  other : (z r : ℕ) (p : Page) → z ≢ x → ver z r ≡ some p → (is_some (ver x r) ≡ true → sees (line z) t ≡ false)
      → p ≡ overlaid (λ i. sees (line z) (root' i)) r ws (start r)
  unfolding open_state open_versions writes_to overlaid
  other z r p n h apart = D.on_version z r p h ∙ go (ver x r) refl (is_cases (sees (line z) t))
    where
      same_view : sees (line z) t ≡ false → overlaid (λ i. sees (line z) (root i)) r ws (start r) ≡ overlaid (λ i. sees (line z) (root' i)) r ws (start r)
      same_view e = overlaid_pick r ws (start r) (λ i. stays (line z) x t (root i) e (leaf z n))

      go : (o : Option Page) → ver x r ≡ o → Is (sees (line z) t)
          → overlaid (λ i. sees (line z) (root i)) r ws (start r) ≡ overlaid (λ i. sees (line z) (root' i)) r ws (start r)
      go (some q) e d = same_view (apart (ap is_some e))
      go none e (no' d) = same_view d
      go none e (yes' d) = sym (quiet D x r (λ i. sees (line z) (root i)) e) ∙ overlaid_pick r ws (start r) (λ i. gains (line z) x t (root i) d)

-- the line of a transaction that has ended is empty
abbrev pub ends : ℕ → Lines → Lines
ends x line = λ j. cond (same j x) [] (line j)

-- the versions after the end of x, after its end as a child of y
abbrev pub gone : ℕ → Versions → Versions
gone x ver = dropped (λ j. same j x) ver

abbrev pub lift : ℕ → ℕ → Versions → Versions
lift x y ver = gone x (handed_up x y ver)

none-some : {A : Type 0} {p : Page} → none ≡ some p → A
unfolding open_state open_versions writes_to overlaid
none-some {A} h = absurd (false≢true (ap is_some h))

-- a child x commits to its parent y
module _ {line : Lines} {ver : Versions} {now start : ℕ → Page} {root : ℕ → Root} {ws : List Write} (D : Data line ver now start root ws)
    (x y : ℕ) (leaf : (z : ℕ) → z ≢ x → mem x (line z) ≡ false) (under : line x ≡ x ∷ line y) (own : mem y (line y) ≡ true) (two : x ≢ y)
    (apart : (z r : ℕ) → z ≢ x → z ≢ y → is_some (ver x r) ≡ true → is_some (ver z r) ≡ true → mem y (line z) ≡ false) where
  store_same : (c : Root) → is_settled c ≡ is_settled (move x (at y) c)
  unfolding open_state open_versions writes_to overlaid
  store_same settled = refl
  store_same lost = refl
  store_same waiting = refl
  store_same (at a) = go (same a x)
    where
      go : (b : Bool) → false ≡ is_settled (cond b (at y) (at a))
      go true = refl
      go false = refl

  child_version : (j r : ℕ) (p : Page) → Same j x → Same j y → lift x y ver j r ≡ some p
      → p ≡ overlaid (λ i. sees (ends x line j) (root' D x (at y) leaf i)) r ws (start r)
  unfolding open_state open_versions writes_to overlaid
  child_version j r p (is e s _) k h = none-some (rw s at h)
  child_version j r p (isnt e s _) (isnt f t _) h = rw s (let k : ver j r ≡ some p = rw (s, t) at h in
      other D x (at y) leaf j r p e k (λ v. apart j r e f v (ap is_some k)))
  child_version j r p (isnt e s _) (is f t _) h = rw (s, f) (go (ver x r) refl (rw (s, t) at h))
    where
      go : (o : Option Page) → ver x r ≡ o → also o (ver y r) ≡ some p → p ≡ overlaid (λ i. sees (line y) (root' D x (at y) leaf i)) r ws (start r)
      go none q k = other D x (at y) leaf y r p (λ g. two (sym g)) k (λ v. absurd (false≢true (sym (ap is_some q) ∙ v)))
      go (some u) q k = sym (some_inj k) ∙ D.on_version x r u q ∙ overlaid_pick r ws (start r) (λ i. rw under (sym (sees_cons x (line y) (root i)) ∙ gains (line y) x (at y) (root i) own))

  child_wrote : (j r : ℕ) → Same j x → Same j y → is_some (lift x y ver j r) ≡ writes_to (λ i. is_at j (root' D x (at y) leaf i)) r ws
  unfolding open_state open_versions writes_to overlaid
  child_wrote j r (is e s _) k = rw (s, e) (sym (writes_to-none r ws) ∙ writes_to-pick r ws (λ i. moved_away x (at y) (root i) (ne_false y x (λ g. two (sym g)))))
  child_wrote j r (isnt e s _) (is f t _) =
      rw (s, t, f) (is_also (ver x r) (ver y r) ∙ ap₂ ◌||◌ (D.on_wrote x r) (D.on_wrote y r) ∙ sym (writes_to-or (λ i. is_at x (root i)) (λ i. is_at y (root i)) r ws) ∙ writes_to-pick r ws (λ i. moved_to y x (root i)))
  child_wrote j r (isnt e s _) (isnt f t t') = rw (s, t) (D.on_wrote j r ∙ writes_to-pick r ws (λ i. moved_past j x (at y) (root i) e t'))

  pub child_data : Data (ends x line) (lift x y ver) now start (λ i. move x (at y) (root i)) ws
  unfolding open_state open_versions writes_to overlaid
  child_data = record {
    on_store = λ r. D.on_store r ∙ overlaid_pick r ws (start r) (λ i. store_same (root i));
    on_version = λ j r p h. child_version j r p (same_cases j x) (same_cases j y) h;
    on_wrote = λ j r. child_wrote j r (same_cases j x) (same_cases j y);
  }

-- the version of another than x, which ends, where the writes of x go to t
pub kept_version : {line : Lines} {ver : Versions} {now start : ℕ → Page} {root : ℕ → Root} {ws : List Write} (D : Data line ver now start root ws)
    (x : ℕ) (t : Root) (leaf : (z : ℕ) → z ≢ x → mem x (line z) ≡ false) (j r : ℕ) (p : Page) → Same j x → gone x ver j r ≡ some p
    → (is_some (ver x r) ≡ true → j ≢ x → sees (line j) t ≡ false) → p ≡ overlaid (λ i. sees (ends x line j) (move x t (root i))) r ws (start r)
unfolding open_state open_versions writes_to overlaid
kept_version D x t leaf j r p (is e s _) h apart = none-some (rw s at h)
kept_version {ver = ver} D x t leaf j r p (isnt e s _) h apart = rw s (let k : ver j r ≡ some p = rw s at h in other D x t leaf j r p e k (λ v. apart v e))

-- a top transaction x commits, and its commit record is stored
module _ {line : Lines} {ver : Versions} {now start : ℕ → Page} {root : ℕ → Root} {ws : List Write} (D : Data line ver now start root ws)
    (x : ℕ) (leaf : (z : ℕ) → z ≢ x → mem x (line z) ≡ false) (top : line x ≡ x ∷ [])
    (apart : (z r : ℕ) → z ≢ x → is_some (ver x r) ≡ true → is_some (ver z r) ≡ true → ⊥) where
  store_gains : (c : Root) → (is_at x c || is_settled c) ≡ is_settled (move x settled c)
  unfolding open_state open_versions writes_to overlaid
  store_gains settled = refl
  store_gains lost = refl
  store_gains waiting = refl
  store_gains (at a) = go (same a x)
    where
      go : (b : Bool) → (b || false) ≡ is_settled (cond b settled (at a))
      go true = refl
      go false = refl

  top_store : (r : ℕ) → else (ver x r) (now r) ≡ overlaid (λ i. is_settled (move x settled (root i))) r ws (start r)
  unfolding open_state open_versions writes_to overlaid
  top_store r = go (ver x r) refl ∙ overlaid_pick r ws (start r) (λ i. store_gains (root i))
    where
      go : (o : Option Page) → ver x r ≡ o → else o (now r) ≡ overlaid (λ i. is_at x (root i) || is_settled (root i)) r ws (start r)
      go none e = D.on_store r ∙ sym (quiet D x r (λ i. is_settled (root i)) e)
      go (some u) e = D.on_version x r u e ∙ overlaid_pick r ws (start r) (λ i. rw top (sym (sees_cons x [] (root i)) ∙ ap (λ b. is_at x (root i) || b) (sym (sees_nil (root i)))))

  top_version : (j r : ℕ) (p : Page) → gone x ver j r ≡ some p → p ≡ overlaid (λ i. sees (ends x line j) (move x settled (root i))) r ws (start r)
  unfolding open_state open_versions
  top_version j r p h = kept_version D x settled leaf j r p (same_cases j x) h (λ v n. absurd (apart j r n v (had (same_cases j x))))
    where
      had : Same j x → is_some (ver j r) ≡ true
      had (is e s _) = none-some (rw s at h)
      had (isnt e s _) = ap is_some (rw s at h)

  top_wrote : (j r : ℕ) → Same j x → is_some (gone x ver j r) ≡ writes_to (λ i. is_at j (root' D x settled leaf i)) r ws
  unfolding open_state open_versions writes_to overlaid
  top_wrote j r (is e s _) = rw (s, e) (sym (writes_to-none r ws) ∙ writes_to-pick r ws (λ i. moved_away x settled (root i) refl))
  top_wrote j r (isnt e s _) = rw s (D.on_wrote j r ∙ writes_to-pick r ws (λ i. moved_past j x settled (root i) e refl))

  pub top_data : Data (ends x line) (gone x ver) (λ r. else (ver x r) (now r)) start (λ i. move x settled (root i)) ws
  unfolding open_state open_versions writes_to overlaid
  top_data = record { on_store = top_store; on_version = top_version; on_wrote = λ j r. top_wrote j r (same_cases j x) }

-- those that `dead` picks end, and their writes are lost
module _ {line : Lines} {ver : Versions} {now start : ℕ → Page} {root : ℕ → Root} {ws : List Write} (D : Data line ver now start root ws)
    (dead : ℕ → Bool) (closed : (z a : ℕ) → dead z ≡ false → dead a ≡ true → mem a (line z) ≡ false) where
  abbrev ver' : Versions
  ver' j r = cond (dead j) none (ver j r)

  lose_store : (c : Root) → is_settled c ≡ is_settled (lose dead c)
  unfolding open_state open_versions writes_to overlaid
  lose_store settled = refl
  lose_store lost = refl
  lose_store waiting = refl
  lose_store (at a) = go (dead a)
    where
      go : (b : Bool) → false ≡ is_settled (cond b lost (at a))
      go true = refl
      go false = refl

  lose_sees : (z : ℕ) (c : Root) → dead z ≡ false → sees (line z) c ≡ sees (line z) (lose dead c)
  unfolding open_state open_versions writes_to overlaid
  lose_sees z settled n = refl
  lose_sees z lost n = refl
  lose_sees z waiting n = refl
  lose_sees z (at a) n = go (is_cases (dead a))
    where
      go : Is (dead a) → mem a (line z) ≡ sees (line z) (lose dead (at a))
      go (yes' e) = rw e (closed z a n e)
      go (no' e) = rw e

  pub lose_at : (z : ℕ) (c : Root) → Is (dead z) → cond (dead z) false (is_at z c) ≡ is_at z (lose dead c)
  unfolding open_state open_versions writes_to overlaid
  lose_at z settled (yes' d) = rw d
  lose_at z settled (no' d) = rw d
  lose_at z lost (yes' d) = rw d
  lose_at z lost (no' d) = rw d
  lose_at z waiting (yes' d) = rw d
  lose_at z waiting (no' d) = rw d
  lose_at z (at a) d = go (same_cases a z) d (is_cases (dead a))
    where
      go : Same a z → Is (dead z) → Is (dead a) → cond (dead z) false (same a z) ≡ is_at z (lose dead (at a))
      go (is q s _) (yes' d) k = rw (q, d)
      go (is q s _) (no' d) k = rw (q, d)
      go (isnt q s _) (yes' d) (yes' k) = rw (d, k)
      go (isnt q s _) (yes' d) (no' k) = rw (d, k, s)
      go (isnt q s _) (no' d) (yes' k) = rw (d, k, s)
      go (isnt q s _) (no' d) (no' k) = rw (d, k)

  lose_version : (j r : ℕ) (p : Page) → Is (dead j) → ver' j r ≡ some p → p ≡ overlaid (λ i. sees (cond (dead j) [] (line j)) (lose dead (root i))) r ws (start r)
  unfolding open_state open_versions writes_to overlaid
  lose_version j r p (yes' d) h = none-some (rw d at h)
  lose_version j r p (no' d) h = rw d (D.on_version j r p (rw d at h) ∙ overlaid_pick r ws (start r) (λ i. lose_sees j (root i) d))

  lose_wrote : (j r : ℕ) → Is (dead j) → is_some (ver' j r) ≡ writes_to (λ i. is_at j (lose dead (root i))) r ws
  unfolding open_state open_versions writes_to overlaid
  lose_wrote j r d = go d ∙ writes_to-pick r ws (λ i. lose_at j (root i) d)
    where
      go : Is (dead j) → is_some (ver' j r) ≡ writes_to (λ i. cond (dead j) false (is_at j (root i))) r ws
      go (yes' d) = simp d (sym (writes_to-none r ws))
      go (no' d) = simp d (D.on_wrote j r)

  pub lose_data : Data (λ j. cond (dead j) [] (line j)) ver' now start (λ i. lose dead (root i)) ws
  unfolding open_state open_versions writes_to overlaid
  lose_data = record {
    on_store = λ r. D.on_store r ∙ overlaid_pick r ws (start r) (λ i. lose_store (root i));
    on_version = λ j r p h. lose_version j r p (is_cases (dead j)) h;
    on_wrote = λ j r. lose_wrote j r (is_cases (dead j));
  }

-- a begin: a line for t, and the new transaction i stands with t
module _ {line : Lines} {ver : Versions} {now start : ℕ → Page} {root : ℕ → Root} {ws : List Write} (D : Data line ver now start root ws)
    (t p i : ℕ) (fresh : (r : ℕ) → writes_to (λ k. same k i) r ws ≡ false) (none_yet : (r : ℕ) → is_some (ver t r) ≡ false) where
  abbrev begun_root : ℕ → Root
  begun_root k = cond (same k i) (at t) (root k)

  agrees : {A : Type 0} (f : Root → A) (k : ℕ) → k ≢ i → f (root k) ≡ f (begun_root k)
  unfolding open_state open_versions writes_to overlaid
  agrees f k n = rw (ne_false k i n)

  begin_version : (j r : ℕ) (v : Page) → ver j r ≡ some v → Same j t → v ≡ overlaid (λ k. sees (cond (same j t) (t ∷ line p) (line j)) (begun_root k)) r ws (start r)
  unfolding open_state open_versions writes_to overlaid
  begin_version j r v h (is e s _) = absurd (true≢false (sym (ap is_some h) ∙ rw e (none_yet r)))
  begin_version j r v h (isnt e s _) = rw s (D.on_version j r v h ∙ overlaid_fresh (λ k. sees (line j) (root k)) (λ k. sees (line j) (begun_root k)) i r ws (start r) (fresh r) (λ k n. agrees (sees (line j)) k n))

  pub begin_data : Data (λ j. cond (same j t) (t ∷ line p) (line j)) ver now start begun_root ws
  unfolding open_state open_versions writes_to overlaid
  begin_data = record {
    on_store = λ r. D.on_store r ∙ overlaid_fresh (λ k. is_settled (root k)) (λ k. is_settled (begun_root k)) i r ws (start r) (fresh r) (λ k n. agrees is_settled k n);
    on_version = λ j r v h. begin_version j r v h (same_cases j t);
    on_wrote = λ j r. D.on_wrote j r ∙ writes_to-fresh (λ k. is_at j (root k)) (λ k. is_at j (begun_root k)) i r ws (fresh r) (λ k n. agrees (is_at j) k n);
  }
