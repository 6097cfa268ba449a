-- The pages of the prepared transaction hold the writes that wait, laid over what is settled: kept by each kind of event. A prepare, and the
-- decision, on versions and settled records.
use mathlib.Core.Path.{◌≡◌, refl, sym, ap, ◌∙◌}
use mathlib.Core.Bool.{Bool, true, false, cond, ◌||◌, false≢true}
use mathlib.Core.List.{List, [], ◌∷◌}
use mathlib.Core.Logic.{◌≢◌}
use mathlib.Core.Option.{Option, none, some}
use Prim.Native.Nat.{ℕ}
use Rattle.laws.specs.Tests.{same}
use Rattle.laws.proofs.Tests.{same_cases, Same, is, isnt, ne_false}
use Rattle.rules.specs.Store.{Page}
use Rattle.rules.specs.State.{mem, Versions}
use Rattle.rules.specs.Versions.{is_some, else, dropped}
use Rattle.rules.proofs.Tree.{Lines}
use Rattle.history.specs.History.{Write, writes_to, overlaid}
use Rattle.history.proofs.Overlay.{overlaid-or, writes_to-or, writes_to-none, overlaid_pick, writes_to-pick, overlaid_fresh, writes_to-fresh}
use Rattle.history.proofs.Roots.{Root, settled, lost, waiting, at, is_settled, is_waiting, is_kept, is_at, sees, move, lose, resolve, sees_nil, sees_cons, moved_away, moved_past}
use Rattle.history.proofs.Data.{Data, ends, gone, kept_version}

pub record Waits (pend : ℕ → Option Page) (start : ℕ → Page) (root : ℕ → Root) (ws : List Write) : Type 0 where
  pub on_pending : (r : ℕ) (p : Page) → pend r ≡ some p → p ≡ overlaid (λ i. is_kept (root i)) r ws (start r)
  pub on_waiting : (r : ℕ) → is_some (pend r) ≡ writes_to (λ i. is_waiting (root i)) r ws

abbrev pub Pages : Type 0
Pages = ℕ → Option Page

-- what is pending stays
pub repend : {pend pend' : Pages} {start : ℕ → Page} {root : ℕ → Root} {ws : List Write} → Waits pend start root ws → ((r : ℕ) → pend' r ≡ pend r) → Waits pend' start root ws
repend W k = record { on_pending = λ r p e. W.on_pending r p (sym (k r) ∙ e); on_waiting = λ r. ap is_some (k r) ∙ W.on_waiting r }

module _ {pend : Pages} {start : ℕ → Page} {root : ℕ → Root} {ws : List Write} (W : Waits pend start root ws) where
  -- labels turn that are neither settled nor waiting, and so they stay
  waits_turned : (φ : Root → Root) → ((c : Root) → is_settled c ≡ is_settled (φ c)) → ((c : Root) → is_waiting c ≡ is_waiting (φ c)) → Waits pend start (λ i. φ (root i)) ws
  waits_turned φ s w = record {
    on_pending = λ r p e. W.on_pending r p e ∙ overlaid_pick r ws (start r) (λ i. rw (s (root i), w (root i)));
    on_waiting = λ r. W.on_waiting r ∙ writes_to-pick r ws (λ i. w (root i));
  }

  pub waits_lost : (dead : ℕ → Bool) → Waits pend start (λ i. lose dead (root i)) ws
  waits_lost dead = waits_turned (lose dead) settles stays
    where
      settles : (c : Root) → is_settled c ≡ is_settled (lose dead c)
      settles settled = refl
      settles lost = refl
      settles waiting = refl
      settles (at a) = go (dead a)
        where
          go : (b : Bool) → false ≡ is_settled (cond b lost (at a))
          go true = refl
          go false = refl

      stays : (c : Root) → is_waiting c ≡ is_waiting (lose dead c)
      stays settled = refl
      stays lost = refl
      stays waiting = refl
      stays (at a) = go (dead a)
        where
          go : (b : Bool) → false ≡ is_waiting (cond b lost (at a))
          go true = refl
          go false = refl

  pub waits_child : (x y : ℕ) → Waits pend start (λ i. move x (at y) (root i)) ws
  waits_child x y = waits_turned (move x (at y)) settles stays
    where
      settles : (c : Root) → is_settled c ≡ is_settled (move x (at y) c)
      settles settled = refl
      settles lost = refl
      settles waiting = refl
      settles (at a) = go (same a x)
        where
          go : (b : Bool) → false ≡ is_settled (cond b (at y) (at a))
          go true = refl
          go false = refl

      stays : (c : Root) → is_waiting c ≡ is_waiting (move x (at y) c)
      stays settled = refl
      stays lost = refl
      stays waiting = refl
      stays (at a) = go (same a x)
        where
          go : (b : Bool) → false ≡ is_waiting (cond b (at y) (at a))
          go true = refl
          go false = refl

  -- a begin, and a write by one that is live
  pub waits_begun : (t i : ℕ) → ((r : ℕ) → writes_to (λ k. same k i) r ws ≡ false) → Waits pend start (λ k. cond (same k i) (at t) (root k)) ws
  waits_begun t i fresh = record {
    on_pending = λ r p e. W.on_pending r p e ∙ overlaid_fresh (λ k. is_kept (root k)) (λ k. is_kept (cond (same k i) (at t) (root k))) i r ws (start r) (fresh r) (λ k n. rw (ne_false k i n));
    on_waiting = λ r. W.on_waiting r ∙ writes_to-fresh (λ k. is_waiting (root k)) (λ k. is_waiting (cond (same k i) (at t) (root k))) i r ws (fresh r) (λ k n. rw (ne_false k i n));
  }

  pub waits_write : (w : Write) (a : ℕ) → root w.transaction ≡ at a → Waits pend start root (w ∷ ws)
  unfolding writes_to overlaid
  waits_write w a bears = record { on_pending = λ r p e. rw bears (W.on_pending r p e); on_waiting = λ r. rw bears (W.on_waiting r) }

  -- nothing waits of a record that isn't pending
  pub no_wait : (r : ℕ) → is_some (pend r) ≡ false → writes_to (λ i. is_waiting (root i)) r ws ≡ false
  no_wait r e = sym (W.on_waiting r) ∙ e

-- x, which has no version of what is pending, settles
module _ {line : Lines} {ver : Versions} {now start : ℕ → Page} {root : ℕ → Root} {ws : List Write} {pend : Pages} (D : Data line ver now start root ws) (W : Waits pend start root ws) where
  pub waits_top : (x : ℕ) → ((r : ℕ) → is_some (pend r) ≡ true → is_some (ver x r) ≡ false) → Waits pend start (λ i. move x settled (root i)) ws
  unfolding is_some
  waits_top x apart = record {
    on_pending = λ r p e.
        W.on_pending r p e
        ∙ sym (overlaid-or (λ i. is_at x (root i)) (λ i. is_kept (root i)) r ws (start r) (sym (D.on_wrote x r) ∙ apart r (ap is_some e)))
        ∙ overlaid_pick r ws (start r) (λ i. keeps (root i));
    on_waiting = λ r. W.on_waiting r ∙ writes_to-pick r ws (λ i. stays (root i));
  }
    where
      keeps : (c : Root) → (is_at x c || is_kept c) ≡ is_kept (move x settled c)
      keeps settled = refl
      keeps lost = refl
      keeps waiting = refl
      keeps (at a) = go (same a x)
        where
          go : (b : Bool) → (b || false) ≡ is_kept (cond b settled (at a))
          go true = refl
          go false = refl

      stays : (c : Root) → is_waiting c ≡ is_waiting (move x settled c)
      stays settled = refl
      stays lost = refl
      stays waiting = refl
      stays (at a) = go (same a x)
        where
          go : (b : Bool) → false ≡ is_waiting (cond b settled (at a))
          go true = refl
          go false = refl

  -- a top transaction x is prepared, where nothing was pending
  module _ (x : ℕ) (leaf : (z : ℕ) → z ≢ x → mem x (line z) ≡ false) (top : line x ≡ x ∷ []) (idle : (r : ℕ) → is_some (pend r) ≡ false) where
    abbrev root' : ℕ → Root
    root' i = move x waiting (root i)

    store_same : (c : Root) → is_settled c ≡ is_settled (move x waiting c)
    store_same settled = refl
    store_same lost = refl
    store_same waiting = refl
    store_same (at a) = go (same a x)
      where
        go : (b : Bool) → false ≡ is_settled (cond b waiting (at a))
        go true = refl
        go false = refl

    prepare_wrote : (j r : ℕ) → Same j x → is_some (gone x ver j r) ≡ writes_to (λ i. is_at j (root' i)) r ws
    unfolding dropped is_some
    prepare_wrote j r (is e s _) = rw (s, e) (sym (writes_to-none r ws) ∙ writes_to-pick r ws (λ i. moved_away x waiting (root i) refl))
    prepare_wrote j r (isnt e s _) = rw s (D.on_wrote j r ∙ writes_to-pick r ws (λ i. moved_past j x waiting (root i) e refl))

    pub prepare_data : Data (ends x line) (gone x ver) now start root' ws
    prepare_data = record {
      on_store = λ r. D.on_store r ∙ overlaid_pick r ws (start r) (λ i. store_same (root i));
      on_version = λ j r p h. kept_version D x waiting leaf j r p (same_cases j x) h (λ v n. refl);
      on_wrote = λ j r. prepare_wrote j r (same_cases j x);
    }

    -- what waits then: what x changed
    joins : (c : Root) → (is_waiting c || (is_at x c || is_settled c)) ≡ is_kept (move x waiting c)
    joins settled = refl
    joins lost = refl
    joins waiting = refl
    joins (at a) = go (same a x)
      where
        go : (b : Bool) → (b || false) ≡ is_kept (cond b waiting (at a))
        go true = refl
        go false = refl

    waits_too : (c : Root) → (is_waiting c || is_at x c) ≡ is_waiting (move x waiting c)
    waits_too settled = refl
    waits_too lost = refl
    waits_too waiting = refl
    waits_too (at a) = go (same a x)
      where
        go : (b : Bool) → b ≡ is_waiting (cond b waiting (at a))
        go true = refl
        go false = refl

    pub prepare_waits : Waits (ver x) start root' ws
    prepare_waits = record {
      on_pending = λ r p e.
          D.on_version x r p e
          ∙ overlaid_pick r ws (start r) (λ i. rw top (sym (sees_cons x [] (root i)) ∙ ap (λ b. is_at x (root i) || b) (sym (sees_nil (root i)))))
          ∙ sym (overlaid-or (λ i. is_waiting (root i)) (λ i. is_at x (root i) || is_settled (root i)) r ws (start r) (no_wait W r (idle r)))
          ∙ overlaid_pick r ws (start r) (λ i. joins (root i));
      on_waiting = λ r.
          D.on_wrote x r
          ∙ sym (writes_to-or (λ i. is_waiting (root i)) (λ i. is_at x (root i)) r ws ∙ rw (no_wait W r (idle r)))
          ∙ writes_to-pick r ws (λ i. waits_too (root i));
    }

  -- the decision is stored, where nobody has a version of what is pending
  module _ (d : Bool) (apart : (j r : ℕ) → is_some (ver j r) ≡ true → is_some (pend r) ≡ false) where
    settles : (d : Bool) (c : Root) → is_settled (resolve d c) ≡ cond d (is_waiting c || is_settled c) (is_settled c)
    settles true settled = refl
    settles true lost = refl
    settles true waiting = refl
    settles true (at a) = refl
    settles false settled = refl
    settles false lost = refl
    settles false waiting = refl
    settles false (at a) = refl

    shows : (d : Bool) (l : List ℕ) (c : Root) → sees l (resolve d c) ≡ cond d (is_waiting c || sees l c) (sees l c)
    shows true l settled = refl
    shows true l lost = refl
    shows true l waiting = refl
    shows true l (at a) = refl
    shows false l settled = refl
    shows false l lost = refl
    shows false l waiting = refl
    shows false l (at a) = refl

    at_same : (j : ℕ) (c : Root) → is_at j c ≡ is_at j (resolve d c)
    at_same j settled = refl
    at_same j lost = refl
    at_same j waiting = go d
      where
        go : (b : Bool) → false ≡ is_at j (cond b settled lost)
        go true = refl
        go false = refl
    at_same j (at a) = refl

    none-waits : (c : Root) → false ≡ is_waiting (resolve d c)
    none-waits settled = refl
    none-waits lost = refl
    none-waits waiting = go d
      where
        go : (b : Bool) → false ≡ is_waiting (cond b settled lost)
        go true = refl
        go false = refl
    none-waits (at a) = refl

    kept-or : (c : Root) → is_kept c ≡ (is_waiting c || is_settled c)
    kept-or settled = refl
    kept-or lost = refl
    kept-or waiting = refl
    kept-or (at a) = refl

    decided_store : (r : ℕ) → cond d (else (pend r) (now r)) (now r) ≡ overlaid (λ i. is_settled (resolve d (root i))) r ws (start r)
    unfolding else is_some
    decided_store r = go d refl
      where
        go : (b : Bool) → d ≡ b → cond b (else (pend r) (now r)) (now r) ≡ overlaid (λ i. is_settled (resolve d (root i))) r ws (start r)
        go false e = D.on_store r ∙ overlaid_pick r ws (start r) (λ i. rw e (sym (settles false (root i))))
        go true e = one (pend r) refl ∙ overlaid_pick r ws (start r) (λ i. rw e (sym (settles true (root i))))
          where
            one : (o : Option Page) → pend r ≡ o → else o (now r) ≡ overlaid (λ i. is_waiting (root i) || is_settled (root i)) r ws (start r)
            one none q = D.on_store r ∙ sym (overlaid-or (λ i. is_waiting (root i)) (λ i. is_settled (root i)) r ws (start r) (no_wait W r (ap is_some q)))
            one (some p) q = W.on_pending r p q ∙ overlaid_pick r ws (start r) (λ i. kept-or (root i))

    decided_version : (j r : ℕ) (p : Page) → ver j r ≡ some p → p ≡ overlaid (λ i. sees (line j) (resolve d (root i))) r ws (start r)
    unfolding is_some
    decided_version j r p h = D.on_version j r p h ∙ go d refl
      where
        go : (b : Bool) → d ≡ b → overlaid (λ i. sees (line j) (root i)) r ws (start r) ≡ overlaid (λ i. sees (line j) (resolve d (root i))) r ws (start r)
        go false e = overlaid_pick r ws (start r) (λ i. rw e (sym (shows false (line j) (root i))))
        go true e =
            sym (overlaid-or (λ i. is_waiting (root i)) (λ i. sees (line j) (root i)) r ws (start r) (no_wait W r (apart j r (ap is_some h))))
            ∙ overlaid_pick r ws (start r) (λ i. rw e (sym (shows true (line j) (root i))))

    pub decided_data : Data line ver (λ r. cond d (else (pend r) (now r)) (now r)) start (λ i. resolve d (root i)) ws
    decided_data = record { on_store = decided_store; on_version = decided_version; on_wrote = λ j r. D.on_wrote j r ∙ writes_to-pick r ws (λ i. at_same j (root i)) }

    pub decided_waits : Waits (λ r. none) start (λ i. resolve d (root i)) ws
    unfolding is_some
    decided_waits = record {
      on_pending = λ r p e. absurd (false≢true (ap is_some e));
      on_waiting = λ r. sym (writes_to-none r ws) ∙ writes_to-pick r ws (λ i. none-waits (root i));
    }
