-- The walk, event by event: what is left of it goes on from the tables.
use mathlib.Core.Path.{◌≡◌, sym, ap, ap₂, ◌∙◌, subst⁻¹}
use mathlib.Core.Bool.{Bool, true, false, cond, ◌&&◌}
use mathlib.Core.List.{List, ◌∷◌}
use mathlib.Core.Option.{Option}
use Prim.Native.Nat.{ℕ, suc, ◌+◌, ◌-◌, ◌*◌, ◌<◌}
use native.Mathlib.Omega.{arith}
use native.Mathlib.Numerals.{add-one}
use lib.ListN.{get_or, take, drop, replicate}
use Rattle.laws.specs.Tests.{same, under}
use Rattle.laws.specs.Bytes.{number}
use Rattle.laws.proofs.Tests.{lt-under, under-lt}
use Rattle.laws.proofs.Booleans.{refute}
use Rattle.rules.specs.Geometry.{records}
use Rattle.rules.specs.Store.{Page, Pages, pages_of}
use Rattle.rules.specs.Event.{Event, decode}
use Rattle.rules.specs.Step.{Answer, number_of, value_of}
use Rattle.rules.specs.Run.{words}
use Rattle.rules.specs.Editions.{geometry1, edition1}
use Rattle.leaf_event.proofs.Words.{bytes1, words_next}
use Rattle.audit_rules.specs.Plain.{Ledger, blank_ledger, learned, due}
use Rattle.audit_rules.specs.Walk.{Walked, wrong, right, answered, walk}
use Rattle.audit_scan.specs.Scans.{event_in_bytes}
use Rattle.audit_bearer.specs.Tables.{Tables, tables, ledger_of}
use Rattle.audit_event.specs.Step.{Consistent, Audited}
use Rattle.audit_verdict.proofs.Blank.{zeros_tell}

module _ (start : ℕ → Page) (answers events : List ℕ) (n : ℕ) where
  -- the walk from event k on, by these tables and pages
  abbrev pub onward : ℕ → Tables → List ℕ → Walked Pages
  onward k b store = walk edition1 start answers (ledger_of b events k) (pages_of store) k (words geometry1 (n - k) (drop (4 * k) events))

  -- the two bytes of answer k are these
  abbrev pub two_bytes : ℕ → ℕ → ℕ → Bool
  two_bytes k number value = same (get_or answers (2 * k) 0) number && same (get_or answers (2 * k + 1) 0) value

  next : (k : ℕ) → k < n → words geometry1 (n - k) (drop (4 * k) events) ≡ number (take 4 (drop (4 * k) events)) ∷ words geometry1 (n - (k + 1)) (drop (4 * (k + 1)) events)
  next k h =
      let e : n - k ≡ suc (n - (k + 1)) = omega (arith, h) in
      ap (λ (m : ℕ). words geometry1 m (drop (4 * k) events)) e ∙ words_next geometry1 4 bytes1 (n - (k + 1)) k events

  -- an answer by its two bytes
  bytes_are : (k : ℕ) (a : Answer) (x y : ℕ) → x ≡ number_of a → y ≡ value_of a → answered answers k a ≡ two_bytes k x y
  unfolding answered
  bytes_are k a x y p q = rw (p, q, add-one (2 * k))

  clause : (l : Ledger) (s : Pages) (k : ℕ) (w : ℕ) (ws : List ℕ) (e : Option Event) → decode geometry1 w ≡ e
      → walk edition1 start answers l s k (w ∷ ws)
      ≡ cond (answered answers k (due edition1 start l s e).answer) (walk edition1 start answers (learned (records geometry1) l e (due edition1 start l s e).answer) (due edition1 start l s e).store (suc k) ws) (wrong k)
  unfolding walk
  clause l s k w ws e q = rw q

  -- one event
  pub walk_more : (k : ℕ) (b b' : Tables) (store store' : List ℕ) (e : Option Event) (x y : ℕ) → k < n → event_in_bytes events k ≡ e
      → Audited start events k b store e x y b' store' → onward k b store ≡ cond (two_bytes k x y) (onward (k + 1) b' store') (wrong k)
  unfolding event_in_bytes
  walk_more k b b' store store' e x y h q A =
      let d = due edition1 start (ledger_of b events k) (pages_of store) e in
      let ws = words geometry1 (n - (k + 1)) (drop (4 * (k + 1)) events) in
      let o : suc k ≡ k + 1 = sym (add-one k) in
      ap (λ (v : List ℕ). walk edition1 start answers (ledger_of b events k) (pages_of store) k v) (next k h)
      ∙ clause (ledger_of b events k) (pages_of store) k (number (take 4 (drop (4 * k) events))) ws e q
      ∙ ap (λ (t : Bool). cond t (walk edition1 start answers (learned (records geometry1) (ledger_of b events k) e d.answer) d.store (suc k) ws) (wrong k)) (bytes_are k d.answer x y A.numbered A.valued)
      ∙ ap₂ (λ (l : Ledger) (s : Pages). cond (two_bytes k x y) (walk edition1 start answers l s (suc k) ws) (wrong k)) (sym A.learns) (sym A.stored)
      ∙ ap (λ (j : ℕ). cond (two_bytes k x y) (walk edition1 start answers (ledger_of b' events j) (pages_of store') j ws) (wrong k)) o

  -- past the last
  pub walk_done : (k : ℕ) (b : Tables) (store : List ℕ) → k ≡ n → onward k b store ≡ right (pages_of store)
  unfolding walk words
  walk_done k b store e = let z : n - k ≡ 0 = omega (arith, e) in ap (λ (m : ℕ). walk edition1 start answers (ledger_of b events k) (pages_of store) k (words geometry1 m (drop (4 * k) events))) z

  module _ (W : Walked Pages) where
    pub walk_again : (k : ℕ) (b b' : Tables) (store store' : List ℕ) (e : Option Event) (x y : ℕ) (t : Bool) → k < n → event_in_bytes events k ≡ e
        → Audited start events k b store e x y b' store' → t ≡ two_bytes k x y → t ≡ true → W ≡ onward k b store → W ≡ onward (k + 1) b' store'
    walk_again k b b' store store' e x y t h q A r u p =
        p ∙ walk_more k b b' store store' e x y h q A ∙ ap (λ (s : Bool). cond s (onward (k + 1) b' store') (wrong k)) (sym r ∙ u)

    -- the first wrong event
    pub walk_wrong : (k : ℕ) (b b' : Tables) (store store' : List ℕ) (e : Option Event) (x y : ℕ) (t : Bool) (s : Pages) → k < n → event_in_bytes events k ≡ e
        → Audited start events k b store e x y b' store' → t ≡ two_bytes k x y → t ≡ false → W ≡ onward k b store → W ≡ cond (under k n) (wrong k) (right s)
    walk_wrong k b b' store store' e x y t s h q A r u p =
        p ∙ walk_more k b b' store store' e x y h q A ∙ ap (λ (s : Bool). cond s (onward (k + 1) b' store') (wrong k)) (sym r ∙ u)
        ∙ sym (ap (λ (d : Bool). cond d (wrong k) (right s)) (lt-under k n h))

    pub walk_end : (k : ℕ) (b : Tables) (store : List ℕ) → k ≡ n → W ≡ onward k b store → W ≡ cond (under n n) (wrong n) (right (pages_of store))
    walk_end k b store e p =
        p ∙ walk_done k b store e ∙ sym (ap (λ (d : Bool). cond d (wrong n) (right (pages_of store))) (refute (under n n) (λ d. let h = under-lt n n d in omega (arith, h))))

-- before the first event
pub walk_start : (start : ℕ → Page) (answers events : List ℕ) (n : ℕ) (store : List ℕ)
    → walk edition1 start answers blank_ledger (pages_of store) 0 (words geometry1 n events)
    ≡ onward start answers events n 0 (tables (replicate 4096 0) (replicate 4097 0) (replicate 4097 0) (replicate 24 0) 0 false) store
walk_start start answers events n store =
    let z : n ≡ n - 0 = omega arith in
    ap₂ (λ (l : Ledger) (m : ℕ). walk edition1 start answers l (pages_of store) 0 (words geometry1 m events)) (sym (zeros_tell events)) z

pub consistent_next : (b : Tables) (k : ℕ) → Consistent b (suc k) → Consistent b (k + 1)
consistent_next b k T = subst⁻¹ (Consistent b) (add-one k) T
