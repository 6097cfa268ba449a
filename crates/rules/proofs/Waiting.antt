-- While a child of a transaction is live, the transaction neither locks, writes nor reads: that is refused with 14, whatever it holds, and
-- changes nothing. A live child does not stop an abort.
use mathlib.Core.Path.{◌≡◌, refl, ap}
use mathlib.Core.Bool.{Bool, true, not}
use mathlib.Core.List.{List, ◌∷◌}
use mathlib.Core.Option.{none, some}
use Prim.Native.Nat.{ℕ}
use Rattle.rules.specs.Event.{Access, Event, lock, write, read, abort}
use Rattle.rules.specs.State.{live}
use Rattle.rules.specs.Form.{Form}
use Rattle.rules.specs.Step.{refused, first_of, has_child, StateOf, refusals, refusal, act, outcome_by, step}

module _ (f : Form) (s : StateOf f) where
  -- the event is refused with a number, and nothing changes
  abbrev pub Refused : Event → ℕ → Type 0
  Refused e n = step f s (some e) ≡ record { state = s; answer = refused n }

  pub refuse : (e : Event) (n : ℕ) → refusal f s e ≡ some n → Refused e n
  unfolding step outcome_by
  refuse e n q = ap (outcome_by f s e) q

module _ (f : Form) (s : StateOf f) (t : ℕ) (up : s.up ≡ true) (alive : live s t ≡ true) where
  -- the tests of all three begin alike, whatever comes after 14
  waits : (rest : List (ℕ × Bool)) → has_child s t ≡ true → first_of ((2, not s.up) ∷ (5, not (live s t)) ∷ (14, has_child s t) ∷ rest) ≡ some 14
  unfolding first_of
  waits rest child = rw (alive, child, up) refl

  pub lock_waits : (r : ℕ) (a : Access) → has_child s t ≡ true → Refused f s (lock t r a) 14
  unfolding refusal refusals
  lock_waits r a child = refuse f s (lock t r a) 14 (waits _ child)

  pub write_waits : (r o v : ℕ) → has_child s t ≡ true → Refused f s (write t r o v) 14
  unfolding refusal refusals
  write_waits r o v child = refuse f s (write t r o v) 14 (waits _ child)

  pub read_waits : (r o : ℕ) → has_child s t ≡ true → Refused f s (read t r o) 14
  unfolding refusal refusals
  read_waits r o child = refuse f s (read t r o) 14 (waits _ child)

  passes : (w : Bool) → refusal f s (abort t w) ≡ none
  unfolding refusal refusals first_of
  passes w = rw (alive, up) refl

  -- with a live child or without
  pub abort_open : (w : Bool) → step f s (some (abort t w)) ≡ act f s (abort t w)
  unfolding step outcome_by
  abort_open w = ap (outcome_by f s (abort t w)) (passes w)
