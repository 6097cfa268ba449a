-- What the definitions of waiting come to. Who waits points to each that blocks it and to that one's ancestors off its own line; on its own line only
-- to who blocks it. Every transaction points to its live children, whatever waits, and rows add up. Two transactions are a cycle exactly if they
-- differ and point to each other. Refusals come in their order.
use mathlib.Core.Path.{◌≡◌, refl, sym, ap, subst}
use mathlib.Core.Bool.{Bool, true, false, not, cond, ◌&&◌, ◌||◌}
use mathlib.Core.List.{List, [], ◌∷◌, ◌++◌}
use mathlib.Core.Option.{some, none-ne-some}
use Prim.Native.Nat.{ℕ, ◌<◌}
use lib.ListN.{length}
use Rattle.laws.specs.Tests.{same, under}
use Rattle.laws.proofs.Tests.{same-eq, same_refl}
use Rattle.laws.proofs.Booleans.{and_left, and_right, or_left, or_right, or_cases, clash}
use Rattle.laws.proofs.Any.{some_of, any_one}
use Rattle.rules.specs.Geometry.{transactions}
use Rattle.rules.specs.Event.{Access}
use Rattle.rules.specs.State.{State, line_of, mem}
use Rattle.rules.specs.Form.{Form}
use Rattle.rules.specs.Step.{StateOf, first_of}
use Rattle.rules.specs.Waiting.{WaitingRow, most_rows, Pointings, blocks, waits_for, row_points, is_child, points_to, is_cycle, row_refusals, rows_refusals, report_refusals, open_waiting}

and_both : (a b : Bool) → a ≡ true → b ≡ true → (a && b) ≡ true
and_both a b p q = rw (p, q) refl

module _ {S : Type 0} (s : State S) (a : Access) (w r : ℕ) where
  abbrev own : ℕ → Bool
  own u = mem u (line_of s.bearer w)

  abbrev beneath : ℕ → ℕ → Bool
  beneath b u = mem u (line_of s.bearer b)

  pub waits_for_ancestor : (b u : ℕ) → b < transactions → blocks s a w r b ≡ true → beneath b u ≡ true → own u ≡ false → waits_for s a w r u ≡ true
  unfolding waits_for
  waits_for_ancestor b u l e up off = any_one transactions (λ c. blocks s a w r c && ((not (own u) && beneath c u) || same u c)) b l
      (and_both (blocks s a w r b) _ e (or_left (not (own u) && beneath b u) (same u b) (and_both (not (own u)) (beneath b u) (ap not off) up)))

  pub waits_on_own_line : (u : ℕ) → own u ≡ true → waits_for s a w r u ≡ true → blocks s a w r u ≡ true
  unfolding waits_for
  waits_on_own_line u on e =
      let c = some_of transactions (λ c. blocks s a w r c && ((not (own u) && beneath c u) || same u c)) e in
      or_cases (not (own u) && beneath c.at u) (same u c.at) (and_right (blocks s a w r c.at) _ c.is_so)
      (λ q. clash (and_left (not (own u)) (beneath c.at u) q) (ap not on))
      (λ q. subst (λ (x : ℕ). blocks s a w r x ≡ true) (sym (same-eq u c.at q)) (and_left (blocks s a w r c.at) _ c.is_so))

  pub waits_for_blocker : (b : ℕ) → b < transactions → blocks s a w r b ≡ true → waits_for s a w r b ≡ true
  unfolding waits_for
  waits_for_blocker b l e = any_one transactions (λ c. blocks s a w r c && ((not (own b) && beneath c b) || same b c)) b l
      (and_both (blocks s a w r b) _ e (or_right (not (own b) && beneath b b) (same b b) (same_refl b)))

module _ {S : Type 0} (s : State S) (t u : ℕ) where
  pub points_to_child : (ws : List WaitingRow) → is_child s t u ≡ true → points_to s ws t u ≡ true
  unfolding points_to
  points_to_child [] e = e
  points_to_child (w ∷ ws) e = or_right (row_points s w t u) (points_to s ws t u) (points_to_child ws e)

  pub points_by_row : (w : WaitingRow) (ws : List WaitingRow) → row_points s w t u ≡ true → points_to s (w ∷ ws) t u ≡ true
  unfolding points_to
  points_by_row w ws e = or_left (row_points s w t u) (points_to s ws t u) e

  pub rows_add_up : (w : WaitingRow) (ws : List WaitingRow) → points_to s ws t u ≡ true → points_to s (w ∷ ws) t u ≡ true
  unfolding points_to
  rows_add_up w ws e = or_right (row_points s w t u) (points_to s ws t u) e

two_differ : (b c : Bool) → ((not (b || false) && true) && c) ≡ (not b && c)
two_differ true c = refl
two_differ false c = refl

pub cycle_of_two : (p : Pointings) (x y : ℕ) → is_cycle p (x ∷ y ∷ []) ≡ (not (same x y) && (p x y && p y x))
unfolding open_waiting mem
cycle_of_two p x y = two_differ (same x y) (p x y && p y x)

first_found : (xs ys : List (ℕ × Bool)) (n : ℕ) → first_of xs ≡ some n → first_of (xs ++ ys) ≡ some n
unfolding first_of
first_found [] ys n e = absurd (none-ne-some n e)
first_found (x ∷ xs) ys n e = go x.1 e (first_found xs ys n)
  where
    go : (b : Bool) → cond b (some x.0) (first_of xs) ≡ some n → (first_of xs ≡ some n → first_of (xs ++ ys) ≡ some n) → cond b (some x.0) (first_of (xs ++ ys)) ≡ some n
    go true q later = q
    go false q later = later q

module _ (f : Form) (s : StateOf f) where
  pub unsound_first : (rows : List WaitingRow) → first_of (report_refusals f s false rows) ≡ some 25
  unfolding first_of report_refusals
  unsound_first rows = refl

  pub too_many_next : (rows : List WaitingRow) → under most_rows (length rows) ≡ true → first_of (report_refusals f s true rows) ≡ some 26
  unfolding first_of report_refusals
  too_many_next rows e = rw e

  pub row_by_row : (w : WaitingRow) (ws : List WaitingRow) (n : ℕ) → first_of (row_refusals f s w) ≡ some n → first_of (rows_refusals f s (w ∷ ws)) ≡ some n
  unfolding rows_refusals
  row_by_row w ws n e = first_found (row_refusals f s w) (rows_refusals f s ws) n e
