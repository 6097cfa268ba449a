-- The pointings in the arrays are those of the state that they stand for.
use mathlib.Core.Path.{◌≡◌, refl, sym, ◌∙◌, ap, ap₂, subst, fun_ext}
use mathlib.Core.Bool.{Bool, true, false, not, cond, ◌&&◌, ◌||◌, and-false, or-false, false≢true}
use mathlib.Core.List.{List, ◌∷◌, map}
use mathlib.Core.Logic.{⊎_elim}
use Prim.Native.Nat.{ℕ, zero, suc, ◌+◌, ◌<◌, ◌≤◌}
use native.Mathlib.Nat.{add-zero}
use native.Mathlib.Omega.{arith}
use lib.ListN.{length, get_or, take, drop}
use lib.Seq.{drop-cons}
use Rattle.laws.specs.Tests.{same, under}
use Rattle.laws.specs.Counting.{any}
use Rattle.laws.proofs.Any.{some_of, any_first, any_same}
use Rattle.laws.proofs.Tests.{same-eq, Is, is_cases, yes', no', under-lt, lt-under}
use Rattle.laws.proofs.Booleans.{and_left, and_right, or_cases, clash, refute}
use Rattle.rules.specs.Geometry.{records, transactions}
use Rattle.rules.specs.Event.{Access, access_of}
use Rattle.rules.specs.State.{Bearer, Bearers, free, active, live, line_of, mem, is_active, parent_in}
use Rattle.rules.specs.Locks.{bars}
use Rattle.rules.specs.Form.{Form}
use Rattle.rules.specs.Step.{StateOf, first_of}
use Rattle.rules.specs.Sound.{Sound}
use Rattle.rules.proofs.Locks as locks
use Rattle.rules.proofs.Bearers.{line_of_member}
use Rattle.leaf_set.specs.Sets.{sets}
use Rattle.state_array.specs.View.{Owners, bearers_of, modes_of, Nested}
use Rattle.state_array.specs.Changes.{barring}
use Rattle.state_array.specs.Kin.{lives_in, child_in}
use Rattle.state_array.proofs.Modes.{bars_is}
use Rattle.state_array.proofs.View.{child_is, free_is}
use Rattle.rules.specs.Waiting.{WaitingRow, blocks, waits_for, is_child, row_points, points_to, row_refusals, rows_refusals}
use Rattle.store_length.specs.Lengths.{refusal_number}
use Rattle.wait_graph.specs.Pointing.{child_points, row_of, blockers_at, pointed_to, waited_on, row_in, rows_in, row_refusal, rows_refusal}

not-not : (b : Bool) → not (not b) ≡ b
not-not true = refl
not-not false = refl

free_idle : is_active free ≡ false
unfolding is_active
free_idle = refl

active_parent : (v d : ℕ) → parent_in (active v d) ≡ v
unfolding parent_in
active_parent v d = refl

or_swap : (a b c : Bool) → (a || (b || c)) ≡ (b || (a || c))
or_swap true true c = refl
or_swap true false c = refl
or_swap false b c = refl

-- a row's refusal, and then those of the rows after it
one_first : (x y z : Bool) (rest : List (ℕ × Bool))
    → cond (same (cond x 5 (cond y 23 (cond z 1 0))) 0) (refusal_number (first_of rest)) (cond x 5 (cond y 23 (cond z 1 0))) ≡ refusal_number (first_of ((5, x) ∷ (23, y) ∷ (1, z) ∷ rest))
unfolding same first_of refusal_number
one_first true y z rest = refl
one_first false true z rest = refl
one_first false false true rest = refl
one_first false false false rest = refl

module _ {f : Form} (s : StateOf f) (parent depth line held retained : List ℕ)
    (b : s.bearer ≡ bearers_of parent depth) (h : s.held ≡ modes_of (sets held)) (r : s.retained ≡ modes_of (sets retained))
    (lines : sets line ≡ (λ t u. mem u (line_of (bearers_of parent depth) t))) (hn : Nested (sets held)) (rn : Nested (sets retained)) (S : Sound f s) where
  on_line : (t u : ℕ) → mem u (line_of s.bearer t) ≡ sets line t u
  on_line t u = ap (λ (g : Bearers). mem u (line_of g t)) b ∙ ap (λ (g : Owners). g t u) (sym lines)

  blocks_is : (a : Access) (w q c : ℕ) → blocks s a w q c ≡ blockers_at (sets held) (sets retained) (sets line w) w (barring a q) c
  unfolding blocks blockers_at
  blocks_is a w q c =
      ap₂ ◌||◌ (ap (λ (x : Bool). not (same c w) && x) (ap (λ (m : ℕ → ℕ → _). bars a (m q c)) h ∙ bars_is a (sets held) hn q c))
      (ap₂ (λ (x y : Bool). not x && y) (on_line w c) (ap (λ (m : ℕ → ℕ → _). bars a (m q c)) r ∙ bars_is a (sets retained) rn q c))

  waits_is : (a : Access) (w q u : ℕ) → waits_for s a w q u ≡ waited_on (sets line) (sets held) (sets retained) a w q u
  unfolding waits_for waited_on pointed_to
  waits_is a w q u = any_same transactions _ _ (λ c k. ap₂ ◌&&◌ (blocks_is a w q c) (ap₂ (λ (x y : Bool). (not x && y) || same u c) (on_line w u) (on_line c u)))

  live_is : (t : ℕ) → live s t ≡ lives_in depth t
  unfolding live
  live_is t = ap (λ (g : Bearers). is_active (g t)) b ∙ sym (ap not (free_is parent depth t) ∙ not-not (is_active (bearers_of parent depth t)))

  -- a live child of a transaction number is a child of a live transaction
  child_live : (t u : ℕ) → t < transactions → (live s u && same (parent_in (s.bearer u)) t) ≡ true → live s t ≡ true
  unfolding live
  child_live t u l e = under_live (s.bearer u) refl (and_left (is_active (s.bearer u)) _ e) (same-eq (parent_in (s.bearer u)) t (and_right (is_active (s.bearer u)) _ e))
    where
      under_live : (x : Bearer) → s.bearer u ≡ x → is_active (s.bearer u) ≡ true → parent_in (s.bearer u) ≡ t → is_active (s.bearer t) ≡ true
      under_live free q a p = absurd (false≢true (sym (ap is_active q ∙ free_idle) ∙ a))
      under_live (active v d) q a p =
          let z : v ≡ t = sym (ap parent_in q ∙ active_parent v d) ∙ p in
          ⊎_elim (λ e. absurd (omega arith)) (λ y. subst (λ (k : ℕ). is_active (s.bearer k) ≡ true) z y) (S.parented u v d q)

  child_is_so : (t u : ℕ) → is_child s t u ≡ (under t 24 && child_in parent depth t u)
  unfolding is_child live
  child_is_so t u = go (is_cases (under t 24)) (is_cases (live s u && same (parent_in (s.bearer u)) t))
    where
      same_child : (live s u && same (parent_in (s.bearer u)) t) ≡ child_in parent depth t u
      same_child = ap (λ (g : Bearers). is_active (g u) && same (parent_in (g u)) t) b ∙ sym (child_is parent depth t u)

      go : Is (under t 24) → Is (live s u && same (parent_in (s.bearer u)) t) → (is_active (s.bearer t) && (is_active (s.bearer u) && same (parent_in (s.bearer u)) t)) ≡ (under t 24 && child_in parent depth t u)
      go (yes' e) (yes' q) = ap₂ ◌&&◌ (child_live t u (under-lt t 24 e) q ∙ sym e) same_child
      go (yes' e) (no' q) = ap (λ (x : Bool). is_active (s.bearer t) && x) q ∙ and-false (is_active (s.bearer t)) ∙ sym (ap (λ (x : Bool). under t 24 && x) (sym same_child ∙ q) ∙ and-false (under t 24))
      go (no' e) x = ap (λ (y : Bool). y && (is_active (s.bearer u) && same (parent_in (s.bearer u)) t)) (refute (is_active (s.bearer t)) (λ a. clash (lt-under t 24 (S.numbered t a)) e)) ∙ ap (λ (y : Bool). y && child_in parent depth t u) (sym e)

  row_is : (w : WaitingRow) (t u : ℕ) → row_points s w t u ≡ row_in (sets line) (sets held) (sets retained) w t u
  unfolding row_points row_in
  row_is w t u = ap (λ (x : Bool). same t w.transaction && x) (waits_is (access_of w.mode) w.transaction w.rec u)

  -- who points to whom: the rows from i on
  points_from : (words : List ℕ) (t u n i : ℕ) → i + n ≤ length words
      → (is_child s t u || any n (λ k. row_in (sets line) (sets held) (sets retained) (row_of (get_or words (i + k) 0)) t u)) ≡ points_to s (map row_of (take n (drop i words))) t u
  unfolding points_to any
  points_from words t u zero i k = or-false (is_child s t u)
  points_from words t u (suc n) i k =
      let next : any n (λ j. row_in (sets line) (sets held) (sets retained) (row_of (get_or words (i + suc j) 0)) t u) ≡ any n (λ j. row_in (sets line) (sets held) (sets retained) (row_of (get_or words (suc i + j) 0)) t u) =
      any_same n _ _ (λ j l. let e : i + suc j ≡ suc i + j = omega arith in ap (λ (m : ℕ). row_in (sets line) (sets held) (sets retained) (row_of (get_or words m 0)) t u) e) in
      ap (λ (b : Bool). is_child s t u || b) (any_first n (λ j. row_in (sets line) (sets held) (sets retained) (row_of (get_or words (i + j) 0)) t u))
      ∙ or_swap (is_child s t u) (row_in (sets line) (sets held) (sets retained) (row_of (get_or words (i + 0) 0)) t u) _
      ∙ ap₂ ◌||◌ (ap (λ (m : ℕ). row_in (sets line) (sets held) (sets retained) (row_of (get_or words m 0)) t u) (add-zero i) ∙ sym (row_is (row_of (get_or words i 0)) t u))
      (ap (λ (b : Bool). is_child s t u || b) next ∙ points_from words t u n (suc i) (omega arith))
      ∙ ap (λ (l : List ℕ). points_to s (map row_of (take (suc n) l)) t u) (sym (drop-cons words i 0 (omega arith)))

  pub points_are : (words : List ℕ) (n : ℕ) → n ≤ length words
      → rows_in (child_points parent depth) (sets line) (sets held) (sets retained) words n ≡ points_to s (map row_of (take n words))
  unfolding rows_in
  points_are words n k = fun_ext (λ t. fun_ext (λ u. ap (λ (b : Bool). b || any n (λ i. row_in (sets line) (sets held) (sets retained) (row_of (get_or words i 0)) t u)) (sym (child_is_so t u))
      ∙ ap (λ (b : Bool). is_child s t u || b) (any_same n _ _ (λ j l. let e : j ≡ 0 + j = omega arith in ap (λ (m : ℕ). row_in (sets line) (sets held) (sets retained) (row_of (get_or words m 0)) t u) e))
      ∙ points_from words t u n 0 (omega arith)))

  -- rows are refused as they should be
  numbers_from : (sixteen : records f.geometry ≡ 16) (words : List ℕ) (n i : ℕ) → i + n ≤ length words → rows_refusal (lives_in depth) words i n ≡ refusal_number (first_of (rows_refusals f s (map row_of (take n (drop i words)))))
  unfolding rows_refusal row_refusal rows_refusals row_refusals first_of refusal_number
  numbers_from sixteen words zero i k = refl
  numbers_from sixteen words (suc n) i k =
      let w = row_of (get_or words i 0) in
      ap (λ (m : ℕ). cond (same (row_refusal (lives_in depth) w) 0) m (row_refusal (lives_in depth) w)) (numbers_from sixteen words n (suc i) (omega arith))
      ∙ one_first (not (lives_in depth w.transaction)) (not (under w.rec 16)) (under 1 w.mode) (rows_refusals f s (map row_of (take n (drop (suc i) words))))
      ∙ ap₂ (λ (b : Bool) (m : ℕ). refusal_number (first_of ((5, not b) ∷ (23, not (under w.rec m)) ∷ (1, under 1 w.mode) ∷ rows_refusals f s (map row_of (take n (drop (suc i) words)))))) (sym (live_is w.transaction)) (sym sixteen)
      ∙ ap (λ (l : List ℕ). refusal_number (first_of (rows_refusals f s (map row_of (take (suc n) l))))) (sym (drop-cons words i 0 (omega arith)))

  pub numbers_are : records f.geometry ≡ 16 → (words : List ℕ) (n : ℕ) → n ≤ length words → rows_refusal (lives_in depth) words 0 n ≡ refusal_number (first_of (rows_refusals f s (map row_of (take n words))))
  numbers_are sixteen words n k = numbers_from sixteen words n 0 (omega arith)

  -- only transactions are pointed to
  line_small : (t u : ℕ) → sets line t u ≡ true → u < transactions
  unfolding live
  line_small t u e = S.numbered u (line_of_member (locks.rooted_of S) t u (on_line t u ∙ e))

  waited_small : (a : Access) (w q u : ℕ) → waited_on (sets line) (sets held) (sets retained) a w q u ≡ true → u < transactions
  unfolding waited_on pointed_to
  waited_small a w q u e =
      let c = some_of transactions _ e in
      or_cases (not (sets line w u) && sets line c.at u) (same u c.at) (and_right (blockers_at (sets held) (sets retained) (sets line w) w (barring a q) c.at) _ c.is_so)
      (λ k. line_small c.at u (and_right (not (sets line w u)) _ k)) (λ k. subst (λ (x : ℕ). x < transactions) (sym (same-eq u c.at k)) c.low)

  pub points_small : (words : List ℕ) (n t u : ℕ) → rows_in (child_points parent depth) (sets line) (sets held) (sets retained) words n t u ≡ true → u < transactions
  unfolding rows_in row_in
  points_small words n t u e = or_cases (under t 24 && child_in parent depth t u) _ e
      (λ k. S.numbered u (live_is u ∙ and_left (lives_in depth u) _ (and_right (under t 24) _ k)))
      (λ k. let i = some_of n _ k in waited_small (access_of (row_of (get_or words i.at 0)).mode) (row_of (get_or words i.at 0)).transaction (row_of (get_or words i.at 0)).rec u (and_right (same t (row_of (get_or words i.at 0)).transaction) _ i.is_so))
