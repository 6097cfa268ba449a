-- One blocker more is reached.
use mathlib.Core.Path.{◌≡◌, sym, ◌∙◌, ap, ap₂, fun_ext}
use mathlib.Core.Bool.{Bool, true, false, not, cond, ◌&&◌, ◌||◌, or-false}
use mathlib.Core.List.{List}
use mathlib.Core.Logic.{◌≢◌}
use Prim.Native.Nat.{ℕ, suc, ◌+◌, ◌-◌, ◌<◌, ◌≤◌}
use native.Mathlib.Numerals.{add-one}
use native.Mathlib.Omega.{arith}
use lib.ListN.{length, get_or, set, get_or-eq_default}
use lib.Bits.{bit_or}
use Rattle.laws.specs.Tests.{same, under}
use Rattle.laws.specs.Functions.{updated}
use Rattle.laws.specs.Counting.{any}
use Rattle.laws.specs.Bits.{bits}
use Rattle.laws.proofs.Any.{or_assoc, any_next}
use Rattle.laws.proofs.Bits.{bits-zero, bits-or}
use Rattle.laws.proofs.Tests.{Same, is, isnt, same_cases, Is, is_cases, yes', no', under-lt, not-under, lt-under, same_refl, ne_false}
use Rattle.leaf_set.specs.Sets.{sets}
use Rattle.leaf_set.proofs.Sets.{sets-set}
use Rattle.state_array.specs.Kin.{lives_in, child_in}
use Rattle.state_array.specs.View.{Owners}
use Rattle.state_array.specs.Changes.{Rows}
use Rattle.rules.specs.Waiting.{WaitingRow}
use Rattle.wait_graph.specs.Pointing.{child_points, row_of, row_refusal, rows_refusal, pointed_to, row_in, rows_in, number_of_refusal}
use Rattle.wait_graph.specs.declared.RowRefusal.{RowRefusal}
use Rattle.wait_graph.specs.declared.RowRefusal.TheVariants.{BadMode, NotLive, NoRecord}

-- what the first j that block reach
abbrev pub reached_to : ℕ → Owners → (ℕ → Bool) → (ℕ → Bool) → ℕ → Bool
reached_to j line above by u = any j (λ b. by b && ((not (above u) && line b u) || same u b))

pub reached-none : (line : Owners) (above by : ℕ → Bool) → bits 0 ≡ reached_to 0 line above by
unfolding any
reached-none line above by = fun_ext (λ u. bits-zero u)

pub reached_more : (j : ℕ) (line : Owners) (above by : ℕ → Bool) (m m' : ℕ) (b : Bool) (w : ℕ → Bool) → bits m ≡ reached_to j line above by → b ≡ by j → w ≡ line j
    → bits m' ≡ (λ u. bits m u || (b && ((not (above u) && w u) || same u j))) → bits m' ≡ reached_to (j + 1) line above by
reached_more j line above by m m' b w e f g h = h ∙ fun_ext (λ u. ap₂ (λ (x y : Bool). x || y) (ap (λ (s : ℕ → Bool). s u) e) (ap₂ (λ (x : Bool) (s : ℕ → Bool). x && ((not (above u) && s u) || same u j)) f g) ∙ sym (any_next j (λ b. by b && ((not (above u) && line b u) || same u b))))

pub reached-all : (line : Owners) (above by : ℕ → Bool) (m j : ℕ) → j ≡ 24 → bits m ≡ reached_to j line above by → bits m ≡ pointed_to line above by
unfolding pointed_to
reached-all line above by m j e q = q ∙ ap (λ (n : ℕ). reached_to n line above by) e

-- one row more at one transaction
pub point_is : (l : List ℕ) (t m : ℕ) (f : ℕ → Bool) → t < length l → bits m ≡ f → sets (set l t (bit_or (get_or l t 0) m)) ≡ (λ q u. sets l q u || (same q t && f u))
unfolding sets updated
point_is l t m f h e = sets-set l t (bit_or (get_or l t 0) m) h ∙ fun_ext (λ q. fun_ext (λ u. go q u (same_cases q t)))
  where
    go : (q u : ℕ) → Same q t → cond (same q t) (bits (bit_or (get_or l t 0) m)) (bits (get_or l q 0)) u ≡ (bits (get_or l q 0) u || (same q t && f u))
    go q u (is p s _) = rw (s, p) (bits-or (get_or l t 0) m u ∙ ap (λ (g : ℕ → Bool). bits (get_or l t 0) u || g u) e)
    go q u (isnt p s _) = rw s (sym (or-false (bits (get_or l q 0) u)))

-- the sets of children, of the transactions alone
pub children_are : (points children parent depth : List ℕ) → length points ≡ 24 → ((k : ℕ) → k < 24 → get_or points k 0 ≡ get_or children k 0) → ((p : ℕ) → p < 32 → sets children p ≡ child_in parent depth p)
    → sets points ≡ child_points parent depth
unfolding sets
children_are points children parent depth n f h = fun_ext (λ t. fun_ext (λ u. go t u (is_cases (under t 24))))
  where
    go : (t u : ℕ) → Is (under t 24) → bits (get_or points t 0) u ≡ (under t 24 && child_in parent depth t u)
    go t u (yes' e) = let l = under-lt t 24 e in ap (λ (w : ℕ). bits w u) (f t l) ∙ ap (λ (g : ℕ → Bool). g u) (h t (omega arith)) ∙ ap (λ (b : Bool). b && child_in parent depth t u) (sym e)
    go t u (no' e) = ap (λ (w : ℕ). bits w u) (get_or-eq_default points 0 (omega (arith, not-under t 24 e))) ∙ bits-zero u ∙ ap (λ (b : Bool). b && child_in parent depth t u) (sym e)

-- rows, one by one
pub rows_none : (first line held retained : Owners) (words : List ℕ) → rows_in first line held retained words 0 ≡ first
unfolding rows_in any
rows_none first line held retained words = fun_ext (λ t. fun_ext (λ u. or-false (first t u)))

pub rows_more : (first line held retained : Owners) (words : List ℕ) (n : ℕ) (f : Owners) → f ≡ rows_in first line held retained words n
    → (λ t u. f t u || row_in line held retained (row_of (get_or words n 0)) t u) ≡ rows_in first line held retained words (n + 1)
unfolding rows_in
rows_more first line held retained words n f e = fun_ext (λ t. fun_ext (λ u.
    ap (λ (g : Owners). g t u || row_in line held retained (row_of (get_or words n 0)) t u) e ∙ or_assoc (first t u) (any n (λ i. row_in line held retained (row_of (get_or words i 0)) t u)) (row_in line held retained (row_of (get_or words n 0)) t u)
    ∙ ap (λ (b : Bool). first t u || b) (sym (any_next n (λ i. row_in line held retained (row_of (get_or words i 0)) t u)))))

pub rows_as : {n : ℕ} {f g : Owners} {l : List ℕ} → Rows n f l → f ≡ g → Rows n g l
rows_as r e = record { are = r.are ∙ e; long = r.long }

not-lt : (a b : ℕ) → b ≤ a → under a b ≡ false
not-lt a b h = go (is_cases (under a b))
  where
    go : Is (under a b) → under a b ≡ false
    go (yes' e) = let z = under-lt a b e in absurd (omega arith)
    go (no' e) = e

pub dead_past : (depth : List ℕ) (t : ℕ) → length depth ≤ t → lives_in depth t ≡ false
dead_past depth t h = ap (λ (x : ℕ). not (same x 0)) (get_or-eq_default depth 0 h) ∙ ap not (same_refl 0)

pub dead_zero : (depth : List ℕ) (t : ℕ) → get_or depth t 0 ≡ 0 → lives_in depth t ≡ false
dead_zero depth t e = ap (λ (x : ℕ). not (same x 0)) e ∙ ap not (same_refl 0)

pub lives_more : (depth : List ℕ) (t : ℕ) → get_or depth t 0 ≢ 0 → lives_in depth t ≡ true
lives_more depth t n = ap not (ne_false (get_or depth t 0) 0 n)

-- a row's refusal, by the tests
module _ (lives : ℕ → Bool) (w : WaitingRow) where
  pub number_dead : lives w.transaction ≡ false → row_refusal lives w ≡ 5
  unfolding row_refusal
  number_dead e = rw e

  pub number_record : lives w.transaction ≡ true → 16 ≤ w.rec → row_refusal lives w ≡ 23
  unfolding row_refusal
  number_record e h = simp (e, not-lt w.rec 16 h)

  pub number_mode : lives w.transaction ≡ true → w.rec < 16 → 1 < w.mode → row_refusal lives w ≡ 1
  unfolding row_refusal
  number_mode e h k = simp (e, lt-under w.rec 16 h, lt-under 1 w.mode k)

  pub number_fine : lives w.transaction ≡ true → w.rec < 16 → w.mode ≤ 1 → row_refusal lives w ≡ 0
  unfolding row_refusal
  number_fine e h k = simp (e, lt-under w.rec 16 h, not-lt 1 w.mode k)

-- rows that are fine so far
pub numbers_next : (lives : ℕ → Bool) (words : List ℕ) (i n : ℕ) → i < n → row_refusal lives (row_of (get_or words i 0)) ≡ 0 → rows_refusal lives words i (n - i) ≡ rows_refusal lives words (i + 1) (n - (i + 1))
unfolding rows_refusal
numbers_next lives words i n h e =
    let a : n - i ≡ suc (n - (i + 1)) = omega arith in
    ap (rows_refusal lives words i) a ∙ ap (λ (x : ℕ). cond (same x 0) (rows_refusal lives words (suc i) (n - (i + 1))) x) e ∙ ap (λ (b : Bool). cond b (rows_refusal lives words (suc i) (n - (i + 1))) 0) (same_refl 0) ∙ ap (λ (j : ℕ). rows_refusal lives words j (n - (i + 1))) (sym (add-one i))

pub numbers_stop : (lives : ℕ → Bool) (words : List ℕ) (i n m : ℕ) → i < n → row_refusal lives (row_of (get_or words i 0)) ≡ m → m ≢ 0 → rows_refusal lives words i (n - i) ≡ m
unfolding rows_refusal
numbers_stop lives words i n m h e k =
    let a : n - i ≡ suc (n - (i + 1)) = omega arith in
    ap (rows_refusal lives words i) a ∙ ap (λ (x : ℕ). cond (same x 0) (rows_refusal lives words (suc i) (n - (i + 1))) x) e ∙ ap (λ (b : Bool). cond b (rows_refusal lives words (suc i) (n - (i + 1))) m) (ne_false m 0 k)

pub numbers_end : (lives : ℕ → Bool) (words : List ℕ) (i n : ℕ) → n ≤ i → rows_refusal lives words i (n - i) ≡ 0
unfolding rows_refusal
numbers_end lives words i n h = let a : n - i ≡ 0 = omega arith in ap (rows_refusal lives words i) a

-- no refusal has the number 0
pub number_some : (r : RowRefusal) → number_of_refusal r ≢ 0
unfolding number_of_refusal
number_some BadMode e = absurd (omega arith)
number_some NotLive e = absurd (omega arith)
number_some NoRecord e = absurd (omega arith)
