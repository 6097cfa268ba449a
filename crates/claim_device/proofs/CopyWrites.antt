-- HOW WRITES ARE NUMBERED: a page write by its place in the plan; where pages tear, twice that is its first copy, and the next number its second.
use mathlib.Core.Path.{◌≡◌, refl, ap}
use mathlib.Core.Bool.{true, false, true≢false}
use mathlib.Core.List.{List, [], ◌∷◌, map}
use mathlib.Core.Option.{none, some}
use Prim.Native.Nat.{ℕ, zero, suc, ◌+◌, ◌*◌, ◌≤◌}
use native.Mathlib.Omega.{arith}
use Rattle.rules.specs.Store.{Page}
use Rattle.rules.specs.Commit.{PageWrite, sets}
use Rattle.claim_device.specs.Plan.{write_at}
use Rattle.claim_device.specs.Asked.{page_bytes, copy_write_bytes, spelled_in}
use Rattle.claim_device.specs.CopyWrites.{first, second, copies_of}

first_copy : (i : ℕ) (ws : List PageWrite) (n : ℕ) (p : Page) → write_at i ws ≡ some (sets n p) → write_at (2 * i) (copies_of ws) ≡ some (first n p)
unfolding write_at copies_of
first_copy i [] n p e = let z : true ≡ false = cc in absurd (true≢false z)
first_copy zero (sets m q ∷ ws) n p e = let z : m ≡ n = cc in let y : q ≡ p = cc in λ j. some (first (z j) (y j))
first_copy (suc i) (sets m q ∷ ws) n p e = let z : 2 * suc i ≡ suc (suc (2 * i)) = omega arith in rw z (first_copy i ws n p e)

second_copy : (i : ℕ) (ws : List PageWrite) (n : ℕ) (p : Page) → write_at i ws ≡ some (sets n p) → write_at (2 * i + 1) (copies_of ws) ≡ some (second n p)
unfolding write_at copies_of
second_copy i [] n p e = let z : true ≡ false = cc in absurd (true≢false z)
second_copy zero (sets m q ∷ ws) n p e = let z : m ≡ n = cc in let y : q ≡ p = cc in λ j. some (second (z j) (y j))
second_copy (suc i) (sets m q ∷ ws) n p e = let z : 2 * suc i + 1 ≡ suc (suc (2 * i + 1)) = omega arith in rw z (second_copy i ws n p e)

-- behind the last page write there is none
no_copy : (i j : ℕ) (ws : List PageWrite) → write_at i ws ≡ none → 2 * i ≤ j → write_at j (copies_of ws) ≡ none
unfolding write_at copies_of
no_copy i j [] e h = refl
no_copy zero j (w ∷ ws) e h = let z : true ≡ false = cc in absurd (true≢false z)
no_copy (suc i) zero (sets n p ∷ ws) e h = absurd (omega arith)
no_copy (suc i) (suc zero) (sets n p ∷ ws) e h = absurd (omega arith)
no_copy (suc i) (suc (suc j)) (sets n p ∷ ws) e h = no_copy i j ws e (omega arith)

-- THE WRITE WITH A NUMBER, as bytes
mapped_at : {A B : Type 0} (f : A → B) (n : ℕ) (xs : List A) (x : A) → write_at n xs ≡ some x → write_at n (map f xs) ≡ some (f x)
unfolding write_at
mapped_at f n [] x e = let z : true ≡ false = cc in absurd (true≢false z)
mapped_at f zero (y ∷ xs) x e = let z : y ≡ x = cc in ap (λ a. some (f a)) z
mapped_at f (suc n) (y ∷ xs) x e = mapped_at f n xs x e

mapped_none : {A B : Type 0} (f : A → B) (n : ℕ) (xs : List A) → write_at n xs ≡ none → write_at n (map f xs) ≡ none
unfolding write_at
mapped_none f n [] e = refl
mapped_none f zero (y ∷ xs) e = let z : true ≡ false = cc in absurd (true≢false z)
mapped_none f (suc n) (y ∷ xs) e = mapped_none f n xs e

module _ (i : ℕ) (ws : List PageWrite) where
  pub page_spelled : (n : ℕ) (p : Page) → write_at i ws ≡ some (sets n p) → write_at i (spelled_in false ws) ≡ some (n ∷ p)
  unfolding spelled_in page_bytes
  page_spelled n p e = mapped_at page_bytes i ws (sets n p) e

  pub first_spelled : (n : ℕ) (p : Page) → write_at i ws ≡ some (sets n p) → write_at (2 * i) (spelled_in true ws) ≡ some (n ∷ 0 ∷ p)
  unfolding spelled_in copy_write_bytes
  first_spelled n p e = mapped_at copy_write_bytes (2 * i) (copies_of ws) (first n p) (first_copy i ws n p e)

  pub second_spelled : (n : ℕ) (p : Page) → write_at i ws ≡ some (sets n p) → write_at (2 * i + 1) (spelled_in true ws) ≡ some (n ∷ 1 ∷ p)
  unfolding spelled_in copy_write_bytes
  second_spelled n p e = mapped_at copy_write_bytes (2 * i + 1) (copies_of ws) (second n p) (second_copy i ws n p e)

  pub pages_end : write_at i ws ≡ none → write_at i (spelled_in false ws) ≡ none
  unfolding spelled_in
  pages_end e = mapped_none page_bytes i ws e

  pub copies_end : (j : ℕ) → write_at i ws ≡ none → 2 * i ≤ j → write_at j (spelled_in true ws) ≡ none
  unfolding spelled_in
  copies_end j e h = mapped_none copy_write_bytes j (copies_of ws) (no_copy i j ws e h)
