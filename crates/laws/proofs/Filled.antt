-- A list that a loop fills in order: its first i elements are those of f. Three laws: none yet, one more, all.
use mathlib.Core.Path.{◌≡◌, sym, ◌∙◌}
use mathlib.Core.List.{List}
use Prim.Native.Nat.{ℕ, ◌+◌, ◌≤◌, ◌<◌}
use native.Mathlib.Omega.{arith}
use lib.ListN.{length, get_or, set}
use lib.Seq.{get_or-set_same, get_or-set_other, ext_get_or}
use borrow.Author.Count.{below_none, below_more}

pub record Filled {A : Type 0} (d : A) (l : List A) (i : ℕ) (f : ℕ → A) : Type 0 where
  pub below : (k : ℕ) → k < i → get_or l k d ≡ f k

pub filled_none : {A : Type 0} {d : A} {l : List A} {f : ℕ → A} → Filled d l 0 f
filled_none {d = d} {l = l} {f = f} = record { below = below_none (λ (k : ℕ). get_or l k d ≡ f k) }

pub filled_more : {A : Type 0} {d : A} {l : List A} {i : ℕ} {f : ℕ → A} → Filled d l i f → i < length l → Filled d (set l i (f i)) (i + 1) f
filled_more {d = d} {l = l} {i = i} {f = f} h room =
    record {
      below =
          below_more (λ (k : ℕ). get_or (set l i (f i)) k d ≡ f k) i
          (λ k lt. get_or-set_other l i k (f i) d (λ q. omega arith) ∙ h.below k lt)
          (get_or-set_same l i (f i) d room);
    }

pub filled_all : {A : Type 0} {d : A} {l : List A} {i : ℕ} {f : ℕ → A} (m : List A) → Filled d l i f → length l ≤ i
    → length l ≡ length m → ((k : ℕ) → k < length l → get_or m k d ≡ f k) → l ≡ m
filled_all {d = d} {l = l} m h past long is = ext_get_or d l m long (λ k lt. h.below k (omega arith) ∙ sym (is k lt))
