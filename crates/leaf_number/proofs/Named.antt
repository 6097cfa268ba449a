-- A checked number is the number that was handed in, and there is none exactly where the rules have none.
use mathlib.Core.Path.{◌≡◌, sym, ap}
use mathlib.Core.Bool.{Bool, cond}
use Prim.Native.Nat.{ℕ, ◌<◌, ◌≤◌}
use borrow.Author.Tests.{lt-ltb, le-ltb}
use Rattle.laws.specs.Tests.{under}
use Rattle.leaf_number.specs.Named.{transaction_named, record_named}
use Rattle.std.specs.Prelude.{Some, None}

-- below 24 a number is a transaction's, from 24 on it is none's
pub transaction_below : (n : ℕ) → n < 24 → Some (record { 0 = n }) ≡ transaction_named n
unfolding transaction_named under
transaction_below n h = sym (ap (λ (b : Bool). cond b (Some (record { 0 = n })) None) (lt-ltb n 24 h))

pub transaction_past : (n : ℕ) → 24 ≤ n → None ≡ transaction_named n
unfolding transaction_named under
transaction_past n h = sym (ap (λ (b : Bool). cond b (Some (record { 0 = n })) None) (le-ltb n 24 h))

pub record_below : (count n : ℕ) → n < count → Some (record { 0 = n }) ≡ record_named count n
unfolding record_named under
record_below count n h = sym (ap (λ (b : Bool). cond b (Some (record { 0 = n })) None) (lt-ltb n count h))

pub record_past : (count n : ℕ) → count ≤ n → None ≡ record_named count n
unfolding record_named under
record_past count n h = sym (ap (λ (b : Bool). cond b (Some (record { 0 = n })) None) (le-ltb n count h))
