-- What a checked number is: the number itself, in range.
use mathlib.Core.Path.{◌≡◌, ap}
use mathlib.Core.Bool.{true, false, true≢false}
use Prim.Native.Nat.{ℕ, min, ◌<◌, ◌≤◌}
use native.Mathlib.Omega.{arith}
use Rattle.laws.specs.Tests.{under}
use Rattle.laws.proofs.Tests.{Is, is_cases, yes', no', under-lt, not-under}
use Rattle.leaf_number.specs.Named.{transaction_named, record_named, transaction_of, record_of}
use Rattle.leaf_number.specs.declared.TransactionNumber.{TransactionNumber}
use Rattle.leaf_number.specs.declared.RecordNumber.{RecordNumber}
use Rattle.std.specs.Prelude.{Some, None}
use Rattle.std.specs.declared.option.Option.{Option}

pub transaction_is : (n : ℕ) (t : TransactionNumber) → Some t ≡ transaction_named n → transaction_of t ≡ n
unfolding transaction_named transaction_of
transaction_is n t q = go (is_cases (under n 24))
  where
    go : Is (under n 24) → min t.0 23 ≡ n
    go (yes' e) =
        let k : Some t ≡ Some (record { 0 = n }) = rw e at q in
        let z : t ≡ record { 0 = n } = cc in
        let y : t.0 ≡ n = ap (λ (t : TransactionNumber). t.0) z in
        let h = under-lt n 24 e in omega arith
    go (no' e) =
        let k : Some t ≡ None = rw e at q in
        let z : true ≡ false = cc in absurd (true≢false z)

pub no_transaction : (n : ℕ) → None ≡ transaction_named n → 24 ≤ n
unfolding transaction_named
no_transaction n q = go (is_cases (under n 24))
  where
    go : Is (under n 24) → 24 ≤ n
    go (yes' e) =
        let k : ◌≡◌ {A = Option TransactionNumber} None (Some (record { 0 = n })) = rw e at q in
        let z : true ≡ false = cc in absurd (true≢false z)
    go (no' e) = not-under n 24 e

pub record_is : (count n : ℕ) (r : RecordNumber) → count ≤ 64 → Some r ≡ record_named count n → (record_of r ≡ n) × (n < count)
unfolding record_named record_of
record_is count n r small q = go (is_cases (under n count))
  where
    go : Is (under n count) → (min r.0 63 ≡ n) × (n < count)
    go (yes' e) =
        let k : Some r ≡ Some (record { 0 = n }) = rw e at q in
        let z : r ≡ record { 0 = n } = cc in
        let y : r.0 ≡ n = ap (λ (r : RecordNumber). r.0) z in
        let h = under-lt n count e in (omega arith, h)
    go (no' e) =
        let k : Some r ≡ None = rw e at q in
        let z : true ≡ false = cc in absurd (true≢false z)

pub no_record : (count n : ℕ) → None ≡ record_named count n → count ≤ n
unfolding record_named
no_record count n q = go (is_cases (under n count))
  where
    go : Is (under n count) → count ≤ n
    go (yes' e) =
        let k : ◌≡◌ {A = Option RecordNumber} None (Some (record { 0 = n })) = rw e at q in
        let z : true ≡ false = cc in absurd (true≢false z)
    go (no' e) = not-under n count e

-- a number is a place
pub transaction_small : (t : TransactionNumber) → transaction_of t < 24
unfolding transaction_of
transaction_small t = omega arith
