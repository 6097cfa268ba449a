-- What a number names: a transaction or a record, or no such one.
use Rattle.std.specs.Prelude.{cond, ℕ, min, Some, None}
use Rattle.std.specs.declared.option.Option.{Option}
use Rattle.laws.specs.Tests.{under}
use Rattle.rules.specs.Geometry.{transactions}
use Rattle.leaf_number.specs.declared.TransactionNumber.{TransactionNumber}
use Rattle.leaf_number.specs.declared.RecordNumber.{RecordNumber}

unfoldable pub transaction_named : ℕ → Option TransactionNumber
transaction_named n = cond (under n transactions) (Some (record { 0 = n })) None

-- of so many records
unfoldable pub record_named : ℕ → ℕ → Option RecordNumber
record_named count n = cond (under n count) (Some (record { 0 = n })) None

-- The number itself. A value that no constructor made counts as the last.
unfoldable pub transaction_of : TransactionNumber → ℕ
transaction_of t = min t.0 23

unfoldable pub record_of : RecordNumber → ℕ
record_of r = min r.0 63
