-- The refusals before the first event, by the lengths of the buffers, for n records and event words of s bytes, and for atomic pages or pages that tear.
use Rattle.std.specs.Prelude.{Bool, true, false, not, ◌||◌, [], ◌∷◌, ℕ, ◌+◌, ◌*◌, ◌/◌, ◌%◌, Ok, Err}
use Rattle.std.specs.declared.result.Result.{Result}
use Rattle.std.proofs.Math.Option.{Option, none, some}
use Rattle.laws.specs.Tests.{same, under}
use Rattle.rules.specs.Geometry.{longest}
use Rattle.rules.specs.Step.{first_of}
use Rattle.store_write.specs.Phase.{stride_of}
use Rattle.store_length.specs.declared.WrongLength.{WrongLength}
use Rattle.store_length.specs.declared.WrongLength.TheVariants.{Events, Answers, Store, Work}

-- the bytes of a store with n records, and of its working buffer
abbrev pub store_bytes : Bool → ℕ → ℕ
store_bytes tears n = stride_of tears * (1 + (n + n))

abbrev pub work_bytes_for : ℕ → ℕ
work_bytes_for n = 512 * n

-- the refusals by the lengths of store and working buffer, which a run and a question have in common
unfoldable pub buffers_refused : Bool → ℕ → ℕ → ℕ → Option ℕ
buffers_refused tears n store work =
    first_of (
    (22, not (same store (store_bytes tears n))) ∷
    (24, not (same work (work_bytes_for n))) ∷
    [])

-- the refusals before the first event, by the lengths of store, events, working buffer and answer buffer
unfoldable pub lengths_refused : Bool → ℕ → ℕ → ℕ → ℕ → ℕ → ℕ → Option ℕ
lengths_refused tears n s store events work answers =
    first_of (
    (22, not (same store (store_bytes tears n))) ∷
    (24, not (same work (work_bytes_for n))) ∷
    (20, not (same (events % s) 0) || under (longest * s) events) ∷
    (21, under answers (2 * (events / s))) ∷
    [])

-- the bytes of a page write, and of a copy write where pages tear
abbrev pub write_bytes : Bool → ℕ
write_bytes false = 33
write_bytes true = 34

-- the refusals of a question for a write, by the lengths of store, event, working buffer and the buffer for the write
unfoldable pub question_refused : Bool → ℕ → ℕ → ℕ → ℕ → ℕ → ℕ → Option ℕ
question_refused tears n s store event work write =
    first_of (
    (22, not (same store (store_bytes tears n))) ∷
    (24, not (same work (work_bytes_for n))) ∷
    (20, not (same event s)) ∷
    (21, not (same write (write_bytes tears))) ∷
    [])

-- the numbers of the refusals; the code's answer as they have it
abbrev pub length_number : WrongLength → ℕ
length_number Events = 20
length_number Answers = 21
length_number Store = 22
length_number Work = 24

unfoldable pub length_told : Result (Unit {0}) WrongLength → Option ℕ
length_told (Ok u) = none
length_told (Err r) = some (length_number r)

-- 0 where nothing is refused
unfoldable pub refusal_number : Option ℕ → ℕ
refusal_number none = 0
refusal_number (some n) = n
