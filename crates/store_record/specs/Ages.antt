-- What telling the age of a record answers.
use Rattle.std.specs.Prelude.{ℕ, Bool, cond, List, ℤ, take, Ok, Err}
use Rattle.std.specs.declared.result.Result.{Result}
use Rattle.std.proofs.Math.IntN.{sub_ℕ}
use Rattle.laws.specs.Bytes.{number}
use Rattle.rules.specs.Geometry.{Geometry}
use Rattle.rules.specs.Age.{Age, ahead, live, stale, refused, judged}
use Rattle.rules.specs.Editions.{medium_of}
use Rattle.leaf_age.specs.Meaning.{judged_age}
use Rattle.leaf_age.specs.declared.Judged.{Judged}
use Rattle.store_record.specs.declared.Refusal.{Refusal}
use Rattle.store_record.specs.declared.Refusal.TheVariants.{Damaged, Length, NoSuchRecord}

-- the numbers of the refusals
abbrev pub age_refusal : Refusal → ℕ
age_refusal Damaged = 4
age_refusal Length = 22
age_refusal NoSuchRecord = 23

-- the answer as the rules have it
unfoldable pub told_as : Result Judged Refusal → Age
told_as (Ok j) = judged_age j
told_as (Err r) = refused (age_refusal r)

-- The number of each case: 0 live, 1 ahead, 2 stale, or the number of the refusal.
unfoldable pub age_number : Age → ℕ
age_number (live a) = 0
age_number (ahead a) = 1
age_number (stale a) = 2
age_number (refused n) = n

-- what stands at the age's place then: the age, or what stood there before
unfoldable pub age_left : Age → ℤ → ℤ
age_left (live a) old = a
age_left (ahead a) old = a
age_left (stale a) old = a
age_left (refused n) old = old

-- the age of record r in a store of the right size, unless the store is damaged
unfoldable pub age_in : Bool → Geometry → List ℕ → ℕ → ℕ → ℕ → Age
age_in tears g store r clock limit =
    let m = medium_of tears g in
    cond (m.damaged (m.from_bytes store)) (refused 4) (judged (sub_ℕ clock (number (take 4 (m.settled (m.from_bytes store) r)))) limit)
