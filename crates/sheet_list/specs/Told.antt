-- What C is told: the answer's number, and the length of the list or the place of the fault.
use Rattle.std.specs.Prelude.{ℕ, Ok, Err}
use Rattle.std.specs.declared.result.Result.{Result}
use Rattle.sheet_list.specs.declared.Refusal.{Refusal}
use Rattle.sheet_list.specs.declared.Refusal.TheVariants.{Small, NoSheet}

abbrev pub told_number : Result ℕ Refusal → ℕ
told_number (Ok n) = 0
told_number (Err Small) = 28
told_number (Err (NoSheet b)) = 29

-- where t was there before
abbrev pub told_of : ℕ → Result ℕ Refusal → ℕ
told_of t (Ok n) = n
told_of t (Err Small) = t
told_of t (Err (NoSheet b)) = b.at
