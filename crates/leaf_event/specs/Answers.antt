-- The answer's number and value, of what was done or of a refusal.
use Rattle.std.specs.Prelude.{ℕ, Ok, Err, Result}
use Rattle.leaf_event.specs.declared.Answer.{Answer}
use Rattle.leaf_event.specs.declared.outcome.Done.{Done}
use Rattle.leaf_event.specs.declared.outcome.Done.TheVariants.{Whole, Cut}
use Rattle.leaf_event.specs.declared.outcome.Refusal.{Refusal}
use Rattle.leaf_event.specs.declared.outcome.Refusal.TheVariants.{BadEvent, Down, Up, Damaged, NotLive, TooDeep, NoneFree, Barred, NotHeld, ChildLives, OtherPrepared, ChildAtWork, NotTop}

-- each refusal's number
abbrev pub refusal_code : Refusal → ℕ
refusal_code BadEvent = 1
refusal_code Down = 2
refusal_code Up = 3
refusal_code Damaged = 4
refusal_code NotLive = 5
refusal_code TooDeep = 6
refusal_code NoneFree = 7
refusal_code Barred = 8
refusal_code NotHeld = 9
refusal_code ChildLives = 10
refusal_code OtherPrepared = 13
refusal_code ChildAtWork = 14
refusal_code NotTop = 27

-- 0 where all was done, 11 where a crash cut it off, each with its value; a refusal's number, with 0
abbrev pub told_answer : Result Done Refusal → Answer
told_answer (Ok (Whole v)) = record { number = 0; value = v }
told_answer (Ok (Cut v)) = record { number = 11; value = v }
told_answer (Err r) = record { number = refusal_code r; value = 0 }
