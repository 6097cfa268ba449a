-- The judgement of an age as the rules have it.
use Rattle.rules.specs.Age.{Age, ahead, live, stale}
use Rattle.leaf_age.specs.declared.Judged.{Judged}

-- the case of the enum, with its age
unfoldable pub judged_age : Judged → Age
judged_age (Judged.Ahead m) = ahead m.0
judged_age (Judged.Live m) = live m.0
judged_age (Judged.Stale m) = stale m.0
