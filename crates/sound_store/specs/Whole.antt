-- Whether the first pages of a store are whole: where they tear, in pairs that are good and alike.
use Rattle.std.specs.Prelude.{Bool, true, false, ℕ}
use Rattle.laws.specs.Counting.{all}
use Rattle.rules.specs.Pairs.{is_whole}
use Rattle.store_write.specs.Phase.{StoreOf}

abbrev pub whole_in : (tears : Bool) → ℕ → StoreOf tears → Bool
whole_in false n s = true
whole_in true n s = all n (λ p. is_whole (s p))
