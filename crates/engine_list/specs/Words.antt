-- The words of a list: how many bytes one has, and the table of used fields of those that have four.
use Rattle.std.specs.Prelude.{◌≡◌, Bool, cond, List, ◌⊎◌, ℕ}
use Rattle.leaf_event.specs.Flags.{flags, flags_pairs}

-- four, or in edition 2 eight
abbrev pub WordBytes : ℕ → Type 0
WordBytes n = (n ≡ 4) ⊎ (n ≡ 8)

abbrev pub flags_in : Bool → List ℕ
flags_in tears = cond tears flags_pairs flags
