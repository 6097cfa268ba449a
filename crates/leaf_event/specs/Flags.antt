-- The code's table of used fields, as numbers: of each kind the bits of a word that it may have set. The proofs show that it is the rules' table.
use Rattle.std.specs.Prelude.{List, [], ◌∷◌, ℕ}

abbrev pub flags : List ℕ
flags =
    0 ∷ 0xFF800000 ∷ 0xFFF80001 ∷ 0xFFFFC0FF ∷ 0xFFFFC000 ∷ 0xFF803F00 ∷ 0xFF800001 ∷ 0xF0000000 ∷ 0xF0003F00 ∷
    0xFF803FFF ∷ 0xF0007FFF ∷ 0xF00000FF ∷ 0 ∷ 0 ∷ 0 ∷ 0 ∷ []

-- of edition 2, whose words have eight bytes, the last 28 bits zero
abbrev pub flags2 : List ℕ
flags2 =
    0 ∷ 0xFF80000000000000 ∷ 0xFFFE000010000000 ∷ 0xFFFFF00FF0000000 ∷ 0xFFFFF00000000000 ∷
    0xFF800FF000000000 ∷ 0xFF80000010000000 ∷ 0xF000000000000000 ∷ 0xF0000FF000000000 ∷ 0 ∷ 0 ∷ 0 ∷ 0 ∷ 0 ∷ 0 ∷ 0 ∷ []

-- where pages tear (document 02, L5): a commit and a recover use the two lowest bits of the value, and there are no kinds 9 to 11
abbrev pub flags_pairs : List ℕ
flags_pairs =
    0 ∷ 0xFF800000 ∷ 0xFFF80001 ∷ 0xFFFFC0FF ∷ 0xFFFFC000 ∷ 0xFF803F03 ∷ 0xFF800001 ∷ 0xF0000000 ∷ 0xF0003F03 ∷
    0 ∷ 0 ∷ 0 ∷ 0 ∷ 0 ∷ 0 ∷ 0 ∷ []
