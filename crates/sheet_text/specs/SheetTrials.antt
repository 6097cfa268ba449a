-- Rows for job sheets: texts, and what is due of each. A text stands in hexadecimal, two digits a byte, with the text itself above it.
use Rattle.std.specs.Prelude.{◌≡◌, List, [], ◌∷◌, ◌++◌, ℕ, zero, suc, length, replicate}
use Rattle.laws.specs.Bytes.{bytes}
use Rattle.sheet_text.specs.Sheet.{Sheet, events, sheet_list, Taken, Fault}

pub data SheetDue : Type 0 where
  -- a taken sheet that becomes these event words
  becomes : List ℕ → SheetDue
  -- a taken sheet with so many events
  lasts : ℕ → SheetDue
  -- none that is taken; the place of its fault
  fails : ℕ → SheetDue

pub data SheetRow : Type 0 where
  reads : List ℕ → SheetDue → SheetRow

abbrev pub spelled_words : List ℕ → List ℕ
spelled_words [] = []
spelled_words (w ∷ ws) = bytes 4 w ++ spelled_words ws

pub record Becomes (s : List ℕ) (ws : List ℕ) : Type 0 where
  pub sheet : Sheet
  pub taken : Taken s sheet
  pub list : sheet_list sheet ≡ spelled_words ws

pub record Lasts (s : List ℕ) (n : ℕ) : Type 0 where
  pub sheet : Sheet
  pub taken : Taken s sheet
  pub long : length (events sheet) ≡ n

-- the definitions say so of the text
abbrev pub Says : SheetRow → Type 0
Says (reads s (becomes ws)) = Becomes s ws
Says (reads s (lasts n)) = Lasts s n
Says (reads s (fails p)) = Fault s p

abbrev pub AllSay : List SheetRow → Type 0
AllSay [] = Unit {0}
AllSay (r ∷ rs) = Says r × AllSay rs

-- so many locks of record 0
abbrev pub lock_steps : ℕ → List ℕ
lock_steps zero = []
lock_steps (suc n) = 0x4C ∷ 0x30 ∷ lock_steps n

abbrev pub sheet_rows : List SheetRow
sheet_rows =
    -- {}  {!  {!}
    reads (bytes 2 0x7B7D) (becomes (0x1F800000 ∷ 0x50003F00 ∷ [])) ∷
    reads (bytes 2 0x7B21) (becomes (0x1F800000 ∷ 0x60000000 ∷ [])) ∷
    reads (bytes 3 0x7B217D) (fails 2) ∷
    -- {L3W302A5R302}  {{L3}!  {LFWF1FFFRF1F}
    reads (bytes 14 0x7B4C33573330324135523330327D) (becomes (0x1F800000 ∷ 0x20180000 ∷ 0x301880A5 ∷ 0x40188000 ∷ 0x50003F00 ∷ [])) ∷
    reads (bytes 6 0x7B7B4C337D21) (becomes (0x1F800000 ∷ 0x10000000 ∷ 0x20980000 ∷ 0x50803F00 ∷ 0x60000000 ∷ [])) ∷
    reads (bytes 14 0x7B4C46574631464646524631467D) (becomes (0x1F800000 ∷ 0x20780000 ∷ 0x307FC0FF ∷ 0x407FC000 ∷ 0x50003F00 ∷ [])) ∷
    -- nothing  {L  {L3  {L}  {W32  {R3F  {W300A
    reads [] (fails 0) ∷
    reads (bytes 2 0x7B4C) (fails 2) ∷
    reads (bytes 3 0x7B4C33) (fails 3) ∷
    reads (bytes 3 0x7B4C7D) (fails 2) ∷
    reads (bytes 4 0x7B573332) (fails 3) ∷
    reads (bytes 4 0x7B523346) (fails 3) ∷
    reads (bytes 6 0x7B5733303041) (fails 6) ∷
    -- {a  {l3}  {La}  {LG}  { }, with a blank
    reads (bytes 2 0x7B61) (fails 1) ∷
    reads (bytes 4 0x7B6C337D) (fails 1) ∷
    reads (bytes 4 0x7B4C617D) (fails 2) ∷
    reads (bytes 4 0x7B4C477D) (fails 2) ∷
    reads (bytes 3 0x7B207D) (fails 1) ∷
    -- L3  }  {}} and {} with a line end: a byte past the end
    reads (bytes 2 0x4C33) (fails 0) ∷
    reads (bytes 1 0x7D) (fails 0) ∷
    reads (bytes 3 0x7B7D7D) (fails 2) ∷
    reads (bytes 3 0x7B7D0A) (fails 2) ∷
    -- 16 deep, and the brace that would be the 17th; an inner transaction may be followed by another at its depth
    reads (replicate 16 0x7B ++ replicate 16 0x7D) (lasts 32) ∷
    reads (replicate 17 0x7B) (fails 16) ∷
    reads (replicate 16 0x7B ++ (0x7D ∷ 0x7B ∷ replicate 16 0x7D)) (lasts 34) ∷
    -- 4,096 events, and one lock more, bad at its letter
    reads (0x7B ∷ (lock_steps 4094 ++ (0x7D ∷ []))) (lasts 4096) ∷
    reads (0x7B ∷ (lock_steps 4095 ++ (0x7D ∷ []))) (fails 8189) ∷
    -- where one event is free a lock fits, as above; a brace doesn't, and where two are it does
    reads (0x7B ∷ (lock_steps 4093 ++ (0x7B ∷ []))) (fails 8187) ∷
    reads (0x7B ∷ (lock_steps 4092 ++ (0x7B ∷ 0x7D ∷ 0x7D ∷ []))) (lasts 4096) ∷
    []
