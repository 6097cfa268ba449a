-- What is made of a text: a list over the output, or the place of its fault.
use Rattle.std.specs.Prelude.{◌≡◌, List, ◌++◌, ℕ, ◌≤◌, ◌<◌, length, drop}
use Rattle.sheet_text.specs.Sheet.{Sheet, sheet_list, Taken, Fault}

-- a list over the first bytes of another, whose rest stays
unfoldable pub over : List ℕ → List ℕ → List ℕ
over a l = a ++ drop (length a) l

-- Of a text s, an output l and a number told t: the answer r, and the output and the number told afterwards. The three exclude each other, and what is
-- said of every taken sheet with this text is said of one (`one_list`).
pub data Made (s l : List ℕ) (t r : ℕ) (l' : List ℕ) (t' : ℕ) : Type 0 where
  -- the output is too small
  small : length l < 16384 → r ≡ 28 → l' ≡ l → t' ≡ t → Made s l t r l' t'
  -- no taken sheet: the place is told
  wrong : 16384 ≤ length l → Fault s t' → r ≡ 29 → l' ≡ l → Made s l t r l' t'
  -- a taken sheet: its list, and the list's length in bytes
  listed : 16384 ≤ length l → (h : Sheet) → Taken s h → r ≡ 0 → ((k : Sheet) → Taken s k → (l' ≡ over (sheet_list k) l) × (t' ≡ length (sheet_list k))) → Made s l t r l' t'
