-- MENDING AS COPY WRITES. The rules mend all pairs at once, "neither cut nor counted" (document 02, L5). A medium mends pair by pair: what it may have come to when the power
-- goes between two of these copy writes or within one, any number of times, and in any order of the pairs.
use Rattle.std.specs.Prelude.{ℕ, ◌≡◌, false, cond}
use Rattle.rules.specs.Pairs.{Pair, Pairs, is_good, all_bad}
use Rattle.claim_device.specs.CopyWrites.{CopyWrite, first, second}
use Rattle.claim_device_pairs.specs.Copies.{made, spoiled}

-- the copy write that mends a pair: of the other copy, with the page of the first good one
unfoldable pub mending : ℕ → Pair → CopyWrite
mending n c = cond (is_good c.first) (second n c.first.page) (first n c.second.page)

-- what mending of a store comes to: pairs that aren't all bad are mended one by one, and a copy that was being written may be left bad
pub data Mends (s : Pairs) : Pairs → Type 0 where
  begun : Mends s s
  mends : {t : Pairs} (n : ℕ) → Mends s t → all_bad (t n) ≡ false → Mends s (made (mending n (t n)) t)
  spoils : {t : Pairs} (n : ℕ) → Mends s t → all_bad (t n) ≡ false → Mends s (spoiled (mending n (t n)) t)
