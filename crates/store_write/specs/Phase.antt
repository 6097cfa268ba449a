-- Page writes in phases, each with what the phases before it left of the cut, on atomic pages and on pages that can tear. `tears` tells the two apart: all that
-- follows is said for both at once.
use Rattle.std.specs.Prelude.{◌≡◌, Bool, true, false, cond, List, ℕ, ◌+◌, ◌-◌, ◌*◌, ◌/◌, ◌%◌, length, take}
use Rattle.laws.specs.Tests.{under}
use Rattle.laws.specs.Counting.{any}
use Rattle.rules.specs.Store.{Pages, pages_of}
use Rattle.rules.specs.Commit.{PageWrite, applied, Cut, cut_at}
use Rattle.rules.specs.Pairs.{Pairs, shown, all_bad, mended, counted, pairs_of, cut_pairs}

-- a store, and the one that some bytes spell; the bytes that a page takes there
abbrev pub StoreOf : Bool → Type 0
StoreOf false = Pages
StoreOf true = Pairs

abbrev pub store_of : (tears : Bool) → List ℕ → StoreOf tears
store_of false bytes = pages_of bytes
store_of true bytes = pairs_of bytes

abbrev pub stride_of : Bool → ℕ
stride_of false = 32
stride_of true = 66

-- the byte at which a page begins, where its pair is good and alike: in the first copy, behind the status
abbrev pub place_of : Bool → ℕ → ℕ
place_of false n = 32 * n
place_of true n = 66 * n + 1

-- the pages that a store shows; whether any of the first n shows nothing, its copies being all bad; the store mended
abbrev pub shown_in : (tears : Bool) → StoreOf tears → Pages
shown_in false s = s
shown_in true s = shown s

abbrev pub lost_in : (tears : Bool) → ℕ → StoreOf tears → Bool
lost_in false n s = false
lost_in true n s = any n (λ p. all_bad (s p))

abbrev pub mended_in : (tears : Bool) → StoreOf tears → StoreOf tears
mended_in false s = s
mended_in true s = mended s

-- page writes, cut at k; the store that they leave
abbrev pub cut_on : (tears : Bool) → ℕ → List PageWrite → StoreOf tears → Cut (StoreOf tears)
cut_on false k ws s = cut_at k ws s
cut_on true k ws s = cut_pairs k ws s

abbrev pub left_by : (tears : Bool) → ℕ → List PageWrite → StoreOf tears → StoreOf tears
left_by false k ws s = applied (take k ws) s
left_by true k ws s = (cut_pairs k ws s).store

-- what one whole page write takes of a cut, and what some take: a cut of pages that can tear is told in quarters of a page write
abbrev pub write_share : Bool → ℕ
write_share false = 1
write_share true = 4

abbrev pub cut_used : Bool → ℕ → ℕ
cut_used false n = n
cut_used true n = 4 * n

-- Of these page writes those happen that the cut allows: the store after them, and what they leave of the cut.
pub record WritesPhase (tears : Bool) (k : ℕ) (ws : List PageWrite) (before after : StoreOf tears) (left : ℕ) : Type 0 where
  pub store : after ≡ left_by tears k ws before
  pub count : left ≡ k - cut_used tears (length ws)

-- How many page writes were made, by the cut, by what all but the last of them left of it, and by what all left. Where less than a whole write was left for the
-- last one a crash came: so many were made as the cut tells, with a torn one that counts.
abbrev pub made_of : Bool → ℕ → ℕ → ℕ → ℕ
made_of false k last left = k - left
made_of true k last left = cond (under last 4) (k / 4 + counted (k % 4)) ((k - left) / 4)

-- a store, a count of page writes and whether a crash came are what the rules say
pub record PageWritesDone {S : Type 0} (c : Cut S) (after : S) (n : ℕ) (down : Bool) : Type 0 where
  pub store : after ≡ c.store
  pub made : n ≡ c.made
  pub crashed : down ≡ c.crashed
