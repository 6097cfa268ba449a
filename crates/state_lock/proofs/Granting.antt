-- The tests and the change of a grant, as sets.
use mathlib.Core.Path.{◌≡◌, ap, ap₂, ◌∙◌}
use mathlib.Core.Bool.{Bool, not, ◌&&◌, ◌||◌}
use mathlib.Core.List.{List}
use Prim.Native.Nat.{ℕ}
use lib.ListN.{length}
use Rattle.laws.specs.Tests.{same}
use Rattle.laws.specs.Counting.{all}
use Rattle.laws.specs.Bits.{bits}
use Rattle.rules.specs.Event.{Access}
use Rattle.leaf_set.specs.Sets.{sets}
use Rattle.state_array.specs.View.{Owners}
use Rattle.state_array.specs.Changes.{barring, open_to, joined_for, Rows}

pub open_is : (line : ℕ → Bool) (holds retains : Owners) (t r one : ℕ) (a b : Bool) → bits one ≡ (λ k. same k t)
    → a ≡ all 24 (λ k. not (holds r k) || bits one k) → b ≡ all 24 (λ k. not (retains r k) || line k)
    → (a && b) ≡ open_to holds retains line t r
unfolding open_to
open_is line holds retains t r one a b e f g =
    ap₂ ◌&&◌ (f ∙ ap (λ (s : ℕ → Bool). all 24 (λ k. not (holds r k) || s k)) e) g

-- The numbers of a transaction and of a record, as the code has them, are those that the checked numbers stand for: the test and the change by either are
-- the same.
pub asked : (holds retains line : Owners) (a : Access) {i n t q r k : ℕ} → i ≡ t → n ≡ t → q ≡ r → k ≡ barring a q
    → open_to holds retains (line i) n k ≡ open_to holds retains (line t) t (barring a r)
asked holds retains line a e f g h = λ j. open_to holds retains (line (e j)) (f j) ((h ∙ ap (barring a) g) j)

pub joined_as : (a : Access) (n t i r : ℕ) (before after : List ℕ) → n ≡ t → i ≡ r → Rows (length before) (joined_for a n i (sets before)) after
    → Rows (length before) (joined_for a t r (sets before)) after
joined_as a n t i r before after p q R = record { are = R.are ∙ (λ j. joined_for a (p j) (q j) (sets before)); long = R.long }
