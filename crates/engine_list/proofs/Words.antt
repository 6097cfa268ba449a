-- The words of each edition: how many bytes they have, and the event that one stands for.
use mathlib.Core.Path.{◌≡◌, refl, sym, ap, subst, subst⁻¹, ◌∙◌}
use mathlib.Core.Bool.{Bool, true, false, true≢false}
use mathlib.Core.List.{List}
use mathlib.Core.Logic.{◌≢◌, inl, inr}
use Prim.Native.Nat.{ℕ, ◌+◌, ◌*◌, ◌/◌, ◌<◌, ◌≤◌}
use native.Mathlib.Omega.{arith}
use lib.ListN.{take, drop}
use Rattle.laws.specs.Bytes.{number}
use Rattle.rules.specs.Geometry.{records, word_size}
use Rattle.rules.specs.Event.{decode}
use Rattle.rules.specs.Editions.{geometry_pairs, Edition, first, second, paired, geometry_of}
use Rattle.leaf_event.specs.Meaning.{meaning, InRange, InWord}
use Rattle.leaf_event.specs.declared.Event.{Event}
use Rattle.leaf_event.proofs.Meaning.{in_word1}
use Rattle.leaf_event.proofs.Words.{bytes1, bytes2}
use Rattle.engine_list.specs.Words.{WordBytes}

pub bytes_pairs : word_size geometry_pairs ≡ 4
unfolding word_size
bytes_pairs = refl

-- with sixteen records a word has four bytes
pub four_of : (edition : Edition) → records (geometry_of edition) ≡ 16 → word_size (geometry_of edition) ≡ 4
unfolding records
four_of first e = bytes1
four_of second e = absurd (omega arith)
four_of paired e = bytes_pairs

pub four : {word : ℕ} → WordBytes word → word ≢ 8 → word ≡ 4
four (inl e) n = e
four (inr e) n = absurd (n e)

-- r is what a word stands for
abbrev Tells : Edition → ℕ → Event → Type 0
Tells edition w r = (decode (geometry_of edition) w ≡ meaning r) × InWord (geometry_of edition) r

module _ (word k w : ℕ) (events : List ℕ) (r : Event) where
  abbrev at : ℕ → ℕ
  at n = number (take n (drop (n * k) events))

  told_as : (edition : Edition) (n : ℕ) → word ≡ n → w ≡ at n → Tells edition w r → Tells edition (at word) r
  told_as edition n e q t = (ap (decode (geometry_of edition)) (ap at e ∙ sym q) ∙ t.0, t.1)

  -- a word of eight bytes is edition 2's
  pub tells_wide : word ≡ 8 → w ≡ at 8 → Tells second w r → (edition : Edition) → word_size (geometry_of edition) ≡ word → Tells edition (at word) r
  tells_wide e q t first s = let b = bytes1 in absurd (omega arith)
  tells_wide e q t second s = told_as second 8 e q t
  tells_wide e q t paired s = let b = bytes_pairs in absurd (omega arith)

  -- one of four bytes where pages tear, and where they don't
  pub tells_torn : {tears : Bool} → tears ≡ true → word ≡ 4 → w ≡ at 4 → Tells paired w r
      → (edition : Edition) → word_size (geometry_of edition) ≡ word → (geometry_of edition).tears ≡ tears → Tells edition (at word) r
  tells_torn y e q t first s j = absurd (true≢false (sym y ∙ sym j))
  tells_torn y e q t second s j = absurd (true≢false (sym y ∙ sym j))
  tells_torn y e q t paired s j = told_as paired 4 e q t

  pub tells_first : {tears : Bool} → tears ≡ false → word ≡ 4 → w ≡ at 4 → (decode (geometry_of first) w ≡ meaning r) × InRange r
      → (edition : Edition) → word_size (geometry_of edition) ≡ word → (geometry_of edition).tears ≡ tears → Tells edition (at word) r
  tells_first y e q t first s j = told_as first 4 e q (t.0, in_word1 r t.1)
  tells_first y e q t second s j = let b = bytes2 in absurd (omega arith)
  tells_first y e q t paired s j = absurd (true≢false (j ∙ y))

-- event k is within the list
pub room : {word : ℕ} (n k long : ℕ) → word ≡ n → word * k + word ≤ long → n * k + n ≤ long
room n k long e h = subst (λ (m : ℕ). m * k + m ≤ long) e h

abbrev Counted : ℕ → ℕ → Type 0
Counted long word = (long / word ≤ 4096) × (word * (long / word) ≤ long)

pub counted : {word : ℕ} (long : ℕ) → WordBytes word → long ≤ 4096 * word → Counted long word
counted long (inl e) h = subst⁻¹ (Counted long) e (let l : long ≤ 16384 = omega arith in (omega arith, omega arith))
counted long (inr e) h = subst⁻¹ (Counted long) e (let l : long ≤ 32768 = omega arith in (omega arith, omega arith))

abbrev Within : ℕ → ℕ → ℕ → ℕ → Type 0
Within k n long word = word * n ≤ long → word * k + word ≤ long

pub within : {word : ℕ} (k n long : ℕ) → WordBytes word → k < n → Within k n long word
within k n long (inl e) h = subst⁻¹ (Within k n long) e (λ l. omega arith)
within k n long (inr e) h = subst⁻¹ (Within k n long) e (λ l. omega arith)
