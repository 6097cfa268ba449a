-- What a transaction sees of a record, in the slots of the working buffer or on the home page.
use mathlib.Core.Path.{◌≡◌, refl, ap, ◌∙◌, subst}
use mathlib.Core.Bool.{Bool, true, cond}
use mathlib.Core.List.{List}
use mathlib.Core.Logic.{◌⊎◌, inl, inr}
use mathlib.Core.Option.{none, some}
use Prim.Native.Nat.{ℕ, zero, suc, ◌<◌}
use native.Mathlib.Omega.{arith}
use lib.ListN.{get_or, set}
use Rattle.laws.specs.Functions.{updated}
use Rattle.laws.specs.Bits.{bits}
use Rattle.laws.proofs.Updated.{updated_same, updated_again}
use Rattle.rules.specs.Store.{Page, pages_of}
use Rattle.rules.specs.State.{Bearers, parent_in, depth_in, line_from, line_of}
use Rattle.rules.specs.Versions.{else, nearest}
use Rattle.leaf_set.specs.Sets.{sets}
use Rattle.state_array.specs.View.{bearers_of, slot, versions_of, seen}
use Rattle.state_array.proofs.View.{depth_is, some_is}
use Rattle.state_version.specs.Parts.{Climbed, Written}
use Rattle.state_version.specs.declared.Climb.{Climb}

module _ (parent depth writers work : List ℕ) (base : Page) (t r : ℕ) where
  abbrev b : Bearers
  b = bearers_of parent depth

  module _ (c : Climb) (C : Climbed parent depth (get_or writers r 0) t c) where
    start : seen parent depth writers work base t r
        ≡ nearest (versions_of depth writers work) base r (line_from b c.left c.at)
    unfolding seen sets
    start = C.reads (versions_of depth writers work) base r (λ j. some_is depth writers work j r)

    pub seen_home : c.left ≡ 0 → seen parent depth writers work base t r ≡ base
    unfolding nearest line_from
    seen_home e = start ∙ ap (λ (n : ℕ). nearest (versions_of depth writers work) base r (line_from b n c.at)) e

    first : (n : ℕ) → c.left ≡ suc n → bits (get_or writers r 0) c.at ≡ true → seen parent depth writers work base t r ≡ pages_of work (slot r c.left)
    unfolding versions_of sets nearest line_from else
    first n e f =
        start ∙ ap (λ (n : ℕ). nearest (versions_of depth writers work) base r (line_from b n c.at)) e
        ∙ ap (λ (x : Bool). else (cond x (some (pages_of work (slot r (get_or depth c.at 0)))) none) (nearest (versions_of depth writers work) base r (line_from b n (parent_in (b c.at))))) f
        ∙ ap (λ (d : ℕ). pages_of work (slot r d)) C.level

    pub seen_slot : 0 < c.left → seen parent depth writers work base t r ≡ pages_of work (slot r c.left)
    seen_slot h = go c.left refl C.stops
      where
        go : (n : ℕ) → c.left ≡ n → (c.left ≡ 0) ⊎ (bits (get_or writers r 0) c.at ≡ true) → seen parent depth writers work base t r ≡ pages_of work (slot r c.left)
        go n e (inl z) = absurd (omega arith)
        go zero e (inr f) = absurd (omega arith)
        go (suc n) e (inr f) = first n e f

  -- a writer sees its own version
  pub seen_own : sets writers r t ≡ true → 0 < get_or depth t 0 → seen parent depth writers work base t r ≡ pages_of work (slot r (get_or depth t 0))
  unfolding seen versions_of line_of nearest line_from else
  seen_own e h = go (get_or depth t 0) refl
    where
      go : (n : ℕ) → get_or depth t 0 ≡ n → nearest (versions_of depth writers work) base r (line_from b (depth_in (b t)) t) ≡ pages_of work (slot r (get_or depth t 0))
      go zero f = absurd (omega arith)
      go (suc n) f =
          ap (λ (n : ℕ). nearest (versions_of depth writers work) base r (line_from b n t)) (depth_is parent depth t ∙ f)
          ∙ ap (λ (x : Bool). else (cond x (some (pages_of work (slot r (get_or depth t 0)))) none) (nearest (versions_of depth writers work) base r (line_from b n (parent_in (b t))))) e

-- a byte of a version that has been made is written
pub written_byte : (n m t r o v : ℕ) (p : Page) (writers work writers' work' work'' : List ℕ) → Written n t r p writers work writers' work' → m ≡ n
    → pages_of work'' ≡ updated m (set (pages_of work' m) o v) (pages_of work') → Written n t r (set p o v) writers work writers' work''
written_byte n m t r o v p writers work writers' work' work'' W e f = record {
  has = W.has;
  page = f ∙ ap (λ (i : ℕ). updated i (set (pages_of work' i) o v) (pages_of work')) e
      ∙ ap (λ (g : ℕ → Page). updated n (set (g n) o v) g) W.page
      ∙ ap (λ (q : Page). updated n (set q o v) (updated n p (pages_of work))) (updated_same n p (pages_of work))
      ∙ updated_again n p (set p o v) (pages_of work);
  long = W.long;
}

-- the number of a record, as the code has it, is the one that the checked number stands for
pub written_as : (shown : ℕ → Page) (d : ℕ) {t i r : ℕ} {writers work writers' work' : List ℕ} → i ≡ r
    → Written (slot i d) t i (shown i) writers work writers' work' → Written (slot r d) t r (shown r) writers work writers' work'
written_as shown d {t} {i} {r} {writers} {work} {writers'} {work'} e W =
    subst (λ (r : ℕ). Written (slot r d) t r (shown r) writers work writers' work') e W
