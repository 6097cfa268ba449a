-- A commit page reads back as the map that it was written for, in every proper geometry; every other page is none's.
use mathlib.Core.Path.{◌≡◌, refl, sym, ◌∙◌, ap, subst, subst⁻¹}
use mathlib.Core.Bool.{Bool, true, false, cond}
use mathlib.Core.Logic.{◌≢◌}
use mathlib.Core.Option.{Option, none, some}
use Prim.Native.Nat.{ℕ, ◌+◌, ◌-◌, ◌*◌, ◌/◌, ◌%◌, ◌^◌, ◌<◌}
use native.Mathlib.Nat.{mod-lt, lt_of_le_of_lt}
use native.Mathlib.Omega.{arith}
use lib.Arith.{digits_lt}
use lib.ListN.{length}
use lib.Pow.{high, low, shl_lt, pow-add, pow_pos}
use Rattle.laws.specs.Tests.{same}
use Rattle.laws.specs.Counting.{count}
use Rattle.laws.specs.Bytes.{number, same_list}
use Rattle.laws.proofs.Tests.{Is, is_cases, yes', no'}
use Rattle.laws.proofs.Those.{count-le}
use Rattle.laws.proofs.Bytes.{number_bytes, bytes-length, same_list_refl, same_list_eq}
use Rattle.rules.specs.Geometry.{Geometry, Proper, page_size, records}
use Rattle.rules.specs.Store.{Page, named, behind_map, commit_page, read_commit}

-- a number of top bits, R bits of map and B bits behind, which fit 8 + R + B bits
module _ (t R B map behind : ℕ) (small : map < 2 ^ R) (low_fits : behind < 2 ^ B) where
  pub packed_map : ((t * 2 ^ R + map) * 2 ^ B + behind) / 2 ^ B % 2 ^ R ≡ map
  packed_map = ap (λ x. x % 2 ^ R) (high (t * 2 ^ R + map) B low_fits) ∙ low t R small

  pub packed_lt : t < 256 → (t * 2 ^ R + map) * 2 ^ B + behind < 2 ^ (8 + R + B)
  packed_lt h =
      subst⁻¹ (λ x. (t * 2 ^ R + map) * 2 ^ B + behind < x) (pow-add 2 (8 + R) B)
      (digits_lt (subst⁻¹ (λ x. t * 2 ^ R + map < x) (pow-add 2 8 R) (digits_lt h small)) low_fits)

  -- the top bits
  pub packed_top : ((t * 2 ^ R + map) * 2 ^ B + behind) / 2 ^ B / 2 ^ R ≡ t
  packed_top = ap (λ x. x / 2 ^ R) (high (t * 2 ^ R + map) B low_fits) ∙ high t R small

pub commit_page-length : (g : Geometry) (map : ℕ) → length (commit_page g map) ≡ page_size
unfolding commit_page
commit_page-length g map = bytes-length page_size _

module _ (g : Geometry) (proper : Proper g) where
  pub top_fits : (b : Bool) → g.edition * 16 + cond b 0 5 < 256
  top_fits true = omega (arith, proper.edition_fits)
  top_fits false = omega (arith, proper.edition_fits)

  -- the page of a map as a number
  module _ (map : ℕ) (h : map < 2 ^ records g) where
    B : ℕ
    B = 256 - (8 + records g)

    t : ℕ
    t = g.edition * 16 + cond (same map 0) 0 5

    ones : ℕ
    ones = count (records g) (named g map)

    behind : ℕ
    behind = ones * 2 ^ (B - g.ones_bits)

    joined : g.ones_bits + (B - g.ones_bits) ≡ B
    unfolding B
    joined = omega (arith, proper.page_fits)

    behind_fits : behind < 2 ^ B
    unfolding behind ones
    behind_fits = subst (λ n. behind < 2 ^ n) joined (shl_lt g.ones_bits (B - g.ones_bits) (lt_of_le_of_lt (count-le (records g) (named g map)) proper.ones_fit))

    total : 8 + records g + B ≡ 256
    unfolding B
    total = omega (arith, proper.page_fits)

    w : ℕ
    w = (t * 2 ^ records g + map) * 2 ^ B + behind

    w_fits : w < 256 ^ 32
    unfolding w t
    w_fits = subst (λ n. w < 2 ^ n) total (packed_lt t (records g) B map behind h behind_fits (top_fits (same map 0)))

    number_is : number (commit_page g map) ≡ w
    unfolding commit_page behind_map w t behind ones B
    number_is = number_bytes 32 w w_fits

    field_is : number (commit_page g map) / 2 ^ behind_map g % 2 ^ records g ≡ map
    unfolding behind_map w B
    field_is = ap (λ x. x / 2 ^ B % 2 ^ records g) number_is ∙ packed_map t (records g) B map behind h behind_fits

    -- edition and state
    pub top_of : number (commit_page g map) / 2 ^ behind_map g / 2 ^ records g ≡ g.edition * 16 + cond (same map 0) 0 5
    unfolding behind_map w B t
    top_of = ap (λ x. x / 2 ^ B / 2 ^ records g) number_is ∙ packed_top t (records g) B map behind h behind_fits

    pub read_commit_page : read_commit g (commit_page g map) ≡ some map
    unfolding read_commit
    read_commit_page = rw field_is (rw (same_list_refl (commit_page g map)) refl)

-- the map that a page would have
field_of : Geometry → Page → ℕ
field_of g page = number page / 2 ^ behind_map g % 2 ^ records g

some-eq : {a b : ℕ} → ◌≡◌ {A = Option ℕ} (some a) (some b) → a ≡ b
some-eq {a} {b} e = cc

none-some : {a : ℕ} → ◌≡◌ {A = Option ℕ} none (some a) → ⊥
none-some {a} e = let z : ◌≡◌ {A = ℕ} 0 1 = cc in omega arith

-- what a page says as a commit page: it is the page of the map, and the map has a bit for each record
pub read_is : (g : Geometry) (page : Page) (map : ℕ) → read_commit g page ≡ some map → (page ≡ commit_page g map) × (map < 2 ^ records g)
unfolding read_commit field_of
read_is g page map e = go (is_cases (same_list page (commit_page g (field_of g page))))
  where
    go : Is (same_list page (commit_page g (field_of g page))) → (page ≡ commit_page g map) × (map < 2 ^ records g)
    go (yes' k) =
        let q : field_of g page ≡ map = some-eq (rw k at e) in
        (same_list_eq page (commit_page g (field_of g page)) k ∙ ap (commit_page g) q, subst (λ n. n < 2 ^ records g) q (mod-lt _ (pow_pos (records g))))
    go (no' k) = absurd (none-some (rw k at e))

-- a page has no map exactly if it is no map's page
pub damaged_is : (g : Geometry) → Proper g → (page : Page) → read_commit g page ≡ none → (map : ℕ) → map < 2 ^ records g → page ≢ commit_page g map
damaged_is g proper page e map h q = none-some (sym e ∙ ap (read_commit g) q ∙ read_commit_page g proper map h)

pub damaged_if : (g : Geometry) (page : Page) → ((map : ℕ) → map < 2 ^ records g → page ≢ commit_page g map) → read_commit g page ≡ none
damaged_if g page f = go (read_commit g page) refl
  where
    go : (o : Option ℕ) → read_commit g page ≡ o → o ≡ none
    go none e = refl
    go (some map) e = let r = read_is g page map e in absurd (f map r.1 r.0)
