-- The commit page of a prepared transaction reads back as that transaction, in every proper geometry that has such pages; it is no map's commit
-- page, and no map's commit page is a prepared one.
use mathlib.Core.Path.{◌≡◌, refl, sym, ◌∙◌, ap, subst, subst⁻¹}
use mathlib.Core.Bool.{Bool, true, false, not, cond, ◌&&◌, true≢false}
use mathlib.Core.Logic.{◌≢◌}
use mathlib.Core.Option.{Option, none, some}
use Prim.Native.Nat.{ℕ, ◌+◌, ◌-◌, ◌*◌, ◌/◌, ◌%◌, ◌^◌, ◌≤◌, ◌<◌}
use native.Mathlib.Nat.{mod-lt, mod-eq_of_lt, lt_of_le_of_lt, lt_of_lt_of_le, mul_assoc, add-mul, add_assoc}
use native.Mathlib.Omega.{arith}
use lib.Arith.{digits_lt}
use lib.ListN.{length}
use lib.Pow.{low, shl_lt, shl-shr, field, mod-mod-pow, pow-add, pow_pos, pow_mono}
use Rattle.laws.specs.Tests.{same}
use Rattle.laws.specs.Counting.{count}
use Rattle.laws.specs.Bytes.{number, same_list}
use Rattle.laws.proofs.Tests.{same_refl, ne_false, Is, is_cases, yes', no'}
use Rattle.laws.proofs.Booleans.{both, not-true}
use Rattle.laws.proofs.Those.{count-le}
use Rattle.laws.proofs.Bytes.{number_bytes, bytes-length, same_list_refl, same_list_eq}
use Rattle.rules.specs.Geometry.{Geometry, Proper, page_size, records}
use Rattle.rules.specs.Store.{Page, named, behind_map, commit_page, read_commit, Prepared, prepared_page, read_prepared}
use Rattle.rules.proofs.CommitPage.{packed_map, packed_lt, packed_top, top_of, read_is}

pub prepared_page-length : (g : Geometry) (p : Prepared) → length (prepared_page g p) ≡ page_size
unfolding prepared_page
prepared_page-length g p = bytes-length page_size _

-- a choice whose tests hold
chosen : (a b c : Bool) (x : Option Prepared) → a ≡ true → b ≡ true → c ≡ true → cond (a && b && c) x none ≡ x
chosen a b c x p q r = rw (p, q, r)

-- what a prepared transaction's fields ask
pub record Sensible (g : Geometry) (p : Prepared) : Type 0 where
  pub on : g.joint ≡ true
  pub some_record : p.map ≢ 0
  pub map-fits : p.map < 2 ^ records g
  pub identity_fits : p.identity < 256

module _ (g : Geometry) (proper : Proper g) (p : Prepared) (S : Sensible g p) where
  B : ℕ
  B = 256 - (8 + records g)

  -- the bits behind the count
  C : ℕ
  C = B - g.ones_bits

  t : ℕ
  t = g.edition * 16 + 3

  ones : ℕ
  ones = count (records g) (named g p.map)

  lo : ℕ
  lo = p.identity * 2 ^ 216

  X : ℕ
  X = t * 2 ^ records g + p.map

  w : ℕ
  w = X * 2 ^ B + (ones * 2 ^ C + lo)

  room : 8 + records g + g.ones_bits ≤ 32
  room = proper.joint_fits S.on

  joined : g.ones_bits + C ≡ B
  unfolding B C
  joined = omega (arith, room)

  spare : C ≡ (C - 224) + 224
  unfolding B C
  spare = omega (arith, room)

  lo_short : lo < 2 ^ (8 + 216)
  unfolding lo
  lo_short = shl_lt 8 216 S.identity_fits

  lo_fits : lo < 2 ^ C
  lo_fits = lt_of_lt_of_le lo_short (pow_mono {i = 224} {j = C} (let e : C ≡ (C - 224) + 224 = spare in omega arith))

  ones_fit : ones < 2 ^ g.ones_bits
  unfolding ones
  ones_fit = lt_of_le_of_lt (count-le (records g) (named g p.map)) proper.ones_fit

  behind_fits : ones * 2 ^ C + lo < 2 ^ B
  behind_fits = subst (λ (n : ℕ). ones * 2 ^ C + lo < 2 ^ n) joined (subst⁻¹ (λ (n : ℕ). ones * 2 ^ C + lo < n) (pow-add 2 g.ones_bits C) (digits_lt ones_fit lo_fits))

  total : 8 + records g + B ≡ 256
  unfolding B
  total = omega (arith, proper.page_fits)

  w_fits : w < 256 ^ 32
  unfolding w X t
  w_fits = subst (λ (n : ℕ). w < 2 ^ n) total (packed_lt t (records g) B p.map (ones * 2 ^ C + lo) S.map-fits behind_fits (omega (arith, proper.edition_fits)))

  number_is : number (prepared_page g p) ≡ w
  unfolding prepared_page behind_map w X t ones lo B C
  number_is = number_bytes 32 w w_fits

  map_is : number (prepared_page g p) / 2 ^ behind_map g % 2 ^ records g ≡ p.map
  unfolding behind_map w X B
  map_is = ap (λ x. x / 2 ^ B % 2 ^ records g) number_is ∙ packed_map t (records g) B p.map (ones * 2 ^ C + lo) S.map-fits behind_fits

  -- the page's number, from its end: the identity, and what stands before the count's end
  w_split : w ≡ (X * 2 ^ g.ones_bits + ones) * 2 ^ C + lo
  unfolding w
  w_split =
      sym (add_assoc (X * 2 ^ B) (ones * 2 ^ C) lo)
      ∙ ap (λ x. x + ones * 2 ^ C + lo) (ap (λ (n : ℕ). X * 2 ^ n) (sym joined) ∙ ap (λ x. X * x) (pow-add 2 g.ones_bits C) ∙ sym (mul_assoc X (2 ^ g.ones_bits) (2 ^ C)))
      ∙ ap (λ x. x + lo) (sym (add-mul (X * 2 ^ g.ones_bits) ones (2 ^ C)))

  end_is : w % 2 ^ C ≡ lo
  end_is = ap (λ x. x % 2 ^ C) w_split ∙ low (X * 2 ^ g.ones_bits + ones) C lo_fits

  tail_is : w % 2 ^ 224 ≡ lo
  tail_is =
      sym (mod-mod-pow w (C - 224) 224)
      ∙ ap (λ (n : ℕ). w % 2 ^ n % 2 ^ 224) (sym spare)
      ∙ ap (λ x. x % 2 ^ 224) end_is
      ∙ mod-eq_of_lt lo_short

  identity_is : number (prepared_page g p) / 2 ^ 216 % 256 ≡ p.identity
  unfolding lo
  identity_is = ap (λ x. x / 2 ^ 216 % 256) number_is ∙ sym (field w 8 216) ∙ ap (λ x. x / 2 ^ 216) tail_is ∙ shl-shr p.identity 216

  top_is : number (prepared_page g p) / 2 ^ behind_map g / 2 ^ records g ≡ g.edition * 16 + 3
  unfolding behind_map w X B t
  top_is = ap (λ x. x / 2 ^ B / 2 ^ records g) number_is ∙ packed_top t (records g) B p.map (ones * 2 ^ C + lo) S.map-fits behind_fits

  pub read_prepared_page : read_prepared g (prepared_page g p) ≡ some p
  unfolding read_prepared
  read_prepared_page =
      subst⁻¹ (λ (x : Prepared). cond (g.joint && not (same x.map 0) && same_list (prepared_page g p) (prepared_page g x)) (some x) none ≡ some p)
      (λ i. record { map = map_is i; identity = identity_is i })
      (chosen g.joint (not (same p.map 0)) (same_list (prepared_page g p) (prepared_page g p)) (some p) S.on (rw (ne_false p.map 0 S.some_record)) (same_list_refl (prepared_page g p)))

  -- it is no map's commit page
  pub not_committed : (map : ℕ) → map < 2 ^ records g → prepared_page g p ≢ commit_page g map
  not_committed map h e = go (same map 0) (sym top_is ∙ ap (λ (x : Page). number x / 2 ^ behind_map g / 2 ^ records g) e ∙ top_of g proper map h)
    where
      go : (b : Bool) → g.edition * 16 + 3 ≡ g.edition * 16 + cond b 0 5 → ⊥
      go true q = omega arith
      go false q = omega arith

-- the transaction that a page would have
found : Geometry → Page → Prepared
found g page = record { map = number page / 2 ^ behind_map g % 2 ^ records g; identity = number page / 2 ^ 216 % 256 }

some_one : {a b : Prepared} → ◌≡◌ {A = Option Prepared} (some a) (some b) → a ≡ b
some_one {a} {b} e = cc

none_one : {a : Prepared} → ◌≡◌ {A = Option Prepared} none (some a) → ⊥
none_one {a} e = let z : ◌≡◌ {A = ℕ} 0 1 = cc in omega arith

-- what a page says as a prepared transaction's: it is its page
pub prepared_is : (g : Geometry) (page : Page) (p : Prepared) → read_prepared g page ≡ some p → (page ≡ prepared_page g p) × Sensible g p
unfolding read_prepared found
prepared_is g page p e = go (is_cases (g.joint && not (same (found g page).map 0) && same_list page (prepared_page g (found g page))))
  where
    go : Is (g.joint && not (same (found g page).map 0) && same_list page (prepared_page g (found g page))) → (page ≡ prepared_page g p) × Sensible g p
    go (no' k) = absurd (none_one (rw k at e))
    go (yes' k) =
        let a = both (g.joint && not (same (found g page).map 0)) (same_list page (prepared_page g (found g page))) k in
        let b = both g.joint (not (same (found g page).map 0)) a.0 in
        let q : found g page ≡ p = some_one (rw k at e) in
        subst (λ (x : Prepared). (page ≡ prepared_page g x) × Sensible g x) q (
          same_list_eq page (prepared_page g (found g page)) a.1,
          record {
            on = b.0;
            some_record = λ z. true≢false (sym (same_refl 0) ∙ sym (ap (λ n. same n 0) z) ∙ not-true _ b.1);
            map-fits = mod-lt _ (pow_pos (records g));
            identity_fits = mod-lt (number page / 2 ^ 216) (pow_pos 8);
          },
        )

-- a page that is no prepared transaction's
pub unprepared_if : (g : Geometry) (page : Page) → ((p : Prepared) → Sensible g p → page ≢ prepared_page g p) → read_prepared g page ≡ none
unprepared_if g page f = go (read_prepared g page) refl
  where
    go : (o : Option Prepared) → read_prepared g page ≡ o → o ≡ none
    go none e = refl
    go (some p) e = let r = prepared_is g page p e in absurd (f p r.1 r.0)

module _ (g : Geometry) (proper : Proper g) where
  -- no map's commit page is a prepared one
  pub not-prepared : (map : ℕ) → map < 2 ^ records g → read_prepared g (commit_page g map) ≡ none
  not-prepared map h = go (read_prepared g (commit_page g map)) refl
    where
      go : (o : Option Prepared) → read_prepared g (commit_page g map) ≡ o → o ≡ none
      go none e = refl
      go (some p) e = let r = prepared_is g (commit_page g map) p e in absurd (not_committed g proper p r.1 map h (sym r.0))

  -- a prepared transaction's page has no map in force
  pub prepared_unread : (page : Page) (p : Prepared) → read_prepared g page ≡ some p → read_commit g page ≡ none
  prepared_unread page p e = go (read_commit g page) refl
    where
      go : (o : Option ℕ) → read_commit g page ≡ o → o ≡ none
      go none q = refl
      go (some map) q =
          let r = prepared_is g page p e in
          let c = read_is g page map q in
          absurd (not_committed g proper p r.1 map c.1 (sym r.0 ∙ c.0))

  -- and where a map can be read nothing is prepared
  pub read_unprepared : (page : Page) (map : ℕ) → read_commit g page ≡ some map → read_prepared g page ≡ none
  read_unprepared page map e = let c = read_is g page map e in ap (read_prepared g) c.0 ∙ not-prepared map c.1
