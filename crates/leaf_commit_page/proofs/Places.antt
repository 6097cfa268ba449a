-- The bytes of a commit page, for every layout, and of a prepared transaction's; a page is read by comparing it with the commit page of what stands in
-- it.
use mathlib.Core.Path.{◌≡◌, refl, sym, ap, ap₂, subst, subst⁻¹, ◌∙◌}
use mathlib.Core.Bool.{Bool, true, false, not, cond, ◌&&◌, true≢false}
use mathlib.Core.Logic.{inl, inr, ◌≢◌}
use mathlib.Core.Option.{Option, none, some}
use mathlib.Core.List.{List, [], ◌∷◌, ◌++◌}
use Prim.Native.Nat.{ℕ, zero, suc, ◌+◌, ◌-◌, ◌*◌, ◌/◌, ◌%◌, ◌^◌, ◌≤◌, ◌<◌}
use native.Mathlib.Nat.{div-div-eq-div-mul, pow-suc, mul_comm, mul_assoc, mul-add-div, zero-add, suc-add, add-zero, zero-mul, add_comm, div-one, mul-le-mul_right, lt_of_le_of_lt}
use native.Mathlib.Omega.{arith}
use lib.Arith.{digits_div, digits_lt}
use lib.Pow.{pow-add}
use lib.Pointwise.{pointwise}
use lib.Dec.{eqb}
use native.Mathlib.Numerals.{add-one}
use lib.ListN.{length, take, drop, set, get_or, replicate}
use lib.Seq.{take_at, set_at}
use Rattle.std.specs.Prelude.{Some, None, IfSome, is_some}
use Rattle.std.specs.Option.{option_or, unwrap_or}
use Rattle.std.specs.Bool.{then_some}
use Rattle.std.specs.declared.option.Option.{Option as Answered}
use Rattle.std.specs.Int.{w64, to_be_bytes, bytes_high_first, byte_at}
use Rattle.laws.specs.Tests.{same}
use Rattle.laws.specs.Counting.{count}
use Rattle.laws.specs.Bytes.{bytes, number, number_from, same_list}
use Rattle.laws.proofs.Tests.{same_refl, ne_false, same_cases, Same, is, isnt}
use Rattle.laws.proofs.Those.{count-le}
use Rattle.laws.proofs.Bytes.{same_list_refl, same_list_eq, number_bytes, bytes-length}
use Rattle.rules.specs.Geometry.{Geometry, records}
use Rattle.rules.specs.Store.{commit_page, read_commit, map_in, is_damaged, Prepared, prepared_page, read_prepared, is_prepared, behind_map, named}
use Rattle.rules.specs.Editions.{geometry1, geometry2, geometry_pairs, Edition, first, second, paired, geometry_of}
use Rattle.rules.proofs.Editions.{proper1, proper2, proper_pairs}
use Rattle.rules.proofs.CommitPage.{read_commit_page, damaged_if}
use Rattle.rules.proofs.PreparedPage.{read_prepared_page, prepared_is, unprepared_if}
use Rattle.leaf_commit_page.specs.Heard.{commit_map, map_told, overheard, prepared_told, prepared, understood}
use Rattle.leaf_commit_page.specs.Layout.{Layout, Known, head_of, count_factor, behind_first}
use Rattle.leaf_commit_page.specs.declared.CommitMap.{CommitMap}
use Rattle.leaf_commit_page.specs.declared.PreparedMap.{PreparedMap}

pos_256 : (n : ℕ) → 0 < 256 ^ n
pos_256 zero = omega arith
pos_256 (suc n) = rw pow-suc (omega (arith, pos_256 n))

-- higher digits don't show in the last n bytes
bytes_low : (n x y : ℕ) → bytes n (x * 256 ^ n + y) ≡ bytes n y
unfolding bytes
bytes_low zero x y = refl
bytes_low (suc n) x y = ap₂ ◌∷◌ (ap (λ (k : ℕ). (k + y) / 256 ^ n % 256) e ∙ ap (λ (k : ℕ). k % 256) split ∙ digit (y / 256 ^ n)) (ap (λ (k : ℕ). bytes n (k + y)) e ∙ bytes_low n (x * 256) y)
  where
    e : x * 256 ^ suc n ≡ x * 256 * 256 ^ n
    e = ap (λ (k : ℕ). x * k) (pow-suc 256 n ∙ mul_comm (256 ^ n) 256) ∙ sym (mul_assoc x 256 (256 ^ n))

    split : (x * 256 * 256 ^ n + y) / 256 ^ n ≡ x * 256 + y / 256 ^ n
    split = ap (λ (k : ℕ). (k + y) / 256 ^ n) (mul_comm (x * 256) (256 ^ n)) ∙ mul-add-div (pos_256 n) (x * 256) y

    digit : (d : ℕ) → (x * 256 + d) % 256 ≡ d % 256
    digit d = omega arith

-- the bytes of a number of two parts are the bytes of its parts
bytes-append : (a b x y : ℕ) → y < 256 ^ b → bytes (a + b) (x * 256 ^ b + y) ≡ bytes a x ++ bytes b y
unfolding bytes
bytes-append zero b x y h = ap (λ (k : ℕ). bytes k (x * 256 ^ b + y)) (zero-add b) ∙ bytes_low b x y
bytes-append (suc a) b x y h = ap (λ (k : ℕ). bytes k (x * 256 ^ b + y)) (suc-add a b) ∙ ap₂ ◌∷◌ (ap (λ (k : ℕ). k % 256) high) (bytes-append a b x y h)
  where
    high : (x * 256 ^ b + y) / 256 ^ (a + b) ≡ x / 256 ^ a
    high =
        ap (λ (k : ℕ). (x * 256 ^ b + y) / k) (ap (λ (k : ℕ). 256 ^ k) (add_comm a b) ∙ pow-add 256 b a)
        ∙ sym (div-div-eq-div-mul (x * 256 ^ b + y) (256 ^ b) (256 ^ a))
        ∙ ap (λ (k : ℕ). k / 256 ^ a) (digits_div x h)

bytes-zero : (n : ℕ) → bytes n 0 ≡ replicate n 0
unfolding bytes
bytes-zero zero = refl
bytes-zero (suc n) = ap₂ ◌∷◌ (ap (λ (k : ℕ). k % 256) (none_of (256 ^ n) (pos_256 n))) (bytes-zero n)
  where
    none_of : (d : ℕ) → 0 < d → 0 / d ≡ 0
    none_of d h = ap (λ (k : ℕ). k / d) (sym (add-zero (0 * d) ∙ zero-mul d)) ∙ digits_div 0 h

bytes_one : (x : ℕ) → x < 256 → bytes 1 x ≡ x ∷ []
unfolding bytes
bytes_one x h = ap (λ (k : ℕ). k % 256 ∷ []) (div-one x) ∙ (let e : x % 256 ≡ x = omega arith in ap (λ (k : ℕ). k ∷ []) e)

one_up : (j : ℕ) → suc j ≡ 1 + j
one_up j = omega arith

-- a byte, and k further bytes
byte_first : (o k rest : ℕ) → o < 256 → rest < 256 ^ k → bytes (suc k) (o * 256 ^ k + rest) ≡ o ∷ bytes k rest
byte_first o k rest ho hr =
    ap (λ (j : ℕ). bytes j (o * 256 ^ k + rest)) (one_up k) ∙ bytes-append 1 k o rest hr ∙ ap (λ (l : List ℕ). l ++ bytes k rest) (bytes_one o ho)

byte_lt : (o k rest : ℕ) → o < 256 → rest < 256 ^ k → o * 256 ^ k + rest < 256 ^ suc k
byte_lt o k rest ho hr =
    subst (λ (j : ℕ). o * 256 ^ k + rest < j) (mul_comm 256 (256 ^ k) ∙ sym (pow-suc 256 k)) (digits_lt {q = o} {m = 256} {r = rest} {c = 256 ^ k} ho hr)

-- a byte, and k zeros
byte_zeros : (o k : ℕ) → o < 256 → bytes (suc k) (o * 256 ^ k) ≡ o ∷ replicate k 0
byte_zeros o k h =
    ap (bytes (suc k)) (sym (add-zero (o * 256 ^ k))) ∙ byte_first o k 0 h (pos_256 k) ∙ ap (λ (l : List ℕ). o ∷ l) (bytes-zero k)

zeros-lt : (o k : ℕ) → o < 256 → o * 256 ^ k < 256 ^ suc k
zeros-lt o k h = subst (λ (j : ℕ). j < 256 ^ suc k) (add-zero (o * 256 ^ k)) (byte_lt o k 0 h (pos_256 k))

-- a byte, m bytes, and k further bytes
digits : (h map rest m k : ℕ) → h < 256 → map < 256 ^ m → rest < 256 ^ k
    → bytes (suc m + k) ((h * 256 ^ m + map) * 256 ^ k + rest) ≡ h ∷ (bytes m map ++ bytes k rest)
digits h map rest m k hh hm hr =
    bytes-append (suc m) k (h * 256 ^ m + map) rest hr ∙ ap (λ (l : List ℕ). l ++ bytes k rest) (byte_first h m map hh hm)

-- what the two editions' numbers keep to
pub known_small : (n : ℕ) → Known n → (n ≤ 64) × (n * count_factor n < 256) × (head_of n + 5 < 256)
unfolding count_factor head_of same
known_small n (inl e) = rw e (omega arith, omega arith, omega arith)
known_small n (inr e) = rw e (omega arith, omega arith, omega arith)

state_small : (h : ℕ) (b : Bool) → h + 5 < 256 → h + cond b 0 5 < 256
state_small h true k = omega arith
state_small h false k = k

-- the commit page, byte by byte
unfoldable pub laid_out : ℕ → ℕ → ℕ → List ℕ
laid_out n map o = (head_of n + cond (same map 0) 0 5) ∷ (bytes (n / 8) map ++ (o * count_factor n ∷ replicate (30 - n / 8) 0))

pub page_bytes : (g : Geometry) (n map : ℕ) → Layout g n → Known n → map < 2 ^ n → commit_page g map ≡ laid_out n map (count (records g) (named g map))
unfolding commit_page laid_out
page_bytes g n map L K h =
    ap (bytes 32) whole
    ∙ ap (λ (j : ℕ). bytes j ((hd * 256 ^ m + map) * 256 ^ suc k + on * count_factor n * 256 ^ k)) sum
    ∙ digits hd map (on * count_factor n * 256 ^ k) m (suc k) (state_small (head_of n) (same map 0) S.2) fits (zeros-lt (on * count_factor n) k few)
    ∙ ap (λ (l : List ℕ). hd ∷ (bytes m map ++ l)) (byte_zeros (on * count_factor n) k few)
  where
    m : ℕ
    m = n / 8

    k : ℕ
    k = 30 - n / 8

    hd : ℕ
    hd = head_of n + cond (same map 0) 0 5

    on : ℕ
    on = count (records g) (named g map)

    S : (n ≤ 64) × (n * count_factor n < 256) × (head_of n + 5 < 256)
    S = known_small n K

    few : on * count_factor n < 256
    few = let c : on ≤ n = subst (λ (j : ℕ). on ≤ j) L.many (count-le (records g) (named g map)) in lt_of_le_of_lt (mul-le-mul_right (count_factor n) c) S.1

    sum : 32 ≡ suc (n / 8) + suc (30 - n / 8)
    sum = let z = S.0 in omega arith

    fits : map < 256 ^ m
    fits = subst (λ (j : ℕ). map < j) (ap (λ (j : ℕ). 2 ^ j) (sym L.many) ∙ L.map_bytes) h

    up : 31 - n / 8 ≡ suc (30 - n / 8)
    up = let z = S.0 in omega arith

    whole : ((g.edition * 16 + cond (same map 0) 0 5) * 2 ^ records g + map) * 2 ^ behind_map g + on * 2 ^ (behind_map g - g.ones_bits)
        ≡ (hd * 256 ^ m + map) * 256 ^ suc k + on * count_factor n * 256 ^ k
    whole =
        ap₂ (λ (x y : ℕ). ((g.edition * 16 + cond (same map 0) 0 5) * x + map) * y + on * 2 ^ (behind_map g - g.ones_bits)) L.map_bytes (L.behind_bytes ∙ ap (λ (j : ℕ). 256 ^ j) up)
        ∙ ap₂ (λ (x y : ℕ). ((x + cond (same map 0) 0 5) * 256 ^ m + map) * 256 ^ suc k + y) L.edition (ap (λ (x : ℕ). on * x) L.count_place ∙ sym (mul_assoc on (count_factor n) (256 ^ k)))

-- the last m of a number's eight bytes
be_bytes : (k x : ℕ) → bytes_high_first k x ≡ bytes k x
unfolding bytes
be_bytes zero x = refl
be_bytes (suc k) x = ap₂ ◌∷◌ (byte_is k) (be_bytes k x)
  where
    byte_is : (k : ℕ) → byte_at k x ≡ x / 256 ^ k % 256
    byte_is zero = ap (λ (y : ℕ). y % 256) (sym (div-one x))
    byte_is (suc k) = refl

drop_bytes : (j m x : ℕ) → drop j (bytes (j + m) x) ≡ bytes m x
unfolding bytes
drop_bytes zero m x = ap (λ (k : ℕ). bytes k x) (zero-add m)
drop_bytes (suc j) m x = ap (λ (k : ℕ). drop (suc j) (bytes k x)) (suc-add j m) ∙ drop_bytes j m x

pub last_bytes : (m x : ℕ) → m ≤ 8 → drop (8 - m) (to_be_bytes w64 x) ≡ bytes m x
last_bytes m x h =
    let e : 8 ≡ (8 - m) + m = omega arith in
    ap (drop (8 - m)) (be_bytes 8 x ∙ ap (λ (k : ℕ). bytes k x) e) ∙ drop_bytes (8 - m) m x

-- One more byte of a number, at its end.
number-take : (a i : ℕ) (l : List ℕ) → i < length l → number_from a (take (suc i) l) ≡ number_from a (take i l) * 256 + get_or l i 0
unfolding number_from
number-take a i [] h = absurd (omega arith)
number-take a zero (x ∷ l) h = refl
number-take a (suc i) (x ∷ l) h = number-take (a * 256 + x) i l (omega arith)

pub number_next : (i : ℕ) (l : List ℕ) → i < length l → number (take i l) * 256 + get_or l i 0 ≡ number (take (i + 1) l)
unfolding number
number_next i l h = sym (number-take 0 i l h) ∙ ap (λ (k : ℕ). number_from 0 (take k l)) (sym (add-one i))

-- a number of i bytes, of fewer than eight, has room for one more
pub room : (i : ℕ) → i < 8 → 256 ^ i ≤ 72057594037927936
room zero h = omega arith
room (suc zero) h = omega arith
room (suc (suc zero)) h = omega arith
room (suc (suc (suc zero))) h = omega arith
room (suc (suc (suc (suc zero)))) h = omega arith
room (suc (suc (suc (suc (suc zero))))) h = omega arith
room (suc (suc (suc (suc (suc (suc zero)))))) h = omega arith
room (suc (suc (suc (suc (suc (suc (suc zero))))))) h = omega arith
room (suc (suc (suc (suc (suc (suc (suc (suc n)))))))) h = absurd (omega arith)

pub bound_next : (map b i : ℕ) → map < 256 ^ i → b < 256 → map * 256 + b < 256 ^ (i + 1)
bound_next map b i h k = subst (λ (j : ℕ). map * 256 + b < j) (sym (pow-suc 256 i) ∙ ap (λ (j : ℕ). 256 ^ j) (sym (add-one i))) (digits_lt {q = map} {m = 256 ^ i} {r = b} {c = 256} h k)

-- a page of zeros with the map's bytes, the first byte and the count's byte
pub page_set : (n map hd x : ℕ) → n ≤ 64 → set (set (behind_first (n / 8) (bytes (n / 8) map)) 0 hd) (n / 8 + 1) x ≡ hd ∷ (bytes (n / 8) map ++ (x ∷ replicate (30 - n / 8) 0))
page_set n map hd x h =
    ap (λ (k : ℕ). set (hd ∷ (bytes (n / 8) map ++ replicate k 0)) (n / 8 + 1) x) up
    ∙ set_at (hd ∷ bytes (n / 8) map) 0 (replicate (30 - n / 8) 0) x (n / 8 + 1) (ap suc (bytes-length (n / 8) map) ∙ sym (add-one (n / 8)))
  where
    up : 31 - n / 8 ≡ suc (30 - n / 8)
    up = omega arith

pub known_power : (n : ℕ) → Known n → 256 ^ (n / 8) ≡ 2 ^ n
known_power n (inl e) = rw e refl
known_power n (inr e) = rw e refl

-- what `==` tells of two pages
pub same_pages : (xs ys : List ℕ) → pointwise eqb xs ys ≡ same_list xs ys
unfolding same_list same
same_pages [] [] = refl
same_pages [] (y ∷ ys) = refl
same_pages (x ∷ xs) [] = refl
same_pages (x ∷ xs) (y ∷ ys) = ap (λ (b : Bool). eqb x y && b) (same_pages xs ys)

module _ (g : Geometry) (n : ℕ) (L : Layout g n) (K : Known n) where
  in_records : (m : ℕ) → m < 2 ^ n → m < 2 ^ records g
  in_records m h = subst (λ (k : ℕ). m < 2 ^ k) (sym L.many) h

  in_bits : (m : ℕ) → m < 2 ^ records g → m < 2 ^ n
  in_bits m h = subst (λ (k : ℕ). m < 2 ^ k) L.many h

  pub read_good : (page : List ℕ) (m : ℕ) → m < 2 ^ n → same_list page (commit_page g m) ≡ true → read_commit g page ≡ some m
  read_good page m h e = ap (read_commit g) (same_list_eq page (commit_page g m) e) ∙ read_commit_page g L.proper m (in_records m h)

  -- the map that stands in a commit page
  map_there : (m : ℕ) → m < 2 ^ n → number (take (n / 8) (drop 1 (commit_page g m))) ≡ m
  unfolding laid_out
  map_there m h =
      ap (λ (l : List ℕ). number (take (n / 8) (drop 1 l))) (page_bytes g n m L K h)
      ∙ ap number (take_at (bytes (n / 8) m) _ (n / 8) (bytes-length (n / 8) m))
      ∙ number_bytes (n / 8) m (subst (λ (k : ℕ). m < k) (sym (known_power n K)) h)

  -- a page is the commit page of no map if it isn't that of the map that stands in it
  pub read_bad : (page : List ℕ) (m : ℕ) → m ≡ number (take (n / 8) (drop 1 page)) → same_list page (commit_page g m) ≡ false → read_commit g page ≡ none
  read_bad page m at e = damaged_if g page (λ k h q.
      let mk : k ≡ m = sym (map_there k (in_bits k h)) ∙ ap (λ (l : List ℕ). number (take (n / 8) (drop 1 l))) (sym q) ∙ sym at in
      true≢false (sym (same_list_refl page) ∙ ap (same_list page) (q ∙ ap (commit_page g) mk) ∙ e))

  -- what is read of it, by whether it is
  pub read_said : (page : List ℕ) (m : ℕ) → m ≡ number (take (n / 8) (drop 1 page)) → m < 2 ^ n → map_told (then_some (same_list page (commit_page g m)) m) ≡ commit_map (read_commit g page)
  unfolding map_told commit_map
  read_said page m at h = go (same_list page (commit_page g m)) refl
    where
      go : (b : Bool) → same_list page (commit_page g m) ≡ b → map_told (then_some b m) ≡ commit_map (read_commit g page)
      go true e = sym (ap commit_map (read_good page m h e))
      go false e = sym (ap commit_map (read_bad page m at e))

-- the count fits its byte
pub count_fits : (n o x : ℕ) → Known n → o ≤ n → x ≡ count_factor n → o * x < 256
count_fits n o x K h e = subst (λ (k : ℕ). o * k < 256) (sym e) (lt_of_le_of_lt (mul-le-mul_right (count_factor n) h) (known_small n K).1)

-- A prepared transaction's commit page, byte by byte.
pub prepared_bytes : (g : Geometry) (map i : ℕ) → Layout g 16 → map < 2 ^ 16 → i < 256
    → prepared_page g (prepared map i) ≡ 19 ∷ (bytes 2 map ++ (count (records g) (named g map) * 8 ∷ i ∷ replicate 27 0))
unfolding prepared_page head_of count_factor same
prepared_bytes g map i L h hi =
    ap (bytes 32) whole
    ∙ digits 19 map (on * 8 * 256 ^ 28 + i * 256 ^ 27) 2 29 (omega arith) h (byte_lt (on * 8) 28 (i * 256 ^ 27) few (zeros-lt i 27 hi))
    ∙ ap (λ (l : List ℕ). 19 ∷ (bytes 2 map ++ l)) (byte_first (on * 8) 28 (i * 256 ^ 27) few (zeros-lt i 27 hi) ∙ ap (λ (l : List ℕ). on * 8 ∷ l) (byte_zeros i 27 hi))
  where
    on : ℕ
    on = count (records g) (named g map)

    few : on * 8 < 256
    few = let c : on ≤ 16 = subst (λ (j : ℕ). on ≤ j) L.many (count-le (records g) (named g map)) in omega arith

    whole : ((g.edition * 16 + 3) * 2 ^ records g + map) * 2 ^ behind_map g + (on * 2 ^ (behind_map g - g.ones_bits) + i * 2 ^ 216)
        ≡ (19 * 256 ^ 2 + map) * 256 ^ 29 + (on * 8 * 256 ^ 28 + i * 256 ^ 27)
    whole =
        ap₂ (λ (x y : ℕ). ((g.edition * 16 + 3) * x + map) * y + (on * 2 ^ (behind_map g - g.ones_bits) + i * 2 ^ 216)) L.map_bytes L.behind_bytes
        ∙ ap₂ (λ (x y : ℕ). ((x + 3) * 256 ^ 2 + map) * 256 ^ 29 + (y + i * 2 ^ 216)) L.edition (ap (λ (x : ℕ). on * x) L.count_place ∙ sym (mul_assoc on 8 (256 ^ 28)))

-- a page of zeros with the map's two bytes, the first byte, the count's and the identity's
pub prepared-set : (map hd x i : ℕ) → set (set (set (behind_first 2 (bytes 2 map)) 0 hd) 3 x) 4 i ≡ hd ∷ (bytes 2 map ++ (x ∷ i ∷ replicate 27 0))
unfolding bytes
prepared-set map hd x i = refl

-- the identity is a byte
identity_small : (g : Geometry) (p : Prepared) → get_or (prepared_page g p) 4 0 < 256
unfolding prepared_page bytes
identity_small g p = small _
  where
    small : (x : ℕ) → x % 256 < 256
    small x = omega arith

module _ (g : Geometry) (L : Layout g 16) (page : List ℕ) (m i : ℕ) where
  prepared_good : g.joint ≡ true → m < 2 ^ 16 → i < 256 → same m 0 ≡ false → same_list page (prepared_page g (prepared m i)) ≡ true
      → read_prepared g page ≡ some (prepared m i)
  prepared_good on hm hi n e =
      ap (read_prepared g) (same_list_eq page (prepared_page g (prepared m i)) e)
      ∙ read_prepared_page g L.proper (prepared m i) (record {
        on = on;
        some_record = λ z. true≢false (sym (same_refl 0) ∙ sym (ap (λ (x : ℕ). same x 0) z) ∙ n);
        map-fits = subst (λ (k : ℕ). m < 2 ^ k) (sym L.many) hm;
        identity_fits = hi;
      })

  -- a page is no prepared transaction's if it isn't that of the map and the identity that stand in it, or that map is 0
  pub prepared_bad : m ≡ number (take 2 (drop 1 page)) → i ≡ get_or page 4 0 → (same_list page (prepared_page g (prepared m i)) ≡ true → m ≡ 0)
      → read_prepared g page ≡ none
  unfolding bytes
  prepared_bad at there e = unprepared_if g page (λ p S q.
      let fits : p.map < 2 ^ 16 = subst (λ (k : ℕ). p.map < 2 ^ k) L.many S.map-fits in
      let b = q ∙ prepared_bytes g p.map p.identity L fits S.identity_fits in
      let mn : p.map ≡ m = sym (number_bytes 2 p.map fits) ∙ sym (ap (λ (l : List ℕ). number (take 2 (drop 1 l))) b) ∙ sym at in
      let last : get_or page 4 0 ≡ p.identity = ap (λ (l : List ℕ). get_or l 4 0) b in
      S.some_record (mn ∙ e (ap (same_list page) (ap₂ (λ (x y : ℕ). prepared_page g (prepared x y)) (sym mn) (there ∙ last) ∙ sym q) ∙ same_list_refl page)))

  -- a page that is laid out so is a prepared transaction's exactly if the map isn't 0
  pub prepared_read : g.joint ≡ true → m ≡ number (take 2 (drop 1 page)) → i ≡ get_or page 4 0 → m < 2 ^ 16
      → same_list page (prepared_page g (prepared m i)) ≡ true → read_prepared g page ≡ cond (same m 0) none (some (prepared m i))
  prepared_read on at there hm e = go (same_cases m 0)
    where
      hi : i < 256
      hi = subst⁻¹ (λ (k : ℕ). k < 256) (there ∙ ap (λ (l : List ℕ). get_or l 4 0) (same_list_eq page (prepared_page g (prepared m i)) e)) (identity_small g (prepared m i))

      go : Same m 0 → read_prepared g page ≡ cond (same m 0) none (some (prepared m i))
      go (is z s _) = prepared_bad at there (λ q. z) ∙ sym (ap (λ (b : Bool). cond b none (some (prepared m i))) s)
      go (isnt z s _) = prepared_good on hm hi s e ∙ sym (ap (λ (b : Bool). cond b none (some (prepared m i))) s)

-- where nothing can be prepared, no page is a prepared transaction's
pub unprepared : (g : Geometry) (page : List ℕ) → g.joint ≡ false → read_prepared g page ≡ none
unprepared g page off = unprepared_if g page (λ p S q. true≢false (sym S.on ∙ off))

-- a page of any kind, from what is read of it in both ways
pub understood_is : (g : Geometry) (page : List ℕ) (o : Answered ℕ) (p : Answered PreparedMap) (q : Answered ℕ)
    → map_told o ≡ commit_map (read_commit g page) → prepared_told p ≡ overheard (read_prepared g page) → IfSome p (λ (x : PreparedMap). x.map ≢ 0)
    → is_some q ≡ is_some p → IfSome q (λ (x : ℕ). x ≡ 0) → map_told (option_or o q) ≡ understood g page
unfolding understood map_told commit_map prepared_told overheard map_in is_damaged is_prepared
understood_is g page o p q c h n s z = go o p q (read_commit g page) (read_prepared g page) refl c h n s z
  where
    go : (o : Answered ℕ) (p : Answered PreparedMap) (q : Answered ℕ) (x : Option ℕ) (y : Option Prepared) → read_prepared g page ≡ y
        → map_told o ≡ commit_map x → prepared_told p ≡ overheard y → IfSome p (λ (x : PreparedMap). x.map ≢ 0) → is_some q ≡ is_some p → IfSome q (λ (x : ℕ). x ≡ 0)
        → ◌≡◌ {A = CommitMap} (map_told (option_or o q)) (record { good = not (is_damaged x && not (is_prepared y)); map = map_in x })
    go (Some m) p q (some k) y e c h n s z = c
    go (Some m) p q none y e c h n s z = absurd (true≢false (ap (λ (r : CommitMap). r.good) c))
    go None p q (some k) y e c h n s z = absurd (true≢false (sym (ap (λ (r : CommitMap). r.good) c)))
    go None None None none none e c h n s z = refl
    go None None None none (some k) e c h n s z = absurd ((prepared_is g page k e).1.some_record (sym (ap (λ (r : PreparedMap). r.map) h)))
    go None None (Some x) none y e c h n s z = absurd (true≢false s)
    go None (Some k) (Some x) none none e c h n s z = absurd (n (ap (λ (r : PreparedMap). r.map) h))
    go None (Some k) (Some x) none (some j) e c h n s z = λ i. record { good = true; map = z i }
    go None (Some k) None none y e c h n s z = absurd (true≢false (sym s))

-- what is read of a page, by whether there is a map and by the map
pub told_good : (r : Answered ℕ) → is_some r ≡ (map_told r).good
unfolding map_told
told_good None = refl
told_good (Some m) = refl

pub told_map : (r : Answered ℕ) → unwrap_or r 0 ≡ (map_told r).map
unfolding map_told
told_map None = refl
told_map (Some m) = refl

-- and of a prepared transaction
pub told_held : (r : Answered PreparedMap) → unwrap_or r (record { map = 0; identity = 0 }) ≡ prepared_told r
unfolding prepared_told
told_held None = refl
told_held (Some p) = refl

pub told_some : (r : Answered PreparedMap) → IfSome r (λ (p : PreparedMap). p.map ≢ 0) → is_some r ≡ not (same (prepared_told r).map 0)
unfolding prepared_told
told_some None h = ap not (sym (same_refl 0))
told_some (Some p) h = ap not (sym (ne_false p.map 0 h))

-- THE LAYOUTS of the editions that there are.
pub layout1 : Layout geometry1 16
unfolding records behind_map head_of count_factor same
layout1 = record { proper = proper1; many = refl; edition = refl; map_bytes = refl; behind_bytes = refl; count_place = refl }

pub layout2 : Layout geometry2 64
unfolding records behind_map head_of count_factor same
layout2 = record { proper = proper2; many = refl; edition = refl; map_bytes = refl; behind_bytes = refl; count_place = refl }

pub layout_pairs : Layout geometry_pairs 16
unfolding records behind_map head_of count_factor same
layout_pairs = record { proper = proper_pairs; many = refl; edition = refl; map_bytes = refl; behind_bytes = refl; count_place = refl }

pub laid : (k : Edition) → Layout (geometry_of k) (records (geometry_of k))
unfolding records
laid first = layout1
laid second = layout2
laid paired = layout_pairs

-- their numbers of records are known; sixteen where transactions can be prepared
pub known_records : (k : Edition) → Known (records (geometry_of k))
unfolding records
known_records first = inl refl
known_records second = inr refl
known_records paired = inl refl

pub joint_sixteen : (k : Edition) → (geometry_of k).joint ≡ true → records (geometry_of k) ≡ 16
unfolding records
joint_sixteen first e = refl
joint_sixteen second e = absurd (true≢false (sym e))
joint_sixteen paired e = absurd (true≢false (sym e))
