-- A path grows by one; the part of a path that comes back is a cycle.
use mathlib.Core.Path.{◌≡◌, refl, sym, ◌∙◌, ap, ap₂, subst, fun_ext}
use mathlib.Core.Bool.{Bool, true, false, not, ◌||◌, true≢false, false≢true, or-false}
use mathlib.Core.List.{List, [], ◌∷◌, ◌++◌}
use mathlib.Core.Logic.{dite}
use Prim.Native.Nat.{ℕ, zero, suc, ◌+◌, ◌-◌, ◌%◌, ◌<◌, ◌≤◌}
use native.Mathlib.Omega.{arith}
use native.Mathlib.Numerals.{add-one}
use native.Mathlib.Decide.{dec_lt}
use lib.ListN.{length, get_or, take, drop, set, replicate, length-drop, length-take, length-set}
use lib.Seq.{drop-cons, get_or-take, take-suc-set}
use lib.Bits.{bit_and}
use lib.Dec.{eqb}
use Rattle.std.specs.List.{position_or_len}
use Rattle.std.proofs.lemmas.List.Sums.{passes_at_first, fails_before_first}
use Rattle.laws.specs.Tests.{same, under}
use Rattle.laws.specs.Counting.{any, count, lowest}
use Rattle.laws.specs.Bits.{bits}
use Rattle.laws.proofs.Tests.{same_refl, same-eq, ne_false, Is, is_cases, yes', no', under-lt, not-under, or_false_left, or_false_right}
use Rattle.laws.proofs.Booleans.{and_left, and_right, or_cases, not-true, clash}
use Rattle.laws.proofs.Counting.{any_false, Lowest, found, missing, lowest_is}
use Rattle.laws.proofs.Bits.{bits-zero, bits-and}
use Rattle.laws.proofs.Those.{count-le, count_none}
use Rattle.laws.proofs.Any.{Some, some_of}
use Rattle.laws.proofs.Counts.{count_more, count_room}
use Rattle.laws.proofs.Lowest.{any_low}
use Rattle.leaf_set.specs.Sets.{sets}
use Rattle.rules.specs.Geometry.{transactions}
use Rattle.rules.specs.State.{mem}
use Rattle.rules.specs.Waiting.{Pointings, leads, distinct, is_cycle, Found, cyclic}
use Rattle.wait_cycle.specs.Search.{goes_on, Core, trail, Path, PathReturns}

mem_more : (l : List ℕ) (t y : ℕ) → mem y (l ++ (t ∷ [])) ≡ (mem y l || same y t)
unfolding mem
mem_more [] t y = or-false (same y t)
mem_more (x ∷ l) t y = ap (λ (b : Bool). same y x || b) (mem_more l t y) ∙ assoc (same y x) (mem y l) (same y t)
  where
    assoc : (a b c : Bool) → (a || (b || c)) ≡ ((a || b) || c)
    assoc true b c = refl
    assoc false b c = refl

same_sym : (a b : ℕ) → same a b ≡ false → same b a ≡ false
same_sym a b e = ne_false b a (λ q. true≢false (sym (same_refl a) ∙ ap (same a) (sym q) ∙ e))

distinct_more : (l : List ℕ) (t : ℕ) → distinct l ≡ true → mem t l ≡ false → distinct (l ++ (t ∷ [])) ≡ true
unfolding distinct mem
distinct_more [] t e n = refl
distinct_more (x ∷ l) t e n =
    let a : mem x l ≡ false = not-true (mem x l) (and_left (not (mem x l)) _ e) in
    let b : same x t ≡ false = same_sym t x (or_false_left (same t x) _ n) in
    let c : mem x (l ++ (t ∷ [])) ≡ false = mem_more l t x ∙ ap₂ ◌||◌ a b in
    rw (c, distinct_more l t (and_right (not (mem x l)) _ e) (or_false_right (same t x) _ n))

leads_more : (p : Pointings) (a : ℕ) (l : List ℕ) (t u : ℕ) → leads p a l t ≡ true → p t u ≡ true → leads p a (l ++ (t ∷ [])) u ≡ true
unfolding leads
leads_more p a [] t u e f = rw (e, f)
leads_more p a (x ∷ l) t u e f = rw (and_left (p a x) _ e, leads_more p x l t u (and_right (p a x) _ e) f)

trail_more : (p : Pointings) (l : List ℕ) (t u : ℕ) → trail p l t ≡ true → p t u ≡ true → trail p (l ++ (t ∷ [])) u ≡ true
unfolding trail leads
trail_more p [] t u e f = f
trail_more p (x ∷ l) t u e f = leads_more p x l t u e f

pub path_more : {p : Pointings} {l : List ℕ} {t : ℕ} (u : ℕ) → Path p l t → mem t l ≡ false → t < transactions → p t u ≡ true → Path p (l ++ (t ∷ [])) u
path_more {p} {l} {t} u P n h f = record {
  once = distinct_more l t P.once n;
  on = trail_more p l t u P.on f;
  small = λ y m. or_cases (mem y l) (same y t) (sym (mem_more l t y) ∙ m) (λ a. P.small y a) (λ a. subst (λ (x : ℕ). x < transactions) (sym (same-eq y t a)) h);
}

pub path_none : (p : Pointings) (t : ℕ) → Path p [] t
unfolding trail distinct mem
path_none p t = record { once = refl; on = refl; small = λ y m. absurd (false≢true m) }

-- what is seen grows with the path
pub seen_more : (l : List ℕ) (t seen seen' : ℕ) → bits seen ≡ (λ u. mem u l) → bits seen' ≡ (λ k. bits seen k || same k t) → bits seen' ≡ (λ u. mem u (l ++ (t ∷ [])))
seen_more l t seen seen' e f = f ∙ fun_ext (λ u. ap (λ (s : ℕ → Bool). s u || same u t) e ∙ sym (mem_more l t u))

-- the lowest of a set that has some
pub lowest_low : (p : ℕ → Bool) → any 24 p ≡ true → (lowest 32 p < 24) × (p (lowest 32 p) ≡ true)
lowest_low p e = go (lowest_is 32 p) (some_of 24 p e)
  where
    go : Lowest 32 p 0 (lowest 32 p) → Some 24 p → (lowest 32 p < 24) × (p (lowest 32 p) ≡ true)
    go (found q h k) s = (below (is_cases (under (lowest 32 p) 24)), q)
      where
        below : Is (under (lowest 32 p) 24) → lowest 32 p < 24
        below (yes' t) = under-lt (lowest 32 p) 24 t
        below (no' t) = clash s.is_so (k s.at (omega arith) (omega (arith, s.low, not-under (lowest 32 p) 24 t)))
    go (missing q k) s = clash s.is_so (k s.at (omega arith) (omega (arith, s.low)))

-- a member stands somewhere
pub record Stands (t : ℕ) (l : List ℕ) : Type 0 where
  pub at : ℕ
  pub low : at < length l
  pub is_so : get_or l at 0 ≡ t

pub stands : (t : ℕ) (l : List ℕ) → mem t l ≡ true → Stands t l
unfolding mem
stands t [] e = absurd (false≢true e)
stands t (x ∷ l) e = or_cases (same t x) (mem t l) e (λ q. record { at = 0; low = omega arith; is_so = sym (same-eq t x q) }) (λ q. let r = stands t l q in record { at = suc r.at; low = omega (arith, r.low); is_so = r.is_so })

-- the end of a path is a path
distinct-drop : (k : ℕ) (l : List ℕ) → distinct l ≡ true → distinct (drop k l) ≡ true
unfolding distinct
distinct-drop zero l e = e
distinct-drop (suc k) [] e = refl
distinct-drop (suc k) (x ∷ l) e = distinct-drop k l (and_right (not (mem x l)) _ e)

trail-drop : (p : Pointings) (k : ℕ) (l : List ℕ) (t : ℕ) → trail p l t ≡ true → trail p (drop k l) t ≡ true
unfolding trail leads
trail-drop p zero l t e = e
trail-drop p (suc k) [] t e = refl
trail-drop p (suc zero) (x ∷ []) t e = refl
trail-drop p (suc (suc k)) (x ∷ []) t e = refl
trail-drop p (suc k) (x ∷ y ∷ l) t e = trail-drop p k (y ∷ l) t (and_right (p x y) _ e)

-- and from where it comes back it is a cycle
pub closes : (p : Pointings) (l : List ℕ) (t k : ℕ) → Path p l t → k < length l → get_or l k 0 ≡ t → is_cycle p (drop k l) ≡ true
unfolding is_cycle trail
closes p l t k P h e =
    let c : drop k l ≡ t ∷ drop (suc k) l = drop-cons l k 0 h ∙ ap (λ (x : ℕ). x ∷ drop (suc k) l) e in
    let d : distinct (t ∷ drop (suc k) l) ≡ true = subst (λ (m : List ℕ). distinct m ≡ true) c (distinct-drop k l P.once) in
    let f : trail p (t ∷ drop (suc k) l) t ≡ true = subst (λ (m : List ℕ). trail p m t ≡ true) c (trail-drop p k l t P.on) in
    subst (λ (m : List ℕ). is_cycle p m ≡ true) (sym c) (rw (d, f))

first : (p : Pointings) (x : ℕ) (l : List ℕ) (z : ℕ) → ((t u : ℕ) → p t u ≡ true → t < transactions) → leads p x l z ≡ true → x < transactions
unfolding leads
first p x [] z small e = small x z e
first p x (y ∷ l) z small e = small x y (and_left (p x y) _ e)

head : (x : ℕ) (l : List ℕ) → mem x (x ∷ l) ≡ true
unfolding mem
head x l = rw (same_refl x)

-- where nothing is left there is no cycle
pub none_left : (p : Pointings) (m : ℕ → Bool) → Core p m → ((t u : ℕ) → p t u ≡ true → t < transactions) → any transactions m ≡ false → (l : List ℕ) → is_cycle p l ≡ false
unfolding is_cycle mem
none_left p m C small e [] = refl
none_left p m C small e (x ∷ l) = go (is_cases (is_cycle p (x ∷ l)))
  where
    first_small : (l : List ℕ) → leads p x l x ≡ true → x < transactions
    first_small l q = first p x l x small q

    go : Is (is_cycle p (x ∷ l)) → is_cycle p (x ∷ l) ≡ false
    go (no' q) = q
    go (yes' q) = clash (C.holds (x ∷ l) q x (head x l)) (any_false transactions m x e (first_small l (and_right (distinct (x ∷ l)) _ q)))

-- where the walk stands
pub record Going (p : Pointings) (core : ℕ → Bool) (path : List ℕ) (seen n t : ℕ) : Type 0 where
  pub long : length path ≡ 24
  pub low : t < 24
  pub inside : core t ≡ true
  pub path_to : Path p (take n path) t
  pub saw : bits seen ≡ (λ u. mem u (take n path))
  pub counted : count 24 (bits seen) ≡ n

pub going_first : (p : Pointings) (core : ℕ → Bool) (path : List ℕ) (t : ℕ) → length path ≡ 24 → t < 24 → core t ≡ true → Going p core path 0 0 t
unfolding mem
going_first p core path t l h e = record { long = l; low = h; inside = e; path_to = path_none p t; saw = fun_ext (λ u. bits-zero u); counted = count_none 24 (bits 0) (λ u l. bits-zero u) }

module _ {p : Pointings} {core : ℕ → Bool} {path : List ℕ} {seen n t : ℕ} (g : Going p core path seen n t) where
  pub going_low : bits seen t ≡ false → n < 24
  going_low e = subst (λ (m : ℕ). m < 24) g.counted (count_room 24 (bits seen) t g.low e)

  pub going_more : (seen' t' : ℕ) → bits seen t ≡ false → bits seen' ≡ (λ k. bits seen k || same k t) → t' < 24 → core t' ≡ true → p t t' ≡ true → Going p core (set path n t) seen' (n + 1) t'
  going_more seen' t' e f h c q =
      let room : n < length path = omega (arith, g.long, going_low e) in
      let grown : take (n + 1) (set path n t) ≡ take n path ++ (t ∷ []) = ap (λ (m : ℕ). take m (set path n t)) (add-one n) ∙ take-suc-set path n t room in
      let new : mem t (take n path) ≡ false = ap (λ (s : ℕ → Bool). s t) (sym g.saw) ∙ e in
      record {
        long = length-set path n t ∙ g.long;
        low = h;
        inside = c;
        path_to = subst (λ (l : List ℕ). Path p l t') (sym grown) (path_more t' g.path_to new g.low q);
        saw = subst (λ (l : List ℕ). bits seen' ≡ (λ u. mem u l)) (sym grown) (seen_more (take n path) t seen seen' g.saw f);
        counted = ap (count 24) f ∙ count_more 24 (bits seen) t g.low e ∙ ap suc g.counted ∙ sym (add-one n);
      }

  pub going_done : bits seen t ≡ true → n ≤ 24 → PathReturns p path n t
  going_done e h = record { short = h; long = g.long; path_to = g.path_to; again = ap (λ (s : ℕ → Bool). s t) (sym g.saw) ∙ e }

  pub going_short : n ≤ 24
  going_short = subst (λ (m : ℕ). m ≤ 24) g.counted (count-le 24 (bits seen))

-- one of the core points to one of it
pub next_some : (l : List ℕ) (m t : ℕ) → Core (sets l) (bits m) → t < 24 → bits m t ≡ true → any 24 (bits (bit_and (get_or l t 0) m)) ≡ true
unfolding goes_on sets
next_some l m t C h e = ap (any 24) (fun_ext (λ u. bits-and (get_or l t 0) m u)) ∙ and_right (bits m t) _ (C.closed t h e)

pub next_is : (l : List ℕ) (m t u : ℕ) → bits (bit_and (get_or l t 0) m) u ≡ true → (sets l t u ≡ true) × (bits m u ≡ true)
unfolding sets
next_is l m t u e = let q = sym (bits-and (get_or l t 0) m u) ∙ e in (and_left (bits (get_or l t 0) u) _ q, and_right (bits (get_or l t 0) u) _ q)

-- it is not found yet
-- who is among the first n of a path stands first at one of these places
pub first_is : (path : List ℕ) (n t : ℕ) → mem t (take n path) ≡ true → n ≤ length path
    → (position_or_len (λ u. eqb u t) path < n) × (get_or path (position_or_len (λ u. eqb u t) path) 0 ≡ t)
unfolding same
first_is path n t m h =
    let p : ℕ → Bool = λ u. eqb u t in
    let s = stands t (take n path) m in
    let low : s.at < n = omega (arith, s.low, length-take n path) in
    let here : p (get_or path s.at 0) ≡ true = ap p (sym (get_or-take n path s.at 0 low) ∙ s.is_so) ∙ same_refl t in
    let first = position_or_len p path in
    let below : first < n = dite (dec_lt s.at first) (λ l. clash here (fails_before_first p path s.at 0 l)) (λ g. omega arith) in
    (below, same-eq (get_or path first 0) t (passes_at_first p path 0 (omega arith)))

-- what the walk found
pub found_cycle : (p : Pointings) (path ring : List ℕ) (n t k : ℕ) → PathReturns p path n t → k < n → get_or path k 0 ≡ t → ring ≡ drop k (take n path) ++ replicate (24 - (n - k)) 0 → Found p (n - k) ring
found_cycle p path ring n t k w h e q =
    let a : length (take n path) ≡ n = omega (arith, length-take n path, w.long, w.short) in
    let b : length (drop k (take n path)) ≡ n - k = length-drop k (take n path) ∙ ap (λ (m : ℕ). m - k) a in
    cyclic (drop k (take n path)) (closes p (take n path) t k w.path_to (omega arith) (get_or-take n path k 0 h ∙ e)) (omega (arith, w.short)) (omega (arith, w.short))
    (q ∙ ap (λ (m : ℕ). drop k (take n path) ++ replicate (24 - m) 0) (sym b))

pub some_left : (m : ℕ) → (m % 16777216 ≡ 0 → ⊥) → any 24 (bits m) ≡ true
some_left m n = any_low 24 m ∙ ap not (ne_false (m % 16777216) 0 n)

pub nothing_left : (m : ℕ) → m % 16777216 ≡ 0 → any 24 (bits m) ≡ false
nothing_left m e = any_low 24 m ∙ ap not (ap (λ (x : ℕ). same x 0) e ∙ same_refl 0)
