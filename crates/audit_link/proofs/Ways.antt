-- Ways up the parents, one step at a time: with as many steps as the number of the transaction there are always enough.
use Rattle.std.specs.Prelude.{◌≢◌, Option, Some, None, IfSome}
use mathlib.Core.Path.{◌≡◌, refl, sym, ap, ◌∙◌}
use Rattle.std.specs.Option.{unwrap_or, is_some}
use Rattle.std.proofs.lemmas.Bool.{false≢true}
use mathlib.Core.Bool.{Bool, true, false, not, cond, ◌&&◌, ◌||◌}
use mathlib.Core.List.{List}
use Prim.Native.Nat.{ℕ, zero, suc, ◌-◌, ◌<◌, ◌≤◌}
use native.Mathlib.Omega.{arith}
use lib.ListN.{get_or}
use Rattle.laws.specs.Tests.{same, under, open_tests}
use Rattle.laws.proofs.Tests.{same_cases, Same, is, isnt, ne_false, same_refl}
use Rattle.history.specs.History.{History, climbs, is_within, is_committed, follows, stands_with, is_bearing, is_stored, survives, bearing, committed, stored, ended}
use Rattle.audit_rules.specs.Plain.{Ledger, rises, height, locks_with, grant_blocks}
use Rattle.audit_link.specs.Links.{one_of, fate_of, entry_at, fate_in, up_in, Earlier, Linked, shows_to}

module _ (parent : List ℕ) (E : Earlier parent) where
  abbrev P : ℕ → ℕ
  P = entry_at parent

  low : (i : ℕ) → P i ≤ i - 1
  unfolding entry_at
  low i = E i

  origin : P 0 ≡ 0
  origin = let k = low 0 in omega (arith, k)

  -- above none is none
  climbs-none : (n a : ℕ) → climbs P n a 0 ≡ same 0 a
  unfolding climbs
  climbs-none zero a = refl
  climbs-none (suc n) a = rw (origin, climbs-none n a) (or_same (same 0 a))
    where
      or_same : (b : Bool) → (b || b) ≡ b
      or_same true = refl
      or_same false = refl

  -- more steps than the number of the transaction change nothing
  climbs_enough : (n m a i : ℕ) → i ≤ n → i ≤ m → climbs P n a i ≡ climbs P m a i
  unfolding climbs
  climbs_enough zero m a i le lm = let q : i ≡ 0 = omega (arith, le) in rw q (sym (climbs-none m a))
  climbs_enough (suc n) zero a i le lm = let q : i ≡ 0 = omega (arith, lm) in rw (q, climbs-none (suc n) a)
  climbs_enough (suc n) (suc m) a i le lm = ap (λ z. same i a || z) (climbs_enough n m a (P i) (let k = low i in omega (arith, k, le)) (let k = low i in omega (arith, k, lm)))

  climb_step : (a i : ℕ) → 0 < i → climbs P i a i ≡ (same i a || climbs P (P i) a (P i))
  unfolding climbs
  climb_step a zero z = absurd (omega (arith, z))
  climb_step a (suc n) z = ap (λ b. same (suc n) a || b) (climbs_enough n (P (suc n)) a (P (suc n)) (let k = low (suc n) in omega (arith, k)) (omega arith))

  -- whether a is on the way from i
  abbrev Way : ℕ → ℕ → Bool
  Way a i = not (same a 0) && climbs P i a i

  pub way_next : (a i j : ℕ) → i ≢ a → 0 < j → j ≡ P i → Way a j ≡ Way a i
  way_next a i j ne z e = ap (λ b. not (same a 0) && b) (ap (λ k. climbs P k a k) e ∙ rw (climb_step a i (let k = low i in omega (arith, k, e, z)), ne_false i a ne) refl)

  pub way_top : (a i : ℕ) → i ≢ a → 0 ≡ P i → false ≡ Way a i
  way_top a i ne e = go (same_cases a 0) i ne e
    where
      go : Same a 0 → (i : ℕ) → i ≢ a → 0 ≡ P i → false ≡ Way a i
      go (is q s _) i ne e = rw s refl
      go (isnt q s _) zero ne e = rw (s, climbs-none 0 a, ne_false 0 a ne) refl
      go (isnt q s k) (suc n) ne e = rw (s, climb_step a (suc n) (omega arith), ne_false (suc n) a ne, ← e, climbs-none 0 a, k) refl

  pub way_met : (a : ℕ) → not (same a 0) ≡ Way a a
  unfolding climbs
  way_met zero = rw (same_refl 0) refl
  way_met (suc n) = rw (same_refl (suc n), ne_false (suc n) 0 (λ w. omega (arith, w))) refl

  -- the height, one step at a time
  height-none : (n : ℕ) → height P n 0 ≡ 0
  unfolding height open_tests
  height-none zero = refl
  height-none (suc n) = refl

  height_enough : (n m i : ℕ) → i ≤ n → i ≤ m → height P n i ≡ height P m i
  unfolding height
  height_enough zero m i le lm = let q : i ≡ 0 = omega (arith, le) in rw q (sym (height-none m))
  height_enough (suc n) zero i le lm = let q : i ≡ 0 = omega (arith, lm) in rw (q, height-none (suc n))
  height_enough (suc n) (suc m) i le lm = ap (λ k. cond (same i 0) 0 (suc k)) (height_enough n m (P i) (let k = low i in omega (arith, k, le)) (let k = low i in omega (arith, k, lm)))

  -- none has no height
  pub height_none : 0 ≡ height P 0 0
  height_none = sym (height-none 0)

  height_step : (i : ℕ) → 0 < i → height P i i ≡ suc (height P (P i) (P i))
  unfolding height
  height_step zero z = absurd (omega (arith, z))
  height_step (suc n) z = rw (ne_false (suc n) 0 (λ w. omega (arith, w))) (ap suc (height_enough n (P (suc n)) (P (suc n)) (let k = low (suc n) in omega (arith, k)) (omega arith)))

  pub height_next : (i j : ℕ) → 0 < i → j ≡ P i → height P i i ≡ suc (height P j j)
  height_next i j z e = rw e (height_step i z)

  pub height_top : (i : ℕ) → 0 < i → 0 ≡ P i → height P i i ≡ 1
  height_top i z e = height_step i z ∙ rw (← e, height-none 0) refl

  -- the way up, one step at a time
  module _ (T : ℕ → Bool) where
    rises-none : (n : ℕ) → rises P T n 0 ≡ 0
    unfolding rises
    rises-none zero = refl
    rises-none (suc n) = rw (origin, rises-none n) (alike (T 0))
      where
        alike : (b : Bool) → cond {A = ℕ} b 0 0 ≡ 0
        alike true = refl
        alike false = refl

    rises_enough : (n m i : ℕ) → i ≤ n → i ≤ m → rises P T n i ≡ rises P T m i
    unfolding rises
    rises_enough zero m i le lm = let q : i ≡ 0 = omega (arith, le) in rw q (sym (rises-none m))
    rises_enough (suc n) zero i le lm = let q : i ≡ 0 = omega (arith, lm) in rw q (rises-none (suc n))
    rises_enough (suc n) (suc m) i le lm = ap (λ k. cond (T i) k i) (rises_enough n m (P i) (let k = low i in omega (arith, k, le)) (let k = low i in omega (arith, k, lm)))

    rise_step : (i : ℕ) → T i ≡ true → rises P T (P i) (P i) ≡ rises P T i i
    unfolding rises
    rise_step zero e = rw origin refl
    rise_step (suc n) e = rw e (rises_enough (P (suc n)) n (P (suc n)) (omega arith) (let k = low (suc n) in omega (arith, k)))

    pub rise_next : (i j : ℕ) → T i ≡ true → j ≡ P i → rises P T j j ≡ rises P T i i
    rise_next i j e z = ap (λ k. rises P T k k) z ∙ rise_step i e

    pub rise_end : (i : ℕ) → T i ≡ true → 0 ≡ P i → 0 ≡ rises P T i i
    rise_end i e z = sym (rises-none 0) ∙ rise_next i 0 e z

-- a way that stops
pub rise_stop : (P : ℕ → ℕ) (T : ℕ → Bool) (n i : ℕ) → T i ≡ false → i ≡ rises P T n i
unfolding rises
rise_stop P T zero i e = refl
rise_stop P T (suc n) i e = rw e

at_two : same 2 2 ≡ is_committed (fate_of 2)
unfolding open_tests fate_of is_committed
at_two = refl

-- the fate of a child that committed
pub committed_is : (n : ℕ) → same n 2 ≡ is_committed (fate_of n)
unfolding fate_of is_committed
committed_is n = go (same_cases n 2)
  where
    by : (a b : Bool) → false ≡ is_committed (cond a (cond b stored ended) (bearing (n - 32)))
    by true true = refl
    by true false = refl
    by false b = refl

    go : Same n 2 → same n 2 ≡ is_committed (fate_of n)
    go (is q s _) = rw q at_two
    go (isnt q s _) = rw s (by (under n 32) (same n 3))

at_three : same 3 3 ≡ is_stored (fate_of 3)
unfolding open_tests fate_of is_stored
at_three = refl

pub stored_is : (n : ℕ) → same n 3 ≡ is_stored (fate_of n)
unfolding fate_of is_stored
stored_is n = go (same_cases n 3)
  where
    by : (a b : Bool) → false ≡ is_stored (cond a (cond b committed ended) (bearing (n - 32)))
    by true true = refl
    by true false = refl
    by false b = refl

    go : Same n 3 → same n 3 ≡ is_stored (fate_of n)
    go (is q s _) = rw q at_three
    go (isnt q s _) = rw s (by (under n 32) (same n 2))

pub bearing_is : (n : ℕ) → is_bearing (fate_of n) ≡ not (under n 32)
unfolding fate_of is_bearing
bearing_is n = go (under n 32) (same n 2) (same n 3)
  where
    go : (a b c : Bool) → is_bearing (cond a (cond b committed (cond c stored ended)) (bearing (n - 32))) ≡ not a
    go true true c = refl
    go true false true = refl
    go true false false = refl
    go false b c = refl

-- the history's own way up is such a way
follows_is : (h : History) (n i : ℕ) → follows h n i ≡ rises h.parent (λ k. is_committed (h.fate k)) n i
unfolding follows rises
follows_is h zero i = refl
follows_is h (suc n) i = ap (λ z. cond (is_committed (h.fate i)) z i) (follows_is h n (h.parent i))

module _ (l : Ledger) (parent fate : List ℕ) (K : Linked l parent fate) where
  -- where the locks of i stand, where its writes stand
  pub locks_are : (i : ℕ) → locks_with l i ≡ rises (entry_at parent) (up_in fate true) i i
  unfolding locks_with up_in
  locks_are i = rw (K.parents, K.passes)

  pub stands_are : (i : ℕ) → stands_with l.story i ≡ rises (entry_at parent) (up_in fate false) i i
  unfolding stands_with up_in
  stands_are i = follows_is l.story i i ∙ rw (K.parents, K.fates)

  pub way_is : (asker i j : ℕ) → j ≡ rises (entry_at parent) (up_in fate true) i i
      → grant_blocks l asker i ≡ (not (under (get_or fate j 0) 32) && not (cond (same j i) (same i asker) (not (same j 0) && climbs (entry_at parent) asker j asker)))
  unfolding grant_blocks is_within fate_in
  way_is asker i j e = rw (locks_are i, ← e, K.fates, K.parents, bearing_is (get_or fate j 0))

  pub shows_is : (reader i j : ℕ) → j ≡ rises (entry_at parent) (up_in fate false) i i
      → shows_to l reader i ≡ (same (get_or fate j 0) 3 || (not (same j 0) && climbs (entry_at parent) reader j reader))
  unfolding shows_to survives is_within fate_in
  shows_is reader i j e = rw (stands_are i, ← e, K.fates, K.parents, stored_is (get_or fate j 0))

-- one that is counted with the number of a place in the tables
pub some_small : (o : Option ℕ) → one_of o < 4097 → IfSome o (λ i. 0 < i) → IfSome o (λ i. (0 < i) × (i < 4097))
unfolding one_of
some_small None h s = tt
some_small (Some i) h s = (s, h)

pub one_small : (o : Option ℕ) → IfSome o (λ i. (0 < i) × (i < 4097)) → one_of o < 4097
unfolding one_of
one_small None h = omega arith
one_small (Some i) h = h.1

pub or_none : (o : Option ℕ) → unwrap_or o 0 ≡ one_of o
unfolding one_of
or_none None = refl
or_none (Some i) = refl

-- by whether there is one
pub some_is : (o : Option ℕ) → IfSome o (λ i. 0 < i) → is_some o ≡ true → one_of o ≢ 0
unfolding one_of
some_is None h e = absurd (false≢true e)
some_is (Some i) h e = λ z. omega (arith, h, z)

pub none_is : (o : Option ℕ) → is_some o ≡ false → one_of o ≡ 0
unfolding one_of
none_is None e = refl
none_is (Some i) e = absurd (false≢true (sym e))
