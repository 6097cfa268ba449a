-- The test of specs/SoundTrials decides soundness: of every state that has nothing beyond the numbers it looks at, hence of every sketch.
use mathlib.Core.Path.{◌≡◌, refl, sym, ap, ◌∙◌}
use mathlib.Core.Bool.{Bool, true, false, not, ◌&&◌, ◌||◌, false≢true}
use mathlib.Core.Logic.{◌⊎◌, inl, inr}
use mathlib.Core.Option.{Option, none, some}
use native.Mathlib.Omega.{arith}
use Prim.Native.Nat.{ℕ, zero, suc, ◌<◌, ◌≤◌}
use mathlib.Core.List.{List, [], ◌∷◌}
use lib.ListN.{get_or, length}
use Rattle.laws.specs.Tests.{same, under, open_tests}
use Rattle.laws.specs.Counting.{all}
use Rattle.laws.proofs.Booleans.{and_left, and_right, or_cases, or_left, or_right, not-true, clash}
use Rattle.laws.proofs.Tests.{Is, is_cases, yes', no', same-eq, same_refl, under-lt, lt-under}
use Rattle.laws.proofs.All.{all_same, all_at, all_true_lem}
use Rattle.rules.specs.Geometry.{nobody, open_geometry}
use Rattle.rules.specs.Store.{Page}
use Rattle.rules.specs.State.{Bearer, free, active, depth_in, line_of, mem, nothing, live, holds, retains, holds_writing, retains_writing, open_state}
use Rattle.rules.specs.Versions.{is_some, open_versions}
use Rattle.rules.specs.Sound.{in_line, is_calm, Sound}
use Rattle.rules.specs.Editions.{edition1}
use Rattle.trials.specs.SoundTrials.{Desk, everyone, everywhere, implied, is_parented, is_level, is_paged, numbered, parented, level, shallow, holder_live, retainer_live, on_one_line, beneath, one_holder, beneath_writing, by_lock, ranged, paged, idle, calm, reserved_clause, clauses, all_true, is_sound, Sketch, sketched}

-- an implication as a test
applies : (a b : Bool) → implied a b ≡ true → a ≡ true → b ≡ true
applies true b e h = e
applies false b e h = absurd (false≢true h)

implies : (a b : Bool) → (a ≡ true → b ≡ true) → implied a b ≡ true
implies true b h = h refl
implies false b h = refl

vacuous : (a b : Bool) → a ≡ false → implied a b ≡ true
vacuous a b e = rw e

-- a test of all
all_of : (n : ℕ) (p : ℕ → Bool) → ((k : ℕ) → p k ≡ true) → all n p ≡ true
all_of n p h = all_same n p (λ k. true) (λ k lt. h k) ∙ all_true_lem n

out_right : (a b : Bool) → b ≡ false → (a && b) ≡ false
out_right true b e = e
out_right false b e = refl

from_all : (n : ℕ) (p : ℕ → Bool) → all n p ≡ true → ((k : ℕ) → under k n ≡ false → p k ≡ true) → (k : ℕ) → p k ≡ true
from_all n p e out k = go (is_cases (under k n))
  where
    go : Is (under k n) → p k ≡ true
    go (yes' u) = all_at n p e k (under-lt k n u)
    go (no' u) = out k u

-- of all records with all transactions
from_everywhere : (p : ℕ → ℕ → Bool) → everywhere p ≡ true → ((r t : ℕ) → (under r 17 && under t 25) ≡ false → p r t ≡ true) → (r t : ℕ) → p r t ≡ true
from_everywhere p e out r t = go (is_cases (under r 17))
  where
    go : Is (under r 17) → p r t ≡ true
    go (yes' u) = from_all 25 (p r) (all_at 17 (λ q. everyone (p q)) e r (under-lt r 17 u)) (λ k v. out r k (out_right (under r 17) (under k 25) v)) t
    go (no' u) = out r t (rw u)

to_everywhere : (p : ℕ → ℕ → Bool) → ((r t : ℕ) → p r t ≡ true) → everywhere p ≡ true
to_everywhere p h = all_of 17 (λ q. everyone (p q)) (λ q. all_of 25 (p q) (h q))

-- nothing is beyond the numbers that are looked at
pub record Bounded (s : Desk) : Type 0 where
  pub seats : (t : ℕ) → under t 25 ≡ false → s.bearer t ≡ free
  pub held : (r t : ℕ) → (under r 17 && under t 25) ≡ false → s.held r t ≡ nothing
  pub retained : (r t : ℕ) → (under r 17 && under t 25) ≡ false → s.retained r t ≡ nothing
  pub version : (r t : ℕ) → (under r 17 && under t 25) ≡ false → s.version t r ≡ none

module _ {s : Desk} where
  -- what is beyond is nobody's
  module _ (B : Bounded s) where
    not_live : (t : ℕ) → under t 25 ≡ false → live s t ≡ false
    unfolding open_state
    not_live t u = rw (B.seats t u)

    no_holder : (r t : ℕ) → (under r 17 && under t 25) ≡ false → (holds s r t ≡ false) × (holds_writing s r t ≡ false)
    unfolding open_state
    no_holder r t u = (rw (B.held r t u), rw (B.held r t u))

    no_retainer : (r t : ℕ) → (under r 17 && under t 25) ≡ false → (retains s r t ≡ false) × (retains_writing s r t ≡ false)
    unfolding open_state
    no_retainer r t u = (rw (B.retained r t u), rw (B.retained r t u))

    no_version : (r t : ℕ) → (under r 17 && under t 25) ≡ false → is_some (s.version t r) ≡ false
    unfolding open_versions
    no_version r t u = rw (B.version r t u)

-- what the tests of two and of three say of each
module _ (a : ℕ → ℕ → Bool) (b : ℕ → ℕ → Bool) where
  two : ((r t : ℕ) → (under r 17 && under t 25) ≡ false → a r t ≡ false) → everywhere (λ r t. implied (a r t) (b r t)) ≡ true → (r t : ℕ) → a r t ≡ true → b r t ≡ true
  two out e r t h = applies (a r t) (b r t) (from_everywhere (λ q u. implied (a q u) (b q u)) e (λ q u v. vacuous (a q u) (b q u) (out q u v)) r t) h

  two⁻ : ((r t : ℕ) → a r t ≡ true → b r t ≡ true) → everywhere (λ r t. implied (a r t) (b r t)) ≡ true
  two⁻ h = to_everywhere (λ q u. implied (a q u) (b q u)) (λ q u. implies (a q u) (b q u) (h q u))

  module _ (c : ℕ → ℕ → ℕ → Bool) where
    abbrev inner : ℕ → ℕ → Bool
    inner r t = everyone (λ u. implied (b r u) (c r t u))

    three : ((r t : ℕ) → (under r 17 && under t 25) ≡ false → a r t ≡ false) → ((r t : ℕ) → (under r 17 && under t 25) ≡ false → b r t ≡ false)
        → everywhere (λ r t. implied (a r t) (inner r t)) ≡ true → (r t u : ℕ) → a r t ≡ true → b r u ≡ true → c r t u ≡ true
    three outer out e r t u h k =
        let f = from_everywhere (λ q v. implied (a q v) (inner q v)) e (λ q v w. vacuous (a q v) (inner q v) (outer q v w)) r t in
        let g = applies (a r t) (inner r t) f h in
        applies (b r u) (c r t u) (from_all 25 (λ v. implied (b r v) (c r t v)) g (λ v w. vacuous (b r v) (c r t v) (out r v (out_right (under r 17) (under v 25) w))) u) k

    three⁻ : ((r t u : ℕ) → a r t ≡ true → b r u ≡ true → c r t u ≡ true) → everywhere (λ r t. implied (a r t) (inner r t)) ≡ true
    three⁻ h = to_everywhere (λ q v. implied (a q v) (inner q v))
        (λ q v. implies (a q v) (inner q v) (λ e. all_of 25 (λ u. implied (b q u) (c q v u)) (λ u. implies (b q u) (c q v u) (h q v u e))))

clause : (l : List Bool) (k : ℕ) → all_true l ≡ true → get_or l k true ≡ true
unfolding all_true
clause [] k e = refl
clause (b ∷ bs) zero e = and_left b (all_true bs) e
clause (b ∷ bs) (suc k) e = clause bs k (and_right b (all_true bs) e)

record AllTrue (l : List Bool) : Type 0 where
  holds-all : all_true l ≡ true

infixr 4 ◌and◌
◌and◌ : {b : Bool} {bs : List Bool} → b ≡ true → AllTrue bs → AllTrue (b ∷ bs)
unfolding all_true
◌and◌ {b} {bs} h hs = record { holds-all = rw h hs.holds-all }

no_more : AllTrue []
unfolding all_true
no_more = record { holds-all = refl }

module _ (s : Desk) where
  -- SOUND IF THE TEST SAYS SO, clause by clause
  module _ (B : Bounded s) (e : is_sound s ≡ true) where
    numbered_of : (t : ℕ) → live s t ≡ true → t < 24
    unfolding numbered
    numbered_of t h =
        let f = from_all 25 (λ u. implied (live s u) (under u 24)) (clause (clauses s) 0 e) (λ u o. vacuous (live s u) (under u 24) (not_live B u o)) t in
        under-lt t 24 (applies (live s t) (under t 24) f h)

    parented_of : (t p d : ℕ) → s.bearer t ≡ active p d → (p ≡ nobody) ⊎ (live s p ≡ true)
    unfolding parented is_parented
    parented_of t p d q =
        let f = from_all 25 (λ u. is_parented s (s.bearer u)) (clause (clauses s) 1 e) (λ u o. ap (is_parented s) (B.seats u o)) t in
        or_cases (same p 31) (live s p) (ap (is_parented s) (sym q) ∙ f) (λ z. inl (same-eq p 31 z)) inr

    level_of : (t p d : ℕ) → s.bearer t ≡ active p d → d ≡ suc (depth_in (s.bearer p))
    unfolding level is_level
    level_of t p d q =
        let f = from_all 25 (λ u. is_level s (s.bearer u)) (clause (clauses s) 2 e) (λ u o. ap (is_level s) (B.seats u o)) t in
        same-eq d (suc (depth_in (s.bearer p))) (ap (is_level s) (sym q) ∙ f)

    shallow_of : (t : ℕ) → depth_in (s.bearer t) ≤ 16
    unfolding shallow open_state open_tests
    shallow_of t =
        let f = from_all 25 (λ u. under (depth_in (s.bearer u)) 17) (clause (clauses s) 3 e) (λ u o. ap (λ (b : Bearer). under (depth_in b) 17) (B.seats u o)) t in
        let h = under-lt (depth_in (s.bearer t)) 17 f in
        omega (arith, h)

    paged_of : (t r : ℕ) (p : Page) → s.version t r ≡ some p → length p ≡ 32
    unfolding paged is_paged
    paged_of t r p q =
        let f = from_everywhere (λ r t. is_paged (s.version t r)) (clause (clauses s) 12 e) (λ q u o. ap is_paged (B.version q u o)) r t in
        same-eq (length p) 32 (ap is_paged (sym q) ∙ f)

    idle_of : (t : ℕ) → s.up ≡ false → live s t ≡ false
    unfolding idle
    idle_of t d =
        let f = from_all 25 (λ u. s.up || not (live s u)) (clause (clauses s) 13 e) (λ u o. or_right s.up (not (live s u)) (rw (not_live B u o))) t in
        not-true (live s t) (or_cases s.up (not (live s t)) f (λ u. clash u d) (λ u. u))

    reserved_of : (r t : ℕ) → is_some (edition1.medium.pending s.store r) ≡ true → (holds s r t || retains s r t) ≡ false
    unfolding reserved_clause
    reserved_of r t h =
        let a : ℕ → Bool = λ q. is_some (edition1.medium.pending s.store q) in
        let f = from_everywhere (λ q u. not (a q) || not (holds s q u || retains s q u)) (clause (clauses s) 15 e)
        (λ q u o. or_right (not (a q)) (not (holds s q u || retains s q u)) (rw ((no_holder B q u o).0, (no_retainer B q u o).0))) r t in
        not-true (holds s r t || retains s r t) (applies (a r) (not (holds s r t || retains s r t)) f h)

    pub sound_if : Sound edition1 s
    unfolding holder_live retainer_live on_one_line beneath one_holder beneath_writing by_lock ranged calm open_geometry
    sound_if = record {
      numbered = numbered_of;
      parented = parented_of;
      level = level_of;
      shallow = shallow_of;
      holder_live = two (holds s) (λ r t. live s t) (λ r t o. (no_holder B r t o).0) (clause (clauses s) 4 e);
      retainer_live = two (retains s) (λ r t. live s t) (λ r t o. (no_retainer B r t o).0) (clause (clauses s) 5 e);
      on_one_line = three (retains_writing s) (retains s) (λ r t u. in_line s.bearer t u) (λ r t o. (no_retainer B r t o).1) (λ r t o. (no_retainer B r t o).0) (clause (clauses s) 6 e);
      beneath = three (holds s) (retains_writing s) (λ r t u. mem u (line_of s.bearer t)) (λ r t o. (no_holder B r t o).0) (λ r t o. (no_retainer B r t o).1) (clause (clauses s) 7 e);
      one_holder = λ r t u h k. same-eq t u (three (holds_writing s) (holds s) (λ r t u. same t u) (λ r t o. (no_holder B r t o).1) (λ r t o. (no_holder B r t o).0) (clause (clauses s) 8 e) r t u h k);
      beneath_writing = three (holds_writing s) (retains s) (λ r t u. mem u (line_of s.bearer t)) (λ r t o. (no_holder B r t o).1) (λ r t o. (no_retainer B r t o).0) (clause (clauses s) 9 e);
      by_lock = λ t r h. two (λ r t. is_some (s.version t r)) (λ r t. holds_writing s r t || retains_writing s r t) (no_version B) (clause (clauses s) 10 e) r t h;
      ranged = λ t r h. under-lt r 16 (two (λ r t. is_some (s.version t r)) (λ r t. under r 16) (no_version B) (clause (clauses s) 11 e) r t h);
      paged = paged_of;
      idle = idle_of;
      calm = applies s.up (is_calm edition1.medium s.store) (clause (clauses s) 14 e);
      reserved = reserved_of;
    }

  -- ONLY IF IT DOES
  module _ (S : Sound edition1 s) where
    is_parented_lem : (t : ℕ) (b : Bearer) → s.bearer t ≡ b → is_parented s b ≡ true
    unfolding is_parented
    is_parented_lem t free q = refl
    is_parented_lem t (active p d) q = go (S.parented t p d q)
      where
        go : (p ≡ nobody) ⊎ (live s p ≡ true) → (same p 31 || live s p) ≡ true
        go (inl z) = or_left (same p 31) (live s p) (rw z (same_refl 31))
        go (inr z) = or_right (same p 31) (live s p) z

    is_level_lem : (t : ℕ) (b : Bearer) → s.bearer t ≡ b → is_level s b ≡ true
    unfolding is_level
    is_level_lem t free q = refl
    is_level_lem t (active p d) q = ap (λ (n : ℕ). same n (suc (depth_in (s.bearer p)))) (S.level t p d q) ∙ same_refl (suc (depth_in (s.bearer p)))

    is_paged_lem : (t r : ℕ) (v : Option Page) → s.version t r ≡ v → is_paged v ≡ true
    unfolding is_paged
    is_paged_lem t r none q = refl
    is_paged_lem t r (some p) q = ap (λ (n : ℕ). same n 32) (S.paged t r p q) ∙ same_refl 32

    is_idle : (t : ℕ) → Is s.up → (s.up || not (live s t)) ≡ true
    is_idle t (yes' u) = or_left s.up (not (live s t)) u
    is_idle t (no' u) = or_right s.up (not (live s t)) (rw (S.idle t u))

    is_reserved_lem : (r t : ℕ) → (not (is_some (edition1.medium.pending s.store r)) || not (holds s r t || retains s r t)) ≡ true
    is_reserved_lem r t = implies (is_some (edition1.medium.pending s.store r)) (not (holds s r t || retains s r t)) (λ h. rw (S.reserved r t h))

    shallow_under : (t : ℕ) → under (depth_in (s.bearer t)) 17 ≡ true
    shallow_under t = let h = S.shallow t in lt-under (depth_in (s.bearer t)) 17 (omega (arith, h))

    every_clause : AllTrue (clauses s)
    unfolding numbered parented level shallow holder_live retainer_live on_one_line beneath one_holder beneath_writing by_lock ranged paged idle calm reserved_clause open_geometry
    every_clause =
        all_of 25 (λ t. implied (live s t) (under t 24)) (λ t. implies (live s t) (under t 24) (λ h. lt-under t 24 (S.numbered t h)))
        and all_of 25 (λ t. is_parented s (s.bearer t)) (λ t. is_parented_lem t (s.bearer t) refl)
        and all_of 25 (λ t. is_level s (s.bearer t)) (λ t. is_level_lem t (s.bearer t) refl)
        and all_of 25 (λ t. under (depth_in (s.bearer t)) 17) shallow_under
        and two⁻ (holds s) (λ r t. live s t) S.holder_live
        and two⁻ (retains s) (λ r t. live s t) S.retainer_live
        and three⁻ (retains_writing s) (retains s) (λ r t u. in_line s.bearer t u) S.on_one_line
        and three⁻ (holds s) (retains_writing s) (λ r t u. mem u (line_of s.bearer t)) S.beneath
        and three⁻ (holds_writing s) (holds s) (λ r t u. same t u) (λ r t u h k. rw (S.one_holder r t u h k) (same_refl u))
        and three⁻ (holds_writing s) (retains s) (λ r t u. mem u (line_of s.bearer t)) S.beneath_writing
        and two⁻ (λ r t. is_some (s.version t r)) (λ r t. holds_writing s r t || retains_writing s r t) (λ r t. S.by_lock t r)
        and two⁻ (λ r t. is_some (s.version t r)) (λ r t. under r 16) (λ r t h. lt-under r 16 (S.ranged t r h))
        and to_everywhere (λ r t. is_paged (s.version t r)) (λ r t. is_paged_lem t r (s.version t r) refl)
        and all_of 25 (λ t. s.up || not (live s t)) (λ t. is_idle t (is_cases s.up))
        and implies s.up (is_calm edition1.medium s.store) S.calm
        and to_everywhere (λ r t. not (is_some (edition1.medium.pending s.store r)) || not (holds s r t || retains s r t)) is_reserved_lem
        and no_more

    pub only_if : is_sound s ≡ true
    only_if = every_clause.holds-all

-- THE TEST DECIDES, of a sketch
sketch_bounded : (k : Sketch) → Bounded (sketched k)
sketch_bounded k = record { seats = λ t u. rw u; held = λ r t u. rw u; retained = λ r t u. rw u; version = λ r t u. rw u }

pub decides : (k : Sketch) → (is_sound (sketched k) ≡ true → Sound edition1 (sketched k)) × (is_sound (sketched k) ≡ false → Sound edition1 (sketched k) → ⊥)
decides k = (sound_if (sketched k) (sketch_bounded k), λ e S. clash (only_if (sketched k) S) e)
