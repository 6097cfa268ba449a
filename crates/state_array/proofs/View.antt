-- Parents, depths and liveness as the arrays of numbers give them.
use mathlib.Core.Path.{◌≡◌, refl, ap}
use mathlib.Core.Bool.{Bool, true, false, not, cond, ◌&&◌, false≢true}
use mathlib.Core.List.{List}
use mathlib.Core.Logic.{dite}
use mathlib.Core.Option.{none, some}
use native.Mathlib.Decide.{dec_lt}
use Prim.Native.Nat.{ℕ, zero, suc, ◌<◌}
use native.Mathlib.Omega.{arith}
use lib.Dec.{eqb-suc-zero}
use lib.ListN.{length, get_or, get_or-eq_default}
use Rattle.laws.specs.Tests.{same}
use Rattle.rules.specs.Store.{Page}
use Rattle.rules.specs.State.{is_active, parent_in, depth_in}
use Rattle.rules.specs.Versions.{is_some}
use Rattle.leaf_set.specs.Sets.{sets}
use Rattle.state_array.specs.View.{bearer_at, bearers_of, versions_of}

depth_of : (p d : ℕ) → depth_in (bearer_at p d) ≡ d
unfolding bearer_at depth_in
depth_of p zero = refl
depth_of p (suc d) = refl

pub depth_is : (parent depth : List ℕ) (t : ℕ) → depth_in (bearers_of parent depth t) ≡ get_or depth t 0
unfolding bearers_of
depth_is parent depth t = depth_of (get_or parent t 0) (get_or depth t 0)

parent_of : (p d n : ℕ) → d ≡ suc n → parent_in (bearer_at p d) ≡ p
unfolding bearer_at parent_in
parent_of p zero n e = absurd (omega arith)
parent_of p (suc d) n e = refl

pub parent_is : (parent depth : List ℕ) (t n : ℕ) → get_or depth t 0 ≡ suc n → parent_in (bearers_of parent depth t) ≡ get_or parent t 0
unfolding bearers_of
parent_is parent depth t n e = parent_of (get_or parent t 0) (get_or depth t 0) n e

-- where a depth isn't 0 a number is below the array's end
pub deep_below : (l : List ℕ) (t n : ℕ) → get_or l t 0 ≡ suc n → length l ≡ 24 → t < 24
deep_below l t n e h =
    dite (dec_lt t 24) (λ lt. lt) (λ ge. let z : get_or l t 0 ≡ 0 = get_or-eq_default l 0 (omega arith) in absurd (omega arith))

active_of : (p d : ℕ) → 0 < d → is_active (bearer_at p d) ≡ true
unfolding bearer_at is_active
active_of p zero h = absurd (omega arith)
active_of p (suc d) h = refl

pub active_is : (parent depth : List ℕ) (t : ℕ) → 0 < get_or depth t 0 → is_active (bearers_of parent depth t) ≡ true
unfolding bearers_of
active_is parent depth t h = active_of (get_or parent t 0) (get_or depth t 0) h

idle_of : (p d : ℕ) → d ≡ 0 → is_active (bearer_at p d) ≡ false
unfolding bearer_at is_active
idle_of p zero e = refl
idle_of p (suc d) e = absurd (omega arith)

pub idle_is : (parent depth : List ℕ) (t : ℕ) → get_or depth t 0 ≡ 0 → is_active (bearers_of parent depth t) ≡ false
unfolding bearers_of
idle_is parent depth t e = idle_of (get_or parent t 0) (get_or depth t 0) e

deep_of : (p d : ℕ) → is_active (bearer_at p d) ≡ true → 0 < d
unfolding bearer_at is_active
deep_of p zero e = absurd (false≢true e)
deep_of p (suc d) e = omega arith

pub deep_is : (parent depth : List ℕ) (t : ℕ) → is_active (bearers_of parent depth t) ≡ true → 0 < get_or depth t 0
unfolding bearers_of
deep_is parent depth t e = deep_of (get_or parent t 0) (get_or depth t 0) e

free_of : (p d : ℕ) → same d 0 ≡ not (is_active (bearer_at p d))
unfolding bearer_at is_active same
free_of p zero = refl
free_of p (suc d) = eqb-suc-zero d

-- depth 0 tells a free number
pub free_is : (parent depth : List ℕ) (t : ℕ) → same (get_or depth t 0) 0 ≡ not (is_active (bearers_of parent depth t))
unfolding bearers_of
free_is parent depth t = free_of (get_or parent t 0) (get_or depth t 0)

child_of : (p d t : ℕ) → (not (same d 0) && same p t) ≡ (is_active (bearer_at p d) && same (parent_in (bearer_at p d)) t)
unfolding bearer_at is_active parent_in same
child_of p zero t = refl
child_of p (suc d) t = ap (λ (b : Bool). not b && same p t) (eqb-suc-zero d)

-- a live number under t
pub child_is : (parent depth : List ℕ) (t u : ℕ)
    → (not (same (get_or depth u 0) 0) && same (get_or parent u 0) t) ≡ (is_active (bearers_of parent depth u) && same (parent_in (bearers_of parent depth u)) t)
unfolding bearers_of
child_is parent depth t u = child_of (get_or parent u 0) (get_or depth u 0) t

is_there : (b : Bool) (p : Page) → is_some (cond b (some p) none) ≡ b
unfolding is_some
is_there true p = refl
is_there false p = refl

-- a version is there for a writer
pub some_is : (depth writers work : List ℕ) (j r : ℕ) → is_some (versions_of depth writers work j r) ≡ sets writers r j
unfolding versions_of
some_is depth writers work j r = is_there (sets writers r j) _
