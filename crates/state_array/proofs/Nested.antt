-- Granting, discarding, passing and reporting keep write mode within any mode.
use mathlib.Core.Path.{◌≡◌}
use mathlib.Core.Bool.{Bool, true, false, not, ◌&&◌, ◌||◌}
use Prim.Native.Nat.{ℕ}
use Rattle.laws.specs.Tests.{same}
use Rattle.laws.proofs.Booleans.{or_cases, or_left, or_right, and_right}
use Rattle.rules.specs.Event.{Access}
use Rattle.state_array.specs.View.{Owners, any_mode, write_mode, Nested}
use Rattle.state_array.specs.Changes.{joined_for, less, leaving, replacing, inheriting, reporting}
use Rattle.state_array.proofs.Joined.{raises, joined-any, joined_write}

-- a test that implies another, beside one that both have
and_more : {b c : Bool} (a : Bool) → (b ≡ true → c ≡ true) → (a && b) ≡ true → (a && c) ≡ true
and_more true f e = f e
and_more false f e = e

or_more : {a b c d : Bool} → (a ≡ true → c ≡ true) → (b ≡ true → d ≡ true) → (a || b) ≡ true → (c || d) ≡ true
or_more {a} {b} {c} {d} f g e = or_cases a b e (λ h. or_left c d (f h)) (λ h. or_right c d (g h))

pub joined_nested : (a : Access) (t r : ℕ) (o : Owners) → Nested o → Nested (joined_for a t r o)
joined_nested a t r o n q j e =
    rw (joined-any a t r o q j) (or_more (n q j) (and_right (raises a) (same q r && same j t)) (rw (joined_write a t r o q j) at e))

pub leaving_nested : (gone : ℕ → Bool) (o : Owners) → Nested o → Nested (leaving gone o)
unfolding any_mode write_mode leaving less
leaving_nested gone o n r j e = and_more (not (gone j)) (n r j) e

pub inheriting_nested : (t p : ℕ) (held retained : Owners) → Nested held → Nested retained → Nested (inheriting t p held retained)
unfolding any_mode write_mode inheriting replacing
inheriting_nested t p held retained h m r j e =
    or_more (and_more (not (same j t)) (m r j)) (and_more (same j p) (or_more (h r t) (m r t))) e

pub reporting_nested : (told : Bool) (t p : ℕ) (held retained : Owners) → Nested held → Nested retained → Nested (reporting told t p held retained)
unfolding reporting
reporting_nested true t p held retained h m = inheriting_nested t p held retained h m
reporting_nested false t p held retained h m = m
