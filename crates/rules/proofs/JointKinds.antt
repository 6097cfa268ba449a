-- The kinds of event from 9 on: they are unknown where nothing can be prepared, and a decide takes no offset above 1.
use mathlib.Core.Path.{◌≡◌, refl, subst}
use mathlib.Core.Bool.{Bool, true, false, ◌&&◌, ◌||◌}
use Prim.Native.Nat.{ℕ, zero, suc, ◌<◌}
use Rattle.laws.specs.Tests.{same, under}
use Rattle.laws.proofs.Tests.{under-lt}
use Rattle.laws.proofs.Booleans.{and_right}
use Rattle.rules.specs.Geometry.{Geometry}
use Rattle.rules.specs.Event.{Fields, row, no_kind, uses, uses_of, limit_of, offset_limits, offset_limit_of, well_formed}

pub plain_kinds : (g : Geometry) → g.joint ≡ false → (n : ℕ) → (uses_of g (suc (suc (suc (suc (suc (suc (suc (suc (suc n)))))))))).known ≡ false
unfolding uses_of uses row no_kind
plain_kinds g plain zero = plain
plain_kinds g plain (suc zero) = plain
plain_kinds g plain (suc (suc zero)) = plain
plain_kinds g plain (suc (suc (suc n))) = refl

-- what else is asked of the fields of an event
abbrev others : Geometry → Fields → Bool
others g x =
    let u = uses_of g x.kind in
    u.known &&
    (u.transaction || same x.transaction 0) &&
    (u.rec || same x.rec 0) &&
    (u.offset || same x.offset 0) &&
    (u.count || same x.count 0) &&
    (u.value || same x.value 0) &&
    same x.spare 0 &&
    under x.value (suc (limit_of g x.kind))

pub decide_offset : (g : Geometry) (x : Fields) → x.kind ≡ 10 → well_formed g x ≡ true → x.offset < 2
unfolding well_formed offset_limit_of offset_limits
decide_offset g x e h = under-lt x.offset 2 (subst (λ (k : ℕ). under x.offset (suc (offset_limit_of k)) ≡ true) e (and_right (others g x) (under x.offset (suc (offset_limit_of x.kind))) h))
