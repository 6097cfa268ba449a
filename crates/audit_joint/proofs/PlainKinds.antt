-- The table of used fields differs at kinds 9 to 11 only.
use mathlib.Core.Path.{◌≡◌, refl}
use mathlib.Core.Bool.{false, ◌&&◌, true≢false}
use Prim.Native.Nat.{ℕ, zero, suc}
use Rattle.laws.specs.Tests.{under, open_tests}
use Rattle.rules.specs.Event.{row, no_kind, uses, uses_of}
use Rattle.rules.specs.Editions.{geometry1}
use Rattle.audit_joint.specs.Without.{geometry_without}

pub uses_same : (n : ℕ) → (under 8 n && under n 12) ≡ false → uses_of geometry_without n ≡ uses_of geometry1 n
unfolding uses_of uses row no_kind open_tests
uses_same zero e = refl
uses_same (suc zero) e = refl
uses_same (suc (suc zero)) e = refl
uses_same (suc (suc (suc zero))) e = refl
uses_same (suc (suc (suc (suc zero)))) e = refl
uses_same (suc (suc (suc (suc (suc zero))))) e = refl
uses_same (suc (suc (suc (suc (suc (suc zero)))))) e = refl
uses_same (suc (suc (suc (suc (suc (suc (suc zero))))))) e = refl
uses_same (suc (suc (suc (suc (suc (suc (suc (suc zero)))))))) e = refl
uses_same (suc (suc (suc (suc (suc (suc (suc (suc (suc zero))))))))) e = absurd (true≢false e)
uses_same (suc (suc (suc (suc (suc (suc (suc (suc (suc (suc zero)))))))))) e = absurd (true≢false e)
uses_same (suc (suc (suc (suc (suc (suc (suc (suc (suc (suc (suc zero))))))))))) e = absurd (true≢false e)
uses_same (suc (suc (suc (suc (suc (suc (suc (suc (suc (suc (suc (suc n)))))))))))) e = refl
