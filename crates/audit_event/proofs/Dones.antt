-- What is answered: whole, or cut; a report by the byte of an event.
use mathlib.Core.Path.{◌≡◌, refl, sym}
use mathlib.Core.Bool.{Bool, true, false, not}
use Prim.Native.Nat.{ℕ, zero, suc, ◌<◌}
use native.Mathlib.Omega.{arith}
use Rattle.std.specs.Prelude.{Ok}
use Rattle.std.specs.Int.{from_bool}
use Rattle.laws.specs.Tests.{same, open_tests}
use Rattle.laws.proofs.Tests.{ne_false}
use Rattle.rules.specs.Event.{report_of}
use Rattle.rules.specs.Step.{done}
use Rattle.audit_page.specs.declared.Done.{Done}
use Rattle.audit_page.specs.declared.Done.TheVariants.{Whole, Cut}
use Rattle.audit_page.specs.Changed.{made_in, is_cut}
use Rattle.audit_event.specs.Step.{answered_as}

-- what is not cut is whole
pub whole_cut : (d : Done) → ((n : ℕ) → d ≡ Cut n → ⊥) → is_cut d ≡ false
unfolding is_cut
whole_cut (Whole n) h = refl
whole_cut (Cut n) h = absurd (h n refl)

pub whole_is : (d : Done) → ((n : ℕ) → d ≡ Cut n → ⊥) → answered_as (Ok d) ≡ done (made_in d)
unfolding answered_as made_in
whole_is (Whole n) h = refl
whole_is (Cut n) h = absurd (h n refl)

pub report_byte : (b : Bool) → report_of (from_bool b) ≡ b
unfolding report_of
report_byte true = refl
report_byte false = refl

pub report_small : (b : Bool) → from_bool b < 2
report_small true = omega arith
report_small false = omega arith

pub report_is : (v : ℕ) → report_of v ≡ not (same v 0)
unfolding report_of open_tests
report_is zero = refl
report_is (suc v) = sym (rw (ne_false (suc v) 0 (λ q. omega (arith, q))) refl)
