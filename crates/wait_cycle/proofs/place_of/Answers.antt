-- It stands somewhere among the first n: so it is found there.
use mathlib.Core.Path.{◌≡◌, subst⁻¹}
use mathlib.Core.Bool.{Bool}
use Prim.Native.Nat.{ℕ, ◌<◌}
use native.Mathlib.Omega.{arith}
use lib.Dec.{eqb}
use lib.ListN.{get_or, length}
use Rattle.std.specs.List.{position, position_or_len}
use Rattle.std.proofs.Common.{Some}
use Rattle.std.proofs.lemmas.Grind.{common_steps}
use Rattle.wait_cycle.proofs.Walking.{first_is}
use Rattle.wait_cycle.proofs.place_of.Goals as goal

pub returns : goal.returns
returns c =
    let a = c.args in
    let h = c.requires in
    let p : ℕ → Bool = λ u. eqb u a.t in
    let f = first_is a.path.now a.n a.t h.2 (omega arith) in
    let inside : position_or_len p a.path.now < length a.path.now = omega (arith, f.0) in
    let found : position p a.path.now ≡ Some (position_or_len p a.path.now) = grind (arith, common_steps) in
    let e : c.unwrap_or.result ≡ position_or_len p a.path.now = grind (arith, common_steps) in
    subst⁻¹ (λ (k : ℕ). (k < a.n) × (get_or a.path.now k 0 ≡ a.t)) e f
