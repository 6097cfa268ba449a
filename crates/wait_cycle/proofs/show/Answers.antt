-- The part of the path, then zeros.
use mathlib.Core.Path.{◌≡◌, sym, ap, ap₂, ◌∙◌}
use mathlib.Core.List.{List, ◌++◌}
use Prim.Native.Nat.{ℕ, ◌+◌, ◌-◌}
use native.Mathlib.Omega.{arith}
use lib.ListN.{take, drop, replicate}
use Rattle.std.proofs.lemmas.Grind.{common_steps}
use Rattle.std.proofs.lemmas.List.{drop-take, drop-replicate}
use Rattle.wait_cycle.proofs.show.Goals as goal

pub returns : goal.returns
returns c =
    let a = c.args in
    let h = c.requires in
    let m = a.n - a.k in
    let copied : c.copy_from_slice.new.self ≡ take m (drop a.k a.path.now) = grind (arith, common_steps) in
    let zeros : c.fill.new.self ≡ replicate 24 0 = grind (arith, common_steps) in
    let whole : a.k + m ≡ a.n = omega arith in
    ap₂ (λ (x y : List ℕ). x ++ y)
    (copied ∙ sym (drop-take a.k m a.path.now) ∙ ap (λ (j : ℕ). drop a.k (take j a.path.now)) whole)
    (ap (drop m) zeros ∙ drop-replicate m 24 0)
