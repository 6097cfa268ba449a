-- The union of what both are.
use mathlib.Core.Path.{ap₂, ◌∙◌, fun_ext}
use mathlib.Core.Bool.{Bool, ◌||◌}
use Prim.Native.Nat.{ℕ}
use Rattle.laws.proofs.Bits.{bits-or}
use Rattle.wait_graph.proofs.blockers.Goals as goal

pub returns : goal.returns
returns c = fun_ext (λ b. bits-or c.without.result c.minus.result b ∙ ap₂ (λ (p q : ℕ → Bool). p b || q b) c.without.ensures c.minus.ensures)
