-- The first four bytes, and the next.
use mathlib.Core.Path.{sym, ap₂, ◌∙◌}
use native.Mathlib.Omega.{arith}
use Prim.Native.Nat.{ℕ, ◌+◌, ◌*◌}
use Rattle.leaf_event.proofs.Words.{eight_at}
use Rattle.leaf_event.proofs.edition2.Edition2.word_at.Goals as goal

pub returns : goal.returns
returns c =
    let a = c.args in
    ap₂ (λ (x y : ℕ). x * 4294967296 + y) (c.from-high.ensures ∙ c.word_at.ensures) (c.from-low.ensures ∙ c.word_at-2.ensures)
    ∙ sym (eight_at a.k a.events.now (omega arith))
