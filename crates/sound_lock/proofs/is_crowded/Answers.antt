-- No member, or one: taking one away from the number leaves no bit in common.
use mathlib.Core.Path.{◌≡◌, sym, ap, ◌∙◌}
use mathlib.Core.Bool.{false, not, true≢false, not-not}
use Prim.Native.Nat.{ℕ}
use Rattle.laws.specs.Tests.{same}
use Rattle.laws.specs.Bits.{bits}
use Rattle.laws.proofs.Tests.{same-eq}
use Rattle.laws.proofs.Bits.{bits-zero}
use Rattle.sound_clause.proofs.Words.{one_bit}
use Rattle.sound_lock.proofs.is_crowded.Goals as goal

nought : (x : ℕ) → not (same x 0) ≡ false → x ≡ 0
nought x e = same-eq x 0 (sym (not-not (same x 0)) ∙ ap not e)

pub returns-then-s-eq0 : goal.returns-then-s-eq0
returns-then-s-eq0 c = λ e t u a b. absurd (true≢false (sym a ∙ ap (λ (s : ℕ). bits s t) c.if-s-eq0.true ∙ bits-zero t))

pub returns : goal.returns
unfolding same
returns c = λ e t u a b. one_bit c.args.s t u (nought _ e) a b
