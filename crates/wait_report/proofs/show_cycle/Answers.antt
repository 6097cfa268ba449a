-- Where there is no cycle its length is shown as 0.
use mathlib.Core.Path.{◌≡◌, refl, subst⁻¹, ◌∙◌}
use Prim.Native.Nat.{ℕ}
use Rattle.std.proofs.Common.{Option, Some, None}
use Rattle.std.specs.Option.{unwrap_or}
use Rattle.leaf_set.specs.Sets.{sets}
use Rattle.rules.specs.Waiting.{Found}
use Rattle.wait_cycle.specs.Search.{length_of}
use Rattle.wait_report.proofs.show_cycle.Goals as goal

length_is : (o : Option ℕ) → unwrap_or o 0 ≡ length_of o
unfolding length_of
length_is None = refl
length_is (Some n) = refl

pub returns : goal.returns
returns c =
    let e = c.unwrap_or-length.ensures ∙ length_is c.find.result in
    subst⁻¹ (λ (n : ℕ). Found (sets c.args.points.now) n c.find.new.ring) e c.find.ensures.found
