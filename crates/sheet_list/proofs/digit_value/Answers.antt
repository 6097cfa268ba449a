-- Two cases of a byte.
use native.Mathlib.Omega.{arith}
use Rattle.sheet_text.proofs.Turning.{value_low, value_high}
use Rattle.sheet_list.proofs.digit_value.Goals as goal

pub returns-then-b-le57 : goal.returns-then-b-le57
returns-then-b-le57 c = (value_low c.args.b (omega arith), omega arith)

pub returns-else-b-le57 : goal.returns-else-b-le57
returns-else-b-le57 c = (value_high c.args.b (λ h. omega arith), omega arith)
