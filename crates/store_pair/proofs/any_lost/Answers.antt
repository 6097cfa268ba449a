-- The iterator's test of some pair is the rules'.
use Rattle.std.proofs.Common.{ℕ, Bool, refl, rules, tests}
use mathlib.Core.Path.{◌∙◌}
use native.Mathlib.Omega.{arith}
use Rattle.std.proofs.lemmas.Iterator.{YieldsList-from_range}
use Rattle.std.proofs.lemmas.Iterator.Search.{any_from_yields_List}
use Rattle.rules.specs.Pairs.{all_bad, pairs_of}
use Rattle.store_pair.proofs.Ranges.{any_range}
use Rattle.store_pair.proofs.any_lost.Goals as goal

pub returns : goal.returns
returns c =
    let n = c.args.n in
    let lost : ℕ → Bool = λ p. all_bad (pairs_of c.args.bytes.now p) in
    any_from_yields_List lost _ _ _ c.any.ensures.ran (YieldsList-from_range 0 n n refl (omega arith)) (λ x b q k. search (rules, tests)) ∙ any_range n lost
