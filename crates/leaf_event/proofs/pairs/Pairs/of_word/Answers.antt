-- The law of words taken apart, with the numbers of pages that tear.
use mathlib.Core.Path.{◌≡◌, subst⁻¹}
use mathlib.Core.Bool.{true}
use native.Mathlib.Omega.{arith}
use Rattle.rules.specs.Event.{field, fields, decode}
use Rattle.rules.specs.Editions.{geometry_pairs}
use Rattle.rules.proofs.Editions.{proper_pairs}
use Rattle.leaf_event.specs.Flags.{flags_pairs}
use Rattle.leaf_event.specs.Meaning.{meaning, apart, InWord}
use Rattle.leaf_event.specs.declared.Event.{Event}
use Rattle.leaf_event.proofs.Words.{right_pairs, joined, told_apart}
use Rattle.leaf_event.proofs.pairs.Pairs.of_word.Goals as goal

pub returns : goal.returns
unfolding apart fields field
returns c =
    let a = c.args in
    subst⁻¹ (λ (e : Event). (decode geometry_pairs a.w ≡ meaning (joined true e)) × InWord geometry_pairs (joined true e)) c.apart-e.ensures.0
    (told_apart geometry_pairs flags_pairs right_pairs proper_pairs a.w a.table.now (omega arith) c.requires)
