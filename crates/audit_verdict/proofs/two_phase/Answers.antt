-- Some word's kind is one of two-phase commit.
use Rattle.std.proofs.Common.{ℕ, Bool, false, refl, rules, tests}
use mathlib.Core.Path.{◌∙◌}
use mathlib.Core.Bool.{◌||◌}
use native.Mathlib.Omega.{arith}
use Rattle.std.specs.List.{range_with_len}
use Rattle.std.proofs.lemmas.Iterator.{YieldsList-from_range}
use Rattle.std.proofs.lemmas.Iterator.Consumers.{fold_from_yields_List}
use Rattle.rules.specs.Editions.{geometry1}
use Rattle.audit_rules.specs.Audit.{is_two_phase}
use Rattle.audit_verdict.proofs.Scanned.{word_of, met_any, some_scanned}
use Rattle.audit_verdict.proofs.two_phase.Goals as goal

pub returns : goal.returns
returns c =
    let events = c.args.events.now in
    let n = c.args.n in
    let test : ℕ → Bool = λ k. is_two_phase geometry1 (word_of events k) in
    let step : Bool → ℕ → Bool = λ met k. met || test k in
    fold_from_yields_List _ step false c.fold.result c.fold.ensures.ran (YieldsList-from_range 0 n n refl (omega arith)) (λ a x b q k. search (rules, tests))
    ∙ met_any test false (range_with_len 0 n) ∙ some_scanned events n 0
