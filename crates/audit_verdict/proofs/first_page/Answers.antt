-- The first page that differs.
use Rattle.std.proofs.Common.{ℕ, Bool, not, refl, rules, tests}
use Rattle.std.proofs.lemmas.Iterator.{YieldsList-from_range}
use Rattle.std.proofs.lemmas.Iterator.Search.{position_from_yields_List}
use Rattle.rules.specs.Editions.{edition1}
use Rattle.audit_rules.specs.Audit.{same_page}
use Rattle.audit_bearer.proofs.Places.{place_in_range}
use Rattle.audit_verdict.proofs.first_page.Goals as goal

pub returns : goal.returns
returns c =
    let differs : ℕ → Bool = λ p. not (same_page edition1 c.args.a.now c.args.b.now p) in
    rw (position_from_yields_List differs _ _ c.position.result c.position.ensures.ran (YieldsList-from_range 0 33 33 refl refl) (λ x b q k. search (rules, tests)))
    (place_in_range 33 differs)
