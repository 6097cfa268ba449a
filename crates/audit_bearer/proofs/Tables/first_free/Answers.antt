-- The first free number.
use Rattle.std.proofs.Common.{ℕ, Bool, nat_eq, refl, rules, tests}
use lib.ListN.{get_or}
use Rattle.std.proofs.lemmas.Iterator.{YieldsList-from_range}
use Rattle.std.proofs.lemmas.Iterator.Search.{position_from_yields_List}
use Rattle.laws.specs.Tests.{same}
use Rattle.audit_link.specs.Links.{entry_at}
use Rattle.audit_bearer.proofs.Places.{place_in_range}
use Rattle.audit_bearer.proofs.Tables.first_free.Goals as goal

pub returns : goal.returns
unfolding same entry_at
returns c =
    let free : ℕ → Bool = λ t. nat_eq (get_or c.args.self.now.bearer t 0) 0 in
    rw (position_from_yields_List free _ _ c.position.result c.position.ensures.ran (YieldsList-from_range 0 24 24 refl refl) (λ x b q k. search (rules, tests)))
    (place_in_range 24 free)
