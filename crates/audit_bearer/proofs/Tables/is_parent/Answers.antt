-- Some number's bearer is a child.
use Rattle.std.proofs.Common.{ℕ, Bool, not, ◌&&◌, refl, rules, tests}
use mathlib.Core.Path.{◌∙◌}
use Rattle.std.proofs.lemmas.Iterator.{YieldsList-from_range}
use Rattle.std.proofs.lemmas.Iterator.Search.{any_from_yields_List}
use Rattle.laws.specs.Tests.{same}
use Rattle.audit_link.specs.Links.{entry_at}
use Rattle.audit_scan.proofs.Ranges.{any_range}
use Rattle.audit_bearer.proofs.Tables.is_parent.Goals as goal

pub returns : goal.returns
returns c =
    let s = c.args.self.now in
    let child : ℕ → Bool = λ t. not (same (entry_at s.bearer t) 0) && same (entry_at s.links.parent (entry_at s.bearer t)) c.args.i in
    any_from_yields_List child _ _ c.any.result c.any.ensures.ran (YieldsList-from_range 0 24 24 refl refl) (λ x b q k. search (rules, tests)) ∙ any_range 24 child
