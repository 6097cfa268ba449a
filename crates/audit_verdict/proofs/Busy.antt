-- A prepared transaction has a map that isn't 0.
use mathlib.Core.Path.{◌≡◌, ap}
use mathlib.Core.Bool.{not}
use mathlib.Core.Option.{Option, none, some}
use Rattle.laws.specs.Tests.{same}
use Rattle.laws.proofs.Tests.{same_refl, ne_false}
use Rattle.rules.specs.Store.{Page, Prepared, read_prepared, identity_in}
use Rattle.rules.specs.Step.{is_busy}
use Rattle.rules.specs.Editions.{geometry1}
use Rattle.rules.proofs.PreparedPage.{prepared_is}
use Rattle.leaf_commit_page.specs.Heard.{overheard}

pub busy_is : (page : Page) (q : Option Prepared) → read_prepared geometry1 page ≡ q → not (same (overheard q).map 0) ≡ is_busy (identity_in q)
unfolding overheard is_busy identity_in
busy_is page none e = ap not (same_refl 0)
busy_is page (some p) e = ap not (ne_false p.map 0 (prepared_is geometry1 page p e).1.some_record)
