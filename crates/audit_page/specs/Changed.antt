-- The page of a record that a transaction has changed, as the first n events tell it.
use Rattle.std.specs.Prelude.{ℕ, Bool, true, false, List}
use Rattle.rules.specs.Store.{Page}
use Rattle.rules.specs.Editions.{edition1}
use Rattle.history.specs.History.{overlaid}
use Rattle.history.specs.Demand3.{settled_in}
use Rattle.audit_rules.specs.Plain.{Ledger}
use Rattle.audit_link.specs.Links.{shows_to}
use Rattle.audit_scan.specs.Scans.{writes_up_to}
use Rattle.audit_page.specs.declared.Done.{Done}
use Rattle.audit_page.specs.declared.Done.TheVariants.{Whole, Cut}

-- how many page writes were made, and whether a crash came before all were
unfoldable pub made_in : Done → ℕ
made_in (Whole n) = n
made_in (Cut n) = n

unfoldable pub is_cut : Done → Bool
is_cut (Whole n) = false
is_cut (Cut n) = true

-- the start's settled value, with the writes over it that show to `me`
unfoldable pub changed_page : Ledger → List ℕ → List ℕ → List ℕ → ℕ → ℕ → ℕ → Page
changed_page l start owner events n me r = overlaid (shows_to l me) r (writes_up_to owner events n) (settled_in edition1 start r)
